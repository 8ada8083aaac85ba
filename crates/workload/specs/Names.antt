-- The names that are written.
use Rattle.std.specs.Prelude.{ℕ, ◌==◌, if◌then◌else◌, List, ◌++◌, codes, decimal}
use Rattle.workload.specs.declared.class.Class.{Class}
use Rattle.workload.specs.declared.class.Class.TheVariants.{OneMetre, FortyCentimetres}
use Rattle.workload.specs.declared.name.Name.{Name}
use Rattle.workload.specs.declared.name.Name.TheVariants as name

-- the name of a class, by the aperture of its telescopes
abbrev pub class_name : Class → List ℕ
class_name OneMetre = codes "1m0"
class_name FortyCentimetres = codes "0m4"

-- the instrument type that the telescopes of a class carry
abbrev pub instrument_name : Class → List ℕ
instrument_name OneMetre = codes "1M0-CAM"
instrument_name FortyCentimetres = codes "0M4-CAM"

-- the enclosure that the telescope of a class stands in, at each site
abbrev pub enclosure_name : Class → List ℕ
enclosure_name OneMetre = codes "doma"
enclosure_name FortyCentimetres = codes "clma"

-- the telescope of a class, at each site
abbrev pub telescope_name : Class → List ℕ
telescope_name OneMetre = codes "1m0a"
telescope_name FortyCentimetres = codes "0m4a"

-- the site of a number, which is counted from 0 to 2
abbrev pub site_name : ℕ → List ℕ
site_name site = if site == 0 then codes "coj" else (if site == 1 then codes "lsc" else codes "cpt")

-- the target of a number, which is counted from 0: T and the number in decimal
abbrev pub target_name : ℕ → List ℕ
target_name target = codes "T" ++ decimal target

-- the proposal of a number, which is counted from 0: P and the number in decimal
abbrev pub proposal_name : ℕ → List ℕ
proposal_name proposal = codes "P" ++ decimal proposal

-- the text of a name: of a class, of its instrument type, of its enclosure, of its telescope, or of a site
abbrev pub name_text : Name → List ℕ
name_text (name.Class class) = class_name class
name_text (name.Instrument class) = instrument_name class
name_text (name.Enclosure class) = enclosure_name class
name_text (name.Telescope class) = telescope_name class
name_text (name.Site site) = site_name site
