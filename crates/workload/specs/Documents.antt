-- The documents of the lines: the members of each object, in any order, since `object_of` puts them in byte order.
use Rattle.std.specs.Prelude.{ℕ, ◌+◌, ◌*◌, ◌%◌, List, [], ◌∷◌, codes}
use Rattle.serde_json.specs.Data.{Data, string}
use Rattle.plan_base.specs.declared.parts.Op.{Op}
use Rattle.plan_base.specs.declared.span.Span.{Span}
use Rattle.plan_json.specs.declared.member.Member.TheVariants as member
use Rattle.plan_json.specs.Operator.{operator_name}
use Rattle.plan_json.specs.Values.{whole, list_of, Named, given, object_of}
use Rattle.workload.specs.declared.class.Class.{Class}
use Rattle.workload.specs.declared.request.Request.{Request}
use Rattle.workload.specs.declared.subject.Subject.{Subject}
use Rattle.workload.specs.declared.subject.Subject.TheVariants.{Open, Instrument, Telescope, Night, Visibility, Grant, Submit, Plan}
use Rattle.workload.specs.Generator.{number_after, draw}
use Rattle.workload.specs.Names.{class_name, instrument_name, enclosure_name, telescope_name, site_name, target_name, proposal_name}
use Rattle.workload.specs.Subjects.{shape_of}
use Rattle.workload.specs.Requests.{requests_from}

-- ---- requests and groups

-- one exposure of so many milliseconds
abbrev pub exposure_data : ℕ → Data
exposure_data ms = object_of (given member.ExposureTimeMs (whole ms) ∷ given member.ExposureCount (whole 1) ∷ [])

-- one exposure of so many milliseconds of a target, with the instrument type of a class
abbrev pub configuration_data : Class → ℕ → ℕ → Data
configuration_data class target ms =
    object_of
    (given member.InstrumentType (string (instrument_name class))
    ∷ given member.Target (object_of (given member.Name (string (target_name target)) ∷ []))
    ∷ given member.InstrumentConfigs (list_of exposure_data (ms ∷ []))
    ∷ [])

-- a window by its first second and the one after its last
abbrev pub window_data : ℕ → ℕ → Data
window_data start end = object_of (given member.Start (whole start) ∷ given member.End (whole end) ∷ [])

-- any telescope of a class, at any site
abbrev pub location_data : Class → Data
location_data class = object_of (given member.TelescopeClass (string (class_name class)) ∷ [])

-- a request with one window and one configuration, and neither a threshold nor a fade
abbrev pub request_data : Request → Data
request_data r =
    object_of
    (given member.Location (location_data r.class)
    ∷ given member.Windows (list_of (λ start. window_data start r.end) (r.start ∷ []))
    ∷ given member.Configurations (list_of (configuration_data r.class r.target) (r.exposure_ms ∷ []))
    ∷ [])

-- a group of this number, with this kind, priority and requests
abbrev pub group_data : ℕ → Op → ℕ → List Request → Data
group_data group op priority requests =
    object_of
    (given member.Name (string (codes "g"))
    ∷ given member.Proposal (string (proposal_name (group % 4)))
    ∷ given member.Operator (string (operator_name op))
    ∷ given member.ObservationType (string (codes "NORMAL"))
    ∷ given member.Priority (whole priority)
    ∷ given member.Requests (list_of request_data requests)
    ∷ [])

-- ---- the lines

-- `[from,to]`
abbrev pub span_data : Span → Data
span_data span = list_of whole (span.from.0 ∷ span.to.0 ∷ [])

-- what a line asks for, and its other members
abbrev pub asking : List ℕ → List Named → Data
asking word members = object_of (given member.Do (string word) ∷ members)

-- Each of these unfolds only where it is asked, so that proofs about one line don't see the others.

-- `open`, at second 0: 144 slices of 300 seconds, a semester of 180 days, 4 lanes of 32 rounds, so many workers, and no quota
unfoldable pub open_data : ℕ → Data
open_data workers =
    asking (codes "open")
    (given member.Now (whole 0)
    ∷ given member.Slice (whole 300)
    ∷ given member.Horizon (whole 144)
    ∷ given member.Semester (list_of whole (0 ∷ 15552000 ∷ []))
    ∷ given member.Lanes (whole 4)
    ∷ given member.Rounds (whole 32)
    ∷ given member.Workers (whole workers)
    ∷ [])

-- `instrument`, that of a class: 90 seconds at the front, 16 a configuration, 28 a readout, 2 a change
unfoldable pub instrument_data : Class → Data
instrument_data class =
    asking (codes "instrument")
    (given member.TypeName (string (instrument_name class))
    ∷ given member.FrontMs (whole 90000)
    ∷ given member.ConfigMs (whole 16000)
    ∷ given member.ReadoutMs (whole 28000)
    ∷ given member.ChangeMs (whole 2000)
    ∷ [])

-- `telescope`, the one of a class at a site, which carries the instrument type of its class
unfoldable pub telescope_data : ℕ → Class → Data
telescope_data site class =
    asking (codes "telescope")
    (given member.Site (string (site_name site))
    ∷ given member.Enclosure (string (enclosure_name class))
    ∷ given member.Telescope (string (telescope_name class))
    ∷ given member.Class (string (class_name class))
    ∷ given member.Instruments (list_of string (instrument_name class ∷ []))
    ∷ [])

-- the night of a site
abbrev pub night_of : ℕ → Span
night_of site = record { from = record { 0 = 3600 * site }; to = record { 0 = 3600 * site + 28800 } }

-- `night`, at a site, of one span
unfoldable pub night_line : ℕ → Span → Data
night_line site night =
    asking (codes "night")
    (given member.Site (string (site_name site))
    ∷ given member.Spans (list_of span_data (night ∷ []))
    ∷ [])

-- `night`, at a site, of the 8 hours that begin with the hour of its number
abbrev pub night_data : ℕ → Data
night_data site = night_line site (night_of site)

-- the span of the two draws from x on: its start and its length
abbrev pub sky_from : ℕ → Span
sky_from x = let from = 300 * draw x 0 96 in record { from = record { 0 = from }; to = record { 0 = from + 10800 + 300 * draw x 1 24 } }

-- `visibility`, of a target at a site, of one span
unfoldable pub sky_line : ℕ → ℕ → Span → Data
sky_line target site sky =
    asking (codes "visibility")
    (given member.Target (string (target_name target))
    ∷ given member.Site (string (site_name site))
    ∷ given member.Spans (list_of span_data (sky ∷ []))
    ∷ [])

-- `visibility`, of a target at a site, of the span that is drawn from x on
abbrev pub visibility_data : ℕ → ℕ → ℕ → Data
visibility_data target site x = sky_line target site (sky_from x)

-- `grant`, a million seconds on the standard account of a proposal for the instrument type of a class
unfoldable pub grant_data : ℕ → Class → Data
grant_data proposal class =
    asking (codes "grant")
    (given member.Proposal (string (proposal_name proposal))
    ∷ given member.Account (string (codes "standard"))
    ∷ given member.InstrumentType (string (instrument_name class))
    ∷ given member.Seconds (whole 1000000)
    ∷ [])

-- `submit`, of a group of this number, with this kind, priority and requests
unfoldable pub group_line : ℕ → Op → ℕ → List Request → Data
group_line group op priority requests = asking (codes "submit") (given member.Group (group_data group op priority requests) ∷ [])

-- one draw is for the priority, and then come those of the requests
abbrev pub submit_data : ℕ → ℕ → Data
submit_data group x =
    let shape = shape_of group in
    group_line group shape.0 (1 + draw x 0 30) (requests_from (number_after x 1) shape.1)

-- `plan`, which has no further member
unfoldable pub plan_data : Data
plan_data = asking (codes "plan") []

-- the document of a line about this, where the generator has the number x before it
abbrev pub document : ℕ → ℕ → Subject → Data
document workers x Open = open_data workers
document workers x (Instrument class) = instrument_data class
document workers x (Telescope site class) = telescope_data site class
document workers x (Night site) = night_data site
document workers x (Visibility target site) = visibility_data target site x
document workers x (Grant proposal class) = grant_data proposal class
document workers x (Submit group) = submit_data group x
document workers x Plan = plan_data
