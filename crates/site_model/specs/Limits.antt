-- How many there may be, and what is answered where there are as many.
use Rattle.std.specs.Prelude.{ℕ, nat_le, Option, Some, None, if◌then◌else◌}
use Rattle.plan_base.specs.Limits.{most_telescopes, most_visibility}
use Rattle.site_model.specs.declared.fault.SiteFault.{SiteFault}
use Rattle.site_model.specs.declared.fault.SiteFault.TheVariants.{Full}
use Rattle.site_model.specs.declared.fault.FullOf.{FullOf}
use Rattle.site_model.specs.declared.fault.FullOf.TheVariants.{Instruments, Telescopes, Sites, Targets, Visibility, Closures}

-- the most that are registered
abbrev pub most_instruments : ℕ
most_instruments = 64

-- the most sites
abbrev pub most_sites : ℕ
most_sites = 16

-- the most targets
abbrev pub most_targets : ℕ
most_targets = 2048

-- the most pieces of one telescope's closures
abbrev pub most_closures : ℕ
most_closures = 512

-- the most spans in which a telescope is usable, by its night and its closures
abbrev pub most_usable : ℕ
most_usable = 1024

-- how many there may be of each
abbrev pub most_of : FullOf → ℕ
most_of Instruments = most_instruments
most_of Telescopes = most_telescopes
most_of Sites = most_sites
most_of Targets = most_targets
most_of Visibility = most_visibility
most_of Closures = most_closures

-- there are as many as there may be
abbrev pub full : FullOf → SiteFault
full what = Full (most_of what) what

-- the refusal of one more, where there are as many as there may be
abbrev pub full_of : FullOf → ℕ → Option SiteFault
full_of what count = if nat_le (most_of what) count then Some (full what) else None
