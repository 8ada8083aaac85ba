-- Room for the parts of a bound.
use Rattle.std.specs.Prelude.{◌≡◌, length}
use Rattle.plan_base.specs.declared.parts.Parts.{Parts}
use Rattle.plan_base.specs.Requests.{listed}
use Rattle.lanes.specs.declared.bound_parts.BoundParts.{BoundParts}

-- a net price for each request, and a number for each telescope, group and quota
pub record IsRoomFor (s : Parts) (x : BoundParts) : Type 0 where
  pub net : length x.net.0 ≡ length (listed s)
  pub bests : length x.bests.items ≡ length s.telescopes
  pub rebates : length x.rebates.items ≡ length s.groups
  pub quotas : length x.quotas.items ≡ length s.quotas
