-- What stands before and after insertions.
use Rattle.std.specs.Prelude.{List, []}
use Rattle.plan_base.specs.declared.parts.Parts.{Parts}
use Rattle.plan_base.specs.declared.claim.Claim.{Claim}
use Rattle.plan_base.specs.declared.number.RequestNo.{RequestNo}

-- a snapshot with a claim on it, and the requests that the last insertion displaced
pub record Standing : Type 0 where
  pub snapshot : Parts
  pub claim : Claim
  pub displaced : List RequestNo

-- the snapshot with the claim before anything was displaced
abbrev pub opening : Parts → Claim → Standing
opening s claim = record { snapshot = s; claim = claim; displaced = [] }
