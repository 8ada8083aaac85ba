-- What planned claims for one snapshot have in common.
use Rattle.std.specs.Prelude.{◌≡◌}
use Rattle.plan_base.specs.declared.claim.Claim.{Claim}
use Rattle.plan_base.specs.declared.claim.Settings.{Settings}
use Rattle.plan_base.specs.declared.parts.Parts.{Parts}
use Rattle.plan_base.specs.Planned.{IsPlanned}

-- as many lanes, of as many rounds
pub record HaveSameRounds (x y : Settings) : Type 0 where
  pub lanes : x.lanes ≡ y.lanes
  pub rounds : x.rounds ≡ y.rounds

-- bound and value are functions of the snapshot, the lanes and the rounds, whatever the number of workers
abbrev pub WorkersAgree : Type 0
WorkersAgree =
    (s : Parts) (x y : Settings) (a b : Claim) → HaveSameRounds x y → IsPlanned s x a → IsPlanned s y b
    → (a.bound ≡ b.bound) × (a.value ≡ b.value)
