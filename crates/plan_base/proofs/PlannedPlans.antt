-- The placements of a planned claim are saturated.
use Rattle.std.proofs.Common.{inl, inr, []}
use Rattle.plan_base.specs.declared.parts.Parts.{Parts}
use Rattle.plan_base.specs.declared.claim.Claim.{Claim}
use Rattle.plan_base.specs.declared.claim.Settings.{Settings}
use Rattle.plan_base.specs.Snapshot.{IsOrderly}
use Rattle.plan_base.specs.Saturated.{IsSaturated}
use Rattle.plan_base.specs.Planned.{IsPlanShown}
use Rattle.plan_base.proofs.Filled.{filled_saturated}
use Rattle.plan_base.proofs.Permuted.{saturated_permuted}

pub shown_saturated : (s : Parts) (settings : Settings) (claim : Claim) → IsOrderly s → IsPlanShown s settings claim → IsSaturated s claim.placements
shown_saturated s settings claim orderly (greedy, filled, inl (worth, listing)) =
    saturated_permuted s greedy claim.placements listing.same (filled_saturated s orderly [] greedy filled.0 filled.1)
shown_saturated s settings claim orderly (greedy, filled, inr (less, shown)) =
    let (starts, canonical, repaired) = shown.gives.repaired in
    saturated_permuted s shown.plan claim.placements shown.listing.same
    (filled_saturated s orderly repaired.added shown.plan repaired.filled.0 repaired.filled.1)
