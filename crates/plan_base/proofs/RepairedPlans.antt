-- A repaired plan is feasible.
use Rattle.std.proofs.Common.{ℕ, inl, inr, List, [], ◌∷◌, ◌++◌, sym, subst}
use Rattle.std.specs.Prelude.{ℤ}
use Rattle.plan_base.specs.declared.parts.Parts.{Parts}
use Rattle.plan_base.specs.declared.claim.Placement.{Placement}
use Rattle.plan_base.specs.Snapshot.{IsOrderly}
use Rattle.plan_base.specs.Feasible.{IsFeasible}
use Rattle.plan_base.specs.Repaired.{AddsWholes, AddsEach, group_places, IsRepaired}
use Rattle.plan_base.proofs.Empty.{empty_feasible}
use Rattle.plan_base.proofs.Filled.{filled_feasible}

wholes_feasible : (s : Parts) (starts plan : List Placement) (gs : List ℕ) (after : List Placement) → IsFeasible s plan
    → AddsWholes s starts plan gs after → IsFeasible s after
wholes_feasible s starts plan [] after feasible is = subst (IsFeasible s) (sym is) feasible
wholes_feasible s starts plan (g ∷ gs) after feasible (inl (firsts, can, rest)) = wholes_feasible s starts (plan ++ firsts) gs after can.feasible rest
wholes_feasible s starts plan (g ∷ gs) after feasible (inr (cannot, rest)) = wholes_feasible s starts plan gs after feasible rest

each_feasible : (s : Parts) (plan ps after : List Placement) → IsFeasible s plan → AddsEach s plan ps after → IsFeasible s after
each_feasible s plan [] after feasible is = subst (IsFeasible s) (sym is) feasible
each_feasible s plan (p ∷ ps) after feasible (inl (can, rest)) = each_feasible s (plan ++ p ∷ []) ps after can rest
each_feasible s plan (p ∷ ps) after feasible (inr (cannot, rest)) = each_feasible s plan ps after feasible rest

pub repaired_feasible : (s : Parts) (prices : List ℤ) (plan : List Placement) → IsOrderly s → IsRepaired s prices plan → IsFeasible s plan
repaired_feasible s prices plan orderly (starts, canonical, x) =
    let wholes : IsFeasible s x.wholes = wholes_feasible s starts [] (group_places s) x.wholes (empty_feasible s) x.adds_wholes in
    let added : IsFeasible s x.added = each_feasible s x.wholes x.ordered x.added wholes x.adds_each in
    filled_feasible s orderly x.added plan x.filled.0 added x.filled.1
