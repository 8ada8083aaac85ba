use Rattle.std.proofs.Common.{◌≡◌, ◌≤◌, ℕ, ℤ, pos, ◌≤ℤ◌, List, Result, Ok, Err, IfOk, sym, subst, arith}
use Rattle.std.proofs.lemmas.Int.{ints}
use Rattle.plan_base.specs.declared.parts.Parts.{Parts}
use Rattle.plan_base.specs.declared.claim.Placement.{Placement}
use Rattle.plan_base.specs.declared.claim.Claim.{Claim}
use Rattle.plan_base.specs.Starts.{value_of_plan}
use Rattle.group_trees.specs.declared.verdict.ForestVerdict.{ForestVerdict}
use Rattle.group_trees.specs.declared.verdict.ForestVerdict.TheVariants.{Yes}
use Rattle.group_trees.specs.Trees.{Node}
use Rattle.group_trees.specs.Plans.{IsForestFeasible}
use Rattle.group_trees.specs.Rebates.{IsForestBound}
use Rattle.group_trees.specs.Verdicts.{IsForestVerdict}
use Rattle.group_trees.specs.Built.{snapshot_of, trees_of}
use Rattle.group_trees.proofs.check.check_forest.Goals as goal

-- no feasible plan is worth more than the bound that prices give
abbrev IsDual : Parts → List Node → List ℤ → Type 0
IsDual s trees prices = (plan : List Placement) (b : ℤ) → IsForestFeasible s trees plan → IsForestBound s trees prices b → pos (value_of_plan s plan) ≤ℤ b

bound_of_yes : (s : Parts) (trees : List Node) (claim : Claim) (verdict : ForestVerdict) (value bound : ℕ) → IsDual s trees claim.prices.0
    → IsForestVerdict s trees claim verdict → verdict ≡ Yes value bound → (plan : List Placement) → IsForestFeasible s trees plan
    → value_of_plan s plan ≤ bound
bound_of_yes s trees claim verdict value bound dual h e plan f =
    let yes : IsForestVerdict s trees claim (Yes value bound) = subst (IsForestVerdict s trees claim) e h in
    let most : pos (value_of_plan s plan) ≤ℤ pos claim.bound = dual plan (pos claim.bound) f yes.0.bound in
    let same : bound ≡ claim.bound = yes.2 in
    omega (arith, ints)

bounds : {E : Type 0} (s t : Parts) (trees : List Node) (claim : Claim) (result : Result ForestVerdict E) → s ≡ t → IsDual s trees claim.prices.0
    → IfOk result (IsForestVerdict s trees claim)
    → IfOk result (λ verdict. (value bound : ℕ) → verdict ≡ Yes value bound → (plan : List Placement) → IsForestFeasible t trees plan
    → value_of_plan t plan ≤ bound)
bounds s t trees claim (Ok verdict) e dual h = λ value bound is plan f.
    subst (λ (p : Parts). value_of_plan p plan ≤ bound) e
    (bound_of_yes s trees claim verdict value bound dual h is plan (subst (λ (p : Parts). IsForestFeasible p trees plan) (sym e) f))
bounds s t trees claim (Err x) e dual h = tt

pub returns-clause-bound : goal.returns-clause-bound
returns-clause-bound c = bounds (snapshot_of c.args.forest.now) c.args.snapshot.now
    (trees_of c.args.forest.now) c.args.claim.now c.judge.result c.requires c.forest_duality.ensures c.judge.ensures
