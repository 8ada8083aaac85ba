use Rattle.std.proofs.Common.{◌∙◌, sym, ap, subst}
use Rattle.plan_base.specs.Snapshot.{IsOrderly}
use Rattle.plan_base.specs.FeasibleSoFar.{IsFeasibleSoFar}
use Rattle.groups.specs.Building.{Building}
use Rattle.repair.proofs.Drafting.{few_placed}
use Rattle.repair.proofs.draft.Draft.recall.Goals as goal

pub returns-clause-few : goal.returns-clause-few
returns-clause-few c =
    few_placed c.args.self.now.snapshot c.args.self.now.placed
    (subst IsOrderly (sym c.self.invariant.snapshot ∙ ap (λ (b : Building). b.snapshot) c.self.view_is) c.recall_valid.ensures.orderly)
    (subst (λ (b : Building). IsFeasibleSoFar b.snapshot b.placed) c.self.view_is c.placed.ensures.so_far)
