use Rattle.std.proofs.Common.{inl, sym, ap, subst}
use Rattle.plan_base.specs.Feasible.{IsFeasible}
use Rattle.groups.specs.Building.{Building}
use Rattle.repair.proofs.Adding.{feasible_more}
use Rattle.repair.proofs.ranked.add_one.Goals as goal

pub returns-then-can_add-clause-feasible : goal.returns-then-can_add-clause-feasible
returns-then-can_add-clause-feasible c = subst (IsFeasible c.args.draft.now.snapshot) (sym (ap (λ (b : Building). b.placed) c.add.ensures))
    (feasible_more c.args.draft.now.snapshot c.args.draft.now.placed c.args.start c.requires.feasible
    (c.can_add.ensures.0 c.if-can_add.true) c.requires.outside)

pub returns-then-can_add-clause-adds : goal.returns-then-can_add-clause-adds
returns-then-can_add-clause-adds c =
    inl (
      feasible_more c.args.draft.now.snapshot c.args.draft.now.placed c.args.start c.requires.feasible
          (c.can_add.ensures.0 c.if-can_add.true) c.requires.outside,
      ap (λ (b : Building). b.placed) c.add.ensures,
    )
