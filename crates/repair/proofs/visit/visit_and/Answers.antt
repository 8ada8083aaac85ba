use Rattle.std.proofs.Common.{sym, ◌∙◌}
use Rattle.plan_base.specs.declared.parts.Op.TheVariants.{And}
use Rattle.repair.proofs.Grouping.{outside_all, unplaced_all, once_members, some_entries, of_members}
use Rattle.repair.proofs.Visiting.{visit_served, visit_absent}
use Rattle.repair.proofs.visit.visit_and.Goals as goal

pub returns-then-not-has_none_placed-clause-visits : goal.returns-then-not-has_none_placed-clause-visits
returns-then-not-has_none_placed-clause-visits c = visit_served c.args.draft.now.snapshot c.args.draft.now.placed c.args.group And c.requires.kind
    (λ e. cc) (λ e. cc) (λ none. let bad = sym c.if-not-has_none_placed.true ∙ c.has_none_placed.ensures.1 none in cc)

pub take_all-requires-clause-some : goal.take_all-requires-clause-some
take_all-requires-clause-some c =
    some_entries c.args.draft.now.snapshot c.args.group c.args.entries.now c.recall.ensures.orderly c.requires.group c.requires.order

pub take_all-requires-clause-once : goal.take_all-requires-clause-once
take_all-requires-clause-once c = once_members c.args.draft.now.snapshot c.args.group _ c.recall.ensures.orderly c.requires.order

pub take_all-requires-clause-unplaced : goal.take_all-requires-clause-unplaced
take_all-requires-clause-unplaced c =
    unplaced_all c.args.draft.now.snapshot c.args.draft.now.placed c.args.group _ (c.has_none_placed.ensures.0 c.if-not-has_none_placed.false)
    (of_members c.args.draft.now.snapshot c.args.group _ c.recall.ensures.orderly c.requires.order)

pub take_all-requires-clause-alone : goal.take_all-requires-clause-alone
take_all-requires-clause-alone c = outside_all c.args.draft.now.snapshot c.args.group And _ c.recall.ensures.orderly c.requires.kind (λ e. cc) c.requires.order

pub returns-clause-visits : goal.returns-clause-visits
returns-clause-visits c = visit_absent c.args.draft.now.snapshot c.args.draft.now.placed c.take_all.new.draft.placed c.args.group _ c.requires.kind
    (c.has_none_placed.ensures.0 c.if-not-has_none_placed.false) c.requires.order c.take_all.ensures.takes
