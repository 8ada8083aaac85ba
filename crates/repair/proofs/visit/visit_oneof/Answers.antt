use Rattle.std.proofs.Common.{sym, ◌∙◌}
use Rattle.plan_base.specs.declared.parts.Op.TheVariants.{OneOf}
use Rattle.repair.proofs.Grouping.{alone_untouched, unplaced_all}
use Rattle.repair.proofs.Visiting.{visit_served, visit_untouched}
use Rattle.repair.proofs.visit.visit_oneof.Goals as goal

pub returns-then-not-has_none_placed-clause-visits : goal.returns-then-not-has_none_placed-clause-visits
returns-then-not-has_none_placed-clause-visits c = visit_served c.args.draft.now.snapshot c.args.draft.now.placed c.args.group OneOf c.requires.kind
    (λ e. cc) (λ e. cc) (λ none. let bad = sym c.if-not-has_none_placed.true ∙ c.has_none_placed.ensures.1 none in cc)

pub try_until_one-requires-clause-unplaced : goal.try_until_one-requires-clause-unplaced
try_until_one-requires-clause-unplaced c = unplaced_all c.args.draft.now.snapshot c.args.draft.now.placed c.args.group _
    (c.has_none_placed.ensures.0 c.if-not-has_none_placed.false) c.requires.order.members

pub try_until_one-requires-clause-alone : goal.try_until_one-requires-clause-alone
try_until_one-requires-clause-alone c = alone_untouched c.args.draft.now.snapshot c.args.draft.now.placed c.args.group _
    (c.has_none_placed.ensures.0 c.if-not-has_none_placed.false) c.requires.order.members

pub returns-clause-visits : goal.returns-clause-visits
returns-clause-visits c = visit_untouched c.args.draft.now.snapshot c.args.draft.now.placed c.try_until_one.new.draft.placed c.args.group _
    c.requires.kind (c.has_none_placed.ensures.0 c.if-not-has_none_placed.false) c.requires.order c.try_until_one.ensures.tries
