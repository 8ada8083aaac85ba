use Rattle.std.proofs.Common.{refl, sym, ◌∙◌}
use Rattle.repair.proofs.Trying.{none_free, earliest_free, none_free_within}
use Rattle.repair.proofs.visit.place.Goals as goal

pub returns-in_default-clause-placed : goal.returns-in_default-clause-placed
returns-in_default-clause-placed c = (none_free c.args.draft.now.snapshot c.args.draft.now.placed c.args.entry.now.request.0 c.in_default.ensures, refl)

pub returns-then-not-can_add-clause-placed : goal.returns-then-not-can_add-clause-placed
returns-then-not-can_add-clause-placed c = (
  none_free_within c.args.draft.now.snapshot c.args.draft.now.placed c.args.entry.now.request.0 c.in-Some.start c.recall.ensures.so_far
      c.in-Some.ensures c.requires.unplaced c.requires.alone
      (λ after. let bad = sym c.if-not-can_add.true ∙ c.can_add.ensures.1 after in cc),
  refl,
)

pub returns-clause-placed : goal.returns-clause-placed
returns-clause-placed c = (
  c.in-Some.start,
  earliest_free c.args.draft.now.snapshot c.args.draft.now.placed c.args.entry.now.request.0 c.in-Some.start c.recall.ensures.orderly
      c.in-Some.ensures (c.can_add.ensures.0 c.if-not-can_add.false),
  cc,
)
