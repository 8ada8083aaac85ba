use Rattle.std.proofs.Common.{◌+◌, take, sym, ◌∙◌, subst}
use Rattle.std.proofs.lemmas.Bool.{false≢true}
use Rattle.explain.specs.Left.{AreKept, Blocks}
use Rattle.explain.proofs.Blocks.{kept_next, kept_past, kept_all}
use Rattle.explain.proofs.blocking.blocking_of.Goals as goal
use Rattle.explain.proofs.blocking.blocking_of.Goals.{then-blocks+in_ok-push, else-blocks}

pub blocks-requires-clause-placement : goal.blocks-requires-clause-placement
blocks-requires-clause-placement c = c.requires.plan c.loop-placement.placement-index _ c.loop-placement-test.true

pub loop-placement-preserved : goal.loop-placement-preserved
loop-placement-preserved c = elim c.if-blocks.branch [
  | then-blocks+in_ok-push w ↦
      subst (λ v. AreKept (Blocks c.args.snapshot.now c.args.openings.now.request.0)
      (take (c.loop-placement.placement-index + 1) c.args.plan.now) v.items) (sym w.placements-is)
      (subst (AreKept (Blocks c.args.snapshot.now c.args.openings.now.request.0) (take (c.loop-placement.placement-index + 1) c.args.plan.now))
      (sym w.in_ok-push.ensures.items)
      (kept_next (Blocks c.args.snapshot.now c.args.openings.now.request.0) c.args.plan.now c.loop-placement.placements.items
      c.loop-placement.placement-index _ c.loop-placement-test.true c.loop-placement.invariant
      (c.blocks-in-loop-placement.ensures.0 w.if-blocks.true)))
  | else-blocks w ↦
      subst (λ v. AreKept (Blocks c.args.snapshot.now c.args.openings.now.request.0)
      (take (c.loop-placement.placement-index + 1) c.args.plan.now) v.items) (sym w.placements-is)
      (kept_past (Blocks c.args.snapshot.now c.args.openings.now.request.0) c.args.plan.now c.loop-placement.placements.items
      c.loop-placement.placement-index _ c.loop-placement-test.true c.loop-placement.invariant
      (λ does. false≢true (sym w.if-blocks.false ∙ c.blocks-in-loop-placement.ensures.1 does)))
]

pub returns : goal.returns
returns c = subst (AreKept (Blocks c.args.snapshot.now c.args.openings.now.request.0) c.args.plan.now) (sym c.from_vec.ensures)
    (kept_all (Blocks c.args.snapshot.now c.args.openings.now.request.0) c.args.plan.now c.loop-placement.placements.items
    c.loop-placement.placement-index c.loop-placement-test.false c.loop-placement.invariant)
