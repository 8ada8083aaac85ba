use Rattle.std.proofs.Common.{◌+◌, take, subst, sym, ap, ◌∙◌}
use Rattle.std.specs.declared.vec.Vec.{Vec}
use Rattle.std.specs.declared.alloc.Global.{Global}
use Rattle.interval_solver.specs.declared.start.Start.{Start}
use Rattle.interval_solver.specs.Blocks.{AreSinglesOf}
use Rattle.interval_solver.proofs.Covering.{singles_of_more, singles_of_passed}
use Rattle.interval_solver.proofs.blocks.list_singles.Goals as goal
use Rattle.interval_solver.proofs.blocks.list_singles.Goals.{then-not-stands_in+in_ok-push, else-not-stands_in}

pub loop-start-preserved : goal.loop-start-preserved
loop-start-preserved c = elim c.if-not-stands_in.branch [
  | then-not-stands_in+in_ok-push w ↦
      subst (AreSinglesOf (take (c.loop-start.start-index + 1) c.args.row.now) c.args.wholes.now c.args.slices)
      (sym (ap (λ (v : Vec Start Global). v.items) w.found-is ∙ w.in_ok-push.ensures.items))
      (singles_of_more c.args.row.now c.args.wholes.now c.loop-start.start-index c.args.slices _ c.loop-start-test.true
      c.loop-start.found.items c.loop-start.invariant)
  | else-not-stands_in w ↦
      subst (AreSinglesOf (take (c.loop-start.start-index + 1) c.args.row.now) c.args.wholes.now c.args.slices)
      (sym (ap (λ (v : Vec Start Global). v.items) w.found-is))
      (singles_of_passed c.args.row.now c.args.wholes.now c.loop-start.start-index c.args.slices _ c.loop-start-test.true c.loop-start.found.items
      c.loop-start.invariant (c.stands_in.ensures w.if-not-stands_in.false))
]
