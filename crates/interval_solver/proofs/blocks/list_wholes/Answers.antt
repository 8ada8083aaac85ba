use Rattle.std.proofs.Common.{All, subst, sym, ap, ◌∙◌}
use Rattle.std.specs.declared.vec.Vec.{Vec}
use Rattle.std.specs.declared.alloc.Global.{Global}
use Rattle.std.proofs.lemmas.List.Elements.{All-push}
use Rattle.interval_solver.specs.declared.start.Start.{Start}
use Rattle.interval_solver.specs.Blocks.{IsWholeIn}
use Rattle.interval_solver.proofs.blocks.list_wholes.Goals as goal
use Rattle.interval_solver.proofs.blocks.list_wholes.Goals.{then-is_whole+in_ok-push, else-is_whole}

pub loop-start-preserved : goal.loop-start-preserved
loop-start-preserved c = elim c.if-is_whole.branch [
  | then-is_whole+in_ok-push w ↦
      subst (All (IsWholeIn c.args.rows.now c.args.block)) (sym (ap (λ (v : Vec Start Global). v.items) w.found-is ∙ w.in_ok-push.ensures.items))
      (All-push (IsWholeIn c.args.rows.now c.args.block) c.loop-start.found.items _ c.loop-start.invariant (c.is_whole.ensures w.if-is_whole.true))
  | else-is_whole w ↦ subst (All (IsWholeIn c.args.rows.now c.args.block)) (sym (ap (λ (v : Vec Start Global). v.items) w.found-is)) c.loop-start.invariant
]
