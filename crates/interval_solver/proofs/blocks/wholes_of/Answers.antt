use Rattle.std.proofs.Common.{◌+◌, List, All, subst, sym}
use Rattle.interval_solver.specs.declared.start.Start.{Start}
use Rattle.interval_solver.specs.Blocks.{IsWholeIn, AreWholes}
use Rattle.interval_solver.proofs.Covering.{wholes_more}
use Rattle.interval_solver.proofs.blocks.wholes_of.Goals as goal

pub loop-block-preserved : goal.loop-block-preserved
loop-block-preserved c =
    subst (λ (wholes : List (List Start)). AreWholes c.args.rows.now wholes (c.loop-block.block + 1)) (sym c.in_ok-push.ensures)
    (wholes_more c.args.rows.now c.loop-block.wholes c.loop-block.block c.as_slice.result.now
    (subst (All (IsWholeIn c.args.rows.now c.loop-block.block)) (sym c.as_slice.ensures.value) c.in_ok-list_wholes.ensures)
    c.loop-block.invariant)
