use Rattle.std.proofs.Common.{◌+◌, ◌/◌, ◌%◌, List, subst, sym}
use Rattle.interval_solver.specs.declared.start.Start.{Start}
use Rattle.plan_base.specs.Tables.{row}
use Rattle.interval_solver.specs.Blocks.{AreSinglesOf, AreSingles}
use Rattle.interval_solver.proofs.Covering.{singles_more}
use Rattle.interval_solver.proofs.blocks.singles_of.Goals as goal

pub loop-slice-preserved : goal.loop-slice-preserved
loop-slice-preserved c =
    let found : AreSinglesOf (row c.args.rows.now c.loop-slice.slice) (row c.args.wholes.now (c.loop-slice.slice / 4))
    (c.loop-slice.slice % 4) c.as_slice.result.now
    = subst (λ (xs : List Start). AreSinglesOf xs (row c.args.wholes.now (c.loop-slice.slice / 4)) (c.loop-slice.slice % 4) c.as_slice.result.now) c.row.ensures
    (subst (λ (ws : List Start). AreSinglesOf c.row.result.now ws (c.loop-slice.slice % 4) c.as_slice.result.now) c.row_or_none-whole.ensures
    (subst (AreSinglesOf c.row.result.now c.row_or_none-whole.result.now (c.loop-slice.slice % 4)) (sym c.as_slice.ensures.value) c.in_ok-list_singles.ensures))
    in
    subst (λ (singles : List (List Start)). AreSingles c.args.rows.now c.args.wholes.now singles (c.loop-slice.slice + 1)) (sym c.in_ok-push.ensures)
    (singles_more c.args.rows.now c.args.wholes.now c.loop-slice.singles c.loop-slice.slice c.as_slice.result.now found c.loop-slice.invariant)
