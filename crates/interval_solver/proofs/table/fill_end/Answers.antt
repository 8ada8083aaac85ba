use Rattle.std.proofs.Common.{rules, ◌+◌, ◌-◌, pos, FitsSigned, w64, sym, ◌∙◌, subst, arith}
use Rattle.std.proofs.lemmas.List.Elements.{All-replicate}
use Rattle.interval_solver.specs.Filling.{AreFilledFrom}
use Rattle.interval_solver.proofs.LaneFilling.{none_filled}
use Rattle.interval_solver.proofs.Covered.{single_within, past_rest_best}
use Rattle.interval_solver.proofs.table.fill_end.Goals as goal

pub loop-slice-init : goal.loop-slice-init
loop-slice-init g c =
    subst (AreFilledFrom g.row.L c.args.rows.now c.args.prices.now _) (c.len.ensures ∙ sym c.len-slice.ensures)
    (none_filled g.row.L c.args.rows.now c.args.prices.now c.args.table.now c.len.result c.len.ensures c.requires.count c.requires.entries)

pub fill_slice-requires : goal.fill_slice-requires
fill_slice-requires g c =
    let filled : AreFilledFrom g.row.L c.args.rows.now c.args.prices.now c.loop-slice.table (c.loop-slice.slice - 1 + 1)
    = subst (AreFilledFrom g.row.L c.args.rows.now c.args.prices.now c.loop-slice.table) (omega arith) c.loop-slice.invariant
    in (
      search rules,
      (
        omega arith,
        (
          c.requires.few,
          (
            c.requires.fit,
            (
              c.requires.prices,
              (
                filled,
                (
                  All-replicate (FitsSigned w64) g.row.L (pos 0) (search rules),
                  (
                    single_within c.args.rows.now c.args.wholes.now c.args.singles.now c.requires.cover (c.loop-slice.slice - 1) c.row.result.now c.row.ensures,
                    past_rest_best c.args.rows.now c.args.wholes.now c.args.singles.now c.requires.cover g.row.L c.args.prices.now c.loop-slice.table
                        (c.loop-slice.slice - 1) c.row.result.now (omega arith) c.row.ensures,
                  ),
                ),
              ),
            ),
          ),
        ),
      ),
    )
