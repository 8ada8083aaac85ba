use Rattle.std.proofs.Common.{rules, ◌≡◌, ◌+◌, ◌≤ℤ◌, pos, length, arith}
use Rattle.plan_base.specs.Tables.{row, entry}
use Rattle.interval_solver.specs.Tables.{gain}
use Rattle.interval_solver.specs.Lanes.{number_in, lane}
use Rattle.interval_solver.proofs.LaneFilling.{lane_read, row_most, slice_filled, all_fit}
use Rattle.interval_solver.proofs.table.fill_slice.Goals as goal

pub row_best-best-requires : goal.row_best-best-requires
row_best-best-requires g c =
    let fits = all_fit c.args.rows.now (length c.args.prices.now) c.args.slice c.args.single.now c.requires.fit c.requires.single in (
      search rules,
      (
        λ k d l. (fits k d l).worth,
        (
          λ k d l. (fits k d l).place,
          (
            λ k d l. let within = (fits k d l).within in let count = c.requires.filled.count in omega arith,
            (c.requires.prices, (c.requires.filled.entries, c.larger-least.ensures.fit)),
          ),
        ),
      ),
    )

pub returns-clause-filled : goal.returns-clause-filled
returns-clause-filled g c =
    let long : length c.row_best-best.result ≡ g.row.L = search rules in
    slice_filled g.row.L c.args.rows.now c.args.prices.now c.args.table.now c.args.slice c.row_best-best.result c.requires.slice c.requires.few
    c.requires.fit c.requires.prices c.requires.filled long
    (λ l h.
    let count = c.requires.filled.count in
    let read : number_in l c.index-table-slice.result ≡ entry (lane l c.args.table.now) (c.args.slice + 1) =
    lane_read c.args.table.now (c.args.slice + 1) l c.index-table-slice.result (omega arith) c.index-table-slice.is in
    let low : pos 0 ≤ℤ entry (lane l c.args.table.now) (c.args.slice + 1) = (c.requires.filled.filled l h).low (c.args.slice + 1) (omega arith) (omega arith) in
    let larger = rw read at (c.larger-least.ensures.each l h) in
    row_most (row c.args.rows.now c.args.slice) c.args.single.now (gain (lane l c.args.prices.now) (lane l c.args.table.now)) _ _ _ _ larger low
    c.requires.single (c.requires.rest l h) (c.row_best-best.ensures.most l h))
