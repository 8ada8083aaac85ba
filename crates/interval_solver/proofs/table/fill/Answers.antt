use Rattle.std.proofs.Common.{rules, ◌≡◌, ℕ, ◌+◌, ◌-◌, ◌*◌, List, length, sym, ap, subst, arith}
use Rattle.interval_solver.specs.declared.start.Start.{Start}
use Rattle.interval_solver.specs.Tables.{DoRowsFit}
use Rattle.interval_solver.specs.Filling.{AreFilledFrom}
use Rattle.interval_solver.proofs.table.fill.Goals as goal

pub fill_end-requires : goal.fill_end-requires
fill_end-requires g c =
    let same : length c.rows.inside.all ≡ length c.args.rows.now = ap (λ (rows : List (List Start)). length rows) c.rows.view_is in
    let fit : DoRowsFit (length c.args.prices.now) c.rows.inside.all = subst (DoRowsFit (length c.args.prices.now)) (sym c.rows.view_is) c.requires.fit in
    (search rules, (omega arith, (fit, (c.requires.prices, (c.rows.invariant, (omega arith, c.requires.entries))))))

pub loop-block-init : goal.loop-block-init
loop-block-init g c =
    subst (λ (rows : List (List Start)). AreFilledFrom g.row.L rows c.args.prices.now c.fill_end.new.table (4 * c.len-blocks.result)) c.rows.view_is
    (subst (AreFilledFrom g.row.L c.rows.inside.all c.args.prices.now c.fill_end.new.table)
    (ap (λ (n : ℕ). 4 * n) (sym c.len-blocks.ensures)) c.fill_end.ensures.filled)

pub fill_block-requires : goal.fill_block-requires
fill_block-requires g c =
    let same : length c.rows.inside.all ≡ length c.args.rows.now = ap (λ (rows : List (List Start)). length rows) c.rows.view_is in
    let fit : DoRowsFit (length c.args.prices.now) c.rows.inside.all = subst (DoRowsFit (length c.args.prices.now)) (sym c.rows.view_is) c.requires.fit in
    let filled : AreFilledFrom g.row.L c.rows.inside.all c.args.prices.now c.loop-block.table (4 * (c.loop-block.block - 1) + 4)
    = subst (λ (rows : List (List Start)). AreFilledFrom g.row.L rows c.args.prices.now c.loop-block.table (4 * (c.loop-block.block - 1) + 4))
    (sym c.rows.view_is)
    (subst (AreFilledFrom g.row.L c.args.rows.now c.args.prices.now c.loop-block.table) (omega arith) c.loop-block.invariant)
    in
    (search rules, (c.requires.lanes, (omega arith, (omega arith, (fit, (c.requires.prices, (c.rows.invariant, filled)))))))
