use Rattle.std.proofs.Common.{rules, ◌≡◌, ◌<◌, ◌≤◌, pos, to_z, of_z, w64, [], length, slice_index_or, sym, ◌∙◌, ap, subst, arith}
use Rattle.std.proofs.lemmas.Int.{to_z-of_z}
use Rattle.std.proofs.lemmas.List.{get_or-map}
use Rattle.plan_base.specs.Bound.{IsBest}
use Rattle.plan_base.specs.Requests.{listed}
use Rattle.plan_base.specs.Tables.{entry}
use Rattle.interval_solver.specs.Lanes.{number_in, lane}
use Rattle.interval_solver.specs.Tables.{DoRowsFit}
use Rattle.interval_solver.specs.Solving.{RowsOf}
use Rattle.interval_solver.proofs.Tabled.{rows_fit, first_best}
use Rattle.interval_solver.proofs.solver.solve_one.Goals as goal
use mir.Val.{SFits}

pub fill-requires : goal.fill-requires
fill-requires c =
    let slices : c.rows.inside.snapshot.now.slices ≡ c.args.rows.now.snapshot.slices = ap (λ (r : RowsOf). r.snapshot.slices) c.rows.view_is in
    let long : length c.rows.inside.starts ≡ c.rows.inside.snapshot.now.slices = c.rows.invariant.count in
    let most : c.rows.inside.snapshot.now.slices ≤ 1440 = c.recall_valid.ensures.orderly.ranges.slices_most in
    let count : length c.args.prices.now ≡ length (listed c.rows.inside.snapshot.now) = c.requires.count
    ∙ ap (λ (r : RowsOf). length (listed r.snapshot)) (sym c.rows.view_is) in
    let fit : DoRowsFit (length c.args.prices.now) c.rows.inside.starts =
    rows_fit c.rows.inside.snapshot.now c.rows.inside.telescope.0 c.rows.inside.starts c.recall_valid.ensures.orderly c.rows.invariant
    (length c.args.prices.now) count in
    (search rules, (search rules, (omega (arith, c.requires.entries), (omega arith, (fit, (c.requires.range, c.requires.table))))))

pub returns-clause-best : goal.returns-clause-best
returns-clause-best c =
    let some : 0 < length c.fill.new.table = omega (arith, c.requires.entries, c.fill.ensures.count) in
    let fit : SFits w64 (slice_index_or (slice_index_or c.fill.new.table 0 []) 0 (pos 0)) = search rules in
    let read : entry (lane 0 c.fill.new.table) 0 ≡ slice_index_or (slice_index_or c.fill.new.table 0 []) 0 (pos 0) =
    get_or-map (number_in 0) c.fill.new.table 0 [] (pos 0) some in
    subst (λ (r : RowsOf). IsBest r.snapshot (lane 0 c.args.prices.now) r.telescope r.snapshot.first.0
    (to_z w64 (of_z w64 (slice_index_or (slice_index_or c.fill.new.table 0 []) 0 (pos 0))))) c.rows.view_is
    (subst (IsBest c.rows.inside.snapshot.now (lane 0 c.args.prices.now) c.rows.inside.telescope.0 c.rows.inside.snapshot.now.first.0)
    (read ∙ sym (to_z-of_z w64 _ fit))
    (first_best c.rows.inside.snapshot.now c.rows.inside.telescope.0 c.rows.inside.starts c.recall_valid.ensures.orderly c.rows.invariant
    (lane 0 c.args.prices.now) (lane 0 c.fill.new.table) (c.fill.ensures.recursion 0 (omega arith))))
