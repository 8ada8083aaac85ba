use Rattle.std.proofs.Common.{rules, ◌≡◌, ◌<◌, ◌≤◌, length, sym, ◌∙◌, ap, subst, arith}
use Rattle.plan_base.specs.Bound.{IsBest}
use Rattle.plan_base.specs.Requests.{listed}
use Rattle.plan_base.specs.Tables.{entry}
use Rattle.interval_solver.specs.Lanes.{number_in, lane}
use Rattle.interval_solver.specs.Tables.{DoRowsFit}
use Rattle.interval_solver.specs.Solving.{RowsOf, AreLanesSolved}
use Rattle.interval_solver.proofs.Tabled.{rows_fit, first_best}
use Rattle.interval_solver.proofs.LaneFilling.{lane_read}
use Rattle.interval_solver.proofs.rows.Rows.solve.Goals as goal

pub fill-requires : goal.fill-requires
fill-requires g c =
    let slices : c.self.inside.snapshot.now.slices ≡ c.args.self.now.snapshot.slices = ap (λ (r : RowsOf). r.snapshot.slices) c.self.view_is in
    let long : length c.self.inside.starts ≡ c.self.inside.snapshot.now.slices = c.self.invariant.count in
    let most : c.self.inside.snapshot.now.slices ≤ 1440 = c.recall_valid.ensures.orderly.ranges.slices_most in
    let count : length c.args.prices.now ≡ length (listed c.self.inside.snapshot.now) = c.requires.count
    ∙ ap (λ (r : RowsOf). length (listed r.snapshot)) (sym c.self.view_is) in
    let fit : DoRowsFit (length c.args.prices.now) c.self.inside.starts =
    rows_fit c.self.inside.snapshot.now c.self.inside.telescope.0 c.self.inside.starts c.recall_valid.ensures.orderly c.self.invariant
    (length c.args.prices.now) count in
    (search rules, (c.requires.lanes.1, (omega (arith, c.requires.entries), (omega arith, (fit, (c.requires.range, c.requires.table))))))

pub returns-clause-solved : goal.returns-clause-solved
returns-clause-solved g c =
    let some : 0 < length c.fill.new.table = omega (arith, c.requires.entries, c.fill.ensures.count) in
    subst (λ (r : RowsOf). AreLanesSolved r.snapshot r.telescope g.row.L c.args.prices.now c.args.uses.now c.walk_all.new.uses c.index-table-0.result)
    c.self.view_is
    (record {
      best = λ l h.
          let read : number_in l c.index-table-0.result ≡ entry (lane l c.fill.new.table) 0 =
          lane_read c.fill.new.table 0 l c.index-table-0.result some c.index-table-0.is in
          subst (IsBest c.self.inside.snapshot.now (lane l c.args.prices.now) c.self.inside.telescope.0 c.self.inside.snapshot.now.first.0) (sym read)
          (first_best c.self.inside.snapshot.now c.self.inside.telescope.0 c.self.inside.starts c.recall_valid.ensures.orderly c.self.invariant
          (lane l c.args.prices.now) (lane l c.fill.new.table) (c.fill.ensures.recursion l h));
      uses = record { count = c.walk_all.ensures.count; each = c.walk_all.ensures.each };
    })
