use Rattle.std.proofs.Common.{rules, ◌≡◌, ◌<◌, ℕ, length, ◌∙◌, ap, subst, arith}
use Rattle.std.proofs.lemmas.Grind.{common_steps, elements}
use Rattle.plan_base.specs.declared.parts.Parts.{Parts}
use Rattle.interval_solver.specs.Solving.{RowsOf, AreLanesSolved}
use Rattle.lanes.proofs.Solved.{lanes_more, lanes_all}
use Rattle.lanes.proofs.solving.solve_telescopes.Goals as goal

pub loop-telescope-preserved : goal.loop-telescope-preserved
loop-telescope-preserved g c =
    let s = c.args.snapshot.now in
    let t = c.loop-telescope.telescope in
    let row = c.index-rows-telescope.result in
    let count : c.len-telescope-end.result ≡ length s.telescopes = c.len-telescope-end.ensures
    ∙ ap (λ (p : Parts). length p.telescopes) c.parts.ensures.value in
    let below : t < length s.telescopes = omega arith in
    let of : row.snapshot ≡ s = ap (λ (r : RowsOf). r.snapshot) c.index-rows-telescope.is
    ∙ c.requires.rows.snapshots t row (omega (arith, c.requires.rows.count)) in
    let on : row.telescope ≡ t = ap (λ (r : RowsOf). r.telescope) c.index-rows-telescope.is ∙ c.requires.rows.telescopes t row below in
    let at : AreLanesSolved s row.telescope g.row.L c.args.prices.now c.loop-telescope.uses c.solve.new.uses c.solve.result
    = subst (λ (p : Parts). AreLanesSolved p row.telescope g.row.L c.args.prices.now c.loop-telescope.uses c.solve.new.uses c.solve.result)
    of c.solve.ensures.solved
    in
    let is_solved : AreLanesSolved s t g.row.L c.args.prices.now c.loop-telescope.uses c.solve.new.uses c.solve.result
    = subst (λ (k : ℕ). AreLanesSolved s k g.row.L c.args.prices.now c.loop-telescope.uses c.solve.new.uses c.solve.result) on at
    in
    record {
      entries = c.solve.ensures.entries ∙ c.loop-telescope.invariant.entries;
      table = c.solve.ensures.table;
      solved = lanes_more s g.row.L t c.args.prices.now c.loop-telescope.uses c.solve.new.uses c.loop-telescope.bests c.solve.result below
          (search rules) is_solved c.loop-telescope.invariant.solved;
    }

pub returns-clause-solved : goal.returns-clause-solved
returns-clause-solved g c =
    let count : c.len-telescope-end.result ≡ length c.args.snapshot.now.telescopes = c.len-telescope-end.ensures
    ∙ ap (λ (p : Parts). length p.telescopes) c.parts.ensures.value in
    lanes_all c.args.snapshot.now g.row.L c.loop-telescope.telescope c.args.prices.now c.loop-telescope.uses c.loop-telescope.bests
    (omega arith) c.loop-telescope.invariant.solved

pub solve-requires : goal.solve-requires
solve-requires g c = grind (arith, common_steps)

pub loop-telescope-init : goal.loop-telescope-init
loop-telescope-init g c = grind (arith, elements)
