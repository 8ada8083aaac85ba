use Rattle.std.proofs.Common.{◌≡◌, ◌+◌, ◌≤◌, length, sym, ◌∙◌, ap, subst, arith}
use Rattle.plan_base.specs.declared.parts.Parts.{Parts}
use Rattle.plan_base.specs.declared.fault.Counted.TheVariants.{Telescopes}
use Rattle.interval_solver.specs.Solving.{RowsOf, AreRowsOf}
use Rattle.interval_solver.proofs.Stepping.{rows_more}
use Rattle.interval_solver.proofs.rows.Rows.of_all.Goals as goal

pub loop-telescope-preserved : goal.loop-telescope-preserved
loop-telescope-preserved c =
    let few : length c.args.snapshot.now.telescopes ≤ 32 = c.parts.ensures.orderly.within Telescopes 0 0 (omega arith) in
    let count : c.len-count.result ≡ length c.args.snapshot.now.telescopes = c.len-count.ensures
    ∙ ap (λ (s : Parts). length s.telescopes) c.parts.ensures.value in
    let number = ap (λ (r : RowsOf). r.telescope) c.in_ok-new.ensures in
    subst (AreRowsOf c.args.snapshot.now (c.loop-telescope.telescope + 1)) (sym c.in_ok-push.ensures.items)
    (rows_more c.args.snapshot.now c.loop-telescope.telescope c.loop-telescope.rows.items c.in_ok-new.field-0
    (ap (λ (r : RowsOf). r.snapshot) c.in_ok-new.ensures) (omega (arith, number, few, count)) c.loop-telescope.invariant)
