use Rattle.std.proofs.Common.{◌≡◌, ℕ, length, subst, arith}
use Rattle.explain.specs.Steps.{IsFilledTo}
use Rattle.explain.proofs.Raising.{filled_none}
use Rattle.explain.proofs.until.fill_until.Goals as goal

pub loop-slice-init : goal.loop-slice-init
loop-slice-init c = filled_none c.args.rows.now c.args.table.now c.requires.empty

pub returns : goal.returns
returns c =
    let all : c.loop-slice.slice ≡ length c.args.rows.now = omega (arith, c.loop-slice-test.false, c.loop-slice.auto.slice-end) in
    subst (λ (n : ℕ). IsFilledTo c.args.rows.now n c.loop-slice.table) all c.loop-slice.invariant
