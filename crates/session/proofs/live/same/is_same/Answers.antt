use Rattle.std.proofs.Common.{arith}
use Rattle.session.proofs.Passes.{all_scripts}
use Rattle.session.proofs.live.same.is_same.Goals as goal

pub returns : goal.returns
returns c =
    let same = c.loop-caller.invariant in
    λ _. all_scripts c.args.a.now.scripts c.args.b.now.scripts same.0
    (λ k low. same.1 k (omega (arith, low, c.loop-caller-test.false, c.callers-callers.ensures.count)))
