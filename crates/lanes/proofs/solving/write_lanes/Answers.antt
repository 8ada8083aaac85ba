use Rattle.std.proofs.Common.{All, sym, subst, arith}
use Rattle.plan_base.specs.Verdict.{IsPriceInRange}
use Rattle.plan_base.proofs.Here.{element_at}
use Rattle.lanes.proofs.Written.{for_lanes}
use Rattle.lanes.proofs.solving.write_lanes.Goals as goal

pub returns-clause-range : goal.returns-clause-range
returns-clause-range g c =
    for_lanes g.row.L IsPriceInRange c.loop-place.into c.loop-place.invariant.long (λ l known.
    let d = (element_at c.args.lanes.now l (omega (arith, c.requires.lanes))).0 in
    subst (All IsPriceInRange) (sym (c.loop-place.invariant.prices l d (omega arith))) (c.requires.range l d (omega (arith, c.requires.lanes))))
