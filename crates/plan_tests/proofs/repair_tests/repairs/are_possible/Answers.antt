use Rattle.std.proofs.Common.{All, subst, arith}
use Rattle.std.proofs.lemmas.List.{take_all}
use Rattle.std.proofs.lemmas.List.Elements.{All-more}
use Rattle.plan_base.specs.Starts.{IsPossibleStart}
use Rattle.plan_tests.proofs.repair_tests.repairs.are_possible.Goals as goal

pub loop-start-preserved : goal.loop-start-preserved
loop-start-preserved c = All-more (IsPossibleStart c.args.snapshot.now) c.args.starts.now c.loop-start.start-index _ c.loop-start-test.true
    c.loop-start.invariant (c.is_possible.ensures.0 c.if-not-is_possible.false)

pub returns : goal.returns
returns c = λ yes. subst (All (IsPossibleStart c.args.snapshot.now)) (take_all c.loop-start.start-index c.args.starts.now (omega arith)) c.loop-start.invariant
