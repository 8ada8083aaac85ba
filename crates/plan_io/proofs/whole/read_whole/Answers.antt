use Rattle.std.proofs.Common.{◌≤◌, ◌+◌, ◌++◌, length, length-append, arith}
use Rattle.std.proofs.lemmas.Grind.{common_steps}
use Rattle.std.proofs.KnownBytes.{Consumes-trans}
use Rattle.std.proofs.lemmas.Result.{err_from_is_err_and}
use Rattle.plan_io.proofs.whole.read_whole.Goals as goal

pub returns-in_err-read_more-clause-err : goal.returns-in_err-read_more-clause-err
returns-in_err-read_more-clause-err g c =
    let p = err_from_is_err_and c.from_residual-in_err-read_more.result c.from_residual-in_err-read_more.ensures.1 in
    rw (p.1) (
    let was = c.loop-turn.invariant in
    let stopped = c.in_err-read_more.ensures.err in
    let taken = c.loop-turn.bytes.items ++ stopped.0.0 in
    let size : length taken ≤ c.args.most_bytes + 1 =
    omega (arith, length-append c.loop-turn.bytes.items stopped.0.0, stopped.0.2, was.within, c.read_size-size.ensures.within) in (
      (
        taken,
        Consumes-trans _ (g.S.Source.left c.loop-turn.source) _ c.loop-turn.bytes.items stopped.0.0 was.taken stopped.0.1,
        size,
      ),
      omega (arith, stopped.1, was.later),
    ))

pub returns-then-len-most_bytes-clause-whole : goal.returns-then-len-most_bytes-clause-whole
returns-then-len-most_bytes-clause-whole g c = grind (arith, common_steps)

pub loop-turn-preserved : goal.loop-turn-preserved
loop-turn-preserved g c = grind (arith, common_steps)
