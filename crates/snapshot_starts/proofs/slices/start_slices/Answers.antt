use Rattle.std.proofs.lemmas.Result.{IfOk-weaker}
use Rattle.snapshot_starts.proofs.Open.{open_can, can_open}
use Rattle.snapshot_starts.proofs.Sets.{same_slices}
use Rattle.snapshot_starts.proofs.slices.start_slices.Goals as goal

pub returns-in-Some : goal.returns-in-Some
returns-in-Some c =
    let s = c.args.parts.now in
    let q = c.args.request.now in
    let part = c.in-Some.part.now in
    let able = c.is_able.ensures.0 c.if-not-is_able.false in
    IfOk-weaker c.open_slices.result _ _ (λ slices are. same_slices _ _ slices are
    (λ k (timely, is_open). open_can s q c.args.telescope k part c.in-Some.ensures.0 c.in-Some.ensures.1 able timely is_open)
    (λ k can. (can.timely, can_open s q c.args.telescope k part c.in-Some.ensures.0 c.in-Some.ensures.1 can))) c.open_slices.ensures

pub open_slices-requires-clause-orderly : goal.open_slices-requires-clause-orderly
open_slices-requires-clause-orderly c = c.requires.orderly

pub open_slices-requires-clause-seconds : goal.open_slices-requires-clause-seconds
open_slices-requires-clause-seconds c = c.requires.seconds
