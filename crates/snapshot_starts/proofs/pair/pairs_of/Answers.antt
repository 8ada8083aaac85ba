use Rattle.std.proofs.Common.{arith}
use Rattle.snapshot_starts.proofs.FoundPairs.{more_pairs}
use Rattle.snapshot_starts.proofs.pair.pairs_of.Goals as goal

pub loop-place-preserved : goal.loop-place-preserved
loop-place-preserved c =
    more_pairs c.args.snapshot.now c.loop-place.place c.request_at.result.now c.loop-place.pairs.items c.push_pairs.new.pairs.items
    (omega (arith, c.loop-place-test.true, c.request_count-place-end.ensures.value)) c.request_at.ensures c.loop-place.invariant
    c.in_ok-push_pairs.ensures

pub request_at-requires : goal.request_at-requires
request_at-requires c = omega (arith, c.loop-place-test.true, c.request_count-place-end.ensures.value)
