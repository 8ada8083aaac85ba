use Rattle.snapshot_starts.proofs.FoundPairs.{pushed_pair}
use Rattle.snapshot_starts.proofs.pair.push_pairs.Goals as goal

pub loop-telescope-preserved : goal.loop-telescope-preserved
loop-telescope-preserved c =
    pushed_pair c.args.request.now.request c.args.request.now.telescopes _ c.args.pairs.now.items c.loop-telescope.pairs.items _
    c.loop-telescope.telescope-index _ c.as_slice-telescope-items.ensures c.loop-telescope-test.true c.loop-telescope.invariant c.in_ok-push.ensures.items
