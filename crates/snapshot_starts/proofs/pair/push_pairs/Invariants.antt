use Rattle.std.proofs.Common.{◌≡◌, ◌++◌, take, map}
use Rattle.snapshot_starts.specs.Pairs.{pair_of}
use Rattle.snapshot_starts.proofs.pair.push_pairs.Given as goal

abbrev pub invariant-loop-telescope : goal.invariant-loop-telescope
invariant-loop-telescope l = l.pairs.items ≡ l.fn.pairs.items ++ map (pair_of l.request.request) (take l.telescope-index l.request.telescopes)
