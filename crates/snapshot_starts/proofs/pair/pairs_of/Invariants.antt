use Rattle.std.proofs.Common.{◌≡◌, take}
use Rattle.std.specs.Prelude.{flat_map}
use Rattle.plan_base.specs.Requests.{listed}
use Rattle.snapshot_starts.specs.Pairs.{pairs_of_request}
use Rattle.snapshot_starts.proofs.pair.pairs_of.Given as goal

abbrev pub invariant-loop-place : goal.invariant-loop-place
invariant-loop-place l = l.pairs.items ≡ flat_map (λ x. pairs_of_request x.request) (take l.place (listed l.snapshot))
