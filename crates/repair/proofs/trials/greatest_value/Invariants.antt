use Rattle.std.proofs.Common.{◌≡◌, max, map, fold, drop}
use Rattle.repair.proofs.trials.greatest_value.Given as goal

abbrev pub invariant-loop-request : goal.invariant-loop-request
invariant-loop-request l = fold max l.greatest (map (λ q. q.value) (drop l.request-index l.requests)) ≡ fold max 0 (map (λ q. q.value) l.requests)
