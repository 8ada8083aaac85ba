use Rattle.std.proofs.Common.{◌≡◌, max, map, fold, drop}
use Rattle.plan_base.specs.Requests.{listed}
use Rattle.lanes.proofs.steps.greatest_value.Given as goal

abbrev pub invariant-loop-place : goal.invariant-loop-place
invariant-loop-place l = fold max l.greatest (drop l.place (map (λ x. x.request.value) (listed l.snapshot)))
    ≡ fold max 0 (map (λ x. x.request.value) (listed l.snapshot))
