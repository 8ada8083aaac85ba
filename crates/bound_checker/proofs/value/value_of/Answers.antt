use Rattle.std.proofs.Common.{◌≡◌, ◌+◌, take, sym, ap, ◌∙◌, arith}
use Rattle.std.proofs.lemmas.List.Sums.{sum_by_more}
use Rattle.plan_base.specs.Starts.{worth_at, value_of_plan}
use Rattle.bound_checker.proofs.Marks.{placed_at}
use Rattle.bound_checker.proofs.value.value_of.Goals as goal

pub loop-placement-preserved : goal.loop-placement-preserved
loop-placement-preserved c =
    let s = c.args.snapshot.now in
    let plan = c.args.plan.now in
    let i = c.loop-placement.placement-index in
    let more : value_of_plan s (take (i + 1) plan) ≡ value_of_plan s (take i plan) + worth_at s (placed_at plan i) =
    sum_by_more (worth_at s) plan i _ c.loop-placement-test.true in
    let worth : c.worth_of-value.result ≡ worth_at s (placed_at plan i) = c.worth_of-value.ensures.value in
    (omega arith, omega arith)
