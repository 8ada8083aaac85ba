use Rattle.std.proofs.Common.{◌≤◌, ℕ, subst}
use Rattle.plan_base.proofs.PlannedPlans.{shown_saturated}
use Rattle.plan_base.specs.Starts.{value_of_plan}
use Rattle.plan_base.proofs.laws.planned_is_saturated.Goals as goal

pub returns-clause-feasible : goal.returns-clause-feasible
returns-clause-feasible c = λ settings claim planned. planned.certified.feasible

pub returns-clause-saturated : goal.returns-clause-saturated
returns-clause-saturated c = λ settings claim planned. shown_saturated c.args.snapshot.now settings claim c.recall_valid.ensures.orderly planned.plan

pub returns-clause-greedy : goal.returns-clause-greedy
returns-clause-greedy c = λ settings claim plan planned greedy.
    subst (λ (v : ℕ). value_of_plan c.args.snapshot.now plan ≤ v) planned.certified.value (planned.value.above_greedy plan greedy)
