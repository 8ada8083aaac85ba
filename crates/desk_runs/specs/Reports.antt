-- What a report and a withdrawal do.
use Rattle.std.specs.Prelude.{Bool, not, ◌==◌, if◌then◌else◌, map, filter}
use Rattle.plan_base.specs.declared.number.GroupNo.{GroupNo}
use Rattle.plan_base.specs.declared.number.RequestNo.{RequestNo}
use Rattle.plan_base.specs.declared.state.RequestState.TheVariants.{Completed, Canceled}
use Rattle.desk_runs.specs.declared.group.Group.{Group}
use Rattle.plan_base.specs.States.{is_pending}
use Rattle.plan_base.specs.Operators.{is_oneof}
use Rattle.desk_runs.specs.Numbers.{is_request, has_request, is_group}
use Rattle.desk_runs.specs.Progress.{Progress}
use Rattle.desk_runs.specs.Clock.{change_requests, dropped, settle}

-- a group whose pending requests are canceled
abbrev pub canceled : Group → Group
canceled g = change_requests (λ q. is_pending q.state) Canceled g

-- a group of which a request is completed; of a ONEOF the other pending members are canceled
abbrev pub completed : RequestNo → Group → Group
completed number g =
    let h = change_requests (is_request number) Completed g in
    if is_oneof g.op then canceled h else h

-- the request stops running
abbrev pub without_running : RequestNo → Progress → Progress
without_running number s = record s { running = filter (λ o. not (o.request.0 == number.0)) s.running }

-- the request is completed in its group
abbrev pub with_completed : RequestNo → Progress → Progress
with_completed number s = record s { groups = map (λ g. if has_request number g then completed number g else g) s.groups }

-- a report: the request stops running, is completed or not, and then the moment does what it does
abbrev pub reported : RequestNo → Bool → Progress → Progress
reported number completes s = settle (if completes then with_completed number (without_running number s) else without_running number s)

-- a withdrawal: the group's pending requests are canceled, and their kept observations are dropped
abbrev pub withdrawn : GroupNo → Progress → Progress
withdrawn number s = dropped (record s { groups = map (λ g. if is_group number g then canceled g else g) s.groups })
