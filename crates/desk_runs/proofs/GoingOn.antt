-- After a moment, a report or a withdrawal groups only go on.
use Rattle.std.proofs.Common.{ℕ, ◌≤◌, ◌==◌, Bool, true, false, not, ◌++◌, arith}
use Rattle.std.specs.List.{AllZip}
use Rattle.plan_base.specs.declared.number.GroupNo.{GroupNo}
use Rattle.plan_base.specs.declared.number.RequestNo.{RequestNo}
use Rattle.plan_base.specs.declared.number.Sec.{Sec}
use Rattle.desk_runs.specs.Numbers.{is_group, has_request, is_pending_at}
use Rattle.desk_runs.specs.Progress.{Progress}
use Rattle.desk_runs.specs.Clock.{settle, at_moment}
use Rattle.desk_runs.specs.Reports.{canceled, completed, without_running, with_completed, reported, withdrawn}
use Rattle.desk_runs.specs.Sound.{IsLater}
use Rattle.desk_runs.specs.Laws.{GoesOn}
use Rattle.desk_runs.proofs.Later.{later_canceled, later_completed, later_selves, later_groups}
use Rattle.desk_runs.proofs.Sounds.{fewer_after}
use Rattle.desk_runs.proofs.Counts.{times_of, fewer_pending, once_fewer}
use Rattle.desk_runs.proofs.Moves.{later_after}
use Rattle.desk_runs.proofs.Single.{all_later}
use Rattle.desk_runs.proofs.Withdrawn.{fewer_kept}
use Rattle.desk_runs.proofs.Reporting.{fewer_running}

-- what has to be shown
goes_on : (s t : Progress) → AllZip IsLater s.groups t.groups → ((n : ℕ) → times_of n (t.kept ++ t.running) ≤ times_of n (s.kept ++ s.running)) → GoesOn s t
goes_on s t later fewer = record {
  later = later;
  pending = fewer_pending s.groups t.groups later;
  once = once_fewer (s.kept ++ s.running) (t.kept ++ t.running) fewer;
}

pub moment_goes_on : (s : Progress) (now : Sec) → GoesOn s (settle (at_moment now s))
moment_goes_on s now = goes_on s (settle (at_moment now s)) (later_after (at_moment now s)) (λ n. fewer_after (at_moment now s) (λ o. o.request.0 == n))

pub withdrawal_goes_on : (s : Progress) (number : GroupNo) → GoesOn s (withdrawn number s)
withdrawal_goes_on s number =
    goes_on s (withdrawn number s) (all_later (is_group number) canceled later_canceled s.groups)
    (λ n. fewer_kept (λ o. is_pending_at (withdrawn number s).groups o.request) (λ o. o.request.0 == n) s.kept s.running)

-- a report first changes groups and observations, and then the moment does what it does
then_settled : (s t : Progress) → AllZip IsLater s.groups t.groups → ((n : ℕ) → times_of n (t.kept ++ t.running) ≤ times_of n (s.kept ++ s.running))
    → GoesOn s (settle t)
then_settled s t later fewer =
    goes_on s (settle t) (later_groups s.groups t.groups (settle t).groups later (later_after t))
    (λ n.
    let first : times_of n (t.kept ++ t.running) ≤ times_of n (s.kept ++ s.running) = fewer n in
    let then : times_of n ((settle t).kept ++ (settle t).running) ≤ times_of n (t.kept ++ t.running) = fewer_after t (λ o. o.request.0 == n) in
    omega (arith, first, then))

pub report_goes_on : (s : Progress) (number : RequestNo) (completes : Bool) → GoesOn s (reported number completes s)
report_goes_on s number true =
    then_settled s (with_completed number (without_running number s)) (all_later (has_request number) (completed number) (later_completed number) s.groups)
    (λ n. fewer_running (λ o. not (o.request.0 == number.0)) (λ o. o.request.0 == n) s.kept s.running)
report_goes_on s number false =
    then_settled s (without_running number s) (later_selves s.groups)
    (λ n. fewer_running (λ o. not (o.request.0 == number.0)) (λ o. o.request.0 == n) s.kept s.running)
