-- What is so of every state.
use Rattle.std.specs.Prelude.{◌≡◌, ◌≤◌, ◌<◌, Bool, true, false, List, ◌++◌, length, All}
use Rattle.std.specs.List.{AllZip}
use Rattle.plan_base.specs.declared.number.GroupNo.{GroupNo}
use Rattle.plan_base.specs.declared.number.RequestNo.{RequestNo}
use Rattle.plan_base.specs.declared.number.Sec.{Sec}
use Rattle.plan_base.specs.declared.parts.Op.{Op}
use Rattle.plan_base.specs.States.{is_pending}
use Rattle.desk_runs.specs.declared.group.Ask.{Ask}
use Rattle.desk_runs.specs.declared.group.Request.{Request}
use Rattle.desk_runs.specs.declared.observation.Observation.{Observation}
use Rattle.desk_runs.specs.Numbers.{requests_of, is_placed}
use Rattle.desk_runs.specs.Owners.{pending_count}
use Rattle.desk_runs.specs.Progress.{Progress}
use Rattle.desk_runs.specs.Clock.{IsSettled, settle, at_moment}
use Rattle.desk_runs.specs.Reports.{reported, withdrawn}
use Rattle.desk_runs.specs.Adding.{with_group, with_kept, CanPublish}
use Rattle.desk_runs.specs.Sound.{IsSound, IsLater, IsWithdrawable, IsObservedAtMostOnce}

-- ---- settled and sound

-- what a moment leaves is settled
abbrev pub Settles : Type 0
Settles = (s : Progress) → IsSettled (settle s)

-- another moment leaves a sound state sound
abbrev pub KeepsSound : Type 0
KeepsSound = (s : Progress) (now : Sec) → IsSound s → IsSound (settle (at_moment now s))

-- and so does a report on a running request
abbrev pub ReportKeepsSound : Type 0
ReportKeepsSound = (s : Progress) (number : RequestNo) (completes : Bool) → IsSound s → is_placed s.running number ≡ true
    → IsSound (reported number completes s)

-- a withdrawal of a group of which no request runs
abbrev pub WithdrawalKeepsSound : Type 0
WithdrawalKeepsSound = (s : Progress) (number : GroupNo) → IsSound s → IsWithdrawable number s → IsSound (withdrawn number s)

-- a new group whose windows have not passed
abbrev pub NewGroupKeepsSound : Type 0
NewGroupKeepsSound = (s : Progress) (op : Op) (asks : List Ask) → IsSound s → All (λ a. s.moment.0 < a.last.0) asks → IsSound (with_group op asks s)

-- and a publication that may be made
abbrev pub PublicationKeepsSound : Type 0
PublicationKeepsSound = (s : Progress) (kept : List Observation) → IsSound s → CanPublish kept s → IsSound (with_kept kept s)

-- ---- what goes on

-- groups only go on: none becomes pending again, so no more requests are pending; and where no request was observed twice, none is
-- afterwards
pub record GoesOn (before after : Progress) : Type 0 where
  pub later : AllZip IsLater before.groups after.groups
  pub pending : pending_count after.groups ≤ pending_count before.groups
  pub once : IsObservedAtMostOnce (before.kept ++ before.running) → IsObservedAtMostOnce (after.kept ++ after.running)

-- at another moment groups have only gone on, whatever the state and the moment
abbrev pub MomentGoesOn : Type 0
MomentGoesOn = (s : Progress) (now : Sec) → GoesOn s (settle (at_moment now s))

-- and so after a report, whether or not it completes, and whether or not its request runs or is there
abbrev pub ReportGoesOn : Type 0
ReportGoesOn = (s : Progress) (number : RequestNo) (completes : Bool) → GoesOn s (reported number completes s)

-- and so after a withdrawal, whether or not its group is there
abbrev pub WithdrawalGoesOn : Type 0
WithdrawalGoesOn = (s : Progress) (number : GroupNo) → GoesOn s (withdrawn number s)

-- ---- what is over

-- a request that isn't pending is in the same state later
abbrev pub IsOverStill : Request → Request → Type 0
IsOverStill q r = is_pending q.state ≡ false → r.state ≡ q.state

-- so are all
abbrev pub StaysOver : Progress → Progress → Type 0
StaysOver before after = AllZip IsOverStill (requests_of before.groups) (requests_of after.groups)

-- another moment leaves each request that isn't pending in its state
abbrev pub MomentLeavesOver : Type 0
MomentLeavesOver = (s : Progress) (now : Sec) → StaysOver s (settle (at_moment now s))

-- a report on a running request, which is pending
abbrev pub ReportLeavesOver : Type 0
ReportLeavesOver = (s : Progress) (number : RequestNo) (completes : Bool) → IsSound s → is_placed s.running number ≡ true
    → StaysOver s (reported number completes s)

-- and so does a withdrawal, whether or not its group is there
abbrev pub WithdrawalLeavesOver : Type 0
WithdrawalLeavesOver = (s : Progress) (number : GroupNo) → StaysOver s (withdrawn number s)

-- ---- a group in place of another

-- a group that is there may be withdrawn before another is added, or after
abbrev pub WithdrawalCommutes : Type 0
WithdrawalCommutes = (s : Progress) (number : GroupNo) (op : Op) (asks : List Ask) → IsSound s → number.0 ≤ length s.groups
    → withdrawn number (with_group op asks s) ≡ with_group op asks (withdrawn number s)
