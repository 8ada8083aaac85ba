-- `withdraw` and `amend`: a group ends, or another takes its place.
use Rattle.std.specs.Prelude.{◌≡◌, ℕ, nat_lt, true, false, ◌∷◌, if◌then◌else◌, ◌||◌, List, [], Option, Some, None, find, Result, Ok, Err}
use Rattle.std.specs.Option.{option_map, option_or}
use Rattle.plan_base.specs.declared.number.GroupNo.{GroupNo}
use Rattle.request_model.specs.declared.group.GroupDoc.{GroupDoc}
use Rattle.desk_runs.specs.declared.group.Group.{Group}
use Rattle.plan_base.specs.States.{is_completed}
use Rattle.desk_runs.specs.States.{is_open, any_in, state_of}
use Rattle.desk_runs.specs.Progress.{Progress}
use Rattle.desk_runs.specs.Sound.{IsIdle}
use Rattle.desk_events.specs.declared.reply.GroupRefund.{GroupRefund}
use Rattle.desk_runs.specs.Numbers.{group_at, is_placed}
use Rattle.desk_runs.specs.Reports.{withdrawn}
use Rattle.desk_events.specs.declared.refusal.Refusal.{Refusal}
use Rattle.desk_events.specs.declared.refusal.Refusal.TheVariants.{NoSuchGroup, GroupClosed, GroupStarted}
use Rattle.desk_events.specs.declared.reply.Reply.{Reply}
use Rattle.desk_events.specs.declared.reply.Reply.TheVariants as reply
use Rattle.desk_core.specs.Desk.{DeskSeen, Decision}
use Rattle.desk_core.specs.Holds.{with_progress, refunds_of}
use Rattle.desk_core.specs.Asking.{MadeSeen, made_of}
use Rattle.desk_core.specs.Submitting.{group_of, charge_for, numbers_for, on_made}

-- the lowest member that is running
abbrev pub running_member : DeskSeen → Group → Option Refusal
running_member d g = option_map (λ q. GroupStarted q.number) (find (λ q. is_placed d.progress.running q.number) g.requests)

-- the lowest member that is running or completed
abbrev pub begun_member : DeskSeen → Group → Option Refusal
begun_member d g = option_map (λ q. GroupStarted q.number) (find (λ q. is_placed d.progress.running q.number || is_completed q.state) g.requests)

-- why a group can't be ended: it isn't there, it is closed, or a member has started
abbrev pub ending_refusal : (Group → Option Refusal) → Option Group → Option Refusal
ending_refusal started None = Some NoSuchGroup
ending_refusal started (Some g) = if is_open g then started g else Some (GroupClosed ((state_of g)))

-- the desk without the group: its pending requests are canceled, what it held is free, and its ipp charge is refunded
abbrev pub without_group : GroupNo → DeskSeen → DeskSeen
without_group number d = with_progress (withdrawn number d.progress) d

-- `withdraw`: no such group, closed, or a member is running; else its pending requests are canceled, their kept observations
-- are dropped, its holds end, and its ipp charge is refunded where no member was completed
abbrev pub on_withdraw : DeskSeen → GroupNo → Decision
on_withdraw d number = record {
  refusal = ending_refusal (running_member d) (group_at d.progress.groups number);
  reply = reply.Withdrawn (refunds_of d (withdrawn number d.progress));
  desk = without_group number d;
}

-- ---- amend

-- the reply to an amendment
abbrev pub amended_reply : DeskSeen → GroupNo → GroupDoc → List MadeSeen → Reply
amended_reply d old document made =
    let freed = without_group old d in
    reply.Amended (group_of freed document made).number (charge_for freed document made)
    (refunds_of d (withdrawn old d.progress)) old (numbers_for freed document made)

-- the requests that a document makes, none where it is refused
abbrev pub made_or_none : Result (List MadeSeen) Refusal → List MadeSeen
made_or_none (Ok made) = made
made_or_none (Err refusal) = []

-- what is decided on a document with the requests that it makes, over the desk without the old group
abbrev pub on_freed : DeskSeen → GroupNo → GroupDoc → Result (List MadeSeen) Refusal → Decision
on_freed d old document made = record (on_made (without_group old d) document made) { reply = amended_reply d old document (made_or_none made) }

-- `amend`: no such group, closed, or a member is running or completed; then the refusals of `submit`, with the old group's
-- requests not counted and its holds and ipp charge given back; else the old group is withdrawn and the new one submitted
abbrev pub on_amend : DeskSeen → GroupNo → GroupDoc → Decision
on_amend d old document =
    let decided = on_freed d old document (made_of (without_group old d) document) in
    record decided { refusal = option_or (ending_refusal (begun_member d) (group_at d.progress.groups old)) decided.refusal }

-- a group that may be amended: it is there and open, and no member is running or completed
pub record IsAmendable (number : GroupNo) (s : Progress) : Type 0 where
  pub group : Group
  pub there : group_at s.groups number ≡ Some group
  pub opened : is_open group ≡ true
  pub idle : IsIdle s.running group
  pub none : any_in is_completed group ≡ false

-- the refund of an ipp charge that is told, where there was one
abbrev pub refund_for : GroupNo → ℕ → List GroupRefund
refund_for number charged = if nat_lt 0 charged then record { group = number; seconds = charged } ∷ [] else []
