-- `clock` and `report`: time goes on, and observations end.
use Rattle.std.specs.Prelude.{ℕ, nat_lt, nat_le, not, true, false, Option, Some, None, find, slice_get, All, IsTrue, if◌then◌else◌, ◌≡◌, ◌+◌, ◌-◌, ◌≤◌}
use Rattle.std.specs.List.{zip}
use Rattle.std.specs.Option.{option_map, option_map_or}
use Rattle.plan_base.specs.declared.number.RequestNo.{RequestNo}
use Rattle.plan_base.specs.declared.number.Sec.{Sec}
use Rattle.allocations.specs.declared.key.Key.{Key}
use Rattle.allocations.specs.Books.{has_grant, held_of}
use Rattle.allocations.specs.Changes.{with_entry, request_entry}
use Rattle.desk_runs.specs.declared.group.Group.{Group}
use Rattle.desk_runs.specs.declared.group.Request.{Request}
use Rattle.plan_base.specs.declared.state.RequestState.TheVariants.{WindowExpired, Canceled}
use Rattle.plan_base.specs.States.{is_in, is_window_expired}
use Rattle.plan_base.specs.Limits.{most_seconds}
use Rattle.desk_runs.specs.Numbers.{is_request, has_request, group_with, is_placed}
use Rattle.desk_runs.specs.Clock.{at_moment, settle, started, beginning, ending, requests_in, became_in}
use Rattle.desk_runs.specs.Reports.{reported}
use Rattle.desk_events.specs.declared.refusal.Refusal.{Refusal}
use Rattle.desk_events.specs.declared.refusal.Refusal.TheVariants.{ClockBack, NoSuchRequest, NotRunning, UsedTooLong}
use Rattle.desk_events.specs.declared.reply.Reply.{Reply}
use Rattle.desk_events.specs.declared.reply.Reply.TheVariants as reply
use Rattle.desk_core.specs.declared.desk.Submitted.{Submitted}
use Rattle.desk_core.specs.declared.desk.Wanted.{Wanted}
use Rattle.desk_core.specs.declared.timing.Place.{Place}
use Rattle.desk_core.specs.Desk.{DeskSeen, Decision}
use Rattle.desk_core.specs.Holds.{key_of, is_refunded, groups_along, with_progress, refunds_of}

-- ---- clock

-- the reply to a moment
abbrev pub clocked_reply : DeskSeen → Sec → Reply
clocked_reply d at =
    let before = at_moment at d.progress in
    reply.Clocked (became_in is_window_expired d.progress.groups (settle before).groups) (requests_in (ending (started before)))
    (refunds_of d (settle before)) (requests_in (beginning before))

-- `clock`: the moment is before now; else it is now, and does what a moment does
abbrev pub on_clock : DeskSeen → Sec → Decision
on_clock d at = record {
  refusal = if nat_lt at.0 d.progress.moment.0 then Some (ClockBack at d.progress.moment) else None;
  reply = clocked_reply d at;
  desk = with_progress (settle (at_moment at d.progress)) d;
}

-- ---- report

-- a request with what was wanted of it
abbrev pub member_of : RequestNo → Submitted × Group → Option (Submitted × (Request × Wanted))
member_of number p = option_map (λ m. (p.0, m)) (find (λ m. is_request number m.0) (zip p.1.requests p.0.requests))

-- the group of a request as it was submitted, and the request
abbrev pub request_with : DeskSeen → RequestNo → Option (Submitted × (Request × Wanted))
request_with d number = option_map_or (member_of number) (find (λ p. has_request number p.1) (zip d.groups d.progress.groups)) None

-- where the request with a number stands: in which group, and at which place of that
pub record IsFoundAt (d : DeskSeen) (number : RequestNo) (place : Place) : Type 0 where
  pub submitted : Submitted
  pub group : Group
  pub request : Request
  pub wanted : Wanted
  pub known : group_with d.progress.groups number ≡ Some group
  pub numbered : group.number ≡ place.group
  pub from : 1 ≤ place.group.0
  pub submitted_at : slice_get d.groups (place.group.0 - 1) ≡ Some submitted
  pub group_at : slice_get d.progress.groups (place.group.0 - 1) ≡ Some group
  pub request_at : slice_get group.requests place.member ≡ Some request
  pub wanted_at : slice_get submitted.requests place.member ≡ Some wanted
  pub first : find (λ m. is_request number m.0) (zip group.requests submitted.requests) ≡ Some (request, wanted)
  pub is : request_with d number ≡ Some (submitted, (request, wanted))

-- the books with the seconds that a request has used
abbrev pub charged : RequestNo → ℕ → Submitted → Wanted → DeskSeen → DeskSeen
charged number used w q d =
    record d {
      books = option_map_or (λ g. with_entry (request_entry (key_of w.document q) used g.number number) d.books)
          (group_with d.progress.groups number) d.books;
    }

-- what a report that completes a request may charge: no group is refunded, the account has a grant, and what is held of it is
-- less then by at least what is charged
pub record CanCharge (d : DeskSeen) (number : RequestNo) (used : ℕ) (key : Key) : Type 0 where
  pub short : used ≤ most_seconds
  pub none : All (λ p. is_refunded p.1.0 p.1.1 ≡ false) (groups_along d (reported number true d.progress))
  pub granted : IsTrue (has_grant d.books.entries key)
  pub less : used + held_of (with_progress (reported number true d.progress) d).books.holds key ≤ held_of d.books.holds key

-- a report at or above the threshold completes the request and charges what it used; of a ONEOF the other pending members
-- are canceled
abbrev pub on_completed : DeskSeen → RequestNo → ℕ → Submitted → Wanted → Decision
on_completed d number used w q =
    let after = reported number true d.progress in
    record {
      refusal = None;
      reply = reply.Completed (became_in (is_in Canceled) d.progress.groups after.groups) used;
      desk = with_progress after (charged number used w q d);
    }

-- a report below it is a failure and charges nothing
abbrev pub on_failed : DeskSeen → RequestNo → Decision
on_failed d number =
    let after = reported number false d.progress in
    record {
      refusal = None;
      reply = reply.Failed (became_in (is_in WindowExpired) d.progress.groups after.groups) (refunds_of d after);
      desk = with_progress after d;
    }

-- a report that is refused
abbrev pub on_refused : DeskSeen → RequestNo → Refusal → Decision
on_refused d number refusal = record (on_failed d number) { refusal = Some refusal }

-- a report on a request that is there: it isn't running, or more is used than it takes; else by the threshold
abbrev pub on_reported : DeskSeen → RequestNo → ℕ → ℕ → Option (Submitted × (Request × Wanted)) → Decision
on_reported d number percent used None = on_refused d number NoSuchRequest
on_reported d number percent used (Some p) =
    if not (is_placed d.progress.running number) then on_refused d number NotRunning
    else (if nat_lt p.1.0.seconds used then on_refused d number (UsedTooLong p.1.0.seconds used)
    else (if nat_le p.1.1.threshold percent then on_completed d number used p.0 p.1.1 else on_failed d number))

-- `report`: no such request, not running, or more used than it takes; else it stops running, and is completed or has failed
abbrev pub on_report : DeskSeen → RequestNo → ℕ → ℕ → Decision
on_report d number percent used = on_reported d number percent used (request_with d number)
