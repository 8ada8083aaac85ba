-- `clock` and `withdraw` keep the desk.
use Rattle.std.proofs.Common.{◌≡◌, ◌≤◌, ◌^◌, Bool, true, false, cond, List, [], ◌∷◌, All, refl, Option, Some, None}
use Rattle.std.specs.List.{find}
use Rattle.std.specs.Option.{option_map}
use Rattle.std.proofs.lemmas.List.Elements.{All-nil, All-cons}
use Rattle.plan_base.specs.declared.number.GroupNo.{GroupNo}
use Rattle.plan_base.specs.declared.number.Sec.{Sec}
use Rattle.plan_json.specs.Moment.{last_moment}
use Rattle.desk_events.specs.declared.refusal.Refusal.{Refusal}
use Rattle.desk_events.specs.declared.refusal.Refusal.TheVariants.{GroupClosed, GroupStarted}
use Rattle.desk_runs.specs.declared.group.Group.{Group}
use Rattle.desk_runs.specs.declared.group.Request.{Request}
use Rattle.desk_runs.specs.Clock.{at_moment, settle}
use Rattle.desk_runs.specs.Numbers.{group_at, is_placed}
use Rattle.desk_runs.specs.Reports.{withdrawn}
use Rattle.desk_runs.specs.States.{is_open, state_of}
use Rattle.desk_runs.specs.Sound.{IsWithdrawable}
use Rattle.desk_runs.proofs.GoingOn.{moment_goes_on, withdrawal_goes_on}
use Rattle.desk_runs.proofs.Sounds.{settle_sound, ready_at}
use Rattle.desk_runs.proofs.Withdrawn.{withdrawable_sound}
use Rattle.desk_core.specs.Desk.{DeskSeen}
use Rattle.desk_core.specs.Kept.{IsDesk}
use Rattle.desk_core.specs.Closing.{running_member, ending_refusal, without_group, on_withdraw}
use Rattle.desk_core.specs.Timing.{on_clock}
use Rattle.desk_core.proofs.Along.{all_seconds}
use Rattle.desk_core.proofs.WentOn.{progress_keeps, progress_seconds}

-- `clock` at a moment of the calendar
pub clock_keeps : (d : DeskSeen) (at : Sec) → IsDesk d → at.0 ≤ last_moment → IsDesk (on_clock d at).desk
clock_keeps d at h moment =
    progress_keeps d (settle (at_moment at d.progress)) h (settle_sound (at_moment at d.progress) (ready_at d.progress at h.sound))
    (moment_goes_on d.progress at) refl moment

pub clock_seconds : (d : DeskSeen) (at : Sec) → IsDesk d → all_seconds d.books ≤ 10 ^ 18 → all_seconds (on_clock d at).desk.books ≤ all_seconds d.books
clock_seconds d at h few = progress_seconds d (settle (at_moment at d.progress)) h (moment_goes_on d.progress at).later few

-- ---- withdraw

none_running : (p : Request → Bool) (qs : List Request) → option_map (λ q. GroupStarted q.number) (find p qs) ≡ None → All (λ q. p q ≡ false) qs
none_running p [] e = All-nil (λ q. p q ≡ false)
none_running p (q ∷ qs) e = by (p q) refl e (none_running p qs)
  where
    by : (b : Bool) → p q ≡ b → option_map (λ x. GroupStarted x.number) (cond b (Some q) (find p qs)) ≡ None
        → (option_map (λ x. GroupStarted x.number) (find p qs) ≡ None → All (λ x. p x ≡ false) qs) → All (λ x. p x ≡ false) (q ∷ qs)
    by true is f rest = cc
    by false is f rest = All-cons (λ x. p x ≡ false) q qs is (rest f)

-- a group that isn't refused may be withdrawn
pub may_withdraw : (d : DeskSeen) (number : GroupNo) → ending_refusal (running_member d) (group_at d.progress.groups number) ≡ None
    → IsWithdrawable number d.progress
may_withdraw d number e = by (group_at d.progress.groups number) refl e
  where
    open_one : (g : Group) (b : Bool) → (let o : Option Refusal = cond b (running_member d g) (Some (GroupClosed (state_of g))) in o) ≡ None
        → running_member d g ≡ None
    open_one g true f = f
    open_one g false f = cc

    by : (o : Option Group) → group_at d.progress.groups number ≡ o → ending_refusal (running_member d) o ≡ None → IsWithdrawable number d.progress
    by None is f = cc
    by (Some g) is f = record { group = g; there = is; idle = none_running (λ q. is_placed d.progress.running q.number) g.requests (open_one g (is_open g) f) }

-- the desk without a group that may be withdrawn
pub without_keeps : (d : DeskSeen) (number : GroupNo) → IsDesk d → IsWithdrawable number d.progress → IsDesk (without_group number d)
without_keeps d number h may =
    progress_keeps d (withdrawn number d.progress) h (withdrawable_sound d.progress number h.sound may) (withdrawal_goes_on d.progress number) refl h.moment

pub without_seconds : (d : DeskSeen) (number : GroupNo) → IsDesk d → all_seconds d.books ≤ 10 ^ 18
    → all_seconds (without_group number d).books ≤ all_seconds d.books
without_seconds d number h few = progress_seconds d (withdrawn number d.progress) h (withdrawal_goes_on d.progress number).later few

pub withdraw_keeps : (d : DeskSeen) (number : GroupNo) → IsDesk d → (on_withdraw d number).refusal ≡ None → IsDesk (on_withdraw d number).desk
withdraw_keeps d number h e = without_keeps d number h (may_withdraw d number e)

pub withdraw_seconds : (d : DeskSeen) (number : GroupNo) → IsDesk d → all_seconds d.books ≤ 10 ^ 18
    → all_seconds (on_withdraw d number).desk.books ≤ all_seconds d.books
withdraw_seconds d number h few = without_seconds d number h few
