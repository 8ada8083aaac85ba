-- `amend` keeps the desk.
use Rattle.std.proofs.Common.{◌≡◌, ◌+◌, ◌≤◌, ◌^◌, Bool, true, false, cond, ◌||◌, List, [], ◌∷◌, length, get_or, All, refl, arith, Option, Some, None}
use Rattle.std.specs.List.{find}
use Rattle.std.specs.Option.{option_map, option_or}
use Rattle.std.proofs.lemmas.Bool.{or_parts}
use Rattle.std.proofs.lemmas.List.Elements.{All-nil, All-cons}
use Rattle.plan_base.specs.declared.number.GroupNo.{GroupNo}
use Rattle.plan_base.specs.States.{is_completed}
use Rattle.request_model.specs.Ranges.{IsGroup}
use Rattle.request_model.specs.declared.group.GroupDoc.{GroupDoc}
use Rattle.desk_events.specs.declared.refusal.Refusal.{Refusal}
use Rattle.desk_events.specs.declared.refusal.Refusal.TheVariants.{GroupClosed, GroupStarted}
use Rattle.desk_runs.specs.declared.group.Group.{Group}
use Rattle.desk_runs.specs.declared.group.Request.{Request}
use Rattle.desk_runs.specs.Numbers.{group_at, is_placed}
use Rattle.desk_runs.specs.Reports.{withdrawn}
use Rattle.desk_runs.specs.States.{is_open, state_of}
use Rattle.desk_runs.specs.Sound.{IsWithdrawable}
use Rattle.desk_runs.proofs.GoingOn.{withdrawal_goes_on}
use Rattle.desk_runs.proofs.Opened.{as_many}
use Rattle.desk_core.specs.Desk.{DeskSeen}
use Rattle.desk_core.specs.Kept.{IsDesk, most_added}
use Rattle.desk_core.specs.Submitting.{on_submit}
use Rattle.desk_core.specs.Closing.{begun_member, ending_refusal, without_group, on_amend}
use Rattle.desk_core.proofs.Along.{all_seconds}
use Rattle.desk_core.proofs.KeptSubmitting.{submit_keeps, submit_seconds, submit_groups}
use Rattle.desk_core.proofs.KeptTiming.{without_keeps, without_seconds}

none_begun : (p : Request → Bool) (qs : List Request) → option_map (λ q. GroupStarted q.number) (find p qs) ≡ None → All (λ q. p q ≡ false) qs
none_begun p [] e = All-nil (λ q. p q ≡ false)
none_begun p (q ∷ qs) e = by (p q) refl e (none_begun p qs)
  where
    by : (b : Bool) → p q ≡ b → option_map (λ x. GroupStarted x.number) (cond b (Some q) (find p qs)) ≡ None
        → (option_map (λ x. GroupStarted x.number) (find p qs) ≡ None → All (λ x. p x ≡ false) qs) → All (λ x. p x ≡ false) (q ∷ qs)
    by true is f rest = cc
    by false is f rest = All-cons (λ x. p x ≡ false) q qs is (rest f)

-- a group that isn't refused may be withdrawn
pub may_amend : (d : DeskSeen) (number : GroupNo) → ending_refusal (begun_member d) (group_at d.progress.groups number) ≡ None
    → IsWithdrawable number d.progress
may_amend d number e = by (group_at d.progress.groups number) refl e
  where
    open_one : (g : Group) (b : Bool) → (let o : Option Refusal = cond b (begun_member d g) (Some (GroupClosed (state_of g))) in o) ≡ None
        → begun_member d g ≡ None
    open_one g true f = f
    open_one g false f = cc

    by : (o : Option Group) → group_at d.progress.groups number ≡ o → ending_refusal (begun_member d) o ≡ None → IsWithdrawable number d.progress
    by None is f = cc
    by (Some g) is f =
        let none = none_begun (λ q. is_placed d.progress.running q.number || is_completed q.state) g.requests (open_one g (is_open g) f) in
        record {
          group = g;
          there = is;
          idle = λ i q l. (or_parts (is_placed d.progress.running (get_or g.requests i q).number) (is_completed (get_or g.requests i q).state) (none i q l)).0;
        }

-- neither refuses where the first of both doesn't
neither : (a b : Option Refusal) → option_or a b ≡ None → (a ≡ None) × (b ≡ None)
neither None b e = (refl, e)
neither (Some r) b e = absurd (cc)

pub amend_keeps : (d : DeskSeen) (old : GroupNo) (document : GroupDoc) → IsDesk d → IsGroup document → (on_amend d old document).refusal ≡ None
    → IsDesk (on_amend d old document).desk
amend_keeps d old document h g e =
    let freed : DeskSeen = without_group old d in
    let none = neither (ending_refusal (begun_member d) (group_at d.progress.groups old)) (on_submit freed document).refusal e in
    submit_keeps freed document (without_keeps d old h (may_amend d old none.0)) g none.1

pub amend_seconds : (d : DeskSeen) (old : GroupNo) (document : GroupDoc) → IsDesk d → IsGroup document → all_seconds d.books ≤ 10 ^ 18
    → (on_amend d old document).refusal ≡ None → all_seconds (on_amend d old document).desk.books ≤ all_seconds d.books + most_added
amend_seconds d old document h g few e =
    let freed : DeskSeen = without_group old d in
    let none = neither (ending_refusal (begun_member d) (group_at d.progress.groups old)) (on_submit freed document).refusal e in
    let less = without_seconds d old h few in
    let more = submit_seconds freed document (without_keeps d old h (may_amend d old none.0)) g in
    omega (arith, less, more)

-- with at most one group more
pub amend_groups : (d : DeskSeen) (old : GroupNo) (document : GroupDoc) → length (on_amend d old document).desk.progress.groups ≤ length d.progress.groups + 1
amend_groups d old document =
    let more = submit_groups (without_group old d) document in
    let same = as_many d.progress.groups (withdrawn old d.progress).groups (withdrawal_goes_on d.progress old).later in
    omega (arith, more, same)
