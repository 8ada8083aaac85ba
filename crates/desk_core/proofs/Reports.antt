-- What a report decides, by what is found.
use Rattle.std.proofs.Common.{◌≡◌, ℕ, ◌<◌, ◌≤◌, nat_lt, nat_le, Bool, true, false, cond, not, sym, ◌∙◌, ap, subst, Option, Some, None}
use Rattle.std.proofs.lemmas.Bool.{lt-ltb, le-ltb, le-leb, lt-leb}
use Rattle.plan_base.specs.declared.number.RequestNo.{RequestNo}
use Rattle.desk_events.specs.declared.refusal.Refusal.{Refusal}
use Rattle.desk_events.specs.declared.refusal.Refusal.TheVariants.{NoSuchRequest, NotRunning, UsedTooLong}
use Rattle.desk_runs.specs.declared.group.Request.{Request}
use Rattle.desk_runs.specs.Numbers.{is_placed}
use Rattle.desk_core.specs.declared.desk.Submitted.{Submitted}
use Rattle.desk_core.specs.declared.desk.Wanted.{Wanted}
use Rattle.desk_core.specs.declared.timing.Place.{Place}
use Rattle.desk_core.specs.Desk.{DeskSeen, Decision}
use Rattle.desk_core.specs.Timing.{request_with, IsFoundAt, on_refused, on_failed, on_completed, on_reported, on_report}

abbrev by_threshold : DeskSeen → RequestNo → ℕ → ℕ → Submitted → Request → Wanted → Decision
by_threshold d n percent used w q v = cond (nat_le v.threshold percent) (on_completed d n used w v) (on_failed d n)

abbrev by_use : DeskSeen → RequestNo → ℕ → ℕ → Submitted → Request → Wanted → Decision
by_use d n percent used w q v = cond (nat_lt q.seconds used) (on_refused d n (UsedTooLong q.seconds used)) (by_threshold d n percent used w q v)

running_so : (d : DeskSeen) (n : RequestNo) (percent used : ℕ) (place : Place) (f : IsFoundAt d n place) (b : Bool) → is_placed d.progress.running n ≡ b
    → on_report d n percent used ≡ cond (not b) (on_refused d n NotRunning) (by_use d n percent used f.submitted f.request f.wanted)
running_so d n percent used place f b e =
    ap (on_reported d n percent used) f.is
    ∙ ap (λ (t : Bool). cond (not t) (on_refused d n NotRunning) (by_use d n percent used f.submitted f.request f.wanted)) e

pub not_found : (d : DeskSeen) (n : RequestNo) (percent used : ℕ) → request_with d n ≡ None → (on_report d n percent used).refusal ≡ Some NoSuchRequest
not_found d n percent used e = ap (λ (o : Option (Submitted × (Request × Wanted))). (on_reported d n percent used o).refusal) e

pub not_running : (d : DeskSeen) (n : RequestNo) (percent used : ℕ) (place : Place) → IsFoundAt d n place → is_placed d.progress.running n ≡ false
    → (on_report d n percent used).refusal ≡ Some NotRunning
not_running d n percent used place f e = ap (λ (x : Decision). x.refusal) (running_so d n percent used place f false e)

pub too_long : (d : DeskSeen) (n : RequestNo) (percent used most : ℕ) (place : Place) (f : IsFoundAt d n place) → is_placed d.progress.running n ≡ true
    → most ≡ f.request.seconds → most < used → (on_report d n percent used).refusal ≡ Some (UsedTooLong most used)
too_long d n percent used most place f e m l =
    ap (λ (x : Decision). x.refusal) (running_so d n percent used place f true e)
    ∙ ap (λ (t : Bool). (cond t (on_refused d n (UsedTooLong f.request.seconds used))
    (by_threshold d n percent used f.submitted f.request f.wanted)).refusal) (lt-ltb f.request.seconds used (subst (λ (x : ℕ). x < used) m l))
    ∙ ap (λ (x : ℕ). let o : Option Refusal = Some (UsedTooLong x used) in o) (sym m)

used_so : (d : DeskSeen) (n : RequestNo) (percent used : ℕ) (place : Place) (f : IsFoundAt d n place) → is_placed d.progress.running n ≡ true
    → used ≤ f.request.seconds → on_report d n percent used ≡ by_threshold d n percent used f.submitted f.request f.wanted
used_so d n percent used place f e l =
    running_so d n percent used place f true e
    ∙ ap (λ (t : Bool). cond t (on_refused d n (UsedTooLong f.request.seconds used)) (by_threshold d n percent used f.submitted f.request f.wanted))
    (le-ltb f.request.seconds used l)

pub fails : (d : DeskSeen) (n : RequestNo) (percent used least : ℕ) (place : Place) (f : IsFoundAt d n place) → is_placed d.progress.running n ≡ true
    → used ≤ f.request.seconds → least ≡ f.wanted.threshold → percent < least → on_report d n percent used ≡ on_failed d n
fails d n percent used least place f e l m p =
    used_so d n percent used place f e l
    ∙ ap (λ (t : Bool). cond t (on_completed d n used f.submitted f.wanted) (on_failed d n))
    (lt-leb f.wanted.threshold percent (subst (λ (x : ℕ). percent < x) m p))

pub completes : (d : DeskSeen) (n : RequestNo) (percent used least : ℕ) (place : Place) (f : IsFoundAt d n place) → is_placed d.progress.running n ≡ true
    → used ≤ f.request.seconds → least ≡ f.wanted.threshold → least ≤ percent
    → on_report d n percent used ≡ on_completed d n used f.submitted f.wanted
completes d n percent used least place f e l m p =
    used_so d n percent used place f e l
    ∙ ap (λ (t : Bool). cond t (on_completed d n used f.submitted f.wanted) (on_failed d n))
    (le-leb f.wanted.threshold percent (subst (λ (x : ℕ). x ≤ percent) m p))
