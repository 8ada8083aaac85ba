-- `report` keeps the desk.
use Rattle.std.proofs.Common.{◌≡◌, ℕ, ◌+◌, ◌≤◌, ◌^◌, nat_lt, nat_le, Bool, true, false, cond, not, List, [], ◌∷◌, ◌++◌, All, refl, arith, Option, Some, None}
use Rattle.std.specs.Bool.{IsTrue}
use Rattle.std.specs.Option.{IfSome, option_map_or}
use Rattle.std.proofs.lemmas.List.Elements.{All-weaker}
use Rattle.std.proofs.lemmas.List.Sums.{sum_by_push}
use Rattle.plan_base.specs.declared.number.RequestNo.{RequestNo}
use Rattle.allocations.specs.declared.entry.Entry.{Entry}
use Rattle.allocations.specs.declared.entry.Hold.{Hold}
use Rattle.allocations.specs.Books.{Books, has_grant}
use Rattle.allocations.specs.Changes.{with_entry, request_entry}
use Rattle.allocations.proofs.Granted.{has_grant-append}
use Rattle.desk_events.specs.declared.refusal.Refusal.TheVariants.{NotRunning, UsedTooLong}
use Rattle.desk_runs.specs.declared.group.Group.{Group}
use Rattle.desk_runs.specs.declared.group.Request.{Request}
use Rattle.desk_runs.specs.Numbers.{group_with, is_placed}
use Rattle.desk_runs.specs.Reports.{reported}
use Rattle.desk_runs.proofs.GoingOn.{report_goes_on}
use Rattle.desk_runs.proofs.Reporting.{reported_sound}
use Rattle.desk_core.specs.declared.desk.Submitted.{Submitted}
use Rattle.desk_core.specs.declared.desk.Wanted.{Wanted}
use Rattle.desk_core.specs.Desk.{DeskSeen, Decision}
use Rattle.desk_core.specs.Holds.{key_of}
use Rattle.desk_core.specs.Kept.{IsDesk}
use Rattle.desk_core.specs.Timing.{request_with, charged, on_refused, on_failed, on_completed, on_reported, on_report}
use Rattle.desk_core.proofs.Along.{all_seconds}
use Rattle.desk_core.proofs.WentOn.{progress_keeps, progress_seconds}

-- ---- one more entry

with_more : (xs : List Entry) (e : Entry) (o : Option Hold) → IfSome o (λ h. IsTrue (has_grant xs h.key))
    → IfSome o (λ h. IsTrue (has_grant (xs ++ e ∷ []) h.key))
with_more xs e None h = tt
with_more xs e (Some x) h = has_grant-append xs (e ∷ []) x.key h

pub entry_keeps : (d : DeskSeen) (e : Entry) → IsDesk d → IsDesk (record d { books = with_entry e d.books })
entry_keeps d e h = record {
  opening = h.opening;
  len = h.len;
  moment = h.moment;
  sound = h.sound;
  along = h.along;
  pending = h.pending;
  once = h.once;
  held = h.held;
  granted =
      All-weaker (λ g. All (λ x. IsTrue (has_grant d.books.entries x.key)) g.holds)
      (λ g. All (λ x. IsTrue (has_grant (d.books.entries ++ e ∷ []) x.key)) g.holds)
      (λ g all. All-weaker (λ x. IsTrue (has_grant d.books.entries x.key)) (λ x. IsTrue (has_grant (d.books.entries ++ e ∷ []) x.key))
      (λ x one. has_grant-append d.books.entries (e ∷ []) x.key one) g.holds all) d.books.holds h.granted;
  charged =
      All-weaker (λ g. IfSome g.ipp (λ x. IsTrue (has_grant d.books.entries x.key)))
      (λ g. IfSome g.ipp (λ x. IsTrue (has_grant (d.books.entries ++ e ∷ []) x.key)))
      (λ g one. with_more d.books.entries e g.ipp one) d.books.holds h.charged;
  closures = h.closures;
  published = h.published;
}

pub entry_seconds : (books : Books) (e : Entry) → all_seconds (with_entry e books) ≡ all_seconds books + e.seconds
entry_seconds books e = let sum = sum_by_push (λ (x : Entry). x.seconds) books.entries e in omega (arith, sum)

charged_by : (d : DeskSeen) (number : RequestNo) (used : ℕ) (w : Submitted) (v : Wanted) → (T : DeskSeen → Type 0) → T d
    → ((g : Group) → T (record d { books = with_entry (request_entry (key_of w.document v) used g.number number) d.books })) → T (charged number used w v d)
charged_by d number used w v T none some = by (group_with d.progress.groups number)
  where
    by : (o : Option Group) → T (record d
        { books = option_map_or (λ g. with_entry (request_entry (key_of w.document v) used g.number number) d.books) o d.books })
    by None = none
    by (Some g) = some g

charged_keeps : (d : DeskSeen) (number : RequestNo) (used : ℕ) (w : Submitted) (v : Wanted) → IsDesk d → IsDesk (charged number used w v d)
charged_keeps d number used w v h = charged_by d number used w v IsDesk h (λ g. entry_keeps d (request_entry (key_of w.document v) used g.number number) h)

charged_seconds : (d : DeskSeen) (number : RequestNo) (used : ℕ) (w : Submitted) (v : Wanted)
    → all_seconds (charged number used w v d).books ≤ all_seconds d.books + used
charged_seconds d number used w v =
    charged_by d number used w v (λ x. all_seconds x.books ≤ all_seconds d.books + used) (omega arith)
    (λ g. let same = entry_seconds d.books (request_entry (key_of w.document v) used g.number number) in omega (arith, same))

-- ---- report

-- what a report that isn't refused leaves, at most so many seconds more
pub record IsKept (d after : DeskSeen) (used : ℕ) : Type 0 where
  pub desk : IsDesk after
  pub seconds : all_seconds d.books + used ≤ 10 ^ 18 → all_seconds after.books ≤ all_seconds d.books + used

failed_keeps : (d : DeskSeen) (number : RequestNo) (used : ℕ) → IsDesk d → is_placed d.progress.running number ≡ true → IsKept d (on_failed d number).desk used
failed_keeps d number used h placed = record {
  desk = progress_keeps d (reported number false d.progress) h (reported_sound d.progress number false h.sound placed)
      (report_goes_on d.progress number false) refl h.moment;
  seconds = λ few. let less = progress_seconds d (reported number false d.progress) h (report_goes_on d.progress number false).later
      (omega (arith, few)) in omega (arith, less);
}

completed_keeps : (d : DeskSeen) (number : RequestNo) (used : ℕ) (w : Submitted) (v : Wanted) → IsDesk d → is_placed d.progress.running number ≡ true
    → IsKept d (on_completed d number used w v).desk used
completed_keeps d number used w v h placed =
    let c : DeskSeen = charged number used w v d in
    let more : IsDesk c = charged_keeps d number used w v h in
    record {
      desk = progress_keeps c (reported number true d.progress) more (reported_sound d.progress number true h.sound placed)
          (report_goes_on d.progress number true) refl h.moment;
      seconds = λ few.
          let a = charged_seconds d number used w v in
          let less = progress_seconds c (reported number true d.progress) more (report_goes_on d.progress number true).later (omega (arith, few, a)) in
          omega (arith, a, less);
    }

-- `report` keeps the desk, and adds at most the seconds that were used
pub report_keeps : (d : DeskSeen) (number : RequestNo) (percent used : ℕ) → IsDesk d → (on_report d number percent used).refusal ≡ None
    → IsKept d (on_report d number percent used).desk used
report_keeps d number percent used h e = found (request_with d number) e
  where
    by : (p : Submitted × (Request × Wanted)) (a b c : Bool) → is_placed d.progress.running number ≡ a
        → (let x : Decision = cond (not a) (on_refused d number NotRunning)
        (cond b (on_refused d number (UsedTooLong p.1.0.seconds used)) (cond c (on_completed d number used p.0 p.1.1) (on_failed d number))) in
        x.refusal) ≡ None
        → IsKept d (let x : Decision = cond (not a) (on_refused d number NotRunning)
        (cond b (on_refused d number (UsedTooLong p.1.0.seconds used)) (cond c (on_completed d number used p.0 p.1.1) (on_failed d number))) in
        x.desk) used
    by p false b c is f = cc
    by p true true c is f = cc
    by p true false true is f = completed_keeps d number used p.0 p.1.1 h is
    by p true false false is f = failed_keeps d number used h is

    found : (o : Option (Submitted × (Request × Wanted))) → (on_reported d number percent used o).refusal ≡ None
        → IsKept d (on_reported d number percent used o).desk used
    found None f = cc
    found (Some p) f = by p (is_placed d.progress.running number) (nat_lt p.1.0.seconds used) (nat_le p.1.1.threshold percent) refl f
