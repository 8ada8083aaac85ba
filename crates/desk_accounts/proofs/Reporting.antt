-- `report` adds to the ledger what it tells.
use Rattle.std.proofs.Common.{◌≡◌, ◌∙◌, ap, sym, subst, refl, ℕ, ◌+◌, ◌≤◌, nat_lt, nat_le, Bool, true, false, cond, not, List, [], ◌∷◌, ◌++◌, fold}
use Rattle.std.proofs.Common.{arith, Option, Some, None}
use Rattle.std.specs.Prelude.{if◌then◌else◌}
use Rattle.std.specs.List.{position}
use Rattle.std.specs.Option.{option_map_or}
use Rattle.std.proofs.lemmas.Bool.{ltb-false}
use Rattle.plan_base.specs.declared.number.RequestNo.{RequestNo}
use Rattle.allocations.specs.declared.entry.Entry.{Entry}
use Rattle.allocations.specs.declared.key.Key.{Key}
use Rattle.allocations.specs.Books.{Books, held_of}
use Rattle.allocations.specs.Changes.{with_entry, request_entry}
use Rattle.allocations.specs.Key.{is_key}
use Rattle.allocations.proofs.Keys.{is_key-true}
use Rattle.desk_runs.specs.declared.group.Group.{Group}
use Rattle.desk_runs.specs.declared.group.Request.{Request}
use Rattle.desk_runs.specs.Numbers.{is_request, group_with, is_placed}
use Rattle.desk_runs.specs.Progress.{Progress}
use Rattle.desk_runs.specs.Reports.{reported}
use Rattle.desk_runs.proofs.GoingOn.{report_goes_on}
use Rattle.desk_events.specs.declared.command.Command.TheVariants as command
use Rattle.desk_events.specs.declared.refusal.Refusal.TheVariants.{NotRunning, UsedTooLong}
use Rattle.desk_core.specs.declared.desk.Submitted.{Submitted}
use Rattle.desk_core.specs.declared.desk.Wanted.{Wanted}
use Rattle.desk_core.specs.Desk.{DeskSeen, Decision}
use Rattle.desk_core.specs.Holds.{key_of, after_group, groups_along, with_progress}
use Rattle.desk_core.specs.Kept.{IsDesk}
use Rattle.desk_core.specs.Timing.{request_with, CanCharge, charged, on_refused, on_completed, on_failed, on_reported, on_report}
use Rattle.desk_core.proofs.Charged.{entry_first, entries_stay}
use Rattle.desk_core.proofs.FoundAt.{not_with, found_at, must_have}
use Rattle.desk_core.proofs.KeptReport.{report_keeps}
use Rattle.desk_core.proofs.Reportable.{can_charge}
use Rattle.desk_accounts.specs.Balance.{Told, GroupTold, seconds_on}
use Rattle.desk_accounts.specs.Covered.{IsCovered}
use Rattle.desk_accounts.proofs.Completing.{report_completes}
use Rattle.desk_accounts.proofs.Covered.{still_covered, held_less}
use Rattle.desk_accounts.proofs.Goes.{told_at, stay_known, LineGoes, progress_line}
use Rattle.desk_accounts.proofs.Known.{groups_in, AreKnown, known_along, request_found}
use Rattle.desk_accounts.proofs.Refunds.{still_closed, none_back}
use Rattle.desk_accounts.proofs.Requests.{only_charged}
use Rattle.desk_accounts.proofs.Tallies.{Tally, tally_by, request_tally, Adds, adds_as}

-- what a report that completes a request of this account charges
abbrev charge_on : Key → ℕ → Key → Tally
charge_on account used key = only_charged (if is_key account key then used else 0)

-- at least this is held less of an account once the report is made
abbrev IsLessBy : DeskSeen → RequestNo → ℕ → Key → Type 0
IsLessBy d number used key = used + held_of (with_progress (reported number true d.progress) d).books.holds key ≤ held_of d.books.holds key

-- the books then: one entry more, and no refund
pub record IsCharged (d : DeskSeen) (number : RequestNo) (used : ℕ) (account : Key) (books : Books) : Type 0 where
  pub adds : Adds d.books.entries books.entries (charge_on account used)
  pub covers : IsCovered d.books → IsCovered books

is_charged : (d : DeskSeen) (number : RequestNo) (used : ℕ) (w : Submitted) (v : Wanted) (g : Group) → IsDesk d → group_with d.progress.groups number ≡ Some g
    → CanCharge d number used (key_of w.document v)
    → IsCharged d number used (key_of w.document v) (with_progress (reported number true d.progress) (charged number used w v d)).books
is_charged d number used w v g h there can =
    let account : Key = key_of w.document v in
    let entry : Entry = request_entry account used g.number number in
    let after : Progress = reported number true d.progress in
    let plain : Books = (with_progress after d).books in
    let first : (with_progress after (charged number used w v d)).books ≡ with_entry entry plain =
    ap (λ (o : Option Group). fold after_group (option_map_or (λ x. with_entry (request_entry account used x.number number) d.books) o d.books)
    (groups_along d after)) there
    ∙ entry_first entry d.books (groups_along d after) can.none in
    let same : plain.entries ≡ d.books.entries = entries_stay d.books (groups_along d after) can.none in
    let adds : Adds d.books.entries (with_entry entry plain).entries (charge_on account used) = record {
      more = entry ∷ [];
      entries = ap (λ (l : List Entry). l ++ entry ∷ []) same;
      tallies = λ key. request_tally account used g.number number key;
    } in
    subst (IsCharged d number used account) (sym first) (record {
      adds = adds;
      covers = still_covered d.books (with_entry entry plain) (charge_on account used) adds (λ key. no_more key (is_key account key) refl);
    })
  where
    no_more : (key : Key) (b : Bool) → is_key (key_of w.document v) key ≡ b
        → held_of (with_progress (reported number true d.progress) d).books.holds key + cond b used 0 ≤ held_of d.books.holds key + (0 + 0)
    no_more key true on =
        let less = subst (IsLessBy d number used) (is_key-true (key_of w.document v) key on) can.less in
        omega (arith, less)
    no_more key false on = let less = held_less d (reported number true d.progress) key h (report_goes_on d.progress number true).later in omega (arith, less)

-- a report that completes: the request's account is charged, and nothing is given back
completed_at : (known : List GroupTold) (version : ℕ) (d : DeskSeen) (number : RequestNo) (percent used : ℕ) (w : Submitted) (m : Request × Wanted) (g : Group)
    → IsDesk d → AreKnown known (groups_in d) → request_with d number ≡ Some (w, m) → group_with d.progress.groups number ≡ Some g
    → is_placed d.progress.running number ≡ true
    → CanCharge d number used (key_of w.document m.1) → IsDesk (on_completed d number used w m.1).desk
    → LineGoes known version d (command.Report number percent used) (on_completed d number used w m.1).reply (on_completed d number used w m.1).desk
completed_at known version d number percent used w m g h k is there placed can desk =
    let t : Told = told_at (command.Report number percent used) (on_completed d number used w m.1).reply in
    let e : DeskSeen = (on_completed d number used w m.1).desk in
    let account : Key = key_of w.document m.1 in
    let books : IsCharged d number used account e.books = is_charged d number used w m.1 g h there can in
    record {
      desk = desk;
      groups = stay_known known (groups_in e) t refl
          (known_along known d.groups d.progress.groups (reported number true d.progress).groups (report_goes_on d.progress number true).later k);
      covers = books.covers;
      adds = λ more.
          adds_as d.books.entries e.books.entries (charge_on account used) (tally_by (known ++ more) t) books.adds
          (λ key. ap (λ (o : Option Key). only_charged (seconds_on key o used)) (sym (request_found known more d number w m k is)));
      back = none_back (groups_in d) (groups_in e)
          (λ n c. still_closed d.groups d.progress.groups e.progress.groups n (report_goes_on d.progress number true).later c);
      done = report_completes d.progress number h.sound placed;
    }

completed_line : (known : List GroupTold) (version : ℕ) (d : DeskSeen) (number : RequestNo) (percent used : ℕ) (w : Submitted) (m : Request × Wanted)
    → IsDesk d → AreKnown known (groups_in d)
    → request_with d number ≡ Some (w, m) → is_placed d.progress.running number ≡ true → used ≤ m.0.seconds → IsDesk (on_completed d number used w m.1).desk
    → LineGoes known version d (command.Report number percent used) (on_completed d number used w m.1).reply (on_completed d number used w m.1).desk
completed_line known version d number percent used w m h k is placed few desk = by_group (group_with d.progress.groups number) refl
  where
    found : (g : Group) → group_with d.progress.groups number ≡ Some g → (o : Option ℕ) → position (is_request number) g.requests ≡ o
        → LineGoes known version d (command.Report number percent used) (on_completed d number used w m.1).reply (on_completed d number used w m.1).desk
    found g there None at = absurd (must_have d number g there at)
    found g there (Some i) at =
        let f = found_at d number g i h there at in
        let pair : Some (w, m) ≡ Some (f.submitted, (f.request, f.wanted)) = sym is ∙ f.is in
        let seconds : m.0.seconds ≡ f.request.seconds = ap (λ (o : Option (Submitted × (Request × Wanted))). option_map_or (λ p. p.1.0.seconds) o 0) pair in
        let key : key_of w.document m.1 ≡ key_of f.submitted.document f.wanted =
        ap (λ (o : Option (Submitted × (Request × Wanted))). option_map_or (λ p. key_of p.0.document p.1.1) o (key_of w.document m.1)) pair in
        completed_at known version d number percent used w m g h k is there placed
        (can_charge d number _ used (key_of w.document m.1) h f placed (subst (λ (n : ℕ). used ≤ n) seconds few) key) desk

    by_group : (o : Option Group) → group_with d.progress.groups number ≡ o
        → LineGoes known version d (command.Report number percent used) (on_completed d number used w m.1).reply (on_completed d number used w m.1).desk
    by_group None there = let none = not_with d number there in absurd (cc)
    by_group (Some g) there = found g there (position (is_request number) g.requests) refl

-- a report on a request, by whether it runs, whether it used too much, and whether it completes
abbrev pub by_tests : DeskSeen → RequestNo → ℕ → Submitted × (Request × Wanted) → Bool → Bool → Bool → Decision
by_tests d number used p placed long enough =
    if not placed then on_refused d number NotRunning
    else (if long then on_refused d number (UsedTooLong p.1.0.seconds used) else (if enough then on_completed d number used p.0 p.1.1 else on_failed d number))

pub report_line : (known : List GroupTold) (version : ℕ) (d : DeskSeen) (number : RequestNo) (percent used : ℕ) → IsDesk d → AreKnown known (groups_in d)
    → (on_report d number percent used).refusal ≡ None
    → LineGoes known version d (command.Report number percent used) (on_report d number percent used).reply (on_report d number percent used).desk
report_line known version d number percent used h k none = found (request_with d number) refl none (report_keeps d number percent used h none).desk
  where
    by : (p : Submitted × (Request × Wanted)) (a b c : Bool) → request_with d number ≡ Some p → is_placed d.progress.running number ≡ a
        → nat_lt p.1.0.seconds used ≡ b
        → (by_tests d number used p a b c).refusal ≡ None → IsDesk (by_tests d number used p a b c).desk
        → LineGoes known version d (command.Report number percent used) (by_tests d number used p a b c).reply (by_tests d number used p a b c).desk
    by p false b c is placed short f desk = absurd (cc)
    by p true true c is placed short f desk = absurd (cc)
    by p true false true is placed short f desk =
        completed_line known version d number percent used p.0 p.1 h k is placed (ltb-false p.1.0.seconds used short) desk
    by p true false false is placed short f desk =
        progress_line known version d (reported number false d.progress) (command.Report number percent used) (on_failed d number).reply h desk
        (report_goes_on d.progress number false).later k refl
        (λ groups key. refl) refl refl

    found : (o : Option (Submitted × (Request × Wanted))) → request_with d number ≡ o → (on_reported d number percent used o).refusal ≡ None
        → IsDesk (on_reported d number percent used o).desk
        → LineGoes known version d (command.Report number percent used) (on_reported d number percent used o).reply (on_reported d number percent used o).desk
    found None is f desk = absurd (cc)
    found (Some p) is f desk = by p (is_placed d.progress.running number) (nat_lt p.1.0.seconds used) (nat_le p.1.1.threshold percent) is refl refl f desk
