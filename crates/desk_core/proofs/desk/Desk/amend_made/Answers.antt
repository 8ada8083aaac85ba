use Rattle.std.proofs.Common.{◌≡◌, ◌∙◌, ap, sym, subst, refl, ◌+◌, ◌-◌, ◌++◌, ◌∷◌, [], nat_lt, true, false, List, length, map, Ok, arith, rules}
use Rattle.std.specs.Prelude.{option_and_then}
use Rattle.std.proofs.lemmas.List.{length-map}
use Rattle.allocations.specs.Books.{Books, total_seconds}
use Rattle.allocations.specs.Changes.{freed, booked}
use Rattle.allocations.specs.declared.entry.Hold.{Hold}
use Rattle.allocations.specs.Ledger.{seconds_of_holds, IsHoldList, IsFree}
use Rattle.allocations.specs.Refusals.{refusal_of}
use Rattle.desk_runs.specs.Adding.{with_group}
use Rattle.desk_runs.specs.Owners.{pending_count, pending_of}
use Rattle.desk_runs.specs.Reports.{withdrawn}
use Rattle.desk_runs.specs.Sound.{IsWithdrawable}
use Rattle.desk_core.specs.declared.desk.Submitted.{Submitted}
use Rattle.desk_events.specs.declared.reply.Reply.{Reply}
use Rattle.desk_events.specs.declared.reply.Reply.TheVariants.{Amended}
use Rattle.desk_core.specs.declared.submitting.Booked.{Booked}
use Rattle.desk_core.specs.declared.submitting.NewGroup.{NewGroup}
use Rattle.desk_core.specs.Desk.{DeskSeen, seen}
use Rattle.desk_core.specs.Refusals.{refusal_in, refusal_of_ledger}
use Rattle.desk_core.specs.Asking.{MadeSeen, seen_made}
use Rattle.desk_core.specs.Submitting.{asks_of, op_of, holds_for, charge_for, with_submission}
use Rattle.desk_core.specs.Making.{with_entry, IsEntered}
use Rattle.desk_core.specs.Closing.{on_freed, without_group}
use Rattle.desk_core.proofs.Amendments.{is_freed, pending_without, still_withdrawable}
use Rattle.desk_core.proofs.Drafts.{few_of}
use Rattle.desk_core.proofs.Replacing.{refused_as, passed_on, requests_full, targets_full, ledger_only, replied, left}
use Rattle.desk_core.proofs.Submissions.{few_in, is_booked, is_free, small_holds, charge_at_most}
use Rattle.desk_core.proofs.WentOn.{as_submitted}
use Rattle.desk_core.proofs.desk.Desk.amend_made.Goals as goal

pub known-requires : goal.known-requires
known-requires c =
    let d = seen c.args.self.now in
    let f = is_freed d c.args.old c.requires.desk c.requires.may (omega (arith, c.requires.room)) in
    (f.low, f.high)

pub overflow_sub-others : goal.overflow_sub-others
overflow_sub-others c =
    let d = seen c.args.self.now in
    let f = is_freed d c.args.old c.requires.desk c.requires.may (omega (arith, c.requires.room)) in
    let left_pending = pending_without d.progress c.args.old f.group c.requires.desk.sound f.there in
    let of_old : c.pending-2.result ≡ pending_of f.group = c.pending-2.ensures.pending ∙ ap pending_of (c.known.ensures ∙ f.is) in
    omega (arith, left_pending, of_old, c.pending.ensures)

pub returns-in_err-has_room : goal.returns-in_err-has_room
returns-in_err-has_room c =
    let d = seen c.args.self.now in
    let made : List MadeSeen = map seen_made c.args.made.items in
    let f = is_freed d c.args.old c.requires.desk c.requires.may (omega (arith, c.requires.room)) in
    let left_pending = pending_without d.progress c.args.old f.group c.requires.desk.sound f.there in
    let of_old : c.pending-2.result ≡ pending_of f.group = c.pending-2.ensures.pending ∙ ap pending_of (c.known.ensures ∙ f.is) in
    let others : c.pending.result - c.pending-2.result ≡ pending_count (withdrawn c.args.old d.progress).groups =
    omega (arith, left_pending, of_old, c.pending.ensures) in
    let count : c.len.result ≡ length made = search (rules, c.len.ensures, length-map) in
    let fault = c.in_err-has_room.field-0.0 in
    let full = c.in_err-has_room.ensures.full in
    let over : nat_lt 1024 (pending_count (withdrawn c.args.old d.progress).groups + length made) ≡ true =
    ap (λ n. nat_lt 1024 (n + length made)) (sym others) ∙ ap (λ n. nat_lt 1024 (c.pending.result - c.pending-2.result + n)) (sym count) ∙ full.1 in
    let decision = on_freed d c.args.old c.args.document.now (Ok made) in
    passed_on decision d d fault _ c.from_residual.ensures.1
    (refused_as decision d d fault (λ memory. requests_full d c.args.old c.args.document.now made over ∙ ap refusal_in (sym full.0)) refl)

pub refunded-requires : goal.refunded-requires
refunded-requires c =
    let d = seen c.args.self.now in
    let f = is_freed d c.args.old c.requires.desk c.requires.may (omega (arith, c.requires.room)) in
    let same = as_submitted d c.requires.desk in
    (f.low, omega (arith, same, f.high))

pub enter-requires-clause-few : goal.enter-requires-clause-few
enter-requires-clause-few c =
    let d = seen c.args.self.now in
    let made : List MadeSeen = map seen_made c.args.made.items in
    let requests = few_in (length d.network.registry.targets) d.groups d.progress.groups c.requires.desk.along in
    let few = few_of (op_of c.args.document.now made) (length made) c.requires.made.shape.high in
    let count : length made ≡ length c.args.made.items = length-map c.args.made.items seen_made in
    omega (arith, requests, few, count, c.requires.few)

pub returns-in_err-new : goal.returns-in_err-new
returns-in_err-new c =
    let d = seen c.args.self.now in
    let made : List MadeSeen = map seen_made c.args.made.items in
    let f = is_freed d c.args.old c.requires.desk c.requires.may (omega (arith, c.requires.room)) in
    let left_pending = pending_without d.progress c.args.old f.group c.requires.desk.sound f.there in
    let of_old : c.pending-2.result ≡ pending_of f.group = c.pending-2.ensures.pending ∙ ap pending_of (c.known.ensures ∙ f.is) in
    let others : c.pending.result - c.pending-2.result ≡ pending_count (withdrawn c.args.old d.progress).groups =
    omega (arith, left_pending, of_old, c.pending.ensures) in
    let count : c.len.result ≡ length made = search (rules, c.len.ensures, length-map) in
    let room : nat_lt 1024 (pending_count (withdrawn c.args.old d.progress).groups + length made) ≡ false =
    ap (λ n. nat_lt 1024 (n + length made)) (sym others) ∙ ap (λ n. nat_lt 1024 (c.pending.result - c.pending-2.result + n)) (sym count)
    ∙ c.in_ok-has_room.ensures.room in
    let fault = c.in_err-new.field-0.0 in
    let decision = on_freed d c.args.old c.args.document.now (Ok made) in
    passed_on decision d (seen c.enter.new.self) fault _ c.from_residual-in_err-new.ensures.1
    (refused_as decision d (seen c.enter.new.self) fault
    (λ memory. let full = c.in_err-new.ensures.refused memory in targets_full d c.args.old c.args.document.now made room full.1 ∙ ap refusal_in (sym full.0))
    c.in_err-new.ensures.unchanged)

pub replace-requires-clause-may : goal.replace-requires-clause-may
replace-requires-clause-may c =
    let d = seen c.args.self.now in
    let made : List MadeSeen = map seen_made c.args.made.items in
    let runs : c.enter.new.self.runs ≡ with_group (op_of c.args.document.now made) (asks_of made) d.progress =
    ap (λ (x : DeskSeen). x.progress) c.in_ok-new.ensures.entered in
    subst (IsWithdrawable c.args.old) (sym runs) (still_withdrawable (op_of c.args.document.now made) (asks_of made) d.progress c.args.old c.requires.may)

pub replace-requires-clause-holds : goal.replace-requires-clause-holds
replace-requires-clause-holds c =
    let d = seen c.args.self.now in
    let made : List MadeSeen = map seen_made c.args.made.items in
    let books : c.enter.new.self.ledger.books ≡ d.books = ap (λ (x : DeskSeen). x.books) c.in_ok-new.ensures.entered in
    let holds : c.in_ok-new.new.holds ≡ holds_for d c.args.document.now made = ap (λ (n : NewGroup). n.holds) c.in_ok-new.ensures.new in
    let charged : c.in_ok-new.new.submitted.charged ≡ charge_for d c.args.document.now made =
    ap (λ (n : NewGroup). n.submitted.charged) c.in_ok-new.ensures.new in
    subst IsHoldList (sym holds) (is_booked d c.args.document.now made c.requires.made)

pub replace-requires-clause-free : goal.replace-requires-clause-free
replace-requires-clause-free c =
    let d = seen c.args.self.now in
    let books : c.enter.new.self.ledger.books ≡ d.books = ap (λ (x : DeskSeen). x.books) c.in_ok-new.ensures.entered in
    subst (λ (b : Books). IsFree c.in_ok-new.new.number b.holds) (sym books)
    (is_free d c.in_ok-new.new.number c.requires.desk (ap (λ (n : NewGroup). n.number.0) c.in_ok-new.ensures.new))

pub replace-requires-clause-bound : goal.replace-requires-clause-bound
replace-requires-clause-bound c =
    let d = seen c.args.self.now in
    let made : List MadeSeen = map seen_made c.args.made.items in
    let f = is_freed d c.args.old c.requires.desk c.requires.may (omega (arith, c.requires.room)) in
    let books : c.enter.new.self.ledger.books ≡ d.books = ap (λ (x : DeskSeen). x.books) c.in_ok-new.ensures.entered in
    let holds : c.in_ok-new.new.holds ≡ holds_for d c.args.document.now made = ap (λ (n : NewGroup). n.holds) c.in_ok-new.ensures.new in
    let charged : c.in_ok-new.new.submitted.charged ≡ charge_for d c.args.document.now made =
    ap (λ (n : NewGroup). n.submitted.charged) c.in_ok-new.ensures.new in
    let small = small_holds d c.args.document.now made c.requires.made in
    let charge = charge_at_most c.args.document.now.ipp (holds_for d c.args.document.now made) c.requires.document.share.high in
    omega (arith, small, charge, f.seconds, c.requires.room, ap (λ (b : Books). total_seconds (freed c.args.old b)) books, ap seconds_of_holds holds, charged)

pub forget-requires : goal.forget-requires
forget-requires c =
    let d = seen c.args.self.now in
    let made : List MadeSeen = map seen_made c.args.made.items in
    let entered : IsEntered c.targets-known.result d (seen c.replace.new.self) = record {
      sound = c.requires.desk.sound;
      document = c.args.document.now;
      made = made;
      some = c.requires.made.shape.low;
      count = c.targets-known.ensures.count;
      unseen = c.targets-known.ensures.unseen;
      entered = c.in-Err.ensures.unchanged ∙ c.in_ok-new.ensures.entered;
    } in
    (d, entered)

pub returns-in-Err : goal.returns-in-Err
returns-in-Err c =
    let d = seen c.args.self.now in
    let made : List MadeSeen = map seen_made c.args.made.items in
    let f = is_freed d c.args.old c.requires.desk c.requires.may (omega (arith, c.requires.room)) in
    let left_pending = pending_without d.progress c.args.old f.group c.requires.desk.sound f.there in
    let of_old : c.pending-2.result ≡ pending_of f.group = c.pending-2.ensures.pending ∙ ap pending_of (c.known.ensures ∙ f.is) in
    let others : c.pending.result - c.pending-2.result ≡ pending_count (withdrawn c.args.old d.progress).groups =
    omega (arith, left_pending, of_old, c.pending.ensures) in
    let count : c.len.result ≡ length made = search (rules, c.len.ensures, length-map) in
    let room : nat_lt 1024 (pending_count (withdrawn c.args.old d.progress).groups + length made) ≡ false =
    ap (λ n. nat_lt 1024 (n + length made)) (sym others) ∙ ap (λ n. nat_lt 1024 (c.pending.result - c.pending-2.result + n)) (sym count)
    ∙ c.in_ok-has_room.ensures.room in
    let books : c.enter.new.self.ledger.books ≡ d.books = ap (λ (x : DeskSeen). x.books) c.in_ok-new.ensures.entered in
    let holds : c.in_ok-new.new.holds ≡ holds_for d c.args.document.now made = ap (λ (n : NewGroup). n.holds) c.in_ok-new.ensures.new in
    let charged : c.in_ok-new.new.submitted.charged ≡ charge_for d c.args.document.now made =
    ap (λ (n : NewGroup). n.submitted.charged) c.in_ok-new.ensures.new in
    let entered : IsEntered c.targets-known.result d (seen c.replace.new.self) = record {
      sound = c.requires.desk.sound;
      document = c.args.document.now;
      made = made;
      some = c.requires.made.shape.low;
      count = c.targets-known.ensures.count;
      unseen = c.targets-known.ensures.unseen;
      entered = c.in-Err.ensures.unchanged ∙ c.in_ok-new.ensures.entered;
    } in
    let as_entered : option_and_then refusal_of_ledger
    (refusal_of (freed c.args.old d.books) (holds_for d c.args.document.now made) (charge_for d c.args.document.now made))
    ≡ option_and_then refusal_of_ledger (refusal_of (freed c.args.old c.enter.new.self.ledger.books) c.in_ok-new.new.holds c.in_ok-new.new.submitted.charged) =
    ap (λ (b : Books). option_and_then refusal_of_ledger
    (refusal_of (freed c.args.old b) (holds_for d c.args.document.now made) (charge_for d c.args.document.now made))) (sym books)
    ∙ ap (λ (h : List Hold). option_and_then refusal_of_ledger
    (refusal_of (freed c.args.old c.enter.new.self.ledger.books) h (charge_for d c.args.document.now made))) (sym holds)
    ∙ ap (λ n. option_and_then refusal_of_ledger (refusal_of (freed c.args.old c.enter.new.self.ledger.books) c.in_ok-new.new.holds n)) (sym charged) in
    refused_as (on_freed d c.args.old c.args.document.now (Ok made)) d (seen c.forget.new.self) c.in-Err.fault
    (λ memory. ledger_only d c.args.old c.args.document.now made f room c.in_ok-new.ensures.few ∙ as_entered ∙ c.in-Err.ensures.refused memory)
    (c.forget.ensures d entered)

pub returns : goal.returns
returns c =
    let d = seen c.args.self.now in
    let made : List MadeSeen = map seen_made c.args.made.items in
    let f = is_freed d c.args.old c.requires.desk c.requires.may (omega (arith, c.requires.room)) in
    let left_pending = pending_without d.progress c.args.old f.group c.requires.desk.sound f.there in
    let of_old : c.pending-2.result ≡ pending_of f.group = c.pending-2.ensures.pending ∙ ap pending_of (c.known.ensures ∙ f.is) in
    let others : c.pending.result - c.pending-2.result ≡ pending_count (withdrawn c.args.old d.progress).groups =
    omega (arith, left_pending, of_old, c.pending.ensures) in
    let count : c.len.result ≡ length made = search (rules, c.len.ensures, length-map) in
    let room : nat_lt 1024 (pending_count (withdrawn c.args.old d.progress).groups + length made) ≡ false =
    ap (λ n. nat_lt 1024 (n + length made)) (sym others) ∙ ap (λ n. nat_lt 1024 (c.pending.result - c.pending-2.result + n)) (sym count)
    ∙ c.in_ok-has_room.ensures.room in
    let books : c.enter.new.self.ledger.books ≡ d.books = ap (λ (x : DeskSeen). x.books) c.in_ok-new.ensures.entered in
    let holds : c.in_ok-new.new.holds ≡ holds_for d c.args.document.now made = ap (λ (n : NewGroup). n.holds) c.in_ok-new.ensures.new in
    let charged : c.in_ok-new.new.submitted.charged ≡ charge_for d c.args.document.now made =
    ap (λ (n : NewGroup). n.submitted.charged) c.in_ok-new.ensures.new in
    let as_entered : option_and_then refusal_of_ledger
    (refusal_of (freed c.args.old d.books) (holds_for d c.args.document.now made) (charge_for d c.args.document.now made))
    ≡ option_and_then refusal_of_ledger (refusal_of (freed c.args.old c.enter.new.self.ledger.books) c.in_ok-new.new.holds c.in_ok-new.new.submitted.charged) =
    ap (λ (b : Books). option_and_then refusal_of_ledger
    (refusal_of (freed c.args.old b) (holds_for d c.args.document.now made) (charge_for d c.args.document.now made))) (sym books)
    ∙ ap (λ (h : List Hold). option_and_then refusal_of_ledger
    (refusal_of (freed c.args.old c.enter.new.self.ledger.books) h (charge_for d c.args.document.now made))) (sym holds)
    ∙ ap (λ n. option_and_then refusal_of_ledger (refusal_of (freed c.args.old c.enter.new.self.ledger.books) c.in_ok-new.new.holds n)) (sym charged) in
    let document = c.args.document.now in
    let new : NewGroup = c.in_ok-new.new in
    let push : DeskSeen → Submitted → DeskSeen = λ x w. record x { groups = x.groups ++ w ∷ [] } in
    let book : DeskSeen → NewGroup → DeskSeen =
    λ x n. record x {
      books = booked n.number n.holds n.submitted.charged (freed c.args.old x.books);
      progress = withdrawn c.args.old x.progress;
    } in
    let after : seen c.keep-ipp_charged.new.self ≡ with_submission (without_group c.args.old d) document made =
    c.keep-ipp_charged.ensures.kept ∙ ap (λ (x : DeskSeen). push x new.submitted) c.in_default.ensures.booked
    ∙ ap (λ (x : DeskSeen). push (book x new) new.submitted) c.in_ok-new.ensures.entered
    ∙ ap (λ (n : NewGroup). push (book (with_entry d document made) n) n.submitted) c.in_ok-new.ensures.new
    ∙ left d c.args.old document made c.requires.desk f in
    record {
      ok = (
        ledger_only d c.args.old document made f room c.in_ok-new.ensures.few ∙ as_entered ∙ ap (option_and_then refusal_of_ledger) c.in_default.ensures.given,
        ap (λ (b : Booked). let x : Reply = Amended b.group b.ipp_charged c.in_ok-refunded.refunded c.args.old b.requests in x) c.keep-ipp_charged.ensures.told
            ∙ replied d c.args.old document made new c.in_ok-refunded.refunded f c.in_ok-new.ensures.new (c.in_ok-refunded.ensures f.submitted f.was),
        after,
      );
      refused = tt;
      unchanged = tt;
    }
