use Rattle.std.proofs.Common.{◌≡◌, ◌∙◌, ap, sym, subst, ◌+◌, nat_lt, false, List, length, map, Ok, Err, arith, rules}
use Rattle.std.proofs.lemmas.Grind.{common_steps}
use Rattle.std.proofs.lemmas.List.{length-map}
use Rattle.allocations.specs.Books.{Books, total_seconds}
use Rattle.allocations.specs.declared.entry.Hold.{Hold}
use Rattle.allocations.specs.Ledger.{seconds_of_holds, IsHoldList, IsFree}
use Rattle.allocations.specs.Refusals.{refusal_of}
use Rattle.desk_runs.specs.Owners.{pending_count}
use Rattle.desk_events.specs.declared.fault.CommandFault.{CommandFault}
use Rattle.desk_core.specs.declared.submitting.NewGroup.{NewGroup}
use Rattle.desk_core.specs.Desk.{DeskSeen, seen, Decides}
use Rattle.desk_core.specs.Asking.{MadeSeen, seen_made}
use Rattle.desk_core.specs.Submitting.{op_of, holds_for, charge_for, on_made}
use Rattle.desk_core.specs.Making.{IsEntered}
use Rattle.desk_core.proofs.Drafts.{few_of}
use Rattle.desk_core.proofs.Submissions.{few_in, is_booked, is_free, books_room, ledger_refuses}
use Rattle.desk_core.proofs.desk.Desk.submit_made.Goals as goal

pub enter-requires-clause-few : goal.enter-requires-clause-few
enter-requires-clause-few c =
    let d = seen c.args.self.now in
    let made : List MadeSeen = map seen_made c.args.made.items in
    let requests = few_in (length d.network.registry.targets) d.groups d.progress.groups c.requires.desk.along in
    let few = few_of (op_of c.args.document.now made) (length made) c.requires.made.shape.high in
    let count : length made ≡ length c.args.made.items = length-map c.args.made.items seen_made in
    omega (arith, requests, few, count, c.requires.few)

pub hold-requires-clause-holds : goal.hold-requires-clause-holds
hold-requires-clause-holds c =
    let d = seen c.args.self.now in
    let made : List MadeSeen = map seen_made c.args.made.items in
    let same : c.as_slice.result.now ≡ holds_for d c.args.document.now made = c.as_slice.ensures ∙ ap (λ (n : NewGroup). n.holds) c.in_ok-new.ensures.new in
    subst IsHoldList (sym same) (is_booked d c.args.document.now made c.requires.made)

pub hold-requires-clause-free : goal.hold-requires-clause-free
hold-requires-clause-free c =
    let d = seen c.args.self.now in
    let books : c.enter.new.self.ledger.books ≡ d.books = ap (λ (x : DeskSeen). x.books) c.in_ok-new.ensures.entered in
    subst (λ (b : Books). IsFree c.in_ok-new.new.number b.holds) (sym books)
    (is_free d c.in_ok-new.new.number c.requires.desk (ap (λ (n : NewGroup). n.number.0) c.in_ok-new.ensures.new))

pub hold-requires-clause-bound : goal.hold-requires-clause-bound
hold-requires-clause-bound c =
    let d = seen c.args.self.now in
    let made : List MadeSeen = map seen_made c.args.made.items in
    let books : c.enter.new.self.ledger.books ≡ d.books = ap (λ (x : DeskSeen). x.books) c.in_ok-new.ensures.entered in
    let same : c.as_slice.result.now ≡ holds_for d c.args.document.now made = c.as_slice.ensures ∙ ap (λ (n : NewGroup). n.holds) c.in_ok-new.ensures.new in
    let charged : c.in_ok-new.new.submitted.charged ≡ charge_for d c.args.document.now made =
    ap (λ (n : NewGroup). n.submitted.charged) c.in_ok-new.ensures.new in
    let room = books_room d c.args.document.now made c.requires.document c.requires.made c.requires.room in
    omega (arith, room, ap total_seconds books, ap seconds_of_holds same, charged)

pub forget-requires : goal.forget-requires
forget-requires c =
    let d = seen c.args.self.now in
    let made : List MadeSeen = map seen_made c.args.made.items in
    let with_books : Books → DeskSeen = λ b. record (seen c.enter.new.self) { books = b } in (
      d,
      record {
        sound = c.requires.desk.sound;
        document = c.args.document.now;
        made = made;
        some = c.requires.made.shape.low;
        count = c.targets-known.ensures.count;
        unseen = c.targets-known.ensures.unseen;
        entered = ap with_books c.in-Err.ensures.unchanged ∙ c.in_ok-new.ensures.entered;
      },
    )

pub returns-in-Err : goal.returns-in-Err
returns-in-Err c =
    let d = seen c.args.self.now in
    let made : List MadeSeen = map seen_made c.args.made.items in
    let with_books : Books → DeskSeen = λ b. record (seen c.enter.new.self) { books = b } in
    let count : c.len.result ≡ length made = search (rules, c.len.ensures, length-map) in
    let room : nat_lt 1024 (pending_count d.progress.groups + length made) ≡ false =
    ap (λ n. nat_lt 1024 (n + length made)) (sym c.pending.ensures) ∙ ap (λ n. nat_lt 1024 (c.pending.result + n)) (sym count)
    ∙ c.in_ok-has_room.ensures.room in
    let books : c.enter.new.self.ledger.books ≡ d.books = ap (λ (x : DeskSeen). x.books) c.in_ok-new.ensures.entered in
    let holds : c.as_slice.result.now ≡ holds_for d c.args.document.now made = c.as_slice.ensures ∙ ap (λ (n : NewGroup). n.holds) c.in_ok-new.ensures.new in
    let charged : c.in_ok-new.new.submitted.charged ≡ charge_for d c.args.document.now made =
    ap (λ (n : NewGroup). n.submitted.charged) c.in_ok-new.ensures.new in
    let entered : IsEntered c.targets-known.result d (with_books c.hold.new.self.books) = record {
      sound = c.requires.desk.sound;
      document = c.args.document.now;
      made = made;
      some = c.requires.made.shape.low;
      count = c.targets-known.ensures.count;
      unseen = c.targets-known.ensures.unseen;
      entered = ap with_books c.in-Err.ensures.unchanged ∙ c.in_ok-new.ensures.entered;
    } in
    subst (λ (f : CommandFault). Decides (on_made d c.args.document.now (Ok made)) d (seen c.forget.new.self) (Err f)) (sym c.from.ensures)
    (ledger_refuses d (seen c.forget.new.self) c.args.document.now made c.in-Err.fault room c.in_ok-new.ensures.few
    (λ memory. ap (λ (b : Books). refusal_of b (holds_for d c.args.document.now made) (charge_for d c.args.document.now made)) (sym books)
    ∙ ap (λ (h : List Hold). refusal_of c.enter.new.self.ledger.books h (charge_for d c.args.document.now made)) (sym holds)
    ∙ ap (refusal_of c.enter.new.self.ledger.books c.as_slice.result.now) (sym charged) ∙ c.in-Err.ensures.refused memory)
    (c.forget.ensures d entered))

pub returns-in_err-has_room : goal.returns-in_err-has_room
returns-in_err-has_room c = grind (arith, common_steps)

pub returns-in_err-new : goal.returns-in_err-new
returns-in_err-new c = grind (arith, common_steps)

pub returns : goal.returns
returns c = grind (arith, common_steps)
