use Rattle.std.proofs.Common.{◌∙◌, sym, ap, ◌++◌, None, Option, map, set, arith}
use Rattle.std.specs.Option.{option_to_list}
use Rattle.plan_base.specs.declared.number.GroupNo.{GroupNo}
use Rattle.allocations.specs.declared.entry.Hold.{Hold}
use Rattle.allocations.specs.Books.{Books}
use Rattle.allocations.specs.Changes.{refund_entry}
use Rattle.allocations.specs.Raw.{books_of}
use Rattle.allocations.specs.Store.{group_at, store_books, refund_posting}
use Rattle.allocations.proofs.Booked.{number_at}
use Rattle.allocations.proofs.Changed.{ipp_at, ipp_absent, refunded_seen}
use Rattle.allocations.proofs.Released.{refund_fits, refunds_one, refunded_once}
use Rattle.allocations.proofs.ledger.Ledger.refund.Goals as goal

pub unreachable-requires : goal.unreachable-requires
unreachable-requires c =
    let s = c.self.inside.store in
    let stands = rw (← c.self.view_is) at c.requires.stands in
    let none = ipp_absent s.keys s.groups c.args.group c.in-None.ensures.found in
    cc

pub refund-requires-clause-fits : goal.refund-requires-clause-fits
refund-requires-clause-fits c =
    let s = c.self.inside.store in
    let h : Hold = record { key = c.args.key.now; seconds = c.args.seconds } in
    let stands = rw (← c.self.view_is) at c.requires.stands in
    let ipp = sym (ipp_at s.keys s.groups c.args.group c.in-Some.index c.find_group.ensures.sound.grouped.rising c.in-Some.ensures.found) ∙ stands in
    refund_fits s (group_at s.groups c.in-Some.index) h ipp (rw (← c.self.view_is) at c.requires.bound)

pub returns-clause-books : goal.returns-clause-books
returns-clause-books c =
    let s = c.self.inside.store in
    let j = c.in-Some.index in
    let n = c.args.group in
    let there = number_at s.groups n j c.in-Some.ensures.found in
    rw (← c.self.view_is)
    (ap store_books c.refund.ensures.refunded
    ∙ ap (λ (x : GroupNo). books_of s.keys (s.postings ++ map (refund_posting x) (option_to_list (group_at s.groups j).ipp))
    (set s.groups j (record (group_at s.groups j) { ipp = None }))) there.1
    ∙ sym (refunded_seen s.keys s.postings s.groups n j c.find_group.ensures.sound.grouped.rising c.in-Some.ensures.found))

pub returns-clause-entry : goal.returns-clause-entry
returns-clause-entry c =
    let books = returns-clause-books c in
    ap (λ (b : Books). b.entries) books
    ∙ ap (λ (o : Option Hold). c.args.self.now.books.entries ++ map (refund_entry c.args.group) (option_to_list o)) c.requires.stands

pub returns-clause-once : goal.returns-clause-once
returns-clause-once c =
    let s = c.self.inside.store in
    rw c.refund.ensures.refunded (refunded_once s.keys s.groups c.args.group c.in-Some.index c.find_group.ensures.sound.grouped.rising c.in-Some.ensures.found)

pub returns-clause-spare : goal.returns-clause-spare
returns-clause-spare c =
    let s = c.self.inside.store in
    let h : Hold = record { key = c.args.key.now; seconds = c.args.seconds } in
    let stands = rw (← c.self.view_is) at c.requires.stands in
    let ipp = sym (ipp_at s.keys s.groups c.args.group c.in-Some.index c.find_group.ensures.sound.grouped.rising c.in-Some.ensures.found) ∙ stands in
    let one = refunds_one s.keys (group_at s.groups c.in-Some.index) h ipp in
    let spare = rw (← c.self.view_is) at c.requires.spare in
    rw (c.refund.ensures.refunded, ← c.self.view_is, one) (omega (arith, spare))
