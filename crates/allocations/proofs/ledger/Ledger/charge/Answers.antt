use Rattle.std.proofs.Common.{◌∙◌, ap, arith}
use Rattle.std.proofs.lemmas.Option.{slice_get_within, get_or_from_slice_get}
use Rattle.allocations.specs.declared.key.Key.{Key}
use Rattle.allocations.specs.Changes.{request_entry, with_entry}
use Rattle.allocations.specs.Raw.{no_key}
use Rattle.allocations.specs.Store.{store_books}
use Rattle.allocations.proofs.Granted.{known_key, balance_at, held_of_at, posted_seen}
use Rattle.allocations.proofs.ledger.Ledger.charge.Goals as goal

pub unreachable-requires : goal.unreachable-requires
unreachable-requires c =
    let s = c.self.inside.store in
    let granted = rw (← c.self.view_is) at c.requires.granted in
    c.in-Err.ensures.absent (known_key s.keys s.postings c.args.key.now c.find.ensures.sound.located granted)

pub post-requires-clause-place : goal.post-requires-clause-place
post-requires-clause-place c = slice_get_within c.self.inside.store.keys c.in-Ok.place c.args.key.now c.in-Ok.ensures.found

pub post-requires-clause-room : goal.post-requires-clause-room
post-requires-clause-room c =
    let s = c.self.inside.store in
    let key = c.args.key.now in
    let l = slice_get_within s.keys c.in-Ok.place key c.in-Ok.ensures.found in
    let available = rw (← c.self.view_is) at c.requires.available in
    let balance = balance_at s c.in-Ok.place key c.find.ensures.sound c.in-Ok.ensures.found in
    let held = held_of_at s c.in-Ok.place key c.find.ensures.sound c.in-Ok.ensures.found in
    let covered = c.find.ensures.sound.covered c.in-Ok.place l in
    omega (arith, available, balance, held, covered)

pub returns-clause-books : goal.returns-clause-books
returns-clause-books c =
    let s = c.self.inside.store in
    let key = get_or_from_slice_get s.keys c.in-Ok.place c.args.key.now no_key c.in-Ok.ensures.found in
    rw (← c.self.view_is)
    (ap store_books c.post.ensures.posted ∙ posted_seen s _
    ∙ ap (λ (k : Key). with_entry (request_entry k c.args.seconds c.args.group c.args.request) (store_books s)) key)
