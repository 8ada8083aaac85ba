use Rattle.std.proofs.Common.{◌≡◌, ◌∙◌, sym, ap, subst, ◌<◌, List, length, map}
use Rattle.allocations.specs.declared.key.Key.{Key}
use Rattle.allocations.specs.declared.sums.Amount.{Amount}
use Rattle.allocations.specs.declared.posting.GroupState.{GroupState}
use Rattle.allocations.specs.Key.{key_cmp}
use Rattle.allocations.specs.Rising.{Rises}
use Rattle.allocations.specs.Books.{GroupHolds}
use Rattle.allocations.specs.Changes.{with_holds}
use Rattle.allocations.specs.Lowered.{lowered_to}
use Rattle.allocations.specs.Raw.{entry_of}
use Rattle.allocations.specs.Store.{StoreSeen, no_group, group_at}
use Rattle.allocations.proofs.Changed.{released_seen, change_absent}
use Rattle.allocations.proofs.Lower.{lowered_places, lowered_is, IsLowered}
use Rattle.allocations.proofs.Released.{at_most_seen, rebooked, rebooked_room}
use Rattle.allocations.proofs.Settled.{keys_of_holds}
use Rattle.allocations.proofs.ledger.Ledger.release.Goals as goal

pub book-requires-clause-places : goal.book-requires-clause-places
book-requires-clause-places c =
    let s = c.self.inside.store in
    let j = c.in-Some.index in
    let hs = c.args.holds.now in
    let sound = c.find_group.ensures.sound in
    let g : GroupState = group_at s.groups j in
    let within : j < length s.groups = c.in-Some.ensures.within in
    let low : c.lowered-kept.result ≡ lowered_to s.keys g.holds hs = c.lowered-kept.ensures
    ∙ ap (λ (x : StoreSeen). lowered_to x.keys c.unbook-held.result hs) c.unbook-held.ensures.rest
    ∙ ap (λ (x : List Amount). lowered_to s.keys x hs) c.unbook-held.ensures.holds in
    let is : IsLowered s.keys g.holds hs (lowered_to s.keys g.holds hs) =
    lowered_is s.keys g.holds hs (sound.grouped.ordered j no_group within) c.requires.rising
    (at_most_seen s.keys s.groups c.args.group j hs sound.grouped.rising c.in-Some.ensures.found (rw (← c.self.view_is) at c.requires.at_most)) in
    rw (c.unbook-held.ensures.rest, low) (lowered_places s.keys (length s.keys) g.holds hs (sound.of_accounts j no_group within).0)

pub book-requires-clause-rising : goal.book-requires-clause-rising
book-requires-clause-rising c =
    let s = c.self.inside.store in
    let j = c.in-Some.index in
    let hs = c.args.holds.now in
    let sound = c.find_group.ensures.sound in
    let g : GroupState = group_at s.groups j in
    let within : j < length s.groups = c.in-Some.ensures.within in
    let low : c.lowered-kept.result ≡ lowered_to s.keys g.holds hs = c.lowered-kept.ensures
    ∙ ap (λ (x : StoreSeen). lowered_to x.keys c.unbook-held.result hs) c.unbook-held.ensures.rest
    ∙ ap (λ (x : List Amount). lowered_to s.keys x hs) c.unbook-held.ensures.holds in
    let is : IsLowered s.keys g.holds hs (lowered_to s.keys g.holds hs) =
    lowered_is s.keys g.holds hs (sound.grouped.ordered j no_group within) c.requires.rising
    (at_most_seen s.keys s.groups c.args.group j hs sound.grouped.rising c.in-Some.ensures.found (rw (← c.self.view_is) at c.requires.at_most)) in
    rw (c.unbook-held.ensures.rest, low)
    (subst (λ (ks : List Key). Rises key_cmp ks) (sym (keys_of_holds s.keys (lowered_to s.keys g.holds hs) hs is.stand)) c.requires.rising)

pub book-requires-clause-room : goal.book-requires-clause-room
book-requires-clause-room c =
    let s = c.self.inside.store in
    let j = c.in-Some.index in
    let hs = c.args.holds.now in
    let sound = c.find_group.ensures.sound in
    let g : GroupState = group_at s.groups j in
    let within : j < length s.groups = c.in-Some.ensures.within in
    let low : c.lowered-kept.result ≡ lowered_to s.keys g.holds hs = c.lowered-kept.ensures
    ∙ ap (λ (x : StoreSeen). lowered_to x.keys c.unbook-held.result hs) c.unbook-held.ensures.rest
    ∙ ap (λ (x : List Amount). lowered_to s.keys x hs) c.unbook-held.ensures.holds in
    let is : IsLowered s.keys g.holds hs (lowered_to s.keys g.holds hs) =
    lowered_is s.keys g.holds hs (sound.grouped.ordered j no_group within) c.requires.rising
    (at_most_seen s.keys s.groups c.args.group j hs sound.grouped.rising c.in-Some.ensures.found (rw (← c.self.view_is) at c.requires.at_most)) in
    rw (c.unbook-held.ensures.rest, low) (λ i l. rebooked_room s.postings s.groups j (lowered_to s.keys g.holds hs) i within (sound.covered i l) (is.less i))

pub returns-in-Some-clause-books : goal.returns-in-Some-clause-books
returns-in-Some-clause-books c =
    let s = c.self.inside.store in
    let j = c.in-Some.index in
    let hs = c.args.holds.now in
    let sound = c.find_group.ensures.sound in
    let g : GroupState = group_at s.groups j in
    let within : j < length s.groups = c.in-Some.ensures.within in
    let low : c.lowered-kept.result ≡ lowered_to s.keys g.holds hs = c.lowered-kept.ensures
    ∙ ap (λ (x : StoreSeen). lowered_to x.keys c.unbook-held.result hs) c.unbook-held.ensures.rest
    ∙ ap (λ (x : List Amount). lowered_to s.keys x hs) c.unbook-held.ensures.holds in
    let is : IsLowered s.keys g.holds hs (lowered_to s.keys g.holds hs) =
    lowered_is s.keys g.holds hs (sound.grouped.ordered j no_group within) c.requires.rising
    (at_most_seen s.keys s.groups c.args.group j hs sound.grouped.rising c.in-Some.ensures.found (rw (← c.self.view_is) at c.requires.at_most)) in
    rw (c.book.ensures, c.unbook-held.ensures.rest, low, rebooked s.groups j (lowered_to s.keys g.holds hs) within, ← c.self.view_is)
    (sym (released_seen s.keys s.postings s.groups c.args.group j hs (lowered_to s.keys g.holds hs) sound.grouped.rising c.in-Some.ensures.found is.stand))

pub returns-in_default-clause-books : goal.returns-in_default-clause-books
returns-in_default-clause-books c =
    let s = c.self.inside.store in
    rw (← c.self.view_is) (sym (ap (λ (l : List GroupHolds). record { entries = map (entry_of s.keys) s.postings; holds = l })
    (change_absent s.keys s.groups c.args.group (with_holds c.args.holds.now) c.in_default.ensures.found)))
