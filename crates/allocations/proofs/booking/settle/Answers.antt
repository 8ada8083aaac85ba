use Rattle.std.proofs.Common.{◌≡◌, ◌∙◌, sym, ap, subst, List}
use Rattle.allocations.specs.declared.key.Key.{Key}
use Rattle.allocations.specs.declared.posting.Posting.{Posting}
use Rattle.allocations.specs.declared.posting.GroupState.{GroupState}
use Rattle.allocations.specs.Key.{key_cmp}
use Rattle.allocations.specs.Rising.{Rises}
use Rattle.allocations.specs.Store.{StoreSeen, amount_keys, freed_postings, freed_groups}
use Rattle.allocations.proofs.Settled.{keys_of_holds, holds_room, ipp_room, booked_seen}
use Rattle.allocations.proofs.booking.settle.Goals as goal

pub book_group-requires-clause-rising : goal.book_group-requires-clause-rising
book_group-requires-clause-rising c =
    let s = c.args.store.now in
    let keys : c.free_old.new.store.keys ≡ s.keys = ap (λ (x : StoreSeen). x.keys) c.free_old.ensures.freed
    ∙ ap (λ (x : StoreSeen). x.keys) c.make_slot.ensures.rest ∙ ap (λ (x : StoreSeen). x.keys) c.reserve.ensures.rest in
    let listed : c.free_old.new.store.listed ≡ s.listed = ap (λ (x : StoreSeen). x.listed) c.free_old.ensures.freed
    ∙ ap (λ (x : StoreSeen). x.listed) c.make_slot.ensures.rest ∙ ap (λ (x : StoreSeen). x.listed) c.reserve.ensures.rest in
    let kept_postings : c.make_slot.new.self.postings ≡ s.postings = ap (λ (x : StoreSeen). x.postings) c.make_slot.ensures.rest
    ∙ ap (λ (x : StoreSeen). x.postings) c.reserve.ensures.rest in
    let kept_groups : c.make_slot.new.self.groups ≡ s.groups = ap (λ (x : StoreSeen). x.groups) c.make_slot.ensures.rest
    ∙ ap (λ (x : StoreSeen). x.groups) c.reserve.ensures.rest in
    let postings : c.free_old.new.store.postings ≡ freed_postings c.args.old s.postings s.groups =
    ap (λ (x : StoreSeen). x.postings) c.free_old.ensures.freed
    ∙ ap (λ (x : List Posting). freed_postings c.args.old x c.make_slot.new.self.groups) kept_postings
    ∙ ap (λ (x : List GroupState). freed_postings c.args.old s.postings x) kept_groups in
    let groups : c.free_old.new.store.groups ≡ freed_groups c.args.old s.groups = ap (λ (x : StoreSeen). x.groups) c.free_old.ensures.freed
    ∙ ap (λ (x : List GroupState). freed_groups c.args.old x) kept_groups in
    let of_accounts = c.in_ok-booking.ensures.booking in
    let ms = c.in_ok-booking.booking.holds in
    let rising : Rises key_cmp (amount_keys s.keys ms) =
    subst (λ (ks : List Key). Rises key_cmp ks) (sym (keys_of_holds s.keys ms c.args.holds.now of_accounts.holds_stand)) c.requires.rising in
    let covered = rw (keys, postings, groups) at c.free_old.ensures.sound.covered in
    rw keys rising

pub book_group-requires-clause-room : goal.book_group-requires-clause-room
book_group-requires-clause-room c =
    let s = c.args.store.now in
    let keys : c.free_old.new.store.keys ≡ s.keys = ap (λ (x : StoreSeen). x.keys) c.free_old.ensures.freed
    ∙ ap (λ (x : StoreSeen). x.keys) c.make_slot.ensures.rest ∙ ap (λ (x : StoreSeen). x.keys) c.reserve.ensures.rest in
    let listed : c.free_old.new.store.listed ≡ s.listed = ap (λ (x : StoreSeen). x.listed) c.free_old.ensures.freed
    ∙ ap (λ (x : StoreSeen). x.listed) c.make_slot.ensures.rest ∙ ap (λ (x : StoreSeen). x.listed) c.reserve.ensures.rest in
    let kept_postings : c.make_slot.new.self.postings ≡ s.postings = ap (λ (x : StoreSeen). x.postings) c.make_slot.ensures.rest
    ∙ ap (λ (x : StoreSeen). x.postings) c.reserve.ensures.rest in
    let kept_groups : c.make_slot.new.self.groups ≡ s.groups = ap (λ (x : StoreSeen). x.groups) c.make_slot.ensures.rest
    ∙ ap (λ (x : StoreSeen). x.groups) c.reserve.ensures.rest in
    let postings : c.free_old.new.store.postings ≡ freed_postings c.args.old s.postings s.groups =
    ap (λ (x : StoreSeen). x.postings) c.free_old.ensures.freed
    ∙ ap (λ (x : List Posting). freed_postings c.args.old x c.make_slot.new.self.groups) kept_postings
    ∙ ap (λ (x : List GroupState). freed_postings c.args.old s.postings x) kept_groups in
    let groups : c.free_old.new.store.groups ≡ freed_groups c.args.old s.groups = ap (λ (x : StoreSeen). x.groups) c.free_old.ensures.freed
    ∙ ap (λ (x : List GroupState). freed_groups c.args.old x) kept_groups in
    let of_accounts = c.in_ok-booking.ensures.booking in
    let ms = c.in_ok-booking.booking.holds in
    let rising : Rises key_cmp (amount_keys s.keys ms) =
    subst (λ (ks : List Key). Rises key_cmp ks) (sym (keys_of_holds s.keys ms c.args.holds.now of_accounts.holds_stand)) c.requires.rising in
    let covered = rw (keys, postings, groups) at c.free_old.ensures.sound.covered in
    rw (keys, postings, groups) (holds_room s.keys (freed_postings c.args.old s.postings s.groups)
    (freed_groups c.args.old s.groups) ms rising covered of_accounts.holds_fit)

pub book_group-requires-clause-ipp_room : goal.book_group-requires-clause-ipp_room
book_group-requires-clause-ipp_room c =
    let s = c.args.store.now in
    let keys : c.free_old.new.store.keys ≡ s.keys = ap (λ (x : StoreSeen). x.keys) c.free_old.ensures.freed
    ∙ ap (λ (x : StoreSeen). x.keys) c.make_slot.ensures.rest ∙ ap (λ (x : StoreSeen). x.keys) c.reserve.ensures.rest in
    let listed : c.free_old.new.store.listed ≡ s.listed = ap (λ (x : StoreSeen). x.listed) c.free_old.ensures.freed
    ∙ ap (λ (x : StoreSeen). x.listed) c.make_slot.ensures.rest ∙ ap (λ (x : StoreSeen). x.listed) c.reserve.ensures.rest in
    let kept_postings : c.make_slot.new.self.postings ≡ s.postings = ap (λ (x : StoreSeen). x.postings) c.make_slot.ensures.rest
    ∙ ap (λ (x : StoreSeen). x.postings) c.reserve.ensures.rest in
    let kept_groups : c.make_slot.new.self.groups ≡ s.groups = ap (λ (x : StoreSeen). x.groups) c.make_slot.ensures.rest
    ∙ ap (λ (x : StoreSeen). x.groups) c.reserve.ensures.rest in
    let postings : c.free_old.new.store.postings ≡ freed_postings c.args.old s.postings s.groups =
    ap (λ (x : StoreSeen). x.postings) c.free_old.ensures.freed
    ∙ ap (λ (x : List Posting). freed_postings c.args.old x c.make_slot.new.self.groups) kept_postings
    ∙ ap (λ (x : List GroupState). freed_postings c.args.old s.postings x) kept_groups in
    let groups : c.free_old.new.store.groups ≡ freed_groups c.args.old s.groups = ap (λ (x : StoreSeen). x.groups) c.free_old.ensures.freed
    ∙ ap (λ (x : List GroupState). freed_groups c.args.old x) kept_groups in
    let of_accounts = c.in_ok-booking.ensures.booking in
    let ms = c.in_ok-booking.booking.holds in
    let rising : Rises key_cmp (amount_keys s.keys ms) =
    subst (λ (ks : List Key). Rises key_cmp ks) (sym (keys_of_holds s.keys ms c.args.holds.now of_accounts.holds_stand)) c.requires.rising in
    let covered = rw (keys, postings, groups) at c.free_old.ensures.sound.covered in
    rw (postings, groups) (ipp_room s.keys (freed_postings c.args.old s.postings s.groups)
    (freed_groups c.args.old s.groups) ms c.args.holds.now c.args.ipp c.in_ok-booking.booking.ipp of_accounts.holds_stand c.requires.not_ipp
    covered of_accounts.ipp_place of_accounts.ipp_fits of_accounts.ipp_stands)

pub returns-clause-booked : goal.returns-clause-booked
returns-clause-booked c =
    let s = c.args.store.now in
    let keys : c.free_old.new.store.keys ≡ s.keys = ap (λ (x : StoreSeen). x.keys) c.free_old.ensures.freed
    ∙ ap (λ (x : StoreSeen). x.keys) c.make_slot.ensures.rest ∙ ap (λ (x : StoreSeen). x.keys) c.reserve.ensures.rest in
    let listed : c.free_old.new.store.listed ≡ s.listed = ap (λ (x : StoreSeen). x.listed) c.free_old.ensures.freed
    ∙ ap (λ (x : StoreSeen). x.listed) c.make_slot.ensures.rest ∙ ap (λ (x : StoreSeen). x.listed) c.reserve.ensures.rest in
    let kept_postings : c.make_slot.new.self.postings ≡ s.postings = ap (λ (x : StoreSeen). x.postings) c.make_slot.ensures.rest
    ∙ ap (λ (x : StoreSeen). x.postings) c.reserve.ensures.rest in
    let kept_groups : c.make_slot.new.self.groups ≡ s.groups = ap (λ (x : StoreSeen). x.groups) c.make_slot.ensures.rest
    ∙ ap (λ (x : StoreSeen). x.groups) c.reserve.ensures.rest in
    let postings : c.free_old.new.store.postings ≡ freed_postings c.args.old s.postings s.groups =
    ap (λ (x : StoreSeen). x.postings) c.free_old.ensures.freed
    ∙ ap (λ (x : List Posting). freed_postings c.args.old x c.make_slot.new.self.groups) kept_postings
    ∙ ap (λ (x : List GroupState). freed_postings c.args.old s.postings x) kept_groups in
    let groups : c.free_old.new.store.groups ≡ freed_groups c.args.old s.groups = ap (λ (x : StoreSeen). x.groups) c.free_old.ensures.freed
    ∙ ap (λ (x : List GroupState). freed_groups c.args.old x) kept_groups in
    let of_accounts = c.in_ok-booking.ensures.booking in
    let ms = c.in_ok-booking.booking.holds in
    let rising : Rises key_cmp (amount_keys s.keys ms) =
    subst (λ (ks : List Key). Rises key_cmp ks) (sym (keys_of_holds s.keys ms c.args.holds.now of_accounts.holds_stand)) c.requires.rising in
    let covered = rw (keys, postings, groups) at c.free_old.ensures.sound.covered in
    rw (c.book_group.ensures, keys, postings, groups)
    (booked_seen s.keys (freed_postings c.args.old s.postings s.groups)
    (freed_groups c.args.old s.groups) c.args.group ms c.in_ok-booking.booking.ipp c.args.holds.now c.args.ipp
    of_accounts.holds_stand of_accounts.ipp_stands)
