-- Changes of what is kept are changes of the books.
use Rattle.std.proofs.Common.{◌≡◌, ℕ, List, [], ◌∷◌, ◌++◌, get_or, set, refl, sym, ap, ◌∙◌, map, Some, None, Option}
use Rattle.std.specs.Prelude.{Contains, MatchOption, slice_get, option_and_then}
use Rattle.std.specs.Option.{option_map, option_to_list}
use Rattle.std.specs.Ordering.{nat_cmp}
use Rattle.std.proofs.lemmas.List.{map-append, map-set, length-map, append-nil, get_or-set_same}
use Rattle.std.proofs.Math.ListN.{get_or-map}
use Rattle.std.proofs.Math.Seq.{map-set_same}
use Rattle.plan_base.specs.declared.number.GroupNo.{GroupNo}
use Rattle.allocations.specs.declared.key.Key.{Key}
use Rattle.allocations.specs.declared.entry.Entry.{Entry}
use Rattle.allocations.specs.declared.entry.Hold.{Hold}
use Rattle.allocations.specs.declared.sums.Amount.{Amount}
use Rattle.allocations.specs.declared.posting.Posting.{Posting}
use Rattle.allocations.specs.declared.posting.GroupState.{GroupState}
use Rattle.allocations.specs.Rising.{Rises}
use Rattle.allocations.specs.Books.{GroupHolds}
use Rattle.allocations.specs.Raw.{entry_of, hold_of, group_of, books_of}
use Rattle.allocations.specs.Changes.{change_group, with_holds, without_ipp, ipp_of, refund_entry, released, refunded, freed}
use Rattle.allocations.specs.Store.{StoreSeen, no_group, group_at, numbers_of, refund_posting, empty_group, store_books, freed_books, IsSound}
use Rattle.allocations.specs.Ledger.{IsFree}
use Rattle.allocations.specs.Booking.{HoldsNothing}
use Rattle.allocations.proofs.Groups.{emptied}
use Rattle.allocations.proofs.Booked.{number_at}
use Rattle.allocations.proofs.Numbered.{map_at, map_absent, find_at, find_absent}
use Rattle.allocations.proofs.Settled.{map_mapped, ipp_seen}

map_nil : {X Y : Type 0} (f : X → Y) (xs : List X) → map f xs ≡ [] → xs ≡ []
map_nil f [] e = refl
map_nil f (x ∷ xs) e = cc

-- a group that holds nothing in the books holds nothing
pub free_seen : (keys : List Key) (gs : List GroupState) (n : GroupNo) → IsFree n (map (group_of keys) gs) → HoldsNothing n gs
free_seen keys gs n free k d l same =
    let at : get_or (map (group_of keys) gs) k (group_of keys d) ≡ group_of keys (get_or gs k d) = get_or-map (group_of keys) gs k d in
    let holds : (get_or (map (group_of keys) gs) k (group_of keys d)).holds ≡ [] =
    free k (group_of keys d) (rw length-map l) (ap (λ (g : GroupHolds). g.group) at ∙ same) in
    map_nil (hold_of keys) (get_or gs k d).holds (sym (ap (λ (g : GroupHolds). g.holds) at) ∙ holds)

seen_numbers : (keys : List Key) (gs : List GroupState) → map (λ (g : GroupHolds). g.group.0) (map (group_of keys) gs) ≡ numbers_of gs
seen_numbers keys gs = map_mapped (group_of keys) (λ (g : GroupHolds). g.group.0) gs

-- a change of the group at a place
pub change_seen : (keys : List Key) (gs : List GroupState) (n : GroupNo) (j : ℕ) (f : GroupHolds → GroupHolds) (g : GroupState)
    → Rises nat_cmp (numbers_of gs) → slice_get (numbers_of gs) j ≡ Some n.0 → f (group_of keys (group_at gs j)) ≡ group_of keys g
    → change_group n f (map (group_of keys) gs) ≡ map (group_of keys) (set gs j g)
change_seen keys gs n j f g r at e =
    map_at (λ (x : GroupHolds). x.group.0) (map (group_of keys) gs) n.0 j f (group_of keys no_group) (rw (seen_numbers keys gs) r)
    (rw (seen_numbers keys gs) at)
    ∙ ap (λ (x : GroupHolds). set (map (group_of keys) gs) j (f x)) (get_or-map (group_of keys) gs j no_group)
    ∙ ap (λ (x : GroupHolds). set (map (group_of keys) gs) j x) e
    ∙ sym (map-set (group_of keys) gs j g)

-- a change of a group that isn't there
pub change_absent : (keys : List Key) (gs : List GroupState) (n : GroupNo) (f : GroupHolds → GroupHolds) → (Contains (numbers_of gs) n.0 → ⊥)
    → change_group n f (map (group_of keys) gs) ≡ map (group_of keys) gs
change_absent keys gs n f absent = map_absent (λ (x : GroupHolds). x.group.0) (map (group_of keys) gs) n.0 f (rw (seen_numbers keys gs) absent)

pub ipp_at : (keys : List Key) (gs : List GroupState) (n : GroupNo) (j : ℕ) → Rises nat_cmp (numbers_of gs) → slice_get (numbers_of gs) j ≡ Some n.0
    → ipp_of n (map (group_of keys) gs) ≡ option_map (hold_of keys) (group_at gs j).ipp
ipp_at keys gs n j r at = ipp_seen keys n gs
    ∙ ap (λ (o : Option GroupState). option_map (hold_of keys) (option_and_then (λ (g : GroupState). g.ipp) o))
    (find_at (λ (g : GroupState). g.group.0) gs n.0 j no_group r at)

pub ipp_absent : (keys : List Key) (gs : List GroupState) (n : GroupNo) → (Contains (numbers_of gs) n.0 → ⊥) → ipp_of n (map (group_of keys) gs) ≡ None
ipp_absent keys gs n absent = ipp_seen keys n gs
    ∙ ap (λ (o : Option GroupState). option_map (hold_of keys) (option_and_then (λ (g : GroupState). g.ipp) o))
    (find_absent (λ (g : GroupState). g.group.0) gs n.0 absent)

refunds_seen : (keys : List Key) (n : GroupNo) (o : Option Amount)
    → map (entry_of keys) (map (refund_posting n) (option_to_list o)) ≡ map (refund_entry n) (option_to_list (option_map (hold_of keys) o))
refunds_seen keys n None = refl
refunds_seen keys n (Some m) = refl

-- a refund of the group at a place
pub refunded_seen : (keys : List Key) (ps : List Posting) (gs : List GroupState) (n : GroupNo) (j : ℕ) → Rises nat_cmp (numbers_of gs)
    → slice_get (numbers_of gs) j ≡ Some n.0
    → refunded n (books_of keys ps gs) ≡ books_of keys (ps ++ map (refund_posting n) (option_to_list (group_at gs j).ipp))
    (set gs j (record (group_at gs j) { ipp = None }))
refunded_seen keys ps gs n j r at =
    let entries : map (entry_of keys) ps ++ map (refund_entry n) (option_to_list (ipp_of n (map (group_of keys) gs)))
    ≡ map (entry_of keys) (ps ++ map (refund_posting n) (option_to_list (group_at gs j).ipp)) =
    ap (λ (o : Option Hold). map (entry_of keys) ps ++ map (refund_entry n) (option_to_list o)) (ipp_at keys gs n j r at)
    ∙ sym (map-append (entry_of keys) ps (map (refund_posting n) (option_to_list (group_at gs j).ipp))
    ∙ ap (λ (l : List Entry). map (entry_of keys) ps ++ l) (refunds_seen keys n (group_at gs j).ipp)) in
    let holds = change_seen keys gs n j without_ipp (record (group_at gs j) { ipp = None }) r at refl in
    ap (λ (l : List Entry). record { entries = l; holds = change_group n without_ipp (map (group_of keys) gs) }) entries
    ∙ ap (λ (l : List GroupHolds). record {
      entries = map (entry_of keys) (ps ++ map (refund_posting n) (option_to_list (group_at gs j).ipp));
      holds = l;
    }) holds

pub released_seen : (keys : List Key) (ps : List Posting) (gs : List GroupState) (n : GroupNo) (j : ℕ) (hs : List Hold) (ms : List Amount)
    → Rises nat_cmp (numbers_of gs) → slice_get (numbers_of gs) j ≡ Some n.0 → map (hold_of keys) ms ≡ hs
    → released n hs (books_of keys ps gs) ≡ books_of keys ps (set gs j (record (group_at gs j) { holds = ms }))
released_seen keys ps gs n j hs ms r at e =
    ap (λ (l : List GroupHolds). record { entries = map (entry_of keys) ps; holds = l })
    (change_seen keys gs n j (with_holds hs) (record (group_at gs j) { holds = ms }) r at
    (ap (λ (l : List Hold). record { group = (group_at gs j).group; holds = l; ipp = option_map (hold_of keys) (group_at gs j).ipp }) (sym e)))

pub freed_seen : (s : StoreSeen) (o : Option ℕ) (n : GroupNo) → IsSound s
    → MatchOption o (Contains (numbers_of s.groups) n.0 → ⊥) (λ j. slice_get (numbers_of s.groups) j ≡ Some n.0)
    → freed_books s o ≡ freed n (store_books s)
freed_seen s None n g absent =
    let kept : change_group n (with_holds []) (map (group_of s.keys) s.groups) ≡ map (group_of s.keys) s.groups =
    change_absent s.keys s.groups n (with_holds []) absent in
    let none = ipp_absent s.keys s.groups n absent in
    let same = change_absent s.keys s.groups n without_ipp absent in
    sym (ap (λ (l : List GroupHolds). refunded n record { entries = map (entry_of s.keys) s.postings; holds = l }) kept
    ∙ ap (λ (x : Option Hold). record {
      entries = map (entry_of s.keys) s.postings ++ map (refund_entry n) (option_to_list x);
      holds = change_group n without_ipp (map (group_of s.keys) s.groups);
    }) none
    ∙ ap (λ (l : List GroupHolds). record { entries = map (entry_of s.keys) s.postings ++ []; holds = l }) same
    ∙ ap (λ (l : List Entry). record { entries = l; holds = map (group_of s.keys) s.groups }) (append-nil (map (entry_of s.keys) s.postings)))
freed_seen s (Some j) n g at =
    let there = number_at s.groups n j at in
    let unbooked : GroupState = record (group_at s.groups j) { holds = [] } in
    let gs : List GroupState = set s.groups j unbooked in
    let numbers : numbers_of gs ≡ numbers_of s.groups = map-set_same (λ (x : GroupState). x.group.0) s.groups j unbooked no_group refl in
    let here : group_at gs j ≡ unbooked = get_or-set_same s.groups j unbooked no_group there.0 in
    sym (ap (refunded n) (released_seen s.keys s.postings s.groups n j [] [] g.grouped.rising at refl)
    ∙ refunded_seen s.keys s.postings gs n j (rw numbers g.grouped.rising) (rw numbers at)
    ∙ ap (λ (x : GroupState). books_of s.keys (s.postings ++ map (refund_posting n) (option_to_list x.ipp))
    (set gs j (record (group_at gs j) { ipp = None }))) here
    ∙ ap (λ (l : List GroupState). books_of s.keys (s.postings ++ map (refund_posting n) (option_to_list (group_at s.groups j).ipp)) l)
    (emptied s.groups j there.0)
    ∙ ap (λ (x : GroupNo). books_of s.keys (s.postings ++ map (refund_posting x) (option_to_list (group_at s.groups j).ipp))
    (set s.groups j (empty_group (group_at s.groups j).group))) (sym there.1))
