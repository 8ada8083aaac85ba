-- Sums over the books are sums over postings and groups.
use Rattle.std.proofs.Common.{◌≡◌, ◌≢◌, ℕ, ◌<◌, ◌≤◌, List, [], ◌∷◌, length, refl, sym, ap, ⊎_elim, arith, map, Bool, true, false}
use Rattle.std.specs.Prelude.{All, AllPairs, sum_by, if◌then◌else◌, ◌==◌, ◌&&◌}
use Rattle.std.proofs.lemmas.Bool.{cases_lt, cases_eq, eq-eqb, ne_eqb}
use Rattle.std.proofs.lemmas.List.Elements.{All-head, All-tail, All-weaker}
use Rattle.std.proofs.lemmas.List.Sums.{sum_by-cons}
use Rattle.allocations.specs.declared.key.Key.{Key}
use Rattle.allocations.specs.declared.entry.Entry.{Entry}
use Rattle.allocations.specs.declared.entry.Hold.{Hold}
use Rattle.allocations.specs.declared.entry.EntryKind.{EntryKind}
use Rattle.allocations.specs.declared.sums.Amount.{Amount}
use Rattle.allocations.specs.declared.posting.Posting.{Posting}
use Rattle.allocations.specs.declared.posting.GroupState.{GroupState}
use Rattle.allocations.specs.Key.{is_key}
use Rattle.allocations.specs.Amounts.{amount_at}
use Rattle.allocations.specs.Books.{GroupHolds, is_kind, seconds_of, held_in, held_of}
use Rattle.allocations.specs.Raw.{no_key, key_at, entry_of, hold_of, group_of, posted, held_at, IsOfAccounts}
use Rattle.allocations.proofs.Keys.{is_key-refl, is_key-true}

pub sum_by_mapped : {X Y : Type 0} (f : X → ℕ) (g : Y → ℕ) (h : Y → X) (ys : List Y) → All (λ y. f (h y) ≡ g y) ys → sum_by f (map h ys) ≡ sum_by g ys
sum_by_mapped f g h [] all = refl
sum_by_mapped f g h (y ∷ ys) all =
    let first : f (h y) ≡ g y = All-head (λ z. f (h z) ≡ g z) y ys all in
    let rest = sum_by_mapped f g h ys (All-tail (λ z. f (h z) ≡ g z) y ys all) in
    rw (sum_by-cons f (h y) (map h ys), sum_by-cons g y ys, first, rest) refl

pub is_key-false : (a b : Key) → a ≢ b → is_key a b ≡ false
is_key-false a b ne = answer (is_key a b) refl
  where
    answer : (r : Bool) → is_key a b ≡ r → r ≡ false
    answer true e = absurd (ne (is_key-true a b e))
    answer false e = refl

-- keys at different places differ
pub key_at-apart : (keys : List Key) (i a : ℕ) → AllPairs (λ x y. x ≢ y) keys → i < length keys → a < length keys → a ≢ i → key_at keys a ≢ key_at keys i
key_at-apart keys i a apart li la ne e =
    ⊎_elim
    (λ (l : a < i). apart a i no_key l li e)
    (λ (l : i ≤ a). apart i a no_key (omega (arith, ne)) la (sym e))
    (cases_lt a i)

pub is_key_at : (keys : List Key) (i a : ℕ) → AllPairs (λ x y. x ≢ y) keys → i < length keys → a < length keys
    → is_key (key_at keys a) (key_at keys i) ≡ (a == i)
is_key_at keys i a apart li la =
    ⊎_elim
    (λ (e : a ≡ i). rw (e, is_key-refl (key_at keys i), eq-eqb i i refl) refl)
    (λ (ne : a ≡ i → ⊥). rw (is_key-false (key_at keys a) (key_at keys i) (key_at-apart keys i a apart li la ne), ne_eqb a i ne) refl)
    (cases_eq a i)

module _ (keys : List Key) (apart : AllPairs (λ x y. x ≢ y) keys) (i : ℕ) (li : i < length keys) where
  pub seconds_of-posted : (kind : EntryKind) (ps : List Posting) → All (λ p. p.account < length keys) ps
      → seconds_of kind (key_at keys i) (map (entry_of keys) ps) ≡ posted kind i ps
  seconds_of-posted kind ps located =
      sum_by_mapped (λ (e : Entry). if is_kind kind e.kind && is_key e.key (key_at keys i) then e.seconds else 0)
      (λ (p : Posting). if is_kind kind p.kind && (p.account == i) then p.seconds else 0) (entry_of keys) ps
      (All-weaker (λ p. p.account < length keys)
      (λ p. (if is_kind kind p.kind && is_key (key_at keys p.account) (key_at keys i) then p.seconds else 0)
      ≡ (if is_kind kind p.kind && (p.account == i) then p.seconds else 0))
      (λ p l. ap (λ (b : Bool). if is_kind kind p.kind && b then p.seconds else 0) (is_key_at keys i p.account apart li l)) ps located)

  pub held_in-amount : (ms : List Amount) → All (λ m. m.account < length keys) ms → held_in (key_at keys i) (map (hold_of keys) ms) ≡ amount_at i ms
  held_in-amount ms located =
      sum_by_mapped (λ (h : Hold). if is_key h.key (key_at keys i) then h.seconds else 0)
      (λ (m : Amount). if m.account == i then m.seconds else 0) (hold_of keys) ms
      (All-weaker (λ m. m.account < length keys)
      (λ m. (if is_key (key_at keys m.account) (key_at keys i) then m.seconds else 0) ≡ (if m.account == i then m.seconds else 0))
      (λ m l. ap (λ (b : Bool). if b then m.seconds else 0) (is_key_at keys i m.account apart li l)) ms located)

  pub held_of-held : (gs : List GroupState) → All (IsOfAccounts (length keys)) gs → held_of (map (group_of keys) gs) (key_at keys i) ≡ held_at i gs
  held_of-held gs of_accounts =
      sum_by_mapped (λ (g : GroupHolds). held_in (key_at keys i) g.holds) (λ (g : GroupState). amount_at i g.holds) (group_of keys) gs
      (All-weaker (IsOfAccounts (length keys)) (λ g. held_in (key_at keys i) (map (hold_of keys) g.holds) ≡ amount_at i g.holds)
      (λ g p. held_in-amount g.holds p.0) gs of_accounts)
