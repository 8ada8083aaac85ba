-- What a register's list says of its keys.
use Rattle.std.proofs.Common.{◌≡◌, ℕ, ◌+◌, ◌<◌, ◌≤◌, List, [], ◌∷◌, ◌++◌, length, get_or, take, drop, zero, suc, refl, sym, ap, ◌∙◌, inl, inr, ⊎_elim}
use Rattle.std.proofs.Common.{arith, map, false}
use Rattle.std.proofs.lemmas.Bool.{false≢true}
use Rattle.std.specs.Prelude.{OnOk, Bool, IsTrue, ◌↔◌, is_ok, Result, Ok, Err, Some, slice_get, All, Any, Contains, MatchResult}
use Rattle.std.specs.List.{insert}
use Rattle.std.specs.List.Sorted.{IsNonDecreasingBy, IsSearchInRange, IsBinarySearchResult}
use Rattle.std.specs.Ordering.{nat_cmp, ordering_then, ordering_index, is_lt}
use Rattle.std.specs.declared.cmp.Ordering.{Ordering}
use Rattle.std.specs.declared.cmp.Ordering.TheVariants.{Less, Equal, Greater}
use Rattle.std.specs.Cmp.Lexicographic.{slice_cmp}
use Rattle.std.proofs.lemmas.Cmp.{nat_list_cmp_total, tied_itself}
use Rattle.std.proofs.lemmas.Bool.{cases_lt}
use Rattle.std.proofs.lemmas.List.{get_or-map as get_or_map, length-map, take-append-drop, map-append, take-map, drop-map}
use Rattle.std.proofs.lemmas.List.Elements.{All-map, All-cons, All-append, All-take, All-drop, All-contains, All-weaker, All-push}
use Rattle.std.proofs.lemmas.List.Elements.{Contains-append_left, Contains-append_right, Contains-append_cases}
use Rattle.std.proofs.lemmas.List.Sorted.{searchable_from_sorted}
use Rattle.std.proofs.lemmas.Option.{slice_get_within, slice_get_cases, get_or_from_slice_get}
use Rattle.std.proofs.Math.ListN.{get_or-map}
use Rattle.allocations.specs.declared.key.Key.{Key}
use Rattle.allocations.specs.declared.register.Listed.{Listed}
use Rattle.allocations.specs.Key.{account_rank, key_cmp}
use Rattle.allocations.specs.Rising.{IsGap}
use Rattle.allocations.specs.Register.{keys_of, IsRegister}
use Rattle.allocations.proofs.Keys.{key_cmp_total, texts_same}
use Rattle.allocations.proofs.Order.{above, tied, gap-absent, Rises-insert}

-- a key with a gap in the order isn't known
pub unknown : (keys : List Key) (order : List Listed) (k : Key) (i : ℕ) → IsRegister keys order → IsGap key_cmp (keys_of order) k i → Contains keys k → ⊥
unknown keys order k i r g there = gap-absent key_cmp key_cmp_total (keys_of order) k i g (All-contains (Contains (keys_of order)) keys k r.all there)

pub map-insert : {X Y : Type 0} (f : X → Y) (xs : List X) (i : ℕ) (x : X) → map f (insert xs i x) ≡ insert (map f xs) i (f x)
map-insert f xs i x = simp (map-append, take-map, drop-map)

pub slice_get-push : {X : Type 0} (xs : List X) (x : X) → slice_get (xs ++ x ∷ []) (length xs) ≡ Some x
slice_get-push [] x = refl
slice_get-push (y ∷ ys) x = slice_get-push ys x

pub slice_get-kept : {X : Type 0} (xs : List X) (x y : X) (i : ℕ) → slice_get xs i ≡ Some y → slice_get (xs ++ x ∷ []) i ≡ Some y
slice_get-kept [] x y i h = cc
slice_get-kept (z ∷ zs) x y zero h = h
slice_get-kept (z ∷ zs) x y (suc i) h = slice_get-kept zs x y i h

Contains-insert : {X : Type 0} (xs : List X) (i : ℕ) (x y : X) → Contains xs y → Contains (insert xs i x) y
Contains-insert xs i x y h =
    ⊎_elim (λ (t : Contains (take i xs) y). Contains-append_left (take i xs) (x ∷ drop i xs) y t)
    (λ (d : Contains (drop i xs) y). Contains-append_right (take i xs) (x ∷ drop i xs) y (Contains-append_right (x ∷ []) (drop i xs) y d))
    (Contains-append_cases (take i xs) (drop i xs) y (rw take-append-drop h))

-- one more account
pub registered : (keys : List Key) (order : List Listed) (k : Key) (i : ℕ) → IsRegister keys order → IsGap key_cmp (keys_of order) k i
    → IsRegister (keys ++ k ∷ []) (insert order i record { key = k; place = length keys })
registered keys order k i r g =
    let new : Listed = record { key = k; place = length keys } in
    let mapped = map-insert (λ (l : Listed). l.key) order i new in
    record {
      rising = rw mapped (Rises-insert key_cmp key_cmp_total (keys_of order) k i r.rising g);
      places =
          let P : Listed → Type 0 = λ l. slice_get (keys ++ k ∷ []) l.place ≡ Some l.key in
          let old : All P order = All-weaker (λ l. slice_get keys l.place ≡ Some l.key) P (λ l h. slice_get-kept keys k l.key l.place h) order r.places in
          All-append P (take i order) (new ∷ drop i order) (All-take P i order old)
          (All-cons P new (drop i order) (slice_get-push keys k) (All-drop P i order old));
      all =
          rw mapped (All-push (Contains (insert (keys_of order) i k)) keys k
          (All-weaker (Contains (keys_of order)) (Contains (insert (keys_of order) i k)) (λ y h. Contains-insert (keys_of order) i k y h) keys r.all)
          (Contains-append_right (take i (keys_of order)) (k ∷ drop i (keys_of order)) k (Contains-head k (drop i (keys_of order)))));
    }
  where
    Contains-head : (x : Key) (xs : List Key) → Contains (x ∷ xs) x
    Contains-head x xs = (0, omega arith, refl)

-- the order by proposals follows the order by keys
proposal_order : (a b : Key) → key_cmp a b ≡ Less → is_lt (slice_cmp nat_cmp b.proposal a.proposal) ≡ false
proposal_order a b h = ordered (slice_cmp nat_cmp a.proposal b.proposal) refl h
  where
    ordered : (o : Ordering) → slice_cmp nat_cmp a.proposal b.proposal ≡ o
        → ordering_then o (ordering_then (nat_cmp (account_rank a.account) (account_rank b.account)) (slice_cmp nat_cmp a.instrument b.instrument))
        ≡ Less → is_lt (slice_cmp nat_cmp b.proposal a.proposal) ≡ false
    ordered Less e l = rw (above (slice_cmp nat_cmp) nat_list_cmp_total a.proposal b.proposal e) refl
    ordered Equal e l = rw (tied (slice_cmp nat_cmp) nat_list_cmp_total a.proposal b.proposal e) refl
    ordered Greater e l = cc

by_proposal : (keys : List Key) (order : List Listed) (p : List ℕ) → IsRegister keys order
    → IsNonDecreasingBy (λ l. ordering_index (slice_cmp nat_cmp l.key.proposal p)) order
by_proposal keys order p g =
    searchable_from_sorted nat_list_cmp_total (λ (l : Listed). l.key.proposal) order p (λ i d _ l.
    proposal_order (get_or order i d).key (get_or order (i + 1) d).key
    (let less : key_cmp (get_or order i d).key (get_or order (i + 1) d).key
    ≡ Less = rw (get_or-map (λ (x : Listed). x.key) order i d, get_or-map (λ (x : Listed). x.key) order (i + 1) d) at
    (g.rising i (i + 1) d.key (omega arith) (rw length-map (omega arith))) in less))

-- what a binary search by a proposal finds
pub known : (keys : List Key) (order : List Listed) (p : List ℕ) (r : Result ℕ ℕ) → IsRegister keys order → IsSearchInRange r (length order)
    → IsBinarySearchResult (λ l. slice_cmp nat_cmp l.key.proposal p) order r
    → MatchResult r (λ _. Any (λ k. k.proposal ≡ p) keys) (λ _. Any (λ k. k.proposal ≡ p) keys → ⊥)
known keys order p (Ok i) g b h =
    elim (slice_get_cases order i).1 [
      | inl w ↦
          (let l : Listed = w.0 in
          let at : slice_get keys l.place ≡ Some l.key = rw w.3 at (g.places i l b) in
          let same : l.key.proposal ≡ p = texts_same l.key.proposal p (rw w.3 at (h l)) in
          (l.place, l.key, slice_get_within keys l.place l.key at, get_or_from_slice_get keys l.place l.key l.key at, same))
      | inr w ↦ absurd (omega (arith, b, w.0))
    ]
known keys order p (Err i) g b h =
    λ any.
    let k : Key = any.1 in
    let listed : Contains (keys_of order) k = All-contains (Contains (keys_of order)) keys k g.all (any.0, any.2, any.3) in
    let j : ℕ = listed.0 in
    let parted = h (by_proposal keys order p g) in
    let within : j < length order = rw length-map at listed.1 in
    elim (slice_get_cases order j).1 [
      | inl w ↦
          (let l : Listed = w.0 in
          let key : l.key ≡ k = ap (λ (x : Listed). x.key) (sym w.3) ∙ sym (get_or_map (λ (x : Listed). x.key) order j l k within) ∙ listed.2 in
          let tie : slice_cmp nat_cmp l.key.proposal p ≡ Equal = rw (key, any.4) (tied_itself nat_list_cmp_total p) in
          ⊎_elim
          (λ (s : j < i). let less : slice_cmp nat_cmp l.key.proposal p ≡ Less = rw w.3 at (parted.0 j l (omega arith) s) in cc)
          (λ (s : i ≤ j). let greater : slice_cmp nat_cmp l.key.proposal p ≡ Greater = rw w.3 at (parted.1 j l s within) in cc)
          (cases_lt j i))
      | inr w ↦ absurd (omega (arith, within, w.0))
    ]

pub known_answer : (r : Result ℕ ℕ) (b : Bool) {A : Type 0} → b ≡ is_ok r → MatchResult r (λ _. A) (λ _. A → ⊥) → IsTrue b ↔ A
known_answer (Ok i) b e h = ((λ _. h), (λ _. rw e (refl)))
known_answer (Err i) b e h = ((λ t. absurd (false≢true (sym e ∙ t))), (λ a. absurd (h a)))

-- what holds always holds on `Ok`
pub on_ok : {T E : Type 0} (r : Result T E) {P : Type 0} → P → OnOk r P
on_ok (Ok x) p = p
on_ok (Err e) p = tt

-- each key that is listed is known
pub listed_known : (keys : List Key) (order : List Listed) → IsRegister keys order → All (Contains keys) (keys_of order)
listed_known keys order r = All-map (Contains keys) (λ (l : Listed). l.key) order
    (All-weaker (λ (l : Listed). slice_get keys l.place ≡ Some l.key) (λ (l : Listed). Contains keys l.key)
    (λ l at. (l.place, slice_get_within keys l.place l.key at, get_or_from_slice_get keys l.place l.key l.key at)) order r.places)
