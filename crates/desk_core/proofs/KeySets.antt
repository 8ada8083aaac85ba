-- The accounts of needs, as a set.
use Rattle.std.proofs.Common.{◌≡◌, ℕ, zero, suc, ◌+◌, ◌<◌, ◌≤◌, Bool, true, false, List, [], ◌∷◌, length, get_or, fold, sum_by, All, refl, sym, ◌∙◌}
use Rattle.std.proofs.Common.{ap, subst, arith, inl, inr, ◌⊎◌}
use Rattle.std.specs.List.{Contains, list_any}
use Rattle.std.specs.Ordering.{is_eq, match_ordering}
use Rattle.std.specs.BTreeSet.{insert_key}
use Rattle.std.specs.declared.cmp.Ordering.{Ordering}
use Rattle.std.specs.declared.cmp.Ordering.TheVariants.{Less, Equal, Greater}
use Rattle.std.proofs.lemmas.Bool.{or_cases, or_left, or_right}
use Rattle.std.proofs.lemmas.List.Elements.{All-cons}
use Rattle.std.proofs.lemmas.List.Kept.{AllPairs-cons}
use Rattle.std.proofs.lemmas.List.Sums.{sum_by-cons}
use Rattle.std.proofs.lemmas.Map.Views.{All-insert_key}
use Rattle.allocations.specs.declared.entry.Hold.{Hold}
use Rattle.allocations.specs.declared.key.Key.{Key}
use Rattle.allocations.specs.Key.{key_cmp, is_key}
use Rattle.allocations.specs.Rising.{Rises}
use Rattle.allocations.proofs.Keys.{key_cmp_total, key_same, is_key-refl, is_key-true}
use Rattle.allocations.proofs.Order.{below}

-- ---- elements

in_here : {X : Type 0} (x : X) (xs : List X) → Contains (x ∷ xs) x
in_here x xs = (0, omega arith, refl)

in_there : {X : Type 0} (x y : X) (xs : List X) → Contains xs x → Contains (y ∷ xs) x
in_there x y xs c = let within : c.0 < length xs = c.1 in (suc c.0, omega (arith, within), c.2)

in_none : {X : Type 0} (x : X) → Contains [] x → ⊥
in_none x c = let within : c.0 < 0 = c.1 in absurd (omega (arith, within))

in_split : {X : Type 0} (x y : X) (xs : List X) → Contains (y ∷ xs) x → (y ≡ x) ⊎ Contains xs x
in_split x y xs c = at c.0 c.1 c.2
  where
    at : (i : ℕ) → i < length (y ∷ xs) → get_or (y ∷ xs) i x ≡ x → (y ≡ x) ⊎ Contains xs x
    at zero l e = inl e
    at (suc i) l e = inr (i, omega arith, e)

-- ---- rising lists of accounts

pub not_less : (k : Key) → key_cmp k k ≡ Less → ⊥
not_less k e = let bad : false ≡ true = sym (ap is_eq e) ∙ is_key-refl k in cc

pub rises_head : (k : Key) (ks : List Key) → Rises key_cmp (k ∷ ks) → All (λ y. key_cmp k y ≡ Less) ks
rises_head k ks h = λ i d l. h 0 (suc i) d (omega arith) (omega arith)

pub rises_tail : (k : Key) (ks : List Key) → Rises key_cmp (k ∷ ks) → Rises key_cmp ks
rises_tail k ks h = λ i j d l m. h (suc i) (suc j) d (omega arith) (omega arith)

below_later : (k x : Key) (ks : List Key) → Rises key_cmp (k ∷ ks) → Contains ks x → key_cmp k x ≡ Less
below_later k x ks h c = ap (key_cmp k) (sym c.2) ∙ rises_head k ks h c.0 x c.1

below_all : (k x : Key) (xs : List Key) → key_cmp k x ≡ Less → Rises key_cmp (x ∷ xs) → All (λ y. key_cmp k y ≡ Less) (x ∷ xs)
below_all k x xs e h = All-cons (λ y. key_cmp k y ≡ Less) x xs e (λ i d l. key_cmp_total.trans k x (get_or xs i d) e (rises_head x xs h i d l))

-- a key that is put in its place leaves a rising list
pub rises_insert : (ks : List Key) (k : Key) → Rises key_cmp ks → Rises key_cmp (insert_key key_cmp ks k)
rises_insert [] k h = λ i j d l m. absurd (omega arith)
rises_insert (x ∷ xs) k h = by (key_cmp k x) refl (rises_insert xs k (rises_tail x xs h))
  where
    by : (o : Ordering) → key_cmp k x ≡ o → Rises key_cmp (insert_key key_cmp xs k)
        → Rises key_cmp (match_ordering o (k ∷ x ∷ xs) (x ∷ xs) (x ∷ insert_key key_cmp xs k))
    by Less e rest = AllPairs-cons (λ a b. key_cmp a b ≡ Less) k (x ∷ xs) (below_all k x xs e h) h
    by Equal e rest = h
    by Greater e rest =
        AllPairs-cons (λ a b. key_cmp a b ≡ Less) x (insert_key key_cmp xs k)
        (All-insert_key key_cmp k (λ y. key_cmp x y ≡ Less) xs (rises_head x xs h) (below key_cmp key_cmp_total k x e)) rest

in_insert : (ks : List Key) (k x : Key) → Contains ks x → Contains (insert_key key_cmp ks k) x
in_insert [] k x c = absurd (in_none x c)
in_insert (y ∷ ys) k x c = by (key_cmp k y) (λ later. in_insert ys k x later)
  where
    by : (o : Ordering) → (Contains ys x → Contains (insert_key key_cmp ys k) x)
        → Contains (match_ordering o (k ∷ y ∷ ys) (y ∷ ys) (y ∷ insert_key key_cmp ys k)) x
    by Less rest = in_there x k (y ∷ ys) c
    by Equal rest = c
    by Greater rest = elim (in_split x y ys c) [
      | inl here ↦ subst (λ (z : Key). Contains (z ∷ insert_key key_cmp ys k) x) (sym here) (in_here x (insert_key key_cmp ys k))
      | inr later ↦ in_there x y (insert_key key_cmp ys k) (rest later)
    ]

insert_in : (ks : List Key) (k : Key) → Contains (insert_key key_cmp ks k) k
insert_in [] k = in_here k []
insert_in (y ∷ ys) k = by (key_cmp k y) refl (insert_in ys k)
  where
    by : (o : Ordering) → key_cmp k y ≡ o → Contains (insert_key key_cmp ys k) k
        → Contains (match_ordering o (k ∷ y ∷ ys) (y ∷ ys) (y ∷ insert_key key_cmp ys k)) k
    by Less e rest = in_here k (y ∷ ys)
    by Equal e rest = subst (λ (z : Key). Contains (z ∷ ys) k) (key_same k y e) (in_here k ys)
    by Greater e rest = in_there k y (insert_key key_cmp ys k) rest

insert_or : (ks : List Key) (k x : Key) → Contains (insert_key key_cmp ks k) x → (k ≡ x) ⊎ Contains ks x
insert_or [] k x c = in_split x k [] c
insert_or (y ∷ ys) k x c = by (key_cmp k y) c (λ later. insert_or ys k x later)
  where
    by : (o : Ordering) → Contains (match_ordering o (k ∷ y ∷ ys) (y ∷ ys) (y ∷ insert_key key_cmp ys k)) x
        → (Contains (insert_key key_cmp ys k) x → (k ≡ x) ⊎ Contains ys x) → (k ≡ x) ⊎ Contains (y ∷ ys) x
    by Less d rest = in_split x k (y ∷ ys) d
    by Equal d rest = inr d
    by Greater d rest = elim (in_split x y (insert_key key_cmp ys k) d) [
      | inl here ↦ inr (subst (λ (z : Key). Contains (z ∷ ys) x) (sym here) (in_here x ys))
      | inr later ↦ elim (rest later) [ inl new ↦ inl new | inr old ↦ inr (in_there x y ys old) ]
    ]

-- a sum over some of the keys is at most the sum over all
pub sum_of_some : (f : Key → ℕ) (ks ls : List Key) → Rises key_cmp ks → Rises key_cmp ls → ((x : Key) → Contains ks x → Contains ls x)
    → sum_by f ks ≤ sum_by f ls
sum_of_some f [] ls h g s = omega arith
sum_of_some f (k ∷ ks) [] h g s = absurd (in_none k (s k (in_here k ks)))
sum_of_some f (k ∷ ks) (l ∷ ls) h g s =
    let first : sum_by f (k ∷ ks) ≡ f k + sum_by f ks = sum_by-cons f k ks in
    let other : sum_by f (l ∷ ls) ≡ f l + sum_by f ls = sum_by-cons f l ls in
    elim (in_split k l ls (s k (in_here k ks))) [
      | inl same ↦
          let worth : f l ≡ f k = ap f same in
          let rest : sum_by f ks ≤ sum_by f ls =
          sum_of_some f ks ls (rises_tail k ks h) (rises_tail l ls g) (λ x c. elim (in_split x l ls (s x (in_there x k ks c))) [
            | inl here ↦ absurd (not_less k (ap (key_cmp k) (sym same ∙ here) ∙ below_later k x ks h c))
            | inr later ↦ later
          ]) in
          omega (arith, first, other, worth, rest)
      | inr there ↦
          let rest : sum_by f (k ∷ ks) ≤ sum_by f ls = sum_of_some f (k ∷ ks) ls h (rises_tail l ls g) (λ x c. elim (in_split x l ls (s x c)) [
            | inl here ↦ elim (in_split x k ks c) [
              | inl too ↦ absurd (not_less l (ap (key_cmp l) (here ∙ sym too) ∙ below_later l k ls g there))
              | inr later ↦ absurd (not_less l (key_cmp_total.trans l k l (below_later l k ls g there) (ap (key_cmp k) here ∙ below_later k x ks h later)))
            ]
            | inr later ↦ later
          ]) in
          omega (arith, other, rest)
    ]

-- ---- the keys of holds

-- the keys, once those of holds are put among them
abbrev pub keys_from : List Key → List Hold → List Key
keys_from keys needs = fold (λ keys h. insert_key key_cmp keys h.key) keys needs

-- whether one of the holds is on this account
abbrev pub is_on : Key → List Hold → Bool
is_on key needs = list_any (λ h. is_key h.key key) needs

pub rises_from : (ks : List Key) (needs : List Hold) → Rises key_cmp ks → Rises key_cmp (keys_from ks needs)
rises_from ks [] h = h
rises_from ks (n ∷ ns) h = rises_from (insert_key key_cmp ks n.key) ns (rises_insert ks n.key h)

kept_from : (ks : List Key) (needs : List Hold) (x : Key) → Contains ks x → Contains (keys_from ks needs) x
kept_from ks [] x c = c
kept_from ks (n ∷ ns) x c = kept_from (insert_key key_cmp ks n.key) ns x (in_insert ks n.key x c)

-- a key of the holds is among them
pub on_from : (ks : List Key) (needs : List Hold) (x : Key) → is_on x needs ≡ true → Contains (keys_from ks needs) x
on_from ks [] x e = cc
on_from ks (n ∷ ns) x e = elim (or_cases (is_key n.key x) (is_on x ns) e) [
  | inl here ↦ kept_from (insert_key key_cmp ks n.key) ns x
      (subst (λ (z : Key). Contains (insert_key key_cmp ks n.key) z) (is_key-true n.key x here) (insert_in ks n.key))
  | inr later ↦ on_from (insert_key key_cmp ks n.key) ns x later
]

-- and all others were there
pub from_on : (ks : List Key) (needs : List Hold) (x : Key) → Contains (keys_from ks needs) x → Contains ks x ⊎ (is_on x needs ≡ true)
from_on ks [] x c = inl c
from_on ks (n ∷ ns) x c = elim (from_on (insert_key key_cmp ks n.key) ns x c) [
  | inl before ↦ elim (insert_or ks n.key x before) [
    | inl new ↦ inr (or_left (is_key n.key x) (is_on x ns) (ap (λ (z : Key). is_key n.key z) (sym new) ∙ is_key-refl n.key))
    | inr old ↦ inl old
  ]
  | inr later ↦ inr (or_right (is_key n.key x) (is_on x ns) later)
]
