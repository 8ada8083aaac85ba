-- What holds of each two elements of a list, in whatever order they stand.
use Rattle.std.proofs.Common.{◌≡◌, ◌≢◌, ℕ, zero, suc, ◌+◌, ◌<◌, ◌⊎◌, inl, inr, List, [], ◌∷◌, ◌++◌, length, slice_index_or, All, AllPairs, Contains}
use Rattle.std.proofs.Common.{IsPermutation, add-one, refl, sym, ◌∙◌, ap, subst, arith}
use Rattle.std.specs.List.{swap}
use Rattle.std.proofs.lemmas.Bool.{cases_eq}
use Rattle.std.proofs.lemmas.List.Elements.{All-contains, Contains-get_or, Contains-append_cases}
use Rattle.std.proofs.lemmas.List.Kept.{AllPairs-cons}
use Rattle.std.proofs.lemmas.List.Edits.{Swapped, swapped_from_swap}
use Rattle.std.proofs.lemmas.List.Sorted.{IsPermutation-keeps, IsPermutation-swap, length_permutation}
use Rattle.plan_base.proofs.Orders.{contains_first, contains_rest, pairs_head, pairs_tail}

-- what stands at place k after an exchange of the places a and b stood at place j
abbrev CameFrom : ℕ → ℕ → ℕ → ℕ → Type 0
CameFrom a b k j = ((k ≡ a) × (j ≡ b)) ⊎ (((k ≡ b) × (j ≡ a)) ⊎ ((k ≢ a) × (k ≢ b) × (j ≡ k)))

came_from : {X : Type 0} (f g : ℕ → X) (a b k : ℕ) → Swapped f g a b → (j : ℕ) × CameFrom a b k j × (g k ≡ f j)
came_from f g a b k moved = elim (cases_eq k a) [
  | inl first ↦ (b, inl (first, refl), ap g first ∙ moved.0)
  | inr not_first ↦ elim (cases_eq k b) [
    | inl second ↦ (a, inr (inl (second, refl)), ap g second ∙ moved.1)
    | inr not_second ↦ (k, inr (inr (not_first, not_second, refl)), moved.2 k not_first not_second)
  ]
]

came_apart : (a b k l i j : ℕ) → CameFrom a b k i → CameFrom a b l j → k ≢ l → i ≢ j
came_apart a b k l i j from to other = elim from [
  | inl x ↦ elim to [ inl y ↦ absurd (omega arith) | inr y ↦ elim y [ inl z ↦ omega arith | inr z ↦ let ne : l ≢ b = z.1 in omega arith ] ]
  | inr x ↦ elim x [
    | inl u ↦ elim to [ inl y ↦ omega arith | inr y ↦ elim y [ inl z ↦ absurd (omega arith) | inr z ↦ let ne : l ≢ a = z.0 in omega arith ] ]
    | inr u ↦ let first : k ≢ a = u.0 in let second : k ≢ b = u.1 in
        elim to [ inl y ↦ omega arith | inr y ↦ elim y [ inl z ↦ omega arith | inr z ↦ omega arith ] ]
  ]
]

came_below : (a b k j n : ℕ) → CameFrom a b k j → a < n → b < n → k < n → j < n
came_below a b k j n from la lb lk = elim from [ inl x ↦ omega arith | inr x ↦ elim x [ inl y ↦ omega arith | inr y ↦ omega arith ] ]

below_or_above : (i j : ℕ) → i ≢ j → (i < j) ⊎ (j < i)
below_or_above i j other = grind arith

all_pairs_swap : {X : Type 0} (R : X → X → Type 0) → ((x y : X) → R x y → R y x) → (xs : List X) (a b : ℕ) → a < length xs → b < length xs
    → AllPairs R xs → AllPairs R (swap xs a b)
all_pairs_swap {X} R turn xs a b la lb all = λ k l d less below.
    let len : length (swap xs a b) ≡ length xs = length_permutation xs (swap xs a b) (IsPermutation-swap xs (swap xs a b) a b la lb refl) in
    let moved = swapped_from_swap xs (swap xs a b) a b d la lb refl in
    let from = came_from (λ i. slice_index_or xs i d) (λ i. slice_index_or (swap xs a b) i d) a b k moved in
    let to = came_from (λ i. slice_index_or xs i d) (λ i. slice_index_or (swap xs a b) i d) a b l moved in
    let from_below : from.0 < length xs = came_below a b k from.0 (length xs) from.1 la lb (omega arith) in
    let to_below : to.0 < length xs = came_below a b l to.0 (length xs) to.1 la lb (omega arith) in
    let holds : R (slice_index_or xs from.0 d) (slice_index_or xs to.0 d) =
    elim (below_or_above from.0 to.0 (came_apart a b k l from.0 to.0 from.1 to.1 (omega arith))) [
      | inl h ↦ all from.0 to.0 d h to_below
      | inr h ↦ turn _ _ (all to.0 from.0 d h from_below)
    ] in
    subst (λ (x : X). R x (slice_index_or (swap xs a b) l d)) (sym from.2) (subst (λ (y : X). R (slice_index_or xs from.0 d) y) (sym to.2) holds)

-- a relation that holds both ways round holds of each two of a permutation too
pub all_pairs_permutation : {X : Type 0} (R : X → X → Type 0) → ((x y : X) → R x y → R y x) → (xs ys : List X) → IsPermutation xs ys
    → AllPairs R xs → AllPairs R ys
all_pairs_permutation R turn xs ys same all = IsPermutation-keeps xs (AllPairs R) all (λ l a b la lb holds. all_pairs_swap R turn l a b la lb holds) ys same

-- a transitive relation of neighbours holds of each element and each later one
pub all_pairs_from_neighbours : {X : Type 0} (R : X → X → Type 0) → ((x y z : X) → R x y → R y z → R x z) → (xs : List X)
    → ((k : ℕ) (d : X) → k + 1 < length xs → R (slice_index_or xs k d) (slice_index_or xs (k + 1) d)) → AllPairs R xs
all_pairs_from_neighbours R joins xs near = λ i j d less below. far R joins xs near i j d less below where
  far : {X : Type 0} (R : X → X → Type 0) → ((x y z : X) → R x y → R y z → R x z) → (xs : List X)
      → ((k : ℕ) (d : X) → k + 1 < length xs → R (slice_index_or xs k d) (slice_index_or xs (k + 1) d))
      → (i j : ℕ) (d : X) → i < j → j < length xs → R (slice_index_or xs i d) (slice_index_or xs j d)
  far R joins xs near i zero d less below = absurd (omega arith)
  far {X} R joins xs near i (suc j) d less below =
      let step : R (slice_index_or xs j d) (slice_index_or xs (suc j) d) = rw (← add-one j) (near j d (omega arith)) in
      elim (cases_eq i j) [
        | inl same ↦ subst (λ (n : ℕ). R (slice_index_or xs n d) (slice_index_or xs (suc j) d)) (sym same) step
        | inr other ↦ joins _ _ _ (far R joins xs near i j d (omega arith) (omega arith)) step
      ]

-- what holds of each element by where it stands
pub all_of : {X : Type 0} (P : X → Type 0) (xs : List X) → ((x : X) → Contains xs x → P x) → All P xs
all_of P xs h = λ k d l. h _ (Contains-get_or xs k d l)

-- what holds of each two of each of two lists, and of each two across, holds of each two of both lists one after another
pub pairs_append : {X : Type 0} (R : X → X → Type 0) (xs ys : List X) → AllPairs R xs → AllPairs R ys
    → ((x y : X) → Contains xs x → Contains ys y → R x y) → AllPairs R (xs ++ ys)
pairs_append R [] ys a b h = b
pairs_append R (x ∷ xs) ys a b h =
    AllPairs-cons R x (xs ++ ys)
    (all_of (R x) (xs ++ ys) (λ z c. elim (Contains-append_cases xs ys z c) [
      | inl here ↦ All-contains (R x) xs z (pairs_head R x xs a) here
      | inr there ↦ h x z (contains_first x xs) there
    ])) (pairs_append R xs ys (pairs_tail R x xs a) b (λ z y c d. h z y (contains_rest x z xs c) d))
