-- A list in a strict order is fixed by its elements.
use Rattle.std.proofs.Common.{◌≡◌, zero, suc, ◌⊎◌, inl, inr, List, [], ◌∷◌, All, AllPairs, Contains, refl, sym, subst, arith}
use Rattle.std.proofs.lemmas.List.Elements.{All-contains}

pub contains_cases : {X : Type 0} (x z : X) (xs : List X) → Contains (x ∷ xs) z → (x ≡ z) ⊎ Contains xs z
contains_cases x z xs (zero, l, e) = inl e
contains_cases x z xs (suc k, l, e) = inr (k, omega arith, e)

pub contains_first : {X : Type 0} (x : X) (xs : List X) → Contains (x ∷ xs) x
contains_first x xs = (0, omega arith, refl)

pub contains_rest : {X : Type 0} (x z : X) (xs : List X) → Contains xs z → Contains (x ∷ xs) z
contains_rest x z xs (k, l, e) = (suc k, omega arith, e)

pub pairs_head : {X : Type 0} (R : X → X → Type 0) (x : X) (xs : List X) → AllPairs R (x ∷ xs) → All (R x) xs
pairs_head R x xs a = λ j d l. a 0 (suc j) d (omega arith) (omega arith)

pub pairs_tail : {X : Type 0} (R : X → X → Type 0) (x : X) (xs : List X) → AllPairs R (x ∷ xs) → AllPairs R xs
pairs_tail R x xs a = λ i j d l m. a (suc i) (suc j) d (omega arith) (omega arith)

module _ {X : Type 0} (R : X → X → Type 0) (irreflexive : (x : X) → ¬ (R x x)) (asymmetric : (x y : X) → R x y → ¬ (R y x)) where
  same_heads : (x y : X) (xs ys : List X) → All (R x) xs → All (R y) ys → Contains (y ∷ ys) x → Contains (x ∷ xs) y → x ≡ y
  same_heads x y xs ys a b c d = elim (contains_cases y x ys c) [
    | inl e ↦ sym e
    | inr cx ↦ elim (contains_cases x y xs d) [
      | inl e ↦ e
      | inr cy ↦ absurd (asymmetric x y (All-contains (R x) xs y a cy) (All-contains (R y) ys x b cx))
    ]
  ]

  rest_within : (x : X) (xs ys : List X) → All (R x) xs → ((z : X) → Contains (x ∷ xs) z → Contains (x ∷ ys) z) → (z : X) → Contains xs z → Contains ys z
  rest_within x xs ys a h z c = elim (contains_cases x z ys (h z (contains_rest x z xs c))) [
    | inl e ↦ absurd (irreflexive z (subst (λ (y : X). R y z) e (All-contains (R x) xs z a c)))
    | inr cz ↦ cz
  ]

  pub one_order : (xs ys : List X) → AllPairs R xs → AllPairs R ys → ((z : X) → Contains xs z → Contains ys z)
      → ((z : X) → Contains ys z → Contains xs z) → xs ≡ ys
  one_order [] [] a b f g = refl
  one_order [] (y ∷ ys) a b f g = absurd (omega (arith, (g y (contains_first y ys)).1))
  one_order (x ∷ xs) [] a b f g = absurd (omega (arith, (f x (contains_first x xs)).1))
  one_order (x ∷ xs) (y ∷ ys) a b f g =
      let heads : x ≡ y = same_heads x y xs ys (pairs_head R x xs a) (pairs_head R y ys b) (f x (contains_first x xs)) (g y (contains_first y ys)) in
      let f' : (z : X) → Contains (x ∷ xs) z → Contains (x ∷ ys) z = subst (λ (w : X). (z : X) → Contains (x ∷ xs) z → Contains (w ∷ ys) z) (sym heads) f in
      let g' : (z : X) → Contains (y ∷ ys) z → Contains (y ∷ xs) z = subst (λ (w : X). (z : X) → Contains (y ∷ ys) z → Contains (w ∷ xs) z) heads g in
      let rest : xs ≡ ys = one_order xs ys (pairs_tail R x xs a) (pairs_tail R y ys b) (rest_within x xs ys (pairs_head R x xs a) f')
      (rest_within y ys xs (pairs_head R y ys b) g') in
      λ i. heads i ∷ rest i
