-- Lists in which one element has a number.
use Rattle.std.proofs.Common.{◌≡◌, ℕ, zero, suc, List, [], ◌∷◌, get_or, set, refl, ap, ◌∙◌, arith, map, Bool, false, Some, None}
use Rattle.std.specs.Prelude.{All, Contains, find, slice_get, if◌then◌else◌, ◌==◌}
use Rattle.std.specs.Ordering.{nat_cmp}
use Rattle.std.specs.declared.cmp.Ordering.TheVariants.{Less, Equal}
use Rattle.std.proofs.lemmas.Bool.{eq-eqb, ne_eqb}
use Rattle.std.proofs.lemmas.Cmp.{nat_cmp_total, tied_itself}
use Rattle.std.proofs.lemmas.Option.{same_Some, slice_get_within, get_or_from_slice_get}
use Rattle.std.proofs.lemmas.List.{length-map, get_or-map as get_or_map}
use Rattle.std.proofs.lemmas.List.Elements.{All-head, All-tail}
use Rattle.allocations.specs.Rising.{Rises, IsGap}
use Rattle.allocations.proofs.Order.{gap-absent}

module _ {X : Type 0} (number : X → ℕ) where
  -- no element has the number
  absent_tests : (xs : List X) (n : ℕ) → (Contains (map number xs) n → ⊥) → All (λ x. (number x == n) ≡ false) xs
  absent_tests xs n absent k d l = ne_eqb (number (get_or xs k d)) n (λ e. absent (k, rw length-map l, get_or_map number xs k d n l ∙ e))

  -- the others of a list that rises have other numbers
  rest_tests : (x : X) (xs : List X) (n : ℕ) → Rises nat_cmp (map number (x ∷ xs)) → number x ≡ n → All (λ y. (number y == n) ≡ false) xs
  rest_tests x xs n r e = absent_tests xs n (λ there.
      let less : nat_cmp (number x) (get_or (map number xs) there.0 n) ≡ Less = r 0 (suc there.0) n (omega arith) (omega (arith, there.1)) in
      let tie : nat_cmp (number x) (get_or (map number xs) there.0 n) ≡ Equal = rw (e, there.2) (tied_itself nat_cmp_total n) in
      cc)

  pub map_none : (xs : List X) (n : ℕ) (f : X → X) → All (λ x. (number x == n) ≡ false) xs → map (λ x. if number x == n then f x else x) xs ≡ xs
  map_none [] n f h = refl
  map_none (x ∷ xs) n f h =
      let first : (number x == n) ≡ false = All-head (λ y. (number y == n) ≡ false) x xs h in
      let rest = map_none xs n f (All-tail (λ y. (number y == n) ≡ false) x xs h) in
      ap (λ (b : Bool). (if b then f x else x) ∷ map (λ y. if number y == n then f y else y) xs) first ∙ ap (λ (l : List X). x ∷ l) rest

  pub find_none : (xs : List X) (n : ℕ) → All (λ x. (number x == n) ≡ false) xs → find (λ x. number x == n) xs ≡ None
  find_none [] n h = refl
  find_none (x ∷ xs) n h =
      let first : (number x == n) ≡ false = All-head (λ y. (number y == n) ≡ false) x xs h in
      ap (λ (b : Bool). if b then Some x else find (λ y. number y == n) xs) first ∙ find_none xs n (All-tail (λ y. (number y == n) ≡ false) x xs h)

  before_test : (x : X) (xs : List X) (n j : ℕ) → Rises nat_cmp (map number (x ∷ xs)) → slice_get (map number xs) j ≡ Some n → (number x == n) ≡ false
  before_test x xs n j r at = ne_eqb (number x) n (λ e.
      let less : nat_cmp (number x) (get_or (map number xs) j n) ≡ Less =
      r 0 (suc j) n (omega arith) (let w = slice_get_within (map number xs) j n at in omega (arith, w)) in
      let tie : nat_cmp (number x) (get_or (map number xs) j n) ≡ Equal =
      rw (e, get_or_from_slice_get (map number xs) j n n at) (tied_itself nat_cmp_total n) in
      cc)

  tail_rises : (x : X) (xs : List X) → Rises nat_cmp (map number (x ∷ xs)) → Rises nat_cmp (map number xs)
  tail_rises x xs r i j d l m = r (suc i) (suc j) d (omega arith) (omega (arith, m))

  -- a change of the element with the number
  pub map_at : (xs : List X) (n j : ℕ) (f : X → X) (d : X) → Rises nat_cmp (map number xs) → slice_get (map number xs) j ≡ Some n
      → map (λ x. if number x == n then f x else x) xs ≡ set xs j (f (get_or xs j d))
  map_at [] n j f d r at = cc
  map_at (x ∷ xs) n zero f d r at =
      let e : number x ≡ n = same_Some (number x) n at in
      ap (λ (b : Bool). (if b then f x else x) ∷ map (λ y. if number y == n then f y else y) xs) (eq-eqb (number x) n e)
      ∙ ap (λ (l : List X). f x ∷ l) (map_none xs n f (rest_tests x xs n r e))
  map_at (x ∷ xs) n (suc j) f d r at =
      ap (λ (b : Bool). (if b then f x else x) ∷ map (λ y. if number y == n then f y else y) xs) (before_test x xs n j r at)
      ∙ ap (λ (l : List X). x ∷ l) (map_at xs n j f d (tail_rises x xs r) at)

  pub find_at : (xs : List X) (n j : ℕ) (d : X) → Rises nat_cmp (map number xs) → slice_get (map number xs) j ≡ Some n
      → find (λ x. number x == n) xs ≡ Some (get_or xs j d)
  find_at [] n j d r at = cc
  find_at (x ∷ xs) n zero d r at = ap (λ (b : Bool). if b then Some x else find (λ y. number y == n) xs) (eq-eqb (number x) n (same_Some (number x) n at))
  find_at (x ∷ xs) n (suc j) d r at = ap (λ (b : Bool). if b then Some x else find (λ y. number y == n) xs) (before_test x xs n j r at)
      ∙ find_at xs n j d (tail_rises x xs r) at

  pub map_absent : (xs : List X) (n : ℕ) (f : X → X) → (Contains (map number xs) n → ⊥) → map (λ x. if number x == n then f x else x) xs ≡ xs
  map_absent xs n f absent = map_none xs n f (absent_tests xs n absent)

  pub find_absent : (xs : List X) (n : ℕ) → (Contains (map number xs) n → ⊥) → find (λ x. number x == n) xs ≡ None
  find_absent xs n absent = find_none xs n (absent_tests xs n absent)

  pub find_gap : (xs : List X) (n i : ℕ) → IsGap nat_cmp (map number xs) n i → find (λ x. number x == n) xs ≡ None
  find_gap xs n i g = find_absent xs n (gap-absent nat_cmp nat_cmp_total (map number xs) n i g)
