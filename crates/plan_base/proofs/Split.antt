-- A sum over a list is split by classes, of which each element has one.
use Rattle.std.proofs.Common.{◌≡◌, ◌≢◌, ℕ, suc, ◌+◌, ◌≤◌, ◌<◌, ◌⊎◌, inl, inr, Bool, true, false, cond, not, ◌==◌, ℤ, pos, ◌+ℤ◌, ◌≤ℤ◌, List, [], ◌∷◌}
use Rattle.std.proofs.Common.{◌*◌, length, slice_index_or, filter, All, refl, sym, subst, arith}
use Rattle.std.proofs.lemmas.Int.{ints}
use Rattle.std.proofs.lemmas.List.Elements.{All-filter, All-from_get_or, filter_passes}
use Rattle.std.proofs.lemmas.Bool.Decides.{nat_tests}
use Rattle.plan_base.specs.Sums.{total, IsSumOf}
use Rattle.plan_base.proofs.Lists.{filter_within}
use Rattle.plan_base.proofs.Totals.{total_none, total_not_negative, total_at_most}

split_step : {X : Type 0} (f : X → ℤ) (b : Bool) (x : X) (ys zs : List X) (t : ℤ) → t ≡ total f ys +ℤ total f zs
    → f x +ℤ t ≡ total f (cond b (x ∷ ys) ys) +ℤ total f (cond (not b) (x ∷ zs) zs)
split_step f true x ys zs t e = omega (arith, ints)
split_step f false x ys zs t e = omega (arith, ints)

-- those that pass a test and the others
pub total_split : {X : Type 0} (f : X → ℤ) (p : X → Bool) (xs : List X) → total f xs ≡ total f (filter p xs) +ℤ total f (filter (λ x. not (p x)) xs)
total_split f p [] = refl
total_split f p (x ∷ xs) = split_step f (p x) x (filter p xs) (filter (λ y. not (p y)) xs) (total f xs) (total_split f p xs)

not_same : (a b : ℕ) → not (a == b) ≡ true → a ≢ b
not_same a b h = grind (arith, nat_tests)

later_is_not : (a b k : ℕ) → k < b → (a == b) ≡ true → not (a == k) ≡ true
later_is_not a b k h e = grind (arith, nat_tests)

-- the parts bs stand for the classes from k on
split_from : {X : Type 0} (f : X → ℤ) (class : X → ℕ) (k : ℕ) (bs : List ℤ) (xs : List X)
    → All (λ x. (f x ≡ pos 0) ⊎ ((k ≤ class x) × (class x < k + length bs))) xs
    → ((i j : ℕ) → j ≡ k + i → i < length bs → total f (filter (λ x. class x == j) xs) ≤ℤ slice_index_or bs i (pos 0))
    → total f xs ≤ℤ total (λ b. b) bs
split_from f class k [] xs a h =
    let none : total f xs ≡ pos 0 = total_none f xs (λ i d l. elim (a i d l) [ inl e ↦ e | inr r ↦ absurd (omega arith) ]) in
    omega (arith, ints)
split_from {X} f class k (b ∷ bs) xs a h =
    let others : List X = filter (λ x. not (class x == k)) xs in
    let split : total f xs ≡ total f (filter (λ x. class x == k) xs) +ℤ total f others = total_split f (λ x. class x == k) xs in
    let here : total f (filter (λ x. class x == k) xs) ≤ℤ b = h 0 k (omega arith) (omega arith) in
    let known = All-filter (λ x. not (class x == k)) (λ x. (f x ≡ pos 0) ⊎ ((k ≤ class x) × (class x < k + length (b ∷ bs)))) xs a in
    let passed = filter_passes (λ x. not (class x == k)) xs in
    let rest : total f others ≤ℤ total (λ c. c) bs = split_from f class (suc k) bs others
    (λ i d l. elim (known i d l) [
      | inl e ↦ inl e
      | inr r ↦ let ne : class (slice_index_or others i d) ≢ k = not_same _ k (passed i d l) in inr (omega arith, omega arith)
    ])
    (λ i j e l. subst (λ (ys : List X). total f ys ≤ℤ slice_index_or bs i (pos 0))
    (sym (filter_within (λ x. not (class x == k)) (λ x. class x == j) xs (λ x g. later_is_not (class x) j k (omega arith) g)))
    (h (suc i) j (omega arith) (omega arith))) in
    omega (arith, ints)

-- where the elements of each class i sum up to no more than part i, all sum up to no more than the parts
pub split : {X : Type 0} (f : X → ℤ) (class : X → ℕ) (xs : List X) (n : ℕ) (P : ℕ → ℤ → Type 0) (b : ℤ)
    → IsSumOf n P b
    → All (λ x. (f x ≡ pos 0) ⊎ (class x < n)) xs
    → ((i : ℕ) (y : ℤ) → i < n → P i y → total f (filter (λ x. class x == i) xs) ≤ℤ y)
    → total f xs ≤ℤ b
split {X} f class xs n P b s a h =
    let count : length s.parts ≡ n = s.count in
    let all : total f xs ≤ℤ total (λ c. c) s.parts = split_from f class 0 s.parts xs
    (λ i d l. elim (a i d l) [ inl e ↦ inl e | inr r ↦ inr (omega arith, omega arith) ])
    (λ i j e l.
    let same : i ≡ j = omega arith in
    let below : i < n = omega arith in
    subst (λ (k : ℕ). total f (filter (λ x. class x == k) xs) ≤ℤ slice_index_or s.parts i (pos 0)) same
    (h i (slice_index_or s.parts i (pos 0)) below (s.each i below))) in
    subst (λ (c : ℤ). total f xs ≤ℤ c) s.sum all

gather_from : {X : Type 0} (f : X → ℤ) (class : X → ℕ) (k : ℕ) (bs : List ℤ) (xs : List X)
    → All (λ x. pos 0 ≤ℤ f x) xs
    → ((i j : ℕ) → j ≡ k + i → i < length bs → slice_index_or bs i (pos 0) ≤ℤ total f (filter (λ x. class x == j) xs))
    → total (λ b. b) bs ≤ℤ total f xs
gather_from f class k [] xs a h = total_not_negative f xs a
gather_from {X} f class k (b ∷ bs) xs a h =
    let others : List X = filter (λ x. not (class x == k)) xs in
    let split : total f xs ≡ total f (filter (λ x. class x == k) xs) +ℤ total f others = total_split f (λ x. class x == k) xs in
    let here : b ≤ℤ total f (filter (λ x. class x == k) xs) = h 0 k (omega arith) (omega arith) in
    let rest : total (λ c. c) bs ≤ℤ total f others = gather_from f class (suc k) bs others
    (All-filter (λ x. not (class x == k)) (λ x. pos 0 ≤ℤ f x) xs a)
    (λ i j e l. subst (λ (ys : List X). slice_index_or bs i (pos 0) ≤ℤ total f ys)
    (sym (filter_within (λ x. not (class x == k)) (λ x. class x == j) xs (λ x g. later_is_not (class x) j k (omega arith) g)))
    (h (suc i) j (omega arith) (omega arith))) in
    omega (arith, ints)

-- where no part i is more than what the elements of class i sum up to, and no number is negative, the parts sum up to no more than all
pub gather : {X : Type 0} (f : X → ℤ) (class : X → ℕ) (xs : List X) (n : ℕ) (P : ℕ → ℤ → Type 0) (b : ℤ)
    → IsSumOf n P b
    → All (λ x. pos 0 ≤ℤ f x) xs
    → ((i : ℕ) (y : ℤ) → i < n → P i y → y ≤ℤ total f (filter (λ x. class x == i) xs))
    → b ≤ℤ total f xs
gather {X} f class xs n P b s a h =
    let count : length s.parts ≡ n = s.count in
    let all : total (λ c. c) s.parts ≤ℤ total f xs = gather_from f class 0 s.parts xs a
    (λ i j e l.
    let same : i ≡ j = omega arith in
    let below : i < n = omega arith in
    subst (λ (k : ℕ). slice_index_or s.parts i (pos 0) ≤ℤ total f (filter (λ x. class x == k) xs)) same
    (h i (slice_index_or s.parts i (pos 0)) below (s.each i below))) in
    subst (λ (c : ℤ). c ≤ℤ total f xs) s.sum all

-- what holds of part i holds of the i-th of the numbers
part_has : (n : ℕ) (P : ℕ → ℤ → Type 0) (b : ℤ) (Q : ℤ → Type 0) (s : IsSumOf n P b) → ((i : ℕ) (y : ℤ) → i < n → P i y → Q y) → All Q s.parts
part_has n P b Q s h = All-from_get_or Q s.parts (pos 0) (λ i l. let below : i < n = omega (arith, s.count) in h i _ below (s.each i below))

-- the sum of n numbers that are not negative
pub sum_not_negative : (n : ℕ) (P : ℕ → ℤ → Type 0) (b : ℤ) → IsSumOf n P b → ((i : ℕ) (y : ℤ) → i < n → P i y → pos 0 ≤ℤ y) → pos 0 ≤ℤ b
sum_not_negative n P b s h = subst (λ (c : ℤ). pos 0 ≤ℤ c) s.sum (total_not_negative (λ y. y) s.parts (part_has n P b (λ y. pos 0 ≤ℤ y) s h))

-- the sum of n numbers from 0 to m
pub sum_between : (n m : ℕ) (P : ℕ → ℤ → Type 0) (b : ℤ)
    → IsSumOf n P b
    → ((i : ℕ) (y : ℤ) → i < n → P i y → (pos 0 ≤ℤ y) × (y ≤ℤ pos m))
    → (pos 0 ≤ℤ b) × (b ≤ℤ pos (n * m))
sum_between n m P b s h =
    let most : total (λ y. y) s.parts ≤ℤ pos (length s.parts * m) =
    total_at_most (λ y. y) m s.parts (part_has n P b (λ y. y ≤ℤ pos m) s (λ i y l p. (h i y l p).1)) in (
      sum_not_negative n P b s (λ i y l p. (h i y l p).0),
      subst (λ (k : ℕ). b ≤ℤ pos (k * m)) s.count (subst (λ (c : ℤ). c ≤ℤ pos (length s.parts * m)) s.sum most),
    )
