-- Signed sums: of maps, of appended lists, of permutations, and beside sums of naturals.
use Rattle.std.proofs.Common.{◌≡◌, ℕ, ◌+◌, ◌*◌, ◌≤ℤ◌, ℤ, pos, negsuc, suc, ◌+ℤ◌, List, [], ◌∷◌, ◌++◌, length, map, sum_by, All, refl, ap, arith}
use Rattle.std.proofs.lemmas.Int.{ints}
use Rattle.std.proofs.lemmas.List.Elements.{All-head, All-tail}
use Rattle.std.specs.List.Sorted.{IsPermutation}
use Rattle.std.proofs.lemmas.List.Sums.{sum_by-cons}
use Rattle.std.proofs.lemmas.List.Sorted.{sum_by-IsPermutation}
use Rattle.plan_base.specs.Sums.{total}

pub total_map : {X Y : Type 0} (f : Y → ℤ) (g : X → Y) (xs : List X) → total (λ x. f (g x)) xs ≡ total f (map g xs)
total_map f g [] = refl
total_map f g (x ∷ xs) = ap (λ n. f (g x) +ℤ n) (total_map f g xs)

pub total_append : {X : Type 0} (f : X → ℤ) (xs ys : List X) → total f (xs ++ ys) ≡ total f xs +ℤ total f ys
total_append f [] ys = omega (arith, ints)
total_append f (x ∷ xs) ys =
    let rest : total f (xs ++ ys) ≡ total f xs +ℤ total f ys = total_append f xs ys in
    omega (arith, ints)

pub total_add : {X : Type 0} (f g h : X → ℤ) → ((x : X) → f x ≡ g x +ℤ h x) → (xs : List X) → total f xs ≡ total g xs +ℤ total h xs
total_add f g h e [] = refl
total_add f g h e (x ∷ xs) =
    let here : f x ≡ g x +ℤ h x = e x in
    let rest : total f xs ≡ total g xs +ℤ total h xs = total_add f g h e xs in
    omega (arith, ints)

pub total_none : {X : Type 0} (f : X → ℤ) (xs : List X) → All (λ x. f x ≡ pos 0) xs → total f xs ≡ pos 0
total_none f [] a = refl
total_none f (x ∷ xs) a =
    let here : f x ≡ pos 0 = All-head (λ x. f x ≡ pos 0) x xs a in
    let rest : total f xs ≡ pos 0 = total_none f xs (All-tail (λ x. f x ≡ pos 0) x xs a) in
    omega (arith, ints)

pub total_not_negative : {X : Type 0} (f : X → ℤ) (xs : List X) → All (λ x. pos 0 ≤ℤ f x) xs → pos 0 ≤ℤ total f xs
total_not_negative f [] a = omega (arith, ints)
total_not_negative f (x ∷ xs) a =
    let here : pos 0 ≤ℤ f x = All-head (λ x. pos 0 ≤ℤ f x) x xs a in
    let rest : pos 0 ≤ℤ total f xs = total_not_negative f xs (All-tail (λ x. pos 0 ≤ℤ f x) x xs a) in
    omega (arith, ints)

-- where each number is at most m, the sum is at most m for each element
pub total_at_most : {X : Type 0} (f : X → ℤ) (m : ℕ) (xs : List X) → All (λ x. f x ≤ℤ pos m) xs → total f xs ≤ℤ pos (length xs * m)
total_at_most f m [] a = omega (arith, ints)
total_at_most f m (x ∷ xs) a =
    let here : f x ≤ℤ pos m = All-head (λ x. f x ≤ℤ pos m) x xs a in
    let rest : total f xs ≤ℤ pos (length xs * m) = total_at_most f m xs (All-tail (λ x. f x ≤ℤ pos m) x xs a) in
    let more : length (x ∷ xs) * m ≡ m + length xs * m = grind arith in
    omega (arith, ints)

pub total_constant : {X : Type 0} (m : ℕ) (xs : List X) → total (λ x. pos m) xs ≡ pos (length xs * m)
total_constant m [] = omega (arith, ints)
total_constant m (x ∷ xs) =
    let rest : total (λ y. pos m) xs ≡ pos (length xs * m) = total_constant m xs in
    let more : length (x ∷ xs) * m ≡ m + length xs * m = grind arith in
    omega (arith, ints)

-- a sum of naturals is the signed sum of the same numbers
pub total_of_naturals : {X : Type 0} (f : X → ℕ) (xs : List X) → total (λ x. pos (f x)) xs ≡ pos (sum_by f xs)
total_of_naturals f [] = refl
total_of_naturals f (x ∷ xs) =
    let rest : total (λ y. pos (f y)) xs ≡ pos (sum_by f xs) = total_of_naturals f xs in
    let sum : sum_by f (x ∷ xs) ≡ f x + sum_by f xs = sum_by-cons f x xs in
    omega (arith, ints)

-- the parts of a number above 0 and below 0
abbrev gain : ℤ → ℕ
gain (pos n) = n
gain (negsuc n) = 0

abbrev loss : ℤ → ℕ
loss (pos n) = 0
loss (negsuc n) = suc n

gain_and_loss : (z : ℤ) → z +ℤ pos (loss z) ≡ pos (gain z)
gain_and_loss (pos n) = omega (arith, ints)
gain_and_loss (negsuc n) = omega (arith, ints)

total_by_sign : {X : Type 0} (f : X → ℤ) (xs : List X) → total f xs +ℤ pos (sum_by (λ x. loss (f x)) xs) ≡ pos (sum_by (λ x. gain (f x)) xs)
total_by_sign f [] = refl
total_by_sign f (x ∷ xs) =
    let here : f x +ℤ pos (loss (f x)) ≡ pos (gain (f x)) = gain_and_loss (f x) in
    let rest : total f xs +ℤ pos (sum_by (λ y. loss (f y)) xs) ≡ pos (sum_by (λ y. gain (f y)) xs) = total_by_sign f xs in
    let losses : sum_by (λ y. loss (f y)) (x ∷ xs) ≡ loss (f x) + sum_by (λ y. loss (f y)) xs = sum_by-cons (λ y. loss (f y)) x xs in
    let gains : sum_by (λ y. gain (f y)) (x ∷ xs) ≡ gain (f x) + sum_by (λ y. gain (f y)) xs = sum_by-cons (λ y. gain (f y)) x xs in
    rw losses (rw gains (omega (arith, ints)))

-- the order of a list is of no account for its sum
pub total-IsPermutation : {X : Type 0} (f : X → ℤ) (xs ys : List X) → IsPermutation xs ys → total f ys ≡ total f xs
total-IsPermutation f xs ys p =
    let one : total f xs +ℤ pos (sum_by (λ x. loss (f x)) xs) ≡ pos (sum_by (λ x. gain (f x)) xs) = total_by_sign f xs in
    let two : total f ys +ℤ pos (sum_by (λ x. loss (f x)) ys) ≡ pos (sum_by (λ x. gain (f x)) ys) = total_by_sign f ys in
    let losses : sum_by (λ x. loss (f x)) ys ≡ sum_by (λ x. loss (f x)) xs = sum_by-IsPermutation (λ x. loss (f x)) xs ys p in
    let gains : sum_by (λ x. gain (f x)) ys ≡ sum_by (λ x. gain (f x)) xs = sum_by-IsPermutation (λ x. gain (f x)) xs ys p in
    omega (arith, ints)

-- where each number is u times a natural, so is their sum
pub total_times : {X : Type 0} (u : ℕ) (f : X → ℤ) (g : X → ℕ) (xs : List X) → All (λ x. f x ≡ pos (u * g x)) xs → total f xs ≡ pos (u * sum_by g xs)
total_times u f g [] a = omega (arith, ints)
total_times u f g (x ∷ xs) a =
    let here : f x ≡ pos (u * g x) = All-head (λ y. f y ≡ pos (u * g y)) x xs a in
    let rest : total f xs ≡ pos (u * sum_by g xs) = total_times u f g xs (All-tail (λ y. f y ≡ pos (u * g y)) x xs a) in
    let sum : sum_by g (x ∷ xs) ≡ g x + sum_by g xs = sum_by-cons g x xs in
    let times : u * (g x + sum_by g xs) ≡ u * g x + u * sum_by g xs = grind arith in
    rw sum (omega (arith, ints))
