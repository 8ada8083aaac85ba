-- How many lines all callers have done.
use Rattle.std.proofs.Common.{◌≡◌, ℕ, zero, suc, ◌+◌, ◌*◌, ◌≤◌, ◌<◌, List, [], ◌∷◌, length, sum, set, get_or, arith}
use Rattle.std.proofs.lemmas.List.Sums.{sum_by-cons}

-- each of so many numbers is at most 65,536
abbrev AreMost : List ℕ → Type 0
AreMost xs = (k : ℕ) → get_or xs k 0 ≤ 65536

rest_most : (x : ℕ) (xs : List ℕ) → AreMost (x ∷ xs) → AreMost xs
rest_most x xs h k = h (suc k)

sum_first : (x : ℕ) (xs : List ℕ) → sum (x ∷ xs) ≡ x + sum xs
sum_first x xs = sum_by-cons (λ n. n) x xs

sum_most : (xs : List ℕ) → AreMost xs → sum xs ≤ length xs * 65536
sum_most [] h = omega arith
sum_most (x ∷ xs) h =
    let first : x ≤ 65536 = h zero in
    let rest : sum xs ≤ length xs * 65536 = sum_most xs (rest_most x xs h) in
    omega (arith, sum_first x xs)

pub sum_below : (xs : List ℕ) (i : ℕ) → ((k : ℕ) → get_or xs k 0 ≤ 65536) → i < length xs → get_or xs i 0 < 65536 → sum xs < length xs * 65536
sum_below [] i h low less = absurd (omega arith)
sum_below (x ∷ xs) zero h low less =
    let first : x < 65536 = less in
    let rest : sum xs ≤ length xs * 65536 = sum_most xs (rest_most x xs h) in
    omega (arith, sum_first x xs)
sum_below (x ∷ xs) (suc i) h low less =
    let first : x ≤ 65536 = h zero in
    let below : i < length xs = omega arith in
    let rest : sum xs < length xs * 65536 = sum_below xs i (rest_most x xs h) below less in
    omega (arith, sum_first x xs)

pub sum_more : (xs : List ℕ) (i : ℕ) → i < length xs → sum (set xs i (get_or xs i 0 + 1)) ≡ sum xs + 1
sum_more [] i low = absurd (omega arith)
sum_more (x ∷ xs) zero low =
    let one : sum (set (x ∷ xs) zero (get_or (x ∷ xs) zero 0 + 1)) ≡ (x + 1) + sum xs = sum_first (x + 1) xs in
    omega (arith, sum_first x xs)
sum_more (x ∷ xs) (suc i) low =
    let below : i < length xs = omega arith in
    let rest : sum (set xs i (get_or xs i 0 + 1)) ≡ sum xs + 1 = sum_more xs i below in
    let more : sum (set (x ∷ xs) (suc i) (get_or (x ∷ xs) (suc i) 0 + 1)) ≡ x + sum (set xs i (get_or xs i 0 + 1)) =
    sum_first x (set xs i (get_or xs i 0 + 1)) in
    omega (arith, sum_first x xs)
