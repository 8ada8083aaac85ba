-- Signed sums, and the sum of a number of parts.
use Rattle.std.specs.Prelude.{◌≡◌, ℕ, ◌<◌, ℤ, pos, ◌+ℤ◌, List, [], ◌∷◌, length, slice_index_or}

-- the sum of what f gives of each element
abbrev pub total : {X : Type 0} → (X → ℤ) → List X → ℤ
total f [] = pos 0
total f (x ∷ xs) = f x +ℤ total f xs

-- there are n numbers, of which P says what each is
pub record AreParts (n : ℕ) (P : ℕ → ℤ → Type 0) (parts : List ℤ) : Type 0 where
  pub count : length parts ≡ n
  pub each : (i : ℕ) → i < n → P i (slice_index_or parts i (pos 0))

-- the sum of all
abbrev pub sum_of : List ℤ → ℤ
sum_of parts = total (λ x. x) parts

-- b is the sum of n numbers, of which P says what each is
pub record IsSumOf (n : ℕ) (P : ℕ → ℤ → Type 0) (b : ℤ) : Type 0 where
  pub parts : List ℤ
  pub count : length parts ≡ n
  pub each : (i : ℕ) → i < n → P i (slice_index_or parts i (pos 0))
  pub sum : total (λ x. x) parts ≡ b
