-- Sums of parts of which each is at most a number.
use Rattle.std.specs.Prelude.{ℕ, ◌*◌, ◌^◌, ℤ, pos, ◌≤ℤ◌}
use Rattle.plan_base.specs.Sums.{IsSumOf}

-- b is the sum of n numbers, of which P says what each is, and each is from 0 to m
pub record IsSummed (n : ℕ) (P : ℕ → ℤ → Type 0) (m : ℕ) (b : ℤ) : Type 0 where
  pub sum : IsSumOf n P b
  pub least : pos 0 ≤ℤ b
  pub most : b ≤ℤ pos (n * m)

-- one of the three sums of a bound, with room for the others
abbrev pub IsPartSum : ℤ → Type 0
IsPartSum b = (pos 0 ≤ℤ b) × (b ≤ℤ pos (2 * 10 ^ 18))
