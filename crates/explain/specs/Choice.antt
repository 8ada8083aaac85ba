-- The greatest that a group gives where one of its requests is taken.
use Rattle.std.specs.Prelude.{◌≡◌, ℕ, ℤ, pos, neg_ℤ, ◌≤ℤ◌, List, Contains}
use Rattle.plan_base.specs.declared.parts.Parts.{Parts}
use Rattle.plan_base.specs.Sums.{total}
use Rattle.plan_base.specs.Bound.{IsAllowedChoice}

-- an allowed choice of the group at place g that has request r
pub record IsChoiceWith (s : Parts) (g r : ℕ) (choice : List ℕ) : Type 0 where
  pub allowed : IsAllowedChoice s g choice
  pub has : Contains choice r

-- b is the greatest sum of what c gives of the requests of an allowed choice that has request r
pub record IsRebateWith (s : Parts) (c : ℕ → ℤ) (g r : ℕ) (b : ℤ) : Type 0 where
  pub reached : (choice : List ℕ) × IsChoiceWith s g r choice × (total c choice ≡ b)
  pub bound : (choice : List ℕ) → IsChoiceWith s g r choice → total c choice ≤ℤ b

-- what a rebate with or without a request may be
abbrev pub IsRebateSize : ℤ → Type 0
IsRebateSize b = (neg_ℤ (pos 2000000000000000) ≤ℤ b) × (b ≤ℤ pos 2000000000000000)
