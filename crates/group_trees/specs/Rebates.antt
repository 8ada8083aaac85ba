-- What trees give at prices, and the Lagrangian dual bound with it.
use Rattle.std.specs.Prelude.{◌≡◌, ℕ, ℤ, ◌+ℤ◌, ◌≤ℤ◌, List, length, HoldsAt}
use Rattle.plan_base.specs.declared.parts.Parts.{Parts}
use Rattle.plan_base.specs.Sums.{total, IsSumOf}
use Rattle.plan_base.specs.Bound.{price, IsBest}
use Rattle.group_trees.specs.Trees.{Node}
use Rattle.group_trees.specs.Choices.{IsTreeChoice}

-- b is the greatest sum of what c gives of the requests of a choice of which P holds
pub record IsGreatest (P : List ℕ → Type 0) (c : ℕ → ℤ) (b : ℤ) : Type 0 where
  pub reached : (choice : List ℕ) × P choice × (total c choice ≡ b)
  pub bound : (choice : List ℕ) → P choice → total c choice ≤ℤ b

-- b is the greatest sum of what c gives of the requests of a choice that the tree allows
abbrev pub IsTreeRebate : (ℕ → ℤ) → Node → ℤ → Type 0
IsTreeRebate c t b = IsGreatest (IsTreeChoice t) c b

-- b is the rebate of the tree at place i
abbrev pub IsRebateAt : Parts → List ℤ → List Node → ℕ → ℤ → Type 0
IsRebateAt s prices trees i b = HoldsAt (λ t. IsTreeRebate (price s prices) t b) trees i

-- the sum of the bests from the first slice on and the rebates of the trees
pub record IsForestBound (s : Parts) (trees : List Node) (prices : List ℤ) (b : ℤ) : Type 0 where
  pub bests : ℤ
  pub rebates : ℤ
  pub best : IsSumOf (length s.telescopes) (λ t. IsBest s prices t s.first.0) bests
  pub rebate : IsSumOf (length trees) (IsRebateAt s prices trees) rebates
  pub whole : b ≡ bests +ℤ rebates
