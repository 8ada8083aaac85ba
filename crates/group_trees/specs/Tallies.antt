-- What is told of leaves while they are counted.
use Rattle.std.specs.Prelude.{ℕ, ◌≤◌, ◌⊎◌, List, Contains, Option, Some, None, MatchOption, nat_lt, if◌then◌else◌}
use Rattle.plan_base.specs.declared.number.RequestNo.{RequestNo}
use Rattle.plan_base.specs.declared.parts.Parts.{Parts}
use Rattle.plan_base.specs.Requests.{IsKnown}
use Rattle.plan_base.specs.Verdict.{IsFirst}
use Rattle.group_trees.specs.Forests.{times}
use Rattle.group_trees.specs.Standings.{AreFlags}
use Rattle.group_trees.specs.declared.leaves.Tally.{Tally}

-- the lesser of two numbers, of which the first may be missing
abbrev pub lesser : Option RequestNo → RequestNo → RequestNo
lesser None b = b
lesser (Some a) b = if nat_lt a.0 b.0 then a else b

-- r is among the leaves, and no request or there twice
abbrev pub IsWrongSoFar : Parts → List ℕ → ℕ → Type 0
IsWrongSoFar s rs r = Contains rs r × (¬ (IsKnown s r) ⊎ (2 ≤ times r rs))

-- the flags tell which requests are among the leaves, and the number is the least that is wrong so far
pub record IsTally (s : Parts) (rs : List ℕ) (tally : Tally) : Type 0 where
  pub flags : AreFlags s rs tally.flags.items
  pub wrong : MatchOption tally.wrong ((r : ℕ) → ¬ (IsWrongSoFar s rs r)) (λ r. IsFirst (IsWrongSoFar s rs) r.0)
