-- The two numbers of a node: the greatest sum over all choices, and that over the choices that aren't empty.
use Rattle.std.specs.Prelude.{◌≡◌, ◌≢◌, ℕ, ◌≤◌, ◌*◌, ℤ, pos, neg_ℤ, ◌+ℤ◌, ◌≤ℤ◌, ◌⊎◌, true, List, [], length, All}
use Rattle.plan_base.specs.declared.parts.Parts.{Parts}
use Rattle.plan_base.specs.Limits.{most_net_price, most_pending}
use Rattle.plan_base.specs.Requests.{IsKnown}
use Rattle.group_trees.specs.Trees.{Node, Nodes, is_full, are_full}
use Rattle.group_trees.specs.Choices.{leaves, all_leaves}
use Rattle.group_trees.specs.Rebates.{IsGreatest}
use Rattle.group_trees.specs.declared.rebate.Greatest.{Greatest}

-- P holds of the choice, and it isn't empty
abbrev pub IsSome : (List ℕ → Type 0) → List ℕ → Type 0
IsSome P choice = (choice ≢ []) × P choice

-- the greatest sums over the choices of which P holds, and over those that aren't empty
pub record IsPair (P : List ℕ → Type 0) (c : ℕ → ℤ) (x : Greatest) : Type 0 where
  pub any : IsGreatest P c x.any
  pub some : IsGreatest (IsSome P) c x.some

-- no sum over 1,024 leaves is greater
abbrev pub most_sum : ℕ
most_sum = most_pending * most_net_price

-- the number lies from minus the greatest sum to the greatest sum
abbrev pub IsSum : ℤ → Type 0
IsSum b = (neg_ℤ (pos most_sum) ≤ℤ b) × (b ≤ℤ pos most_sum)

-- both numbers of a node lie there
pub record AreSums (x : Greatest) : Type 0 where
  pub any : IsSum x.any
  pub some : IsSum x.some

-- the sums over unions of two choices, from the sums of each
pub record IsJoined (first rest x : Greatest) : Type 0 where
  pub any : x.any ≡ first.any +ℤ rest.any
  pub left : (first.some +ℤ rest.any) ≤ℤ x.some
  pub right : (first.any +ℤ rest.some) ≤ℤ x.some
  pub one : (x.some ≡ first.some +ℤ rest.any) ⊎ (x.some ≡ first.any +ℤ rest.some)

-- the leaves are requests, at most 1,024, and each node has children
pub record IsSound (s : Parts) (t : Node) : Type 0 where
  pub known : All (IsKnown s) (leaves t)
  pub few : length (leaves t) ≤ most_pending
  pub full : is_full t ≡ true

-- the same of several nodes: all their leaves are requests, at most 1,024 together, and each node has children
pub record AreSound (s : Parts) (ts : Nodes) : Type 0 where
  pub known : All (IsKnown s) (all_leaves ts)
  pub few : length (all_leaves ts) ≤ most_pending
  pub full : are_full ts ≡ true
