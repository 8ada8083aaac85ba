-- A request's possible starts, listed and counted.
use Rattle.std.specs.Prelude.{◌≡◌, ◌≢◌, ℕ, List, length, All, AllPairs, Contains}
use Rattle.plan_base.specs.declared.parts.Parts.{Parts}
use Rattle.plan_base.specs.declared.claim.Placement.{Placement}
use Rattle.openings.specs.Openings.{IsStartFor}

-- the possible starts of request r of which P holds, each once
pub record AreStartsWhere (s : Parts) (r : ℕ) (P : Placement → Type 0) (starts : List Placement) : Type 0 where
  pub possible : All (IsStartFor s r) starts
  pub which : All P starts
  pub once : AllPairs (λ a b. a ≢ b) starts
  pub complete : (p : Placement) → IsStartFor s r p → P p → Contains starts p

-- request r has n possible starts of which P holds
abbrev pub HasStartsWhere : Parts → ℕ → (Placement → Type 0) → ℕ → Type 0
HasStartsWhere s r P n = (starts : List Placement) × AreStartsWhere s r P starts × (length starts ≡ n)

-- request r has n possible starts
abbrev pub HasStarts : Parts → ℕ → ℕ → Type 0
HasStarts s r n = HasStartsWhere s r (λ p. Unit {0}) n
