-- The first start of each request.
use Rattle.std.specs.Prelude.{◌≡◌, ℕ, ◌==◌, List, length, slice_index_or, Option, Some, None, find}
use Rattle.plan_base.specs.declared.parts.Parts.{Parts}
use Rattle.plan_base.specs.declared.claim.Placement.{Placement}
use Rattle.plan_base.specs.Requests.{listed, place_of, IsKnown}
use Rattle.plan_base.specs.Starts.{IsPossibleStart}

-- at the place of each request stands the first of the starts that is one of its own, if there is one
pub record AreFirsts (s : Parts) (starts : List Placement) (firsts : List (Option Placement)) : Type 0 where
  pub count : length firsts ≡ length (listed s)
  pub each : (r : ℕ) → IsKnown s r → slice_index_or firsts (place_of s r) None ≡ find (λ p. p.request.0 == r) starts

-- p is a possible start of request r
pub record IsOwn (s : Parts) (r : ℕ) (p : Placement) : Type 0 where
  pub request : p.request.0 ≡ r
  pub possible : IsPossibleStart s p

-- at the place of each request stands a possible start of its own, if there is one
pub record AreOwn (s : Parts) (firsts : List (Option Placement)) : Type 0 where
  pub count : length firsts ≡ length (listed s)
  pub each : (r : ℕ) (p : Placement) → IsKnown s r → slice_index_or firsts (place_of s r) None ≡ Some p → IsOwn s r p
