-- Lists in a strict order.
use Rattle.std.specs.Prelude.{◌≡◌, ℕ, ◌<◌, ◌≤◌, List, length, slice_index_or, AllPairs, Result, MatchResult, slice_get, Some}
use Rattle.std.specs.declared.cmp.Ordering.{Ordering}
use Rattle.std.specs.declared.cmp.Ordering.TheVariants.{Less, Greater}

-- each key is below all later ones
abbrev pub Rises : {K : Type 0} → (K → K → Ordering) → List K → Type 0
Rises cmp ks = AllPairs (λ x y. cmp x y ≡ Less) ks

-- the keys before place i are below k, and those from it on are above k
pub record IsGap {K : Type 0} (cmp : K → K → Ordering) (ks : List K) (k : K) (i : ℕ) : Type 0 where
  pub within : i ≤ length ks
  pub below : (j : ℕ) (d : K) → j < i → cmp (slice_index_or ks j d) k ≡ Less
  pub above : (j : ℕ) (d : K) → i ≤ j → j < length ks → cmp (slice_index_or ks j d) k ≡ Greater

-- where k stands, or the gap where it would
abbrev pub IsFoundAt : {K : Type 0} → (K → K → Ordering) → List K → K → Result ℕ ℕ → Type 0
IsFoundAt cmp ks k r = MatchResult r (λ i. slice_get ks i ≡ Some k) (IsGap cmp ks k)
