-- What is gathered of a request's starts, slice by slice and telescope by telescope.
use Rattle.std.specs.Prelude.{◌≡◌, ◌≢◌, ℕ, ◌*◌, ◌≤◌, ◌<◌, ◌⊎◌, ℤ, pos, neg_ℤ, ◌≤ℤ◌, List, length}
use Rattle.std.specs.Prelude.{slice_index_or, Option, Some, None, MatchOption}
use Rattle.plan_base.specs.declared.parts.Parts.{Parts}
use Rattle.plan_base.specs.declared.claim.Placement.{Placement}
use Rattle.plan_base.specs.Limits.{most_slices}
use Rattle.explain.specs.declared.chart.Chart.{Chart}
use Rattle.explain.specs.Through.{IsGain}
use Rattle.openings.specs.Openings.{IsStartAt}
use Rattle.explain.specs.Starts.{HasStartsWhere}
use Rattle.explain.specs.Forced.{CanTake, IsDetour}
use Rattle.explain.specs.Steps.{IsChart}

-- a placement on telescope t before slice k
abbrev pub IsOnBefore : ℕ → ℕ → Placement → Type 0
IsOnBefore t k p = (p.telescope.0 ≡ t) × (p.slice.0 < k)

-- a placement on telescope t
abbrev pub IsOn : ℕ → Placement → Type 0
IsOn t p = p.telescope.0 ≡ t

-- a placement on a telescope before the one with number n
abbrev pub IsBeforeTelescope : ℕ → Placement → Type 0
IsBeforeTelescope n p = p.telescope.0 < n

-- r is the larger of the numbers that there are
abbrev pub IsLargerOf : Option ℤ → Option ℤ → Option ℤ → Type 0
IsLargerOf None y r = r ≡ y
IsLargerOf (Some x) None r = r ≡ Some x
IsLargerOf (Some x) (Some y) r = (z : ℤ) × (r ≡ Some z) × (x ≤ℤ z) × (y ≤ℤ z) × ((z ≡ x) ⊎ (z ≡ y))

-- how many numbers there are
abbrev pub count_of : Option ℤ → ℕ
count_of None = 0
count_of (Some x) = 1

-- g is the gain of a start of request r on telescope t at slice k
pub record IsGainAt (s : Parts) (prices : List ℤ) (t r k : ℕ) (g : ℤ) : Type 0 where
  pub start : Placement
  pub is_start : IsStartAt s t r start
  pub at : start.slice.0 ≡ k
  pub gain : IsGain s prices t start g

-- request r has no start on telescope t at slice k, or this is its gain
abbrev pub IsGainIfAny : Parts → List ℤ → ℕ → ℕ → ℕ → Option ℤ → Type 0
IsGainIfAny s prices t r k gain = MatchOption gain ((p : Placement) → IsStartAt s t r p → p.slice.0 ≢ k) (IsGainAt s prices t r k)

-- b is the greatest gain of the starts of request r on telescope t before slice k
pub record IsGreatestGain (s : Parts) (prices : List ℤ) (t r k : ℕ) (b : ℤ) : Type 0 where
  pub reached : (p : Placement) × IsStartAt s t r p × (p.slice.0 < k) × IsGain s prices t p b
  pub bound : (p : Placement) → IsStartAt s t r p → p.slice.0 < k → (d : ℤ) × IsGain s prices t p d × (d ≤ℤ b)

-- how many starts request r has on telescope t before slice k, and their greatest gain
pub record AreGainsTo (s : Parts) (prices : List ℤ) (t r k count : ℕ) (greatest : Option ℤ) : Type 0 where
  pub starts : HasStartsWhere s r (IsOnBefore t k) count
  pub gain : MatchOption greatest ((p : Placement) → IsStartAt s t r p → ¬ (p.slice.0 < k)) (IsGreatestGain s prices t r k)

-- what a detour may be
abbrev pub IsDetourInRange : ℤ → Type 0
IsDetourInRange d = (neg_ℤ (pos 10000000000000000) ≤ℤ d) × (d ≤ℤ pos 0)

-- request r has no start on telescope t, or this is what the telescope gives through it, less its best
abbrev pub IsDetourIfAny : Parts → List ℤ → ℕ → ℕ → Option ℤ → Type 0
IsDetourIfAny s prices t r detour = MatchOption detour (¬ (CanTake s t r)) (λ d. IsDetour s prices t r d × IsDetourInRange d)

-- how many starts request r has on telescope t, and its detour there
pub record IsCrossing (s : Parts) (prices : List ℤ) (t r count : ℕ) (detour : Option ℤ) : Type 0 where
  pub starts : HasStartsWhere s r (IsOn t) count
  pub few : count ≤ most_slices
  pub is_detour : IsDetourIfAny s prices t r detour

-- the charts of the first n telescopes
pub record AreChartsTo (s : Parts) (prices : List ℤ) (n : ℕ) (charts : List Chart) : Type 0 where
  pub count : length charts ≡ n
  pub each : (t : ℕ) (d : Chart) → t < n → IsChart s prices t (slice_index_or charts t d)

-- the charts of all telescopes
abbrev pub AreCharts : Parts → List ℤ → List Chart → Type 0
AreCharts s prices charts = AreChartsTo s prices (length s.telescopes) charts

-- b is the greatest detour of the telescopes before number n that have a start of request r
pub record IsGreatestDetourTo (s : Parts) (prices : List ℤ) (r n : ℕ) (b : ℤ) : Type 0 where
  pub reached : (t : ℕ) × (t < n) × CanTake s t r × IsDetour s prices t r b
  pub bound : (t : ℕ) → t < n → CanTake s t r → (d : ℤ) × IsDetour s prices t r d × (d ≤ℤ b)
  pub range : IsDetourInRange b

-- how many starts request r has on the telescopes before number n, and its greatest detour there
pub record IsPassedTo (s : Parts) (prices : List ℤ) (r n count : ℕ) (detour : Option ℤ) : Type 0 where
  pub starts : HasStartsWhere s r (IsBeforeTelescope n) count
  pub few : count ≤ n * most_slices
  pub greatest : MatchOption detour ((t : ℕ) → t < n → ¬ (CanTake s t r)) (IsGreatestDetourTo s prices r n)
