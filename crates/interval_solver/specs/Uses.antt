-- Starts, and how often each request is among them.
use Rattle.std.specs.Prelude.{◌≡◌, ℕ, ◌<◌, ◌==◌, List, length, map, slice_index_or, count_by, All}
use Rattle.plan_base.specs.declared.parts.Parts.{Parts}
use Rattle.plan_base.specs.declared.claim.Placement.{Placement}
use Rattle.plan_base.specs.Requests.{listed, place_of, IsKnown}

-- starts of a snapshot, and for how many there is room
pub record Started : Type 0 where
  pub snapshot : Parts
  pub starts : List Placement
  pub room : ℕ

-- how often place k stands among places
abbrev pub count_of : List ℕ → ℕ → ℕ
count_of places k = count_by (λ p. p == k) places

-- the counts tell how often each place stands among these places
pub record IsTally (places counts : List ℕ) : Type 0 where
  pub within : All (λ p. p < length counts) places
  pub each : (k : ℕ) → k < length counts → slice_index_or counts k 0 ≡ count_of places k

-- the places are those of the starts' requests, which the snapshot has, and each of its requests is counted
pub record AreUsesOf (s : Parts) (starts : List Placement) (places counts : List ℕ) : Type 0 where
  pub known : All (λ p. IsKnown s p.request.0) starts
  pub places_are : places ≡ map (λ p. place_of s p.request.0) starts
  pub tally : IsTally places counts
  pub requests : length counts ≡ length (listed s)
