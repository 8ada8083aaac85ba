-- Places by falling worth.
use Rattle.std.specs.Prelude.{◌≡◌, ℕ, ◌<◌, ◌⊎◌, List, length, slice_index_or, All, AllPairs, Contains, HoldsAt}
use Rattle.repair.specs.declared.order.Rank.{Rank}

-- the worth at place i
abbrev pub worth : List ℕ → ℕ → ℕ
worth worths i = slice_index_or worths i 0

-- r has the place i and the worth there
pub record IsRankOf (worths : List ℕ) (i : ℕ) (r : Rank) : Type 0 where
  pub place : r.place ≡ i
  pub worth_there : r.worth.0 ≡ worth worths i

-- the ranks of the first n places, in their order
pub record AreRanksOf (worths : List ℕ) (n : ℕ) (ranks : List Rank) : Type 0 where
  pub count : length ranks ≡ n
  pub each : (i : ℕ) → i < n → HoldsAt (IsRankOf worths i) ranks i

-- the ranks of all places, in their order
abbrev pub AreRanks : List ℕ → List Rank → Type 0
AreRanks worths ranks = AreRanksOf worths (length worths) ranks

-- all places of worths, by falling worth, then place
pub record IsFallingOrder (worths order : List ℕ) : Type 0 where
  pub places : All (λ i. i < length worths) order
  pub complete : (i : ℕ) → i < length worths → Contains order i
  pub falling : AllPairs (λ a b. (worth worths b < worth worths a) ⊎ ((worth worths a ≡ worth worths b) × (a < b))) order
