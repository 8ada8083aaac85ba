-- Which requests the groups take.
use Rattle.std.specs.Prelude.{◌≡◌, ℕ, ◌<◌, Bool, false, ℤ, List, length, slice_index_or}
use Rattle.plan_base.specs.declared.parts.Parts.{Parts}
use Rattle.plan_base.specs.Requests.{listed}
use Rattle.plan_base.specs.Round.{is_taken}
use Rattle.prices.specs.Rounds.{number_at}

-- the flags tell which requests are taken at the net prices c
abbrev pub AreTaken : Parts → (ℕ → ℤ) → List Bool → Type 0
AreTaken s c flags = (k : ℕ) → k < length (listed s) → slice_index_or flags k false ≡ is_taken s c (number_at s k)
