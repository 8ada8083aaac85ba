-- What a solver may answer to what it has taken.
use Rattle.std.specs.Prelude.{ℕ, ◌≤◌, ◌<◌}
use Rattle.plan_base.specs.declared.parts.Parts.{Parts}
use Rattle.plan_base.specs.declared.taken.Taken.{Taken}
use Rattle.plan_base.specs.declared.taken.Outcome.{Outcome}
use Rattle.plan_base.specs.declared.taken.Outcome.TheVariants.{Plan, TooManyStarts}
use Rattle.plan_base.specs.declared.claim.Settings.{Settings}
use Rattle.plan_base.specs.Limits.{most_starts}
use Rattle.plan_base.specs.Starts.{IsStartCount}
use Rattle.plan_base.specs.Planned.{IsPlanned}

-- what was taken, with what was found for it
pub record SolvedTake : Type 0 where
  pub taken : Taken
  pub outcome : Outcome

-- the snapshot has few enough possible starts to be planned
abbrev pub HasFewStarts : Parts → Type 0
HasFewStarts s = (n : ℕ) × IsStartCount s n × (n ≤ most_starts)

-- a planned claim for the snapshot and the settings, or the number of its starts, where they are too many
abbrev pub IsOutcome : Parts → Settings → Outcome → Type 0
IsOutcome s settings (Plan claim) = IsPlanned s settings claim × HasFewStarts s
IsOutcome s settings (TooManyStarts n) = IsStartCount s n × (most_starts < n)
