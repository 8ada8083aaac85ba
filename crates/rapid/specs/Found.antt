-- What is found where the earliest start that qualifies is sought.
use Rattle.std.specs.Prelude.{◌≡◌, ℕ, ◌+◌, ◌<◌, List, Option, Some, None}
use Rattle.plan_base.specs.declared.parts.Parts.{Parts}
use Rattle.plan_base.specs.declared.number.RequestNo.{RequestNo}
use Rattle.plan_base.specs.declared.number.SliceNo.{SliceNo}
use Rattle.plan_base.specs.declared.number.TelescopeNo.{TelescopeNo}
use Rattle.plan_base.specs.declared.claim.Placement.{Placement}
use Rattle.plan_base.specs.Starts.{worth_at, value_of_plan}
use Rattle.rapid.specs.declared.held.Held.{Held}
use Rattle.rapid.specs.declared.seeking.Found.{Found}
use Rattle.rapid.specs.Displaced.{IsWorthIt, Qualifies}
use Rattle.rapid.specs.Insertion.{IsEarliest, HasNoPlace}
use Rattle.rapid.specs.Held.{plan_of}

-- the start p qualifies, with what goes and stays for it, and what it is worth beyond what goes
pub record IsFound (s : Parts) (held : List Held) (p : Placement) (found : Found) : Type 0 where
  pub start : found.start ≡ p
  pub worth_it : IsWorthIt s (plan_of held) p found.gone.items found.kept.items
  pub gain : found.gain + value_of_plan s found.gone.items ≡ worth_at s p

-- the start of the request on a telescope at a slice
abbrev pub start_on : RequestNo → SliceNo → TelescopeNo → Placement
start_on request slice telescope = record { request = request; telescope = telescope; slice = slice }

-- the start that qualifies at the slice on the lowest telescope, if one does
abbrev pub IsFirstAt : Parts → List Held → RequestNo → SliceNo → Option Found → Type 0
IsFirstAt s held request slice None = (t : TelescopeNo) → ¬ (Qualifies s (plan_of held) (start_on request slice t))
IsFirstAt s held request slice (Some found) =
    (telescope : TelescopeNo) × IsFound s held (start_on request slice telescope) found
    × ((t : TelescopeNo) → t.0 < telescope.0 → ¬ (Qualifies s (plan_of held) (start_on request slice t)))

-- the earliest start of the request that qualifies, with what it is worth beyond what goes for it
pub record IsEarliestFound (s : Parts) (held : List Held) (r : ℕ) (found : Found) : Type 0 where
  pub earliest : IsEarliest s (plan_of held) r found.start found.gone.items found.kept.items
  pub gain : found.gain + value_of_plan s found.gone.items ≡ worth_at s found.start

-- that of all starts, if one qualifies
abbrev pub IsSought : Parts → List Held → ℕ → Option Found → Type 0
IsSought s held r None = HasNoPlace s (plan_of held) r
IsSought s held r (Some found) = IsEarliestFound s held r found
