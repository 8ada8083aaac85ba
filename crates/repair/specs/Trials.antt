-- What fill tries of a snapshot.
use Rattle.std.specs.Prelude.{◌≡◌, ℕ, ◌<◌, List, length, All, HoldsAt}
use Rattle.plan_base.specs.declared.parts.Parts.{Parts}
use Rattle.plan_base.specs.declared.parts.RequestPart.{RequestPart}
use Rattle.plan_base.specs.declared.parts.Op.{Op}
use Rattle.plan_base.specs.declared.parts.Op.TheVariants.{OneOf}
use Rattle.plan_base.specs.Requests.{IsKind, members}
use Rattle.plan_base.specs.Fill.{IsFillOrder, IsMemberOrder}
use Rattle.repair.specs.declared.trials.Trial.{Trial}
use Rattle.repair.specs.declared.trials.Trials.{Trials}
use Rattle.repair.specs.Entries.{IsEntry, numbers_of}

-- what decides in which order a group's requests are tried, beside their numbers
abbrev pub trial_worth : Op → RequestPart → ℕ
trial_worth OneOf q = q.value
trial_worth _ q = 0

-- the group at place g, with its requests in the order in which they are tried: of a ONEOF by falling value, else by number
pub record IsTrial (s : Parts) (g : ℕ) (trial : Trial) : Type 0 where
  pub kind : IsKind s trial.op g
  pub entries : All (IsEntry s) trial.entries.items
  pub by_value : trial.op ≡ OneOf → IsMemberOrder s g (numbers_of trial.entries.items)
  pub by_number : ¬ (trial.op ≡ OneOf) → numbers_of trial.entries.items ≡ members s g

-- the first n groups, in their order
pub record AreTrialsOf (s : Parts) (n : ℕ) (trials : List Trial) : Type 0 where
  pub count : length trials ≡ n
  pub each : (g : ℕ) → g < n → HoldsAt (IsTrial s g) trials g

-- all groups in their order, and their places in the order of a pass
pub record AreTrials (s : Parts) (trials : Trials) : Type 0 where
  pub groups : AreTrialsOf s (length s.groups) trials.groups.items
  pub order : IsFillOrder s trials.order.items
