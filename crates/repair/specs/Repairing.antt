-- What contracts see of a repairer, and what it keeps.
use Rattle.std.specs.Prelude.{◌≡◌, ℕ, ◌≤◌, List, length}
use Rattle.plan_base.specs.declared.parts.Parts.{Parts}
use Rattle.plan_base.specs.declared.claim.Placement.{Placement}
use Rattle.plan_base.specs.Requests.{listed}
use Rattle.groups.specs.Building.{Building}
use Rattle.repair.specs.declared.trials.Trials.{Trials}
use Rattle.repair.specs.declared.offers.Offers.{Offers}
use Rattle.repair.specs.Trials.{AreTrials}
use Rattle.repair.specs.Worths.{AreOffers}

-- a snapshot, and the plan of the last run
pub record Repairing : Type 0 where
  pub snapshot : Parts
  pub plan : List Placement

-- the tables are those of the snapshot, with a place for each request, and there is room for a rank of each
pub record IsReady (s : Parts) (tried : Trials) (offered : Offers) (draft : Building) (firsts noted room : ℕ) : Type 0 where
  pub trials : AreTrials s tried
  pub offers : AreOffers s offered
  pub same : draft.snapshot ≡ s
  pub firsts_count : firsts ≡ length (listed s)
  pub noted_count : noted ≡ length (listed s)
  pub room_for_all : length (listed s) ≤ room
