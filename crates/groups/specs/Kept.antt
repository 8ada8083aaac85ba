-- What a plan that is being built keeps.
use Rattle.std.specs.Prelude.{ℕ, ◌≤◌, List, length}
use Rattle.plan_base.specs.declared.parts.Parts.{Parts}
use Rattle.plan_base.specs.declared.claim.Placement.{Placement}
use Rattle.plan_base.specs.Requests.{listed}
use Rattle.plan_base.specs.FeasibleSoFar.{IsFeasibleSoFar}
use Rattle.groups.specs.declared.tables.Tables.{Tables}
use Rattle.groups.specs.declared.places.Places.{Places}
use Rattle.groups.specs.Tables.{AreTables}
use Rattle.groups.specs.Places.{ArePlaces}

-- the plan is feasible but for its ANDs, there is room for a placement of each request, and the tables tell of the plan
pub record IsKept (s : Parts) (plan : List Placement) (capacity : ℕ) (t : Tables) : Type 0 where
  pub so_far : IsFeasibleSoFar s plan
  pub room : length (listed s) ≤ capacity
  pub tables : AreTables s plan t

-- and it is known where requests stand
pub record IsBuilt (s : Parts) (plan : List Placement) (capacity : ℕ) (t : Tables) (places : Places) : Type 0 where
  pub kept : IsKept s plan capacity t
  pub known_places : ArePlaces s places
