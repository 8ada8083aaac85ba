-- What of a plan has to go for a start of a new request, and which starts are worth that.
use Rattle.std.specs.Prelude.{◌≡◌, ◌↔◌, IsTrue, ℕ, ◌<◌, ◌⊎◌, Bool, List, [], ◌∷◌, ◌++◌, filter, All, Any}
use Rattle.plan_base.specs.declared.parts.Parts.{Parts}
use Rattle.plan_base.specs.declared.parts.Op.TheVariants.{And}
use Rattle.plan_base.specs.declared.claim.Placement.{Placement}
use Rattle.plan_base.specs.Requests.{IsOf, IsKind}
use Rattle.plan_base.specs.Starts.{ShareSlice, worth_at, value_of_plan}
use Rattle.plan_base.specs.Feasible.{IsFeasible}

-- a and b are requests of one AND
abbrev pub AreOfOneAnd : Parts → ℕ → ℕ → Type 0
AreOfOneAnd s a b = (g : ℕ) × IsKind s And g × IsOf s g a × IsOf s g b

-- the placement q shares a slice with the start p, or it is of an AND of which the plan has a placement that does
abbrev pub HasToGo : Parts → List Placement → Placement → Placement → Type 0
HasToGo s plan p q = ShareSlice s p q ⊎ Any (λ a. ShareSlice s p a × AreOfOneAnd s a.request.0 q.request.0) plan

-- those elements of xs of which P holds, in their order
pub record IsPart {X : Type 0} (P : X → Type 0) (xs part : List X) : Type 0 where
  pub test : X → Bool
  pub tells : All (λ x. IsTrue (test x) ↔ P x) xs
  pub those : part ≡ filter test xs

-- for the start p these placements of the plan have to go, and those stay
pub record Displaces (s : Parts) (plan : List Placement) (p : Placement) (gone kept : List Placement) : Type 0 where
  pub go : IsPart (HasToGo s plan p) plan gone
  pub stay : IsPart (λ q. ¬ (HasToGo s plan p q)) plan kept

-- the plan without what has to go and with p is feasible, and p is worth more than all that goes
pub record IsWorthIt (s : Parts) (plan : List Placement) (p : Placement) (gone kept : List Placement) : Type 0 where
  pub displaces : Displaces s plan p gone kept
  pub feasible : IsFeasible s (kept ++ p ∷ [])
  pub dearer : value_of_plan s gone < worth_at s p

-- the start p qualifies: it is worth what has to go for it
abbrev pub Qualifies : Parts → List Placement → Placement → Type 0
Qualifies s plan p = (gone kept : List Placement) × IsWorthIt s plan p gone kept
