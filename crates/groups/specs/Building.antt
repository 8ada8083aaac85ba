-- What contracts see of a plan that is being built.
use Rattle.std.specs.Prelude.{◌≡◌, ℕ, ◌<◌, ◌==◌, not, List, length, slice_index_or, filter, Option, None, Some, HoldsAt, Contains}
use Rattle.plan_base.specs.declared.parts.Parts.{Parts}
use Rattle.plan_base.specs.declared.parts.GroupPart.{GroupPart}
use Rattle.plan_base.specs.declared.parts.Op.TheVariants.{And}
use Rattle.plan_base.specs.declared.claim.Placement.{Placement}
use Rattle.plan_base.specs.Requests.{IsOf, IsKind}
use Rattle.plan_base.specs.Feasible.{requests_of}

-- a plan that is being built, with the snapshot that it is for
pub record Building : Type 0 where
  pub snapshot : Parts
  pub placed : List Placement

-- the plan without the placement of request r
abbrev pub without : ℕ → List Placement → List Placement
without r plan = filter (λ p. not (p.request.0 == r)) plan

-- the group at place g is an AND of which one request is placed and another isn't
pub record IsPartlyPlaced (s : Parts) (plan : List Placement) (g : ℕ) : Type 0 where
  pub kind : IsKind s And g
  pub placed : (r : ℕ) × IsOf s g r × Contains (requests_of plan) r
  pub missing : (r : ℕ) × IsOf s g r × ¬ (Contains (requests_of plan) r)

-- this is the number of the lowest group that is placed in part
pub record IsOpenAnd (s : Parts) (plan : List Placement) (number : ℕ) : Type 0 where
  pub place : ℕ
  pub within : place < length s.groups
  pub has_number : HoldsAt (λ x. x.group.0 ≡ number) s.groups place
  pub partly : IsPartlyPlaced s plan place
  pub lowest : (g : ℕ) → g < place → ¬ (IsPartlyPlaced s plan g)

-- an AND of which so many requests are placed: some, but not all
pub record IsPartly (group : GroupPart) (placed : ℕ) : Type 0 where
  pub kind : group.op ≡ And
  pub some : 0 < placed
  pub missing : placed < length group.requests

-- the place of the first group that is placed in part, if there is one: of the group at place g, count g requests are placed
abbrev pub IsFirstPartly : List GroupPart → List ℕ → Option ℕ → Type 0
IsFirstPartly groups counts None = (g : ℕ) → g < length groups → ¬ (HoldsAt (λ x. IsPartly x (slice_index_or counts g 0)) groups g)
IsFirstPartly groups counts (Some place) =
    (place < length groups) × HoldsAt (λ x. IsPartly x (slice_index_or counts place 0)) groups place
    × ((g : ℕ) → g < place → ¬ (HoldsAt (λ x. IsPartly x (slice_index_or counts g 0)) groups g))
