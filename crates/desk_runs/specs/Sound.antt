-- What is always so of the groups of a desk.
use Rattle.std.specs.Prelude.{◌≡◌, ◌≢◌, ℕ, ◌+◌, ◌≤◌, ◌<◌, Bool, true, false, Some, List, ◌++◌, length, map, filter, slice_index, All, AllPairs, count_by, ◌==◌}
use Rattle.std.specs.List.{AllZip, list_any}
use Rattle.plan_base.specs.declared.number.GroupNo.{GroupNo}
use Rattle.desk_runs.specs.declared.group.Group.{Group}
use Rattle.desk_runs.specs.declared.group.Request.{Request}
use Rattle.desk_runs.specs.declared.observation.Observation.{Observation}
use Rattle.desk_runs.specs.declared.change.Change.{Change}
use Rattle.plan_base.specs.States.{is_pending}
use Rattle.plan_base.specs.Operators.{is_oneof}
use Rattle.desk_runs.specs.Numbers.{requests_of, group_at, has_request, is_pending_at, is_placed}
use Rattle.desk_runs.specs.Progress.{Progress}
use Rattle.desk_runs.specs.Clock.{IsSettled}
use Rattle.desk_runs.specs.Changes.{changed}

-- numbers count 1, 2, 3 and so on
abbrev pub IsCounted : List ℕ → Type 0
IsCounted numbers = (i : ℕ) → i < length numbers → slice_index numbers i ≡ i + 1

-- groups are numbered from 1 in their order, and so are requests
pub record IsNumbered (all : List Group) : Type 0 where
  pub groups : IsCounted (map (λ g. g.number.0) all)
  pub requests : IsCounted (map (λ q. q.number.0) (requests_of all))

-- how many of the observations are of requests of the group
abbrev pub placed_in : Group → List Observation → ℕ
placed_in g observations = count_by (λ o. has_request o.request g) observations

-- of a ONEOF at most one request is observed
abbrev pub IsOneOfOnce : List Group → List Observation → Type 0
IsOneOfOnce groups observations = All (λ g. is_oneof g.op ≡ true → placed_in g observations ≤ 1) groups

-- no request is observed twice
abbrev pub IsObservedAtMostOnce : List Observation → Type 0
IsObservedAtMostOnce observations = AllPairs (λ a b. a.request.0 ≢ b.request.0) observations

-- the observations are of pending requests
abbrev pub AllPending : List Group → List Observation → Type 0
AllPending groups observations = All (λ o. is_pending_at groups o.request ≡ true) observations

-- groups and requests are numbered, the state is settled, only pending requests run, and of a ONEOF only one
pub record IsSound (s : Progress) : Type 0 where
  pub numbered : IsNumbered s.groups
  pub settled : IsSettled s
  pub running : AllPending s.groups s.running
  pub once : IsOneOfOnce s.groups (s.kept ++ s.running)

-- no request of the group is running
abbrev pub IsIdle : List Observation → Group → Type 0
IsIdle running g = All (λ q. is_placed running q.number ≡ false) g.requests

-- the group is there, and none of its requests is running
pub record IsWithdrawable (number : GroupNo) (s : Progress) : Type 0 where
  pub group : Group
  pub there : group_at s.groups number ≡ Some group
  pub idle : IsIdle s.running group

-- the same request, pending only where it was
pub record IsLaterRequest (q r : Request) : Type 0 where
  pub number : r.number ≡ q.number
  pub seconds : r.seconds ≡ q.seconds
  pub last : r.last ≡ q.last
  pub pending : is_pending r.state ≡ true → r.state ≡ q.state

-- the same group, later
pub record IsLater (g h : Group) : Type 0 where
  pub number : h.number ≡ g.number
  pub op : h.op ≡ g.op
  pub requests : AllZip IsLaterRequest g.requests h.requests

-- whether a group has the number of one of these
abbrev pub is_told : List Group → Group → Bool
is_told told g = list_any (λ c. c.number.0 == g.number.0) told

-- the groups that are told are those after a change that have their numbers, in order, and no other group changes
pub record AreTold (before told after : List Group) : Type 0 where
  pub listed : told ≡ filter (is_told told) after
  pub others : AllZip (λ g h. is_told told g ≡ false → h ≡ g) before after

-- a change that can be made: groups only go on, those that change are told, and it leaves a sound state
pub record CanChange (s : Progress) (c : Change) : Type 0 where
  pub later : AllZip IsLater s.groups (changed s c).groups
  pub told : AreTold s.groups c.groups (changed s c).groups
  pub sound : IsSound (changed s c)
