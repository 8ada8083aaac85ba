-- New groups, and publications.
use Rattle.std.specs.Prelude.{◌≡◌, ℕ, ◌+◌, ◌≤◌, false, List, [], ◌∷◌, ◌++◌, length, All}
use Rattle.plan_base.specs.declared.parts.Op.{Op}
use Rattle.desk_runs.specs.declared.group.Ask.{Ask}
use Rattle.desk_runs.specs.declared.group.Group.{Group}
use Rattle.desk_runs.specs.declared.group.Request.{Request}
use Rattle.desk_runs.specs.declared.observation.Observation.{Observation}
use Rattle.plan_base.specs.declared.state.RequestState.TheVariants.{Pending}
use Rattle.desk_runs.specs.Numbers.{requests_of}
use Rattle.desk_runs.specs.Progress.{Progress}
use Rattle.desk_runs.specs.Clock.{has_begun}
use Rattle.desk_runs.specs.Sound.{IsSound, AllPending, IsOneOfOnce}

-- pending requests for what is asked, numbered from n on
abbrev pub requests_from : ℕ → List Ask → List Request
requests_from n [] = []
requests_from n (ask ∷ asks) = record { number = record { 0 = n }; seconds = ask.seconds; last = ask.last; state = Pending } ∷ requests_from (n + 1) asks

-- the group that comes next
abbrev pub next_group : Op → List Ask → Progress → Group
next_group op asks s = record { number = record { 0 = length s.groups + 1 }; op = op; requests = requests_from (length (requests_of s.groups) + 1) asks }

-- one more group
abbrev pub with_group : Op → List Ask → Progress → Progress
with_group op asks s = record s { groups = s.groups ++ next_group op asks s ∷ [] }

-- a sound state, and the same with one more group
pub record IsOneMore (before after : Progress) : Type 0 where
  pub sound : IsSound before
  pub op : Op
  pub asks : List Ask
  pub some : 1 ≤ length asks
  pub added : after ≡ with_group op asks before

-- other kept observations
abbrev pub with_kept : List Observation → Progress → Progress
with_kept kept s = record s { kept = kept }

-- observations that may be published: of pending requests, none of which has begun, and of a ONEOF at most one, running ones
-- counted
pub record CanPublish (kept : List Observation) (s : Progress) : Type 0 where
  pub pending : AllPending s.groups kept
  pub begun : All (λ o. has_begun s.len s.moment o ≡ false) kept
  pub once : IsOneOfOnce s.groups (kept ++ s.running)
