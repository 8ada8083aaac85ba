-- The groups of requests, by place, and how many requests are pending.
use Rattle.std.specs.Prelude.{ℕ, ◌+◌, List, [], ◌∷◌, ◌++◌, map, count_by}
use Rattle.desk_runs.specs.declared.group.Group.{Group}
use Rattle.plan_base.specs.States.{is_pending}
use Rattle.desk_runs.specs.Numbers.{requests_of}

-- for each request the place of its group, of groups of which the first has place i
abbrev pub owners_from : ℕ → List Group → List ℕ
owners_from i [] = []
owners_from i (g ∷ gs) = map (λ q. i) g.requests ++ owners_from (i + 1) gs

-- how many requests are pending
abbrev pub pending_count : List Group → ℕ
pending_count groups = count_by (λ q. is_pending q.state) (requests_of groups)

-- how many of a group's
abbrev pub pending_of : Group → ℕ
pending_of g = count_by (λ q. is_pending q.state) g.requests
