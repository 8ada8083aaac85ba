-- What a moment does: five steps, in order.
use Rattle.std.specs.Prelude.{◌≡◌, ℕ, ◌+◌, ◌*◌, Bool, not, ◌&&◌, nat_lt, nat_le, if◌then◌else◌, List, [], ◌∷◌, ◌++◌, map, filter, fold}
use Rattle.std.specs.Ordering.{nat_cmp}
use Rattle.std.specs.BTreeSet.{insert_key}
use Rattle.plan_base.specs.declared.number.Sec.{Sec}
use Rattle.plan_base.specs.declared.number.RequestNo.{RequestNo}
use Rattle.plan_base.specs.declared.state.RequestState.{RequestState}
use Rattle.plan_base.specs.declared.state.RequestState.TheVariants.{WindowExpired}
use Rattle.desk_runs.specs.declared.group.Group.{Group}
use Rattle.desk_runs.specs.declared.group.Request.{Request}
use Rattle.desk_runs.specs.declared.observation.Observation.{Observation}
use Rattle.plan_base.specs.States.{is_pending, is_window_expired}
use Rattle.plan_base.specs.Operators.{is_and}
use Rattle.desk_runs.specs.States.{any_in}
use Rattle.desk_runs.specs.Numbers.{requests_of, is_pending_at, is_placed}
use Rattle.desk_runs.specs.Progress.{Progress}

-- ---- observations that start and end

-- the second at which an observation starts
abbrev pub start_of : ℕ → Observation → ℕ
start_of len o = o.slice.0 * len

-- the second at which it ends
abbrev pub end_of : ℕ → Observation → ℕ
end_of len o = start_of len o + o.seconds

-- an observation has begun where its start is below now
abbrev pub has_begun : ℕ → Sec → Observation → Bool
has_begun len now o = nat_lt (start_of len o) now.0

-- it has ended where its end is below now
abbrev pub has_ended : ℕ → Sec → Observation → Bool
has_ended len now o = nat_lt (end_of len o) now.0

-- the kept observations that have begun
abbrev pub beginning : Progress → List Observation
beginning s = filter (has_begun s.len s.moment) s.kept

-- first, they run
abbrev pub started : Progress → Progress
started s = record s { kept = filter (λ o. not (has_begun s.len s.moment o)) s.kept; running = s.running ++ beginning s }

-- the running observations that have ended
abbrev pub ending : Progress → List Observation
ending s = filter (has_ended s.len s.moment) s.running

-- second, they stop, and their requests stay as they are
abbrev pub stopped : Progress → Progress
stopped s = record s { running = filter (λ o. not (has_ended s.len s.moment o)) s.running }

-- ---- requests whose windows have passed

-- a request is waiting where it is pending and isn't running
abbrev pub is_waiting : List Observation → Request → Bool
is_waiting running q = is_pending q.state && not (is_placed running q.number)

-- its time is past where it is waiting and its greatest window end is at or below now
abbrev pub is_past : List Observation → Sec → Request → Bool
is_past running now q = nat_le q.last.0 now.0 && is_waiting running q

-- a request in another state
abbrev pub with_state : RequestState → Request → Request
with_state state q = record q { state = state }

-- a group, of which those requests that pass are in another state
abbrev pub change_requests : (Request → Bool) → RequestState → Group → Group
change_requests test state g = record g { requests = map (λ q. if test q then with_state state q else q) g.requests }

-- a group whose past requests are window expired
abbrev pub with_past : List Observation → Sec → Group → Group
with_past running now g = change_requests (is_past running now) WindowExpired g

-- third, each request whose time is past becomes window expired
abbrev pub expired : Progress → Progress
expired s = record s { groups = map (with_past s.running s.moment) s.groups }

-- an AND with a window expired member
abbrev pub is_lost : Group → Bool
is_lost g = is_and g.op && any_in is_window_expired g

-- such a group, whose waiting requests are window expired too
abbrev pub with_lost : List Observation → Group → Group
with_lost running g = if is_lost g then change_requests (is_waiting running) WindowExpired g else g

-- fourth, in each AND with a window expired member the waiting ones become window expired
abbrev pub lost : Progress → Progress
lost s = record s { groups = map (with_lost s.running) s.groups }

-- fifth, kept observations of requests that are no longer pending are dropped
abbrev pub dropped : Progress → Progress
dropped s = record s { kept = filter (λ o. is_pending_at s.groups o.request) s.kept }

-- ---- all five

-- what a moment does
abbrev pub settle : Progress → Progress
settle s = dropped (lost (expired (stopped (started s))))

-- a settled state is one that its moment would not change
abbrev pub IsSettled : Progress → Type 0
IsSettled s = settle s ≡ s

-- the same at another moment
abbrev pub at_moment : Sec → Progress → Progress
at_moment now s = record s { moment = now }

-- ---- what is told

-- the numbers of the requests of observations as a set, in rising order
abbrev pub numbers_in : List Observation → List ℕ
numbers_in observations = fold (λ numbers o. insert_key nat_cmp numbers o.request.0) [] observations

-- the requests of observations, in rising order
abbrev pub requests_in : List Observation → List RequestNo
requests_in observations = map (λ n. record { 0 = n }) (numbers_in observations)

-- the requests that were pending and now have a state that passes, in their order
abbrev pub became : (RequestState → Bool) → List Request → List Request → List RequestNo
became test (q ∷ qs) (r ∷ rs) = if is_pending q.state && test r.state then r.number ∷ became test qs rs else became test qs rs
became test [] rs = []
became test (q ∷ qs) [] = []

-- those of all groups
abbrev pub became_in : (RequestState → Bool) → List Group → List Group → List RequestNo
became_in test before after = became test (requests_of before) (requests_of after)
