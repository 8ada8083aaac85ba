-- States of requests, and of groups by their members'.
use Rattle.std.specs.Prelude.{Bool, if◌then◌else◌}
use Rattle.std.specs.List.{list_any, list_all}
use Rattle.plan_base.specs.Operators.{is_and}
use Rattle.plan_base.specs.declared.state.RequestState.{RequestState}
use Rattle.plan_base.specs.declared.state.RequestState.TheVariants.{Pending, Completed, WindowExpired, Canceled}
use Rattle.plan_base.specs.States.{is_pending, is_completed, is_canceled}
use Rattle.desk_runs.specs.declared.group.Group.{Group}

-- whether a member's state passes
abbrev pub any_in : (RequestState → Bool) → Group → Bool
any_in test g = list_any (λ q. test q.state) g.requests

-- whether each member's state passes
abbrev pub all_in : (RequestState → Bool) → Group → Bool
all_in test g = list_all (λ q. test q.state) g.requests

-- a group is pending while a member is
abbrev pub is_open : Group → Bool
is_open g = any_in is_pending g

-- an AND is done where all members are completed, another group where at least one is
abbrev pub is_done : Group → Bool
is_done g = if is_and g.op then all_in is_completed g else any_in is_completed g

-- the state of a group: pending, else completed where it is done, else canceled where a member is, else window expired
abbrev pub state_of : Group → RequestState
state_of g = if is_open g then Pending else (if is_done g then Completed else (if any_in is_canceled g then Canceled else WindowExpired))
