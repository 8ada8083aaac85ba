-- States of requests.
use Rattle.std.specs.Prelude.{Bool, true, false, not}
use Rattle.plan_base.specs.declared.state.RequestState.{RequestState}
use Rattle.plan_base.specs.declared.state.RequestState.TheVariants.{Pending, Completed, WindowExpired, Canceled}

-- whether a state is `PENDING`
abbrev pub is_pending : RequestState → Bool
is_pending Pending = true
is_pending Completed = false
is_pending WindowExpired = false
is_pending Canceled = false

-- whether it is `COMPLETED`
abbrev pub is_completed : RequestState → Bool
is_completed Pending = false
is_completed Completed = true
is_completed WindowExpired = false
is_completed Canceled = false

-- whether it is `WINDOW_EXPIRED`
abbrev pub is_window_expired : RequestState → Bool
is_window_expired Pending = false
is_window_expired Completed = false
is_window_expired WindowExpired = true
is_window_expired Canceled = false

-- whether it is `CANCELED`
abbrev pub is_canceled : RequestState → Bool
is_canceled Pending = false
is_canceled Completed = false
is_canceled WindowExpired = false
is_canceled Canceled = true

-- whether the states are the same
abbrev pub is_in : RequestState → RequestState → Bool
is_in Pending state = is_pending state
is_in Completed state = is_completed state
is_in WindowExpired state = is_window_expired state
is_in Canceled state = is_canceled state

-- whether a state is not pending
abbrev pub is_over : RequestState → Bool
is_over state = not (is_pending state)
