-- The windows of a cadence.
use Rattle.std.specs.Prelude.{ℕ, ◌+◌, ◌*◌, ◌-◌, ◌/◌, nat_le, nat_lt, min, max, Bool, ◌&&◌, List, [], ◌∷◌, map, filter, Result, Ok, Err, if◌then◌else◌}
use Rattle.std.specs.Int.{div_ceil}
use Rattle.std.specs.List.{range_with_len}
use Rattle.plan_base.specs.Limits.{most_members}
use Rattle.plan_base.specs.declared.span.Span.{Span}
use Rattle.request_model.specs.declared.request.Cadence.{Cadence}
use Rattle.request_model.specs.declared.time_fault.TimeFault.{TimeFault}
use Rattle.request_model.specs.declared.time_fault.TimeFault.TheVariants.{BadCadence, TooManyWindows}

-- centre k: the start, and from there each period
abbrev pub centre : Cadence → ℕ → ℕ
centre c k = c.start.0 + k * c.period

-- how many centres lie below the end, where there is a period
abbrev pub centre_count : Cadence → ℕ
centre_count c = div_ceil (c.end.0 - c.start.0) c.period

-- the window round moment m: half the jitter, rounded down, before it and the rest from it on, but no second outside start and end;
-- a difference below 0 counts as 0, and no start lies below that
abbrev pub window : Cadence → ℕ → Span
window c m = record {
  from = record { 0 = max c.start.0 (m - c.jitter / 2) };
  to = record { 0 = min c.end.0 (m + (c.jitter - c.jitter / 2)) };
}

-- the window is no shorter than these seconds
abbrev pub is_long : ℕ → Span → Bool
is_long seconds w = nat_le (w.from.0 + seconds) w.to.0

-- the windows of the first n centres, in order, without those that are too short
abbrev pub windows_of : Cadence → ℕ → ℕ → List Span
windows_of c seconds n = filter (is_long seconds) (map (λ k. window c (centre c k)) (range_with_len 0 n))

-- there is a period and a jitter, and the start comes before the end
abbrev pub is_cadence : Cadence → Bool
is_cadence c = nat_lt 0 c.period && nat_lt 0 c.jitter && nat_lt c.start.0 c.end.0

-- the windows, if any are left
abbrev pub if_any : List Span → Result (List Span) TimeFault
if_any [] = Err BadCadence
if_any (w ∷ ws) = Ok (w ∷ ws)

-- the windows of a cadence for a request of these seconds, or the first fault
abbrev pub expansion : Cadence → ℕ → Result (List Span) TimeFault
expansion c seconds =
    if is_cadence c
    then (if nat_le (centre_count c) most_members then if_any (windows_of c seconds (centre_count c)) else Err (TooManyWindows (centre_count c)))
    else Err BadCadence
