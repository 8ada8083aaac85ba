-- The ranges of a snapshot's numbers, as tests.
use Rattle.std.specs.Prelude.{nat_le, Bool, ◌&&◌}
use Rattle.std.specs.List.{list_all}
use Rattle.plan_base.specs.declared.parts.Parts.{Parts}
use Rattle.plan_base.specs.declared.parts.RequestPart.{RequestPart}
use Rattle.plan_base.specs.declared.span.Span.{Span}
use Rattle.plan_base.specs.Limits.{most_moment, most_seconds, most_value, most_slices, most_version, most_len, least_len, most_first}
use Rattle.plan_base.specs.Faults.{all_requests}

-- both ends are moments
abbrev pub has_moments : Span → Bool
has_moments w = nat_le w.from.0 most_moment && nat_le w.to.0 most_moment

-- the seconds and the value of the request are in their ranges
abbrev pub has_ranges : RequestPart → Bool
has_ranges q = nat_le 1 q.seconds && nat_le q.seconds most_seconds && (nat_le 1 q.value && nat_le q.value most_value)

-- the numbers of the horizon are in their ranges
abbrev pub has_horizon : Parts → Bool
has_horizon s = nat_le s.version most_version && (nat_le least_len s.len && nat_le s.len most_len)
    && nat_le s.first.0 most_first && (nat_le 1 s.slices && nat_le s.slices most_slices)

-- all spans have moments at their ends
abbrev pub has_all_moments : Parts → Bool
has_all_moments s =
    list_all (λ t. list_all has_moments t.usable) s.telescopes
    && list_all (λ y. list_all has_moments y.spans) s.skies
    && list_all (λ q. list_all has_moments q.windows) (all_requests s.groups)

-- the numbers of the horizon, of all requests and of all spans are in their ranges
abbrev pub is_in_ranges : Parts → Bool
is_in_ranges s = has_horizon s && list_all has_ranges (all_requests s.groups) && has_all_moments s
