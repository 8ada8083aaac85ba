-- The one sorted list of spans, with gaps, of a set of seconds.
use Rattle.std.specs.Prelude.{ℕ, zero, suc, ◌+◌, ◌^◌, ◌==◌, Bool, List, [], ◌∷◌, if◌then◌else◌}
use Rattle.plan_base.specs.declared.span.Span.{Span}
use Rattle.interval_set.specs.Spans.{has}

-- one second
abbrev pub second : ℕ → Span
second x = record { from = record { 0 = x }; to = record { 0 = x + 1 } }

-- the spans with one second more, after all of theirs: it goes on the last span where it touches that
abbrev pub with_second : List Span → ℕ → List Span
with_second [] x = second x ∷ []
with_second (s ∷ []) x = if s.to.0 == x then record s { to = record { 0 = x + 1 } } ∷ [] else s ∷ second x ∷ []
with_second (s ∷ t ∷ spans) x = s ∷ with_second (t ∷ spans) x

-- the spans of the seconds below n that pass
unfoldable pub spans_below : (ℕ → Bool) → ℕ → List Span
spans_below test zero = []
spans_below test (suc n) = if test n then with_second (spans_below test n) n else spans_below test n

-- all moments of commands and all ends of observations are below this second
abbrev pub end_of_time : ℕ
end_of_time = 10 ^ 12

-- the one sorted list with gaps that has the seconds of these spans
abbrev pub spans_of : List Span → List Span
spans_of spans = spans_below (has spans) end_of_time
