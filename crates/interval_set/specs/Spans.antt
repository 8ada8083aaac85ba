-- Sets of seconds, as lists of spans.
use Rattle.std.specs.Prelude.{◌≡◌, ℕ, ◌≤◌, nat_le, nat_lt, Bool, false, not, ◌&&◌, ◌||◌, IsTrue, List}
use Rattle.std.specs.List.{list_any}
use Rattle.plan_base.specs.declared.span.Span.{Span}
pub use Rattle.plan_base.specs.Snapshot.{IsSortedApart}

-- whether second x is one of the span
abbrev pub span_has : Span → ℕ → Bool
span_has span x = nat_le span.from.0 x && nat_lt x span.to.0

-- whether second x is one of a span of the list
abbrev pub has : List Span → ℕ → Bool
has spans x = list_any (λ span. span_has span x) spans

-- the list, sorted with gaps, of exactly the seconds at which the test is true
pub record IsSetOf (test : ℕ → Bool) (spans : List Span) : Type 0 where
  pub seconds : (x : ℕ) → has spans x ≡ test x
  pub sorted : IsSortedApart spans

-- the seconds of a, of b, or of both
abbrev pub IsUnion : List Span → List Span → List Span → Type 0
IsUnion a b union = IsSetOf (λ x. has a x || has b x) union

-- the seconds of both a and b
abbrev pub IsMeet : List Span → List Span → List Span → Type 0
IsMeet a b meet = IsSetOf (λ x. has a x && has b x) meet

-- the seconds of a that aren't seconds of b
abbrev pub IsDifference : List Span → List Span → List Span → Type 0
IsDifference a b difference = IsSetOf (λ x. has a x && not (has b x)) difference

-- each second of the span is one of the set
abbrev pub HasAll : List Span → Span → Type 0
HasAll spans span = (x : ℕ) → IsTrue (span_has span x) → IsTrue (has spans x)

-- no second of the span is one of the set
abbrev pub HasNone : List Span → Span → Type 0
HasNone spans span = (x : ℕ) → IsTrue (span_has span x) → has spans x ≡ false

-- x is the least second of the span that is one of the set
pub record IsFirstIn (spans : List Span) (span : Span) (x : ℕ) : Type 0 where
  pub inside : IsTrue (span_has span x)
  pub member : IsTrue (has spans x)
  pub least : (y : ℕ) → IsTrue (span_has span y) → IsTrue (has spans y) → x ≤ y
