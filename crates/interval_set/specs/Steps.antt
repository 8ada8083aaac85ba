-- What the steps of a merge or a look-up do with a list of spans.
use Rattle.std.specs.Prelude.{◌≡◌, ℕ, ◌≤◌, ◌<◌, min, max, ◌&&◌, ◌||◌, List, length, slice_index_or, All}
use Rattle.std.specs.List.Sorted.{IsNonDecreasingBy}
use Rattle.plan_base.specs.declared.span.Span.{Span}
use Rattle.interval_set.specs.Spans.{span_has, has, IsSortedApart}

-- the spans before the place have begun by second x, and those from it on have not
pub record IsBegunBy (spans : List Span) (x i : ℕ) : Type 0 where
  pub within : i ≤ length spans
  pub begun : (k : ℕ) (d : Span) → k < i → (slice_index_or spans k d).from.0 ≤ x
  pub later : (k : ℕ) (d : Span) → i ≤ k → k < length spans → x < (slice_index_or spans k d).from.0

-- the spans before the place have ended by second x, and those from it on have not
pub record IsEndedBy (spans : List Span) (x i : ℕ) : Type 0 where
  pub within : i ≤ length spans
  pub ended : (k : ℕ) (d : Span) → k < i → (slice_index_or spans k d).to.0 ≤ x
  pub later : (k : ℕ) (d : Span) → i ≤ k → k < length spans → x < (slice_index_or spans k d).to.0

-- each span begins at second x or before it
abbrev pub BeginBy : List Span → ℕ → Type 0
BeginBy spans x = All (λ s. s.from.0 ≤ x) spans

-- each of the spans can be added: no span that is there begins after it
abbrev pub CanAdd : List Span → List Span → Type 0
CanAdd there spans = All (λ s. BeginBy there s.from.0) spans

-- no span begins before an earlier one
abbrev pub Rise : List Span → Type 0
Rise spans = IsNonDecreasingBy (λ s. s.from.0) spans

-- new has the seconds of old and those of the span, and its spans begin no later than that one
pub record Adds (old : List Span) (span : Span) (new : List Span) : Type 0 where
  pub seconds : (x : ℕ) → has new x ≡ (has old x || span_has span x)
  pub sorted : IsSortedApart new
  pub begin : BeginBy new span.from.0

-- both begins where the later of the two spans does, ends where the earlier one does, and has the seconds that they share
pub record IsCommon (one other both : Span) : Type 0 where
  pub seconds : (x : ℕ) → span_has both x ≡ (span_has one x && span_has other x)
  pub from : both.from.0 ≡ max one.from.0 other.from.0
  pub to : both.to.0 ≡ min one.to.0 other.to.0
