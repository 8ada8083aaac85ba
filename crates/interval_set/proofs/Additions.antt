-- What a set has after a span is added at its end.
use Rattle.std.proofs.Common.{◌≡◌, ℕ, ◌+◌, ◌<◌, ◌≤◌, max, List, [], ◌∷◌, ◌++◌, length, get_or, set, ap, ◌∙◌, inl, inr, arith}
use Rattle.std.specs.Prelude.{◌||◌, All}
use Rattle.std.proofs.lemmas.Bool.{cases_lt}
use Rattle.std.proofs.lemmas.Bool.Decides.{nat_tests}
use Rattle.std.proofs.Math.ListN.{length-set}
use Rattle.std.proofs.lemmas.Grind.{common_steps}
use Rattle.std.proofs.lemmas.List.Elements.{All-set, All-push}
use Rattle.std.proofs.lemmas.List.Quantifiers.{all_pairs_push}
use Rattle.std.proofs.lemmas.List.Folds.{list_any-append}
use Rattle.plan_base.specs.declared.span.Span.{Span}
use Rattle.interval_set.specs.Spans.{span_has, IsSortedApart}
use Rattle.interval_set.specs.Steps.{BeginBy, Adds}
use Rattle.interval_set.proofs.Seconds.{IsAt, at_is, has-set, has_at, nonempty_at}

-- an empty span adds nothing
pub adds_nothing : (spans : List Span) (span : Span) → IsSortedApart spans → BeginBy spans span.from.0 → span.to.0 ≤ span.from.0 → Adds spans span spans
adds_nothing spans span sorted begin empty = record { seconds = λ x. grind (arith, nat_tests); sorted = sorted; begin = begin }

-- where a set's last span has ended, each has
pub all_ended : (spans : List Span) (i x : ℕ) (last : Span) → IsSortedApart spans → IsAt spans i last → i + 1 ≡ length spans → last.to.0 < x
    → All (λ s. s.to.0 < x) spans
all_ended spans i x last sorted at end ended k d lt =
    let is : last.to.0 ≡ (get_or spans i d).to.0 = ap (λ (s : Span). s.to.0) (at_is spans i last at d) in
    elim (cases_lt k i) [
      | inl below ↦ omega (arith, sorted.apart k i d below at.in_range, sorted.nonempty i d at.in_range, is)
      | inr from ↦ let same : k ≡ i = omega arith in rw same (omega (arith, is))
    ]

-- a span goes at the end where all others have ended before
pub adds_pushed : (spans : List Span) (span : Span) → IsSortedApart spans → All (λ s. s.to.0 < span.from.0) spans → BeginBy spans span.from.0
    → span.from.0 < span.to.0
    → Adds spans span (spans ++ span ∷ [])
adds_pushed spans span sorted ended begin nonempty = record {
  seconds = λ x. list_any-append (λ s. span_has s x) spans (span ∷ []) ∙ grind arith;
  sorted = record {
    nonempty = All-push (λ s. s.from.0 < s.to.0) spans span sorted.nonempty nonempty;
    apart = all_pairs_push (λ s t. s.to.0 < t.from.0) spans span sorted.apart (λ k d lt. ended k d lt);
  };
  begin = All-push (λ s. s.from.0 ≤ span.from.0) spans span begin (omega arith);
}

-- a span that touches the last is joined to it
pub adds_joined : (spans : List Span) (i : ℕ) (span last joined : Span) → IsSortedApart spans → IsAt spans i last → i + 1 ≡ length spans
    → BeginBy spans span.from.0
    → span.from.0 ≤ last.to.0 → joined.from.0 ≡ last.from.0 → joined.to.0 ≡ max last.to.0 span.to.0 → Adds spans span (set spans i joined)
adds_joined spans i span last joined sorted at end begin touch from to =
    let begun : last.from.0 ≤ span.from.0 = omega (arith, begin i last at.in_range, ap (λ (s : Span). s.from.0) at.is) in
    record {
      seconds = λ x.
          let both : span_has joined x ≡ (span_has last x || span_has span x) = grind (arith, nat_tests) in
          let covers : (span_has joined x || span_has (get_or spans i last) x) ≡ span_has joined x = rw (← at.is, both) (grind arith) in
          has-set spans i joined last x at.in_range covers ∙ rw both (grind (arith, has_at spans i last x at));
      sorted = record {
        nonempty = All-set (λ s. s.from.0 < s.to.0) spans i joined (omega (arith, nonempty_at spans i last sorted at)) sorted.nonempty;
        apart = λ a b d lt in_range.
            let place : b < length spans = omega (arith, length-set spans i joined) in
            grind (arith, common_steps, sorted.apart a b d lt place, at_is spans i last at d);
      };
      begin = All-set (λ s. s.from.0 ≤ span.from.0) spans i joined (omega arith) begin;
    }
