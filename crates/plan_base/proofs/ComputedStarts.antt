-- Which starts are possible where two windows touch: none goes across.
use Rattle.std.proofs.Common.{◌≡◌, ℕ, zero, suc, ◌<◌, ◌≤◌, [], ◌∷◌, slice_index_or, All, ap, refl, arith}
use Rattle.std.proofs.lemmas.List.Elements.{All-nil, All-cons}
use Rattle.plan_base.specs.declared.parts.Parts.{Parts}
use Rattle.plan_base.specs.declared.span.Span.{Span}
use Rattle.plan_base.specs.declared.number.TargetNo.{TargetNo}
use Rattle.plan_base.specs.Requests.{windows_of, targets_of}
use Rattle.plan_base.specs.Starts.{start_second, end_second, site_of, IsPossibleStart}
use Rattle.plan_base.specs.BySpans.{OneHasAll, IsVisibleThrough}
use Rattle.plan_base.proofs.Small.{span, asked, single, fading, at}
use Rattle.plan_base.proofs.SpanStarts.{possible_from_by_spans}

-- slices of 300 seconds, a request of 300 seconds, and two windows that touch at second 400
abbrev touching : Parts
touching = record fading { groups = single 1 (record (asked 1 300 50000 0) { windows = span 0 400 ∷ span 400 1000 ∷ [] }) ∷ [] }

abbrev Sees : ℕ → TargetNo → Type 0
Sees k target = IsVisibleThrough touching target.0 (site_of touching 0) (start_second touching (at 1 k)) (end_second touching (at 1 k))

seen : (k : ℕ) → k < 3 → All (Sees k) (targets_of touching 1)
seen k h = All-cons (Sees k) (record { 0 = 0 }) []
    (zero, _, omega arith, refl, (refl, refl, (zero, span 0 86400, omega arith, refl, (omega arith, omega arith)))) (All-nil (Sees k))

inside : (k : ℕ) → k < 3 → OneHasAll (windows_of touching 1) (start_second touching (at 1 k)) (end_second touching (at 1 k)) → IsPossibleStart touching (at 1 k)
inside k h window = possible_from_by_spans touching (at 1 k) (record {
  known = omega arith;
  able = (zero, omega arith, refl);
  begins = omega arith;
  ends = omega arith;
  window = window;
  usable = (zero, span 0 86400, omega arith, refl, (omega arith, omega arith));
  visible = seen k h;
})

in_the_first : IsPossibleStart touching (at 1 0)
in_the_first = inside 0 (omega arith) (zero, span 0 400, omega arith, refl, (omega arith, omega arith))

in_the_second : IsPossibleStart touching (at 1 2)
in_the_second = inside 2 (omega arith) (suc zero, span 400 1000, omega arith, refl, (omega arith, omega arith))

no_window : (k : ℕ) (w : Span) → k < 2 → slice_index_or (span 0 400 ∷ span 400 1000 ∷ []) k w ≡ w → w.from.0 ≤ 300 → ¬ (600 ≤ w.to.0)
no_window zero w h e from to =
    let ends : 400 ≡ w.to.0 = ap (λ u. u.to.0) e in
    omega arith
no_window (suc zero) w h e from to =
    let begins : 400 ≡ w.from.0 = ap (λ u. u.from.0) e in
    omega arith
no_window (suc (suc k)) w h e from to = omega arith

-- seconds 300 to 599 lie in both windows together, and in neither alone
across_both : ¬ (IsPossibleStart touching (at 1 1))
across_both h = no_window h.window.0 h.window.1 h.window.2 h.window.3 h.window.4.0 h.window.4.1

-- slice 3 ends after the last window
after_both : ¬ (IsPossibleStart touching (at 1 3))
after_both h = ends_late h.window.0 h.window.1 h.window.2 h.window.3 h.window.4.1
  where
    ends_late : (k : ℕ) (w : Span) → k < 2 → slice_index_or (span 0 400 ∷ span 400 1000 ∷ []) k w ≡ w → ¬ (1200 ≤ w.to.0)
    ends_late zero w l e to =
        let ends : 400 ≡ w.to.0 = ap (λ u. u.to.0) e in
        omega arith
    ends_late (suc zero) w l e to =
        let ends : 1000 ≡ w.to.0 = ap (λ u. u.to.0) e in
        omega arith
    ends_late (suc (suc k)) w l e to = omega arith
