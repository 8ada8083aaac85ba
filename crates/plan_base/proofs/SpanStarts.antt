-- A start is possible exactly where it is so by spans.
use Rattle.std.proofs.Common.{◌≡◌, ℕ, zero, suc, ◌<◌, ◌≤◌, ◌⊎◌, inl, inr, List, [], ◌∷◌, length, map, slice_index_or, All, AllPairs, Contains, sym}
use Rattle.std.proofs.Common.{◌∙◌, ap, subst, arith}
use Rattle.std.specs.Prelude.{Any}
use Rattle.std.proofs.lemmas.List.{get_or_default}
use Rattle.std.proofs.lemmas.List.Elements.{All-nil, All-head, All-tail, All-contains}
use Rattle.plan_base.specs.declared.parts.Parts.{Parts}
use Rattle.plan_base.specs.declared.parts.TelescopePart.{TelescopePart}
use Rattle.plan_base.specs.declared.parts.Sky.{Sky}
use Rattle.plan_base.specs.declared.claim.Placement.{Placement}
use Rattle.plan_base.specs.Requests.{seconds_of}
use Rattle.plan_base.specs.Snapshot.{IsSortedApart, IsOrderly}
use Rattle.plan_base.specs.Starts.{HasSecond, start_second, end_second, site_of, IsVisible, IsPossibleStart}
use Rattle.plan_base.specs.BySpans.{usable_of, IsVisibleThrough, IsPossibleBySpans}
use Rattle.plan_base.proofs.OneSpan.{each_from_all, all_from_each}
use Rattle.plan_base.proofs.Sizes.{known_seconds}

nothing_apart : IsSortedApart []
nothing_apart = record { nonempty = All-nil (λ w. w.from.0 < w.to.0); apart = λ i j d l m. absurd (omega arith) }

by_place : (ts : List TelescopePart) (k : ℕ) → All (λ y. IsSortedApart y.usable) ts → IsSortedApart (slice_index_or (map (λ y. y.usable) ts) k [])
by_place [] k a = nothing_apart
by_place (y ∷ ts) zero a = All-head (λ z. IsSortedApart z.usable) y ts a
by_place (y ∷ ts) (suc k) a = by_place ts k (All-tail (λ z. IsSortedApart z.usable) y ts a)

usable_apart : (s : Parts) (t : ℕ) → IsOrderly s → IsSortedApart (usable_of s t)
usable_apart s t o = by_place s.telescopes t o.usable

below_same_above : (i j : ℕ) → ((i < j) ⊎ (j < i)) ⊎ (i ≡ j)
below_same_above i j = grind arith

abbrev StandsBelow : Sky → Sky → Type 0
StandsBelow y z = (y.target.0 < z.target.0) ⊎ ((y.target.0 ≡ z.target.0) × (y.site.0 < z.site.0))

not_below : (y z : Sky) → StandsBelow y z → y.target.0 ≡ z.target.0 → y.site.0 ≡ z.site.0 → ⊥
not_below y z (inl h) target site = omega arith
not_below y z (inr (e, h)) target site = omega arith

pair_at : (R : Sky → Sky → Type 0) (xs : List Sky) (i j : ℕ) (y z : Sky) → AllPairs R xs → i < j → j < length xs → slice_index_or xs i y ≡ y
    → slice_index_or xs j z ≡ z → R y z
pair_at R xs i j y z pairs below l e d =
    let pair : R (slice_index_or xs i y) (slice_index_or xs j y) = pairs i j y below l in
    subst (R y) (get_or_default xs j y z l ∙ d) (subst (λ (x : Sky). R x (slice_index_or xs j y)) e pair)

-- a target has one sky at a site
one_sky : (s : Parts) (y z : Sky) → IsOrderly s → Contains s.skies y → Contains s.skies z → y.target.0 ≡ z.target.0 → y.site.0 ≡ z.site.0 → y ≡ z
one_sky s y z o (i, l, e) (j, m, d) target site = elim (below_same_above i j) [
  | inl (inl below) ↦ absurd (not_below y z (pair_at StandsBelow s.skies i j y z o.skies_rise below m e d) target site)
  | inl (inr above) ↦ absurd (not_below z y (pair_at StandsBelow s.skies j i z y o.skies_rise above l d e) (sym target) (sym site))
  | inr at ↦ sym e ∙ ap (λ (k : ℕ). slice_index_or s.skies k y) at ∙ get_or_default s.skies j y z m ∙ d
]

pub visible_through : (s : Parts) (target site a b : ℕ) → IsOrderly s → a < b → ((x : ℕ) → a ≤ x → x < b → IsVisible s target site x)
    → IsVisibleThrough s target site a b
visible_through s target site a b o h each =
    let first = each a (omega arith) h in
    let sky : Sky = first.1 in
    let in_skies : Contains s.skies sky = (first.0, first.2, first.3) in
    let apart : IsSortedApart sky.spans = All-contains (λ y. IsSortedApart y.spans) s.skies sky o.skies in_skies in
    let each_here : (x : ℕ) → a ≤ x → x < b → Any (λ w. HasSecond w x) sky.spans = λ x from to.
    let here = each x from to in
    let same : here.1 ≡ sky = one_sky s here.1 sky o (here.0, here.2, here.3) in_skies (here.4.0 ∙ sym first.4.0) (here.4.1 ∙ sym first.4.1) in
    subst (λ (y : Sky). Any (λ w. HasSecond w x) y.spans) same here.4.2 in
    (first.0, sky, first.2, first.3, (first.4.0, first.4.1, all_from_each sky.spans a b apart h each_here))

pub by_spans_from_possible : (s : Parts) (p : Placement) → IsOrderly s → IsPossibleStart s p → IsPossibleBySpans s p
by_spans_from_possible s p o h =
    let seconds : 1 ≤ seconds_of s p.request.0 = known_seconds s p.request.0 o h.known in
    let some : start_second s p < end_second s p = omega arith in
    record {
      known = h.known;
      able = h.able;
      begins = h.begins;
      ends = h.ends;
      window = h.window;
      usable = all_from_each (usable_of s p.telescope.0) (start_second s p) (end_second s p) (usable_apart s p.telescope.0 o) some
          (λ x from to. h.usable x (from, to));
      visible = λ i d l. visible_through s _ (site_of s p.telescope.0) (start_second s p) (end_second s p) o some (λ x from to. h.visible i d l x (from, to));
    }

seen_through : (s : Parts) (target site a b x : ℕ) → IsVisibleThrough s target site a b → a ≤ x → x < b → IsVisible s target site x
seen_through s target site a b x (k, y, l, e, (on_target, on_site, all)) from to = (k, y, l, e, (on_target, on_site, each_from_all y.spans a b all x from to))

pub possible_from_by_spans : (s : Parts) (p : Placement) → IsPossibleBySpans s p → IsPossibleStart s p
possible_from_by_spans s p h = record {
  known = h.known;
  able = h.able;
  begins = h.begins;
  ends = h.ends;
  window = h.window;
  usable = λ x observed. each_from_all (usable_of s p.telescope.0) (start_second s p) (end_second s p) h.usable x observed.0 observed.1;
  visible = λ i d l x observed. seen_through s _ (site_of s p.telescope.0) (start_second s p) (end_second s p) x (h.visible i d l) observed.0 observed.1;
}
