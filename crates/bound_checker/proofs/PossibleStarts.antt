-- A possible start by what the tests of it say.
use Rattle.std.proofs.Common.{◌≡◌, ℕ, ◌+◌, ◌*◌, ◌<◌, ◌≤◌, ◌⊎◌, inl, inr, ◌↔◌, List, [], length, map, slice_index_or, All, AllPairs, Contains, refl}
use Rattle.std.proofs.Common.{sym, ◌∙◌, ap, subst, arith}
use Rattle.std.specs.Prelude.{HoldsAt, Any}
use Rattle.std.proofs.lemmas.List.{get_or_default, get_or-map}
use Rattle.plan_base.specs.declared.parts.Parts.{Parts}
use Rattle.plan_base.specs.declared.parts.RequestPart.{RequestPart}
use Rattle.plan_base.specs.declared.parts.Sky.{Sky}
use Rattle.plan_base.specs.declared.parts.TelescopePart.{TelescopePart}
use Rattle.plan_base.specs.declared.span.Span.{Span}
use Rattle.plan_base.specs.declared.claim.Placement.{Placement}
use Rattle.plan_base.specs.declared.number.TelescopeNo.{TelescopeNo}
use Rattle.plan_base.specs.declared.number.TargetNo.{TargetNo}
use Rattle.plan_base.specs.Requests.{IsKnown, seconds_of, windows_of, telescopes_of, targets_of}
use Rattle.plan_base.specs.Skies.{IsSkyOf, IsSkyBelow}
use Rattle.plan_base.specs.Snapshot.{IsOrderly}
use Rattle.plan_base.specs.Starts.{size_of, slices_for, start_second, end_second, site_of, IsPossibleStart}
use Rattle.plan_base.specs.BySpans.{OneHasAll, usable_of, IsVisibleThrough, IsPossibleBySpans}
use Rattle.plan_base.proofs.SpanStarts.{by_spans_from_possible, possible_from_by_spans}
use Rattle.bound_checker.specs.Claims.{IsRequestOf, CanObserve}

-- what the tests find of a placement of the request q
pub record PassesTests (s : Parts) (p : Placement) (q : RequestPart) (a b : ℕ) : Type 0 where
  pub able : Contains q.telescopes p.telescope
  pub begins : s.first.0 ≤ p.slice.0
  pub ends : p.slice.0 + slices_for s.len q.seconds ≤ s.first.0 + s.slices
  pub observed : CanObserve s q p.telescope.0 a b

module _ (s : Parts) (p : Placement) (q : RequestPart) (a b : ℕ) (known : IsKnown s p.request.0) (is : IsRequestOf s p.request.0 q)
    (from : a ≡ p.slice.0 * s.len) (to : b ≡ p.slice.0 * s.len + q.seconds) where
  ends_at : b ≡ end_second s p
  ends_at = to ∙ ap (λ (n : ℕ). p.slice.0 * s.len + n) (sym is.seconds)

  pub possible_from_tests : PassesTests s p q a b → IsPossibleStart s p
  possible_from_tests h =
      let at_start : CanObserve s q p.telescope.0 (start_second s p) b = subst (λ (n : ℕ). CanObserve s q p.telescope.0 n b) from h.observed in
      let observed : CanObserve s q p.telescope.0 (start_second s p) (end_second s p) =
      subst (λ (n : ℕ). CanObserve s q p.telescope.0 (start_second s p) n) ends_at at_start in
      possible_from_by_spans s p record {
        known = known;
        able = subst (λ (ts : List TelescopeNo). Contains ts p.telescope) (sym is.telescopes) h.able;
        begins = h.begins;
        ends = subst (λ (n : ℕ). p.slice.0 + slices_for s.len n ≤ s.first.0 + s.slices) (sym is.seconds) h.ends;
        window = subst (λ (ws : List Span). OneHasAll ws (start_second s p) (end_second s p)) (sym is.windows) observed.window;
        usable = observed.usable;
        visible = subst (λ (ts : List TargetNo). All
            (λ target. IsVisibleThrough s target.0 (site_of s p.telescope.0) (start_second s p) (end_second s p)) ts)
            (sym is.targets) observed.visible;
      }

  pub tests_from_possible : IsOrderly s → IsPossibleStart s p → PassesTests s p q a b
  tests_from_possible o possible =
      let h = by_spans_from_possible s p o possible in
      let observed : CanObserve s q p.telescope.0 (start_second s p) (end_second s p) = record {
        window = subst (λ (ws : List Span). OneHasAll ws (start_second s p) (end_second s p)) is.windows h.window;
        usable = h.usable;
        visible = subst (λ (ts : List TargetNo). All
            (λ target. IsVisibleThrough s target.0 (site_of s p.telescope.0) (start_second s p) (end_second s p)) ts) is.targets h.visible;
      } in
      let at_start : CanObserve s q p.telescope.0 a (end_second s p) = subst (λ (n : ℕ). CanObserve s q p.telescope.0 n (end_second s p)) (sym from) observed in
      record {
        able = subst (λ (ts : List TelescopeNo). Contains ts p.telescope) is.telescopes h.able;
        begins = h.begins;
        ends = subst (λ (n : ℕ). p.slice.0 + slices_for s.len n ≤ s.first.0 + s.slices) is.seconds h.ends;
        observed = subst (λ (n : ℕ). CanObserve s q p.telescope.0 a n) (sym ends_at) at_start;
      }

below_same_above : (i j : ℕ) → ((i < j) ⊎ (j < i)) ⊎ (i ≡ j)
below_same_above i j = grind arith

not_below : (target site : ℕ) (y z : Sky) → IsSkyOf target site y → IsSkyOf target site z → IsSkyBelow y z → ⊥
not_below target site y z (a, b) (c, d) (inl h) = omega arith
not_below target site y z (a, b) (c, d) (inr (e, h)) = omega arith

-- a target has one sky at a site
one_sky : (skies : List Sky) (target site i j : ℕ) (d : Sky) → AllPairs IsSkyBelow skies → i < length skies → j < length skies
    → IsSkyOf target site (slice_index_or skies i d) → IsSkyOf target site (slice_index_or skies j d)
    → i ≡ j
one_sky skies target site i j d rise l m a b = elim (below_same_above i j) [
  | inl (inl below) ↦ absurd (not_below target site (slice_index_or skies i d) (slice_index_or skies j d) a b (rise i j d below m))
  | inl (inr above) ↦ absurd (not_below target site (slice_index_or skies j d) (slice_index_or skies i d) b a (rise j i d above l))
  | inr same ↦ same
]

-- what is visible through a sky is so through the one at this place
pub seen_in_sky : (skies : List Sky) (target site a b place : ℕ) (sky : Sky) → AllPairs IsSkyBelow skies → place < length skies
    → HoldsAt (IsSkyOf target site) skies place → sky ≡ slice_index_or skies place sky
    → Any (λ y. (y.target.0 ≡ target) × (y.site.0 ≡ site) × OneHasAll y.spans a b) skies → OneHasAll sky.spans a b
seen_in_sky skies target site a b place sky rise l of at (k, y, m, there, (t, st, all)) =
    let same : k ≡ place = one_sky skies target site k place y rise m l (subst (IsSkyOf target site) (sym there) (t, st)) (of y) in
    let sky_is : y ≡ sky = sym there ∙ ap (λ (i : ℕ). slice_index_or skies i y) same ∙ get_or_default skies place y sky l ∙ sym at in
    subst (λ (z : Sky). OneHasAll z.spans a b) sky_is all

pub sky_has : (skies : List Sky) (target site a b place : ℕ) (sky : Sky) → place < length skies → HoldsAt (IsSkyOf target site) skies place
    → sky ≡ slice_index_or skies place sky
    → OneHasAll sky.spans a b → Any (λ y. (y.target.0 ≡ target) × (y.site.0 ≡ site) × OneHasAll y.spans a b) skies
sky_has skies target site a b place sky l of at all = let own : IsSkyOf target site sky = subst (IsSkyOf target site) (sym at) (of sky) in
    (place, sky, l, sym at, (own.0, own.1, all))

-- what the tests look at is what the snapshot has of the request and the telescope
pub record LooksAt (s : Parts) (q : RequestPart) (t : ℕ) (part : TelescopePart) (windows usable : List Span) (targets : List TargetNo) : Type 0 where
  pub windows_are : windows ≡ q.windows
  pub usable_are : usable ≡ part.usable
  pub part_is : part ≡ slice_index_or s.telescopes t part
  pub within : t < length s.telescopes
  pub targets_are : targets ≡ q.targets

module _ (s : Parts) (q : RequestPart) (t : ℕ) (part : TelescopePart) (windows usable : List Span) (targets : List TargetNo) (a b : ℕ)
    (looks : LooksAt s q t part windows usable targets) where
  usable_is : usable ≡ usable_of s t
  usable_is = looks.usable_are ∙ ap (λ (y : TelescopePart). y.usable) looks.part_is ∙ sym (get_or-map (λ y. y.usable) s.telescopes t part [] looks.within)

  site_is : part.site.0 ≡ site_of s t
  site_is = ap (λ (y : TelescopePart). y.site.0) looks.part_is ∙ sym (get_or-map (λ y. y.site.0) s.telescopes t part 0 looks.within)

  pub observe_when : OneHasAll windows a b → OneHasAll usable a b → All (λ target. IsVisibleThrough s target.0 part.site.0 a b) targets → CanObserve s q t a b
  observe_when w u v = record {
    window = subst (λ (ws : List Span). OneHasAll ws a b) looks.windows_are w;
    usable = subst (λ (ws : List Span). OneHasAll ws a b) usable_is u;
    visible = subst (λ (ts : List TargetNo). All (λ target. IsVisibleThrough s target.0 (site_of s t) a b) ts) looks.targets_are
        (subst (λ (n : ℕ). All (λ target. IsVisibleThrough s target.0 n a b) targets) site_is v);
  }

  pub window_when : CanObserve s q t a b → OneHasAll windows a b
  window_when h = subst (λ (ws : List Span). OneHasAll ws a b) (sym looks.windows_are) h.window

  pub usable_when : CanObserve s q t a b → OneHasAll usable a b
  usable_when h = subst (λ (ws : List Span). OneHasAll ws a b) (sym usable_is) h.usable

  pub visible_when : CanObserve s q t a b → All (λ target. IsVisibleThrough s target.0 part.site.0 a b) targets
  visible_when h =
      subst (λ (ts : List TargetNo). All (λ target. IsVisibleThrough s target.0 part.site.0 a b) ts) (sym looks.targets_are)
      (subst (λ (n : ℕ). All (λ target. IsVisibleThrough s target.0 n a b) q.targets) (sym site_is) h.visible)
