-- An observation of a request is in sight exactly where a start of it is possible.
use Rattle.std.proofs.Common.{◌≡◌, ℕ, ◌+◌, ◌*◌, ◌<◌, ◌≤◌, ◌⊎◌, inl, inr, Bool, true, false, List, [], length, map, slice_index_or, ℤ, All, AllPairs}
use Rattle.std.proofs.Common.{Contains, refl, sym, ◌∙◌, ap, subst, arith}
use Rattle.std.proofs.lemmas.List.{get_or_default, get_or-map}
use Rattle.std.proofs.lemmas.List.Elements.{Contains-get_or, All-contains}
use Rattle.plan_base.specs.declared.parts.Parts.{Parts}
use Rattle.plan_base.specs.declared.parts.TelescopePart.{TelescopePart}
use Rattle.plan_base.specs.declared.parts.Sky.{Sky}
use Rattle.plan_base.specs.declared.parts.RequestPart.{RequestPart}
use Rattle.plan_base.specs.declared.span.Span.{Span}
use Rattle.plan_base.specs.declared.number.TargetNo.{TargetNo}
use Rattle.plan_base.specs.declared.number.TelescopeNo.{TelescopeNo}
use Rattle.plan_base.specs.declared.number.SiteNo.{SiteNo}
use Rattle.plan_base.specs.declared.claim.Placement.{Placement}
use Rattle.plan_base.specs.Requests.{IsKnown, seconds_of, windows_of, telescopes_of, targets_of}
use Rattle.plan_base.specs.Snapshot.{IsMoment, IsSortedApart, IsOrderly}
use Rattle.plan_base.specs.Starts.{slices_for, size_of, start_second, end_second, site_of, IsPossibleStart}
use Rattle.plan_base.specs.BySpans.{OneHasAll, usable_of, IsVisibleThrough, IsPossibleBySpans}
use Rattle.plan_base.proofs.SpanStarts.{by_spans_from_possible, possible_from_by_spans}
use Rattle.bound_checker.specs.declared.worth.Offer.{Offer}
use Rattle.bound_checker.specs.declared.sight.Sight.{Sight}
use Rattle.bound_checker.specs.Stretches.{DoesFit}
use Rattle.bound_checker.specs.Offers.{IsOffer}
use Rattle.plan_base.specs.Skies.{IsSkyBelow, IsSkyAt}
use Rattle.bound_checker.specs.Sights.{AreViews, IsClearSpans, spans_at, IsClear, IsInSight}
use Rattle.bound_checker.specs.Listings.{CanStart}
use Rattle.plan_base.proofs.Here.{IsHere, element_at, usable_moments, sky_moments}

-- what the sight of request q on telescope t is made of
pub record IsSightOf (s : Parts) (t : ℕ) (q : RequestPart) (site : SiteNo) (x : Sight) : Type 0 where
  pub windows : x.windows.now ≡ q.windows
  pub usable : x.usable.now ≡ usable_of s t
  pub skies : x.skies.now ≡ s.skies
  pub at_site : site.0 ≡ site_of s t
  pub views : AreViews s.skies site q.targets true x.views.now

-- the telescope that was read at a place
pub site_read : (s : Parts) (ts : List TelescopePart) (i t : ℕ) (y : TelescopePart) → ts ≡ s.telescopes → i ≡ t → t < length s.telescopes
    → y ≡ slice_index_or ts i y → y.site.0 ≡ site_of s t
site_read s ts i t y e same l is =
    ap (λ (z : TelescopePart). z.site.0) (is ∙ ap (λ (zs : List TelescopePart). slice_index_or zs i y) e
    ∙ ap (λ (n : ℕ). slice_index_or s.telescopes n y) same) ∙ sym (get_or-map (λ z. z.site.0) s.telescopes t y 0 l)

pub usable_read : (s : Parts) (ts : List TelescopePart) (i t : ℕ) (y : TelescopePart) (ws : List Span) → ts ≡ s.telescopes → i ≡ t
    → t < length s.telescopes → y ≡ slice_index_or ts i y → ws ≡ y.usable → ws ≡ usable_of s t
usable_read s ts i t y ws e same l is read =
    read ∙ ap (λ (z : TelescopePart). z.usable) (is ∙ ap (λ (zs : List TelescopePart). slice_index_or zs i y) e
    ∙ ap (λ (n : ℕ). slice_index_or s.telescopes n y) same) ∙ sym (get_or-map (λ z. z.usable) s.telescopes t y [] l)

pub views_read : (site : SiteNo) (skies ys : List Sky) (targets us : List TargetNo) (found b : Bool) (views vs : List ℕ) → skies ≡ ys → targets ≡ us
    → found ≡ b → views ≡ vs → AreViews skies site targets found views → AreViews ys site us b vs
views_read site skies ys targets us found b views vs e f g h are =
    subst (AreViews ys site us b) h
    (subst (λ (x : Bool). AreViews ys site us x views) g
    (subst (λ (xs : List TargetNo). AreViews ys site xs found views) f (subst (λ (xs : List Sky). AreViews xs site targets found views) e are)))

usable_clear : (s : Parts) (t : ℕ) → IsOrderly s → t < length s.telescopes → IsClearSpans (usable_of s t)
usable_clear s t o l =
    let x = element_at s.telescopes t l in
    let read : usable_of s t ≡ x.0.usable = get_or-map (λ z. z.usable) s.telescopes t x.0 [] l ∙ ap (λ (z : TelescopePart). z.usable) x.1 in
    subst IsClearSpans (sym read) (record {
      moments = λ i d m. usable_moments s x.0 (slice_index_or x.0.usable i d) o (t, l, x.1) (Contains-get_or x.0.usable i d m);
      apart = All-contains (λ z. IsSortedApart z.usable) s.telescopes x.0 o.usable (t, l, x.1);
    })

skies_clear : (s : Parts) → IsOrderly s → All (λ y. IsClearSpans y.spans) s.skies
skies_clear s o n d l = record {
  moments = λ i e m. sky_moments s (slice_index_or s.skies n d) (slice_index_or (slice_index_or s.skies n d).spans i e) o
      (Contains-get_or s.skies n d l) (Contains-get_or (slice_index_or s.skies n d).spans i e m);
  apart = o.skies n d l;
}

-- what a sight has is in order
pub sight_clear : (s : Parts) (t place : ℕ) (q : RequestPart) (site : SiteNo) (x : Sight) → IsOrderly s → t < length s.telescopes → IsHere s place q
    → IsSightOf s t q site x → IsClear x
sight_clear s t place q site x o l here sight = record {
  windows = subst (All (λ w. IsMoment w.from.0 × IsMoment w.to.0)) (sym sight.windows) here.asked.moments;
  usable = subst IsClearSpans (sym sight.usable) (usable_clear s t o l);
  skies = subst (All (λ y. IsClearSpans y.spans)) (sym sight.skies) (skies_clear s o);
  views = λ n d m.
      let count : length x.views.now ≡ length q.targets = sight.views.count refl in
      let view = sight.views.each refl n (record { 0 = 0 }) (omega arith) in
      let within : slice_index_or x.views.now n 0 < length s.skies = view.1 in
      let same : slice_index_or x.views.now n 0 ≡ slice_index_or x.views.now n d = get_or_default x.views.now n 0 d m in
      let all : length x.skies.now ≡ length s.skies = ap (λ (ys : List Sky). length ys) sight.skies in
      omega arith;
}

-- the same spans and the same seconds
same_fit : (ws vs : List Span) (a b c d : ℕ) → ws ≡ vs → a ≡ c → b ≡ d → OneHasAll ws a b → OneHasAll vs c d
same_fit ws vs a b c d e f g h =
    let moved : OneHasAll vs a b = subst (λ (us : List Span). OneHasAll us a b) e h in
    (moved.0, moved.1, moved.2, moved.3, (let from = moved.4.0 in omega arith, let to = moved.4.1 in omega arith))

below_same_above : (a b : ℕ) → ((a < b) ⊎ (b < a)) ⊎ (a ≡ b)
below_same_above a b = grind arith

not_both : (y z : Sky) → IsSkyBelow y z → y.target.0 ≡ z.target.0 → y.site.0 ≡ z.site.0 → ⊥
not_both y z (inl h) target site = omega arith
not_both y z (inr (e, h)) target site = omega arith

-- a target has one sky at a site
one_sky : (skies : List Sky) (target site v w : ℕ) (y z : Sky) → AllPairs IsSkyBelow skies → v < length skies → slice_index_or skies v y ≡ y
    → w < length skies → slice_index_or skies w z ≡ z
    → y.target.0 ≡ target → y.site.0 ≡ site → z.target.0 ≡ target → z.site.0 ≡ site → y ≡ z
one_sky skies target site v w y z rise l e m d yt ys zt zs = elim (below_same_above v w) [
  | inl (inl below) ↦ absurd (not_both y z
      (subst (IsSkyBelow y) (get_or_default skies w y z m ∙ d) (subst (λ (x : Sky). IsSkyBelow x (slice_index_or skies w y)) e (rise v w y below m)))
      (yt ∙ sym zt) (ys ∙ sym zs))
  | inl (inr above) ↦ absurd (not_both z y
      (subst (IsSkyBelow z) (get_or_default skies v z y l ∙ e) (subst (λ (x : Sky). IsSkyBelow x (slice_index_or skies v z)) d (rise w v z above l)))
      (zt ∙ sym yt) (zs ∙ sym ys))
  | inr at ↦ sym e ∙ ap (λ (k : ℕ). slice_index_or skies k y) at ∙ get_or_default skies w y z m ∙ d
]

-- a target without a sky is never seen
pub hidden_never : (s : Parts) (t : ℕ) (q : RequestPart) (site : SiteNo) (place : ℕ) (views : List ℕ) → IsOrderly s → IsHere s place q
    → site.0 ≡ site_of s t → AreViews s.skies site q.targets false views
    → (p : Placement) → p.request.0 ≡ q.request.0 → p.telescope.0 ≡ t → IsPossibleStart s p → ⊥
hidden_never s t q site place views o here at_site are p same on possible =
    let by_spans : IsPossibleBySpans s p = by_spans_from_possible s p o possible in
    let hidden = are.hidden refl in
    let d : TargetNo = record { 0 = 0 } in
    let targets : targets_of s p.request.0 ≡ q.targets = ap (targets_of s) same ∙ here.targets in
    let seen : All (λ target. IsVisibleThrough s target.0 (site_of s p.telescope.0) (start_second s p) (end_second s p)) q.targets =
    subst (All (λ target. IsVisibleThrough s target.0 (site_of s p.telescope.0) (start_second s p) (end_second s p))) targets by_spans.visible in
    let there = seen hidden.0 d hidden.1 in
    hidden.2 d there.0 (there.1, there.2, there.3, there.4.0, there.4.1 ∙ ap (site_of s) on ∙ sym at_site)

module _ (s : Parts) (t place : ℕ) (q : RequestPart) (site : SiteNo) (x : Sight) (price : ℤ) (o : Offer) (orderly : IsOrderly s)
    (here : IsHere s place q) (sight : IsSightOf s t q site x) (offer : IsOffer s.len q price o) (p : Placement) (same : p.request.0 ≡ q.request.0)
    (on : p.telescope.0 ≡ t) where
  begins_same : start_second s p ≡ p.slice.0 * o.observation.len
  begins_same = ap (λ (n : ℕ). p.slice.0 * n) (sym offer.len)

  ends_same : end_second s p ≡ p.slice.0 * o.observation.len + o.observation.seconds
  ends_same =
      let seconds : seconds_of s p.request.0 ≡ o.observation.seconds = ap (seconds_of s) same ∙ here.seconds ∙ sym offer.seconds in
      let begins : start_second s p ≡ p.slice.0 * o.observation.len = begins_same in
      omega arith

  size_same : size_of s p.request.0 ≡ o.size
  size_same = ap (size_of s) same ∙ ap (slices_for s.len) here.seconds ∙ sym offer.size

  windows_same : windows_of s p.request.0 ≡ x.windows.now
  windows_same = ap (windows_of s) same ∙ here.windows ∙ sym sight.windows

  usable_same : usable_of s p.telescope.0 ≡ x.usable.now
  usable_same = ap (usable_of s) on ∙ sym sight.usable

  targets_same : targets_of s p.request.0 ≡ q.targets
  targets_same = ap (targets_of s) same ∙ here.targets

  site_same : site_of s p.telescope.0 ≡ site.0
  site_same = ap (site_of s) on ∙ sym sight.at_site

  view_spans : (v : ℕ) (y : Sky) → v < length s.skies → slice_index_or s.skies v y ≡ y → y.spans ≡ spans_at x.skies.now v
  view_spans v y l e = sym (ap (λ (ys : List Sky). spans_at ys v) sight.skies ∙ get_or-map (λ z. z.spans) s.skies v y [] l ∙ ap (λ (z : Sky). z.spans) e)

  pub seen_if_possible : IsPossibleStart s p → CanStart s x o p.slice.0
  seen_if_possible possible =
      let by_spans : IsPossibleBySpans s p = by_spans_from_possible s p orderly possible in
      let size = size_same in
      let d : TargetNo = record { 0 = 0 } in
      let seen : All (λ target. IsVisibleThrough s target.0 (site_of s p.telescope.0) (start_second s p) (end_second s p)) q.targets =
      subst (All (λ target. IsVisibleThrough s target.0 (site_of s p.telescope.0) (start_second s p) (end_second s p)))
      targets_same by_spans.visible in
      record {
        begins = by_spans.begins;
        ends = let ends : p.slice.0 + size_of s p.request.0 ≤ s.first.0 + s.slices = by_spans.ends in omega arith;
        in_sight = record {
          window = same_fit (windows_of s p.request.0) x.windows.now (start_second s p) (end_second s p) _ _ windows_same begins_same ends_same by_spans.window;
          usable = same_fit (usable_of s p.telescope.0) x.usable.now (start_second s p) (end_second s p) _ _ usable_same begins_same ends_same by_spans.usable;
          skies = λ n l.
              let count : length x.views.now ≡ length q.targets = sight.views.count refl in
              let within : n < length q.targets = omega arith in
              let view : IsSkyAt s.skies (slice_index_or q.targets n d).0 site.0 (slice_index_or x.views.now n 0) = sight.views.each refl n d within in
              let there = seen n d within in
              let one : there.1 ≡ view.0 = one_sky s.skies (slice_index_or q.targets n d).0 site.0 there.0
              (slice_index_or x.views.now n 0) there.1 view.0 orderly.skies_rise there.2 there.3 view.1 view.2 there.4.0
              (there.4.1 ∙ site_same) view.3 view.4 in
              same_fit there.1.spans (spans_at x.skies.now (slice_index_or x.views.now n 0)) (start_second s p) (end_second s p) _ _
              (ap (λ (z : Sky). z.spans) one ∙ view_spans (slice_index_or x.views.now n 0) view.0 view.1 view.2) begins_same ends_same there.4.2;
        };
      }

  pub possible_if_seen : Contains q.telescopes p.telescope → CanStart s x o p.slice.0 → IsPossibleStart s p
  possible_if_seen able can =
      let size = size_same in
      let d : TargetNo = record { 0 = 0 } in
      possible_from_by_spans s p (record {
        known = subst (λ (r : ℕ). IsKnown s r) (sym same) here.known;
        able = subst (λ (ts : List TelescopeNo). Contains ts p.telescope) (sym (ap (telescopes_of s) same ∙ here.telescopes)) able;
        begins = can.begins;
        ends = let ends : p.slice.0 + o.size ≤ s.first.0 + s.slices = can.ends in omega arith;
        window = same_fit x.windows.now (windows_of s p.request.0) _ _ (start_second s p) (end_second s p) (sym windows_same) (sym begins_same)
            (sym ends_same) can.in_sight.window;
        usable = same_fit x.usable.now (usable_of s p.telescope.0) _ _ (start_second s p) (end_second s p) (sym usable_same) (sym begins_same)
            (sym ends_same) can.in_sight.usable;
        visible = subst (All (λ target. IsVisibleThrough s target.0 (site_of s p.telescope.0) (start_second s p) (end_second s p))) (sym targets_same) (λ n e l.
            let count : length x.views.now ≡ length q.targets = sight.views.count refl in
            let view : IsSkyAt s.skies (slice_index_or q.targets n e).0 site.0 (slice_index_or x.views.now n 0) = sight.views.each refl n e l in (
              slice_index_or x.views.now n 0,
              view.0,
              view.1,
              view.2,
              (
                view.3,
                view.4 ∙ sym site_same,
                same_fit (spans_at x.skies.now (slice_index_or x.views.now n 0)) view.0.spans _ _ (start_second s p) (end_second s p)
                    (sym (view_spans (slice_index_or x.views.now n 0) view.0 view.1 view.2)) (sym begins_same) (sym ends_same)
                    (can.in_sight.skies n (omega arith)),
              ),
            ));
      })
