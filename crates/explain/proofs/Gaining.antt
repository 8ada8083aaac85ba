-- The gain of a start, by a telescope's chart.
use Rattle.std.proofs.Common.{◌≡◌, ℕ, ◌+◌, ◌-◌, ◌^◌, ◌≤◌, ℤ, pos, neg_ℤ, w64, ◌+ℤ◌, ◌≤ℤ◌, List, length, slice_index_or, All, sym, ◌∙◌, ap, subst, arith}
use Rattle.std.proofs.lemmas.Int.{ints}
use Rattle.std.proofs.lemmas.List.{get_or_default}
use Rattle.plan_base.specs.declared.parts.Parts.{Parts}
use Rattle.plan_base.specs.declared.claim.Placement.{Placement}
use Rattle.plan_base.specs.Snapshot.{IsOrderly}
use Rattle.plan_base.specs.Starts.{size_of}
use Rattle.plan_base.specs.Bound.{weight, IsBest}
use Rattle.plan_base.specs.Tables.{slice_after, entry}
use Rattle.plan_base.specs.Verdict.{IsPriceInRange}
use Rattle.plan_base.proofs.Limits.{best_between, weight_between}
use Rattle.bound_checker.specs.declared.worth.Offer.{Offer}
use Rattle.bound_checker.specs.Offers.{offer_weight}
use Rattle.explain.specs.declared.chart.Chart.{Chart}
use Rattle.explain.specs.Through.{IsBestUntil}
use Rattle.openings.specs.Openings.{IsOfferOf, CanStartAt}
use Rattle.explain.specs.Steps.{IsChart}
use Rattle.explain.specs.Crossings.{IsGainAt}
use Rattle.explain.proofs.Fits.{fits_64}
use Rattle.explain.proofs.Gathering.{until_between}
use mir.Val.{SFits}

module _ (s : Parts) (prices : List ℤ) (t r index : ℕ) (o : Offer) (orderly : IsOrderly s) (offer : IsOfferOf s prices r o)
    (can : CanStartAt s t r (s.first.0 + index)) where
  abbrev start : Placement
  start = can.0

  size_is : o.size ≡ size_of s start.request.0
  size_is = offer.size ∙ ap (size_of s) (sym can.1.start.same_request)

  -- it ends within the horizon
  pub fits_here : index + o.size ≤ s.slices
  fits_here =
      let size : o.size ≡ size_of s start.request.0 = size_is in
      let ends : start.slice.0 + size_of s start.request.0 ≤ s.first.0 + s.slices = can.1.start.possible.ends in
      let at : start.slice.0 ≡ s.first.0 + index = can.2 in
      omega arith

  module _ (chart : Chart) (range : All IsPriceInRange prices) (is_chart : IsChart s prices t chart) (u w a : ℤ)
      (is_u : u ≡ slice_index_or chart.until.items index u) (is_w : w ≡ offer_weight o (s.first.0 + index))
      (is_a : a ≡ slice_index_or chart.after.items (index + o.size) a) where
    until_here : IsBestUntil s prices t start.slice.0 u
    until_here =
        let at : start.slice.0 ≡ s.first.0 + index = can.2 in
        let fits : index + o.size ≤ s.slices = fits_here in
        let count : length chart.until.items ≡ s.slices + 1 = is_chart.until_count in
        let same : entry chart.until.items (start.slice.0 - s.first.0) ≡ u = ap (entry chart.until.items) (omega arith)
        ∙ get_or_default chart.until.items index (pos 0) u (omega arith) ∙ sym is_u in
        subst (IsBestUntil s prices t start.slice.0) same (is_chart.until start.slice.0 (omega arith) (omega arith))

    after_here : IsBest s prices t (slice_after s start) a
    after_here =
        let at : start.slice.0 ≡ s.first.0 + index = can.2 in
        let size : o.size ≡ size_of s start.request.0 = size_is in
        let fits : index + o.size ≤ s.slices = fits_here in
        let count : length chart.after.items ≡ s.slices + 1 = is_chart.after_count in
        let same : entry chart.after.items (slice_after s start - s.first.0) ≡ a = ap (entry chart.after.items) (omega arith)
        ∙ get_or_default chart.after.items (index + o.size) (pos 0) a (omega arith) ∙ sym is_a in
        subst (IsBest s prices t (slice_after s start)) same (is_chart.after (slice_after s start) (omega arith) (omega arith))

    weighs : w ≡ weight s prices start
    weighs =
        let at : start.slice.0 ≡ s.first.0 + index = can.2 in
        is_w ∙ ap (offer_weight o) (sym at) ∙ offer.weighs start can.1.start.same_request (omega arith)

    pub gain_here : IsGainAt s prices t r (s.first.0 + index) (u +ℤ w +ℤ a)
    gain_here = record {
      start = start;
      is_start = can.1;
      at = can.2;
      gain = record {
        until = u;
        after = a;
        is_until = until_here;
        is_after = after_here;
        sum = let same : w ≡ weight s prices start = weighs in
            omega (arith, ints);
      };
    }

    best_first : IsBest s prices t s.first.0 (entry chart.after.items (s.first.0 - s.first.0))
    best_first = is_chart.after s.first.0 (omega arith) (omega arith)

    u_between : (pos 0 ≤ℤ u) × (u ≤ℤ pos 1440414720000000)
    u_between = until_between s prices t r orderly start.slice.0 u (entry chart.after.items (s.first.0 - s.first.0)) range until_here best_first

    a_between : (pos 0 ≤ℤ a) × (a ≤ℤ pos 1440414720000000)
    a_between = best_between s prices t (slice_after s start) a orderly range after_here

    w_between : (neg_ℤ (pos (10 ^ 12)) ≤ℤ w) × (w ≤ℤ pos 1000288000000)
    w_between = subst (λ (z : ℤ). (neg_ℤ (pos (10 ^ 12)) ≤ℤ z) × (z ≤ℤ pos 1000288000000)) (sym weighs)
        (weight_between s prices start orderly range can.1.start.possible)

    -- the numbers and their sums fit 64 bits
    pub u_fits : SFits w64 u
    u_fits = fits_64 u (omega (arith, ints, u_between.0)) (omega (arith, ints, u_between.1))

    pub w_fits : SFits w64 w
    w_fits = fits_64 w (omega (arith, ints, w_between.0)) (omega (arith, ints, w_between.1))

    pub a_fits : SFits w64 a
    a_fits = fits_64 a (omega (arith, ints, a_between.0)) (omega (arith, ints, a_between.1))

    pub two_fit : SFits w64 (u +ℤ w)
    two_fit = fits_64 (u +ℤ w) (omega (arith, ints, u_between.0, w_between.0)) (omega (arith, ints, u_between.1, w_between.1))

    pub all_fit : SFits w64 (u +ℤ w +ℤ a)
    all_fit = fits_64 (u +ℤ w +ℤ a) (omega (arith, ints, u_between.0, w_between.0, a_between.0)) (omega (arith, ints, u_between.1, w_between.1, a_between.1))

-- the best of the whole horizon, by a chart
pub best_read : (s : Parts) (prices : List ℤ) (t : ℕ) (chart : Chart) (b : ℤ) → IsChart s prices t chart → b ≡ slice_index_or chart.after.items 0 b
    → IsBest s prices t s.first.0 b
best_read s prices t chart b is_chart is =
    let count : length chart.after.items ≡ s.slices + 1 = is_chart.after_count in
    let same : entry chart.after.items (s.first.0 - s.first.0) ≡ b = ap (entry chart.after.items) (omega arith)
    ∙ get_or_default chart.after.items 0 (pos 0) b (omega arith) ∙ sym is in
    subst (IsBest s prices t s.first.0) same (is_chart.after s.first.0 (omega arith) (omega arith))
