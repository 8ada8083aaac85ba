use Rattle.std.proofs.Common.{rules, ◌≡◌, ℕ, ◌*◌, ◌^◌, ℤ, pos, neg_ℤ, w64, ◌-ℤ◌, ◌≤ℤ◌, List, slice_index_or, sym, ◌∙◌, ap, subst, arith}
use Rattle.std.proofs.lemmas.Int.{ints, to_z-of_z}
use Rattle.plan_base.specs.Bound.{price, net_price}
use Rattle.plan_base.proofs.Limits.{net_price_between}
use Rattle.explain.proofs.Choosing.{net_read}
use Rattle.explain.proofs.Fits.{fits_64}
use Rattle.explain.proofs.choice.net_of.Goals as goal
use mir.Val.{SFits}

pub cost_of-requires-clause-seconds : goal.cost_of-requires-clause-seconds
cost_of-requires-clause-seconds c = c.request_of.ensures.ranges.most_seconds

pub overflow_sub-result : goal.overflow_sub-result
overflow_sub-result c =
    let r : ℕ = c.args.request.0 in
    let p : ℤ = slice_index_or c.as_slice.result.now c.known_place.result (pos 0) in
    let price_is : p ≡ price c.args.snapshot.now c.args.prices.now.0 r =
    ap (λ (xs : List ℤ). slice_index_or xs c.known_place.result (pos 0)) c.as_slice.ensures
    ∙ ap (λ (i : ℕ). slice_index_or c.args.prices.now.0 i (pos 0)) c.known_place.ensures.value in
    let net : (p -ℤ c.cost_of.result) ≡ net_price c.args.snapshot.now c.args.prices.now.0 c.args.quota_prices.now.0 r
    = net_read c.args.snapshot.now c.args.prices.now.0 c.args.quota_prices.now.0 c.as_slice-2.result.now r c.price_of.result
    c.request_of.result.now.seconds c.known_quota-quota.result p c.cost_of.result price_is c.cost_of.ensures c.price_of.ensures.value
    c.as_slice-2.ensures c.known_quota-quota.ensures.value c.request_of.ensures.is.seconds in
    let range = net_price_between c.args.snapshot.now c.args.prices.now.0 c.args.quota_prices.now.0 r c.recall_valid.ensures.orderly
    c.requires.request c.requires.range c.requires.quota_range in
    let low : neg_ℤ (pos (2 * 10 ^ 12)) ≤ℤ (p -ℤ c.cost_of.result) = subst (λ (z : ℤ). neg_ℤ (pos (2 * 10 ^ 12)) ≤ℤ z) (sym net) range.0 in
    let high : (p -ℤ c.cost_of.result) ≤ℤ pos (10 ^ 12) = subst (λ (z : ℤ). z ≤ℤ pos (10 ^ 12)) (sym net) range.1 in
    let one : SFits w64 p = search rules in
    let two : SFits w64 c.cost_of.result = search rules in
    let both : SFits w64 (p -ℤ c.cost_of.result) = fits_64 _ (omega (arith, ints)) (omega (arith, ints)) in
    simp to_z-of_z both

pub returns-clause-value : goal.returns-clause-value
returns-clause-value c =
    let r : ℕ = c.args.request.0 in
    let p : ℤ = slice_index_or c.as_slice.result.now c.known_place.result (pos 0) in
    let price_is : p ≡ price c.args.snapshot.now c.args.prices.now.0 r =
    ap (λ (xs : List ℤ). slice_index_or xs c.known_place.result (pos 0)) c.as_slice.ensures
    ∙ ap (λ (i : ℕ). slice_index_or c.args.prices.now.0 i (pos 0)) c.known_place.ensures.value in
    let net : (p -ℤ c.cost_of.result) ≡ net_price c.args.snapshot.now c.args.prices.now.0 c.args.quota_prices.now.0 r
    = net_read c.args.snapshot.now c.args.prices.now.0 c.args.quota_prices.now.0 c.as_slice-2.result.now r c.price_of.result
    c.request_of.result.now.seconds c.known_quota-quota.result p c.cost_of.result price_is c.cost_of.ensures c.price_of.ensures.value
    c.as_slice-2.ensures c.known_quota-quota.ensures.value c.request_of.ensures.is.seconds in
    let range = net_price_between c.args.snapshot.now c.args.prices.now.0 c.args.quota_prices.now.0 r c.recall_valid.ensures.orderly
    c.requires.request c.requires.range c.requires.quota_range in
    let low : neg_ℤ (pos (2 * 10 ^ 12)) ≤ℤ (p -ℤ c.cost_of.result) = subst (λ (z : ℤ). neg_ℤ (pos (2 * 10 ^ 12)) ≤ℤ z) (sym net) range.0 in
    let high : (p -ℤ c.cost_of.result) ≤ℤ pos (10 ^ 12) = subst (λ (z : ℤ). z ≤ℤ pos (10 ^ 12)) (sym net) range.1 in
    let one : SFits w64 p = search rules in
    let two : SFits w64 c.cost_of.result = search rules in
    let both : SFits w64 (p -ℤ c.cost_of.result) = fits_64 _ (omega (arith, ints)) (omega (arith, ints)) in
    simp to_z-of_z net

pub returns-clause-range : goal.returns-clause-range
returns-clause-range c =
    let range = net_price_between c.args.snapshot.now c.args.prices.now.0 c.args.quota_prices.now.0 c.args.request.0 c.recall_valid.ensures.orderly
    c.requires.request c.requires.range c.requires.quota_range in
    let low : neg_ℤ (pos (2 * 10 ^ 12)) ≤ℤ net_price c.args.snapshot.now c.args.prices.now.0 c.args.quota_prices.now.0 c.args.request.0 = range.0 in
    let high : net_price c.args.snapshot.now c.args.prices.now.0 c.args.quota_prices.now.0 c.args.request.0 ≤ℤ pos (10 ^ 12) = range.1 in
    let is = returns-clause-value c in
    (subst (λ (z : ℤ). neg_ℤ (pos (2 * 10 ^ 12)) ≤ℤ z) (sym is) low, subst (λ (z : ℤ). z ≤ℤ pos (2 * 10 ^ 12)) (sym is) (omega (arith, ints, high)))
