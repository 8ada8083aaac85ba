use Rattle.std.proofs.Common.{rules, ◌≡◌, ◌<◌, ◌*◌, ℤ, pos, ◌-ℤ◌, length, slice_index_or, sym, ◌∙◌, ap, subst, arith, w64}
use Rattle.std.proofs.lemmas.Int.{to_z-of_z}
use Rattle.plan_base.specs.NetPrices.{IsNetInRange}
use Rattle.bound_checker.specs.Nets.{net_list}
use Rattle.plan_base.proofs.Growing.{net_fits}
use Rattle.bound_checker.proofs.Runs.{nets_get, net_range}
use Rattle.bound_checker.proofs.nets.net_at.Goals as goal
use Rattle.bound_checker.proofs.nets.net_at.Goals.{After-cost_of}
use mir.Val.{SFits}

range_is : (c : After-cost_of) → IsNetInRange (slice_index_or c.args.nets.now.prices.now c.args.place (pos 0) -ℤ c.cost_of.result)
range_is c =
    subst (λ (z : ℤ). IsNetInRange (slice_index_or c.args.nets.now.prices.now c.args.place (pos 0) -ℤ z)) (sym c.cost_of.ensures)
    (net_range c.args.nets.now c.args.place c.index-nets-place.result c.requires.valid c.requires.place)

value_is : (c : After-cost_of) → (slice_index_or c.args.nets.now.prices.now c.args.place (pos 0) -ℤ c.cost_of.result)
    ≡ slice_index_or (net_list c.args.nets.now) c.args.place (pos 0)
value_is c =
    ap (λ (z : ℤ). slice_index_or c.args.nets.now.prices.now c.args.place (pos 0) -ℤ z) c.cost_of.ensures
    ∙ sym (nets_get c.args.nets.now.quota_price c.args.nets.now.requests.now c.args.nets.now.prices.now c.args.place c.index-nets-place.result
    c.requires.valid.count c.requires.place)

pub overflow_sub-result : goal.overflow_sub-result
overflow_sub-result c =
    let fit : SFits w64 (slice_index_or c.args.nets.now.prices.now c.args.place (pos 0)) = search rules in
    let cost : SFits w64 c.cost_of.result = search rules in
    simp to_z-of_z (net_fits _ (range_is c))

pub returns-clause-value : goal.returns-clause-value
returns-clause-value c =
    let fit : SFits w64 (slice_index_or c.args.nets.now.prices.now c.args.place (pos 0)) = search rules in
    let cost : SFits w64 c.cost_of.result = search rules in
    let whole : SFits w64 (slice_index_or c.args.nets.now.prices.now c.args.place (pos 0) -ℤ c.cost_of.result) = net_fits _ (range_is c) in
    simp to_z-of_z (value_is c)

pub returns-clause-range : goal.returns-clause-range
returns-clause-range c =
    let fit : SFits w64 (slice_index_or c.args.nets.now.prices.now c.args.place (pos 0)) = search rules in
    let cost : SFits w64 c.cost_of.result = search rules in
    let whole : SFits w64 (slice_index_or c.args.nets.now.prices.now c.args.place (pos 0) -ℤ c.cost_of.result) = net_fits _ (range_is c) in
    simp to_z-of_z (range_is c)
