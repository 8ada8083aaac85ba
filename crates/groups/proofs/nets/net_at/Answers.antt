use Rattle.std.proofs.Common.{◌≡◌, ℕ, ◌∙◌, ap, sym, subst, ℤ, pos, ◌-ℤ◌, List, length, slice_index_or, rules, arith, w64}
use Rattle.std.proofs.lemmas.Int.{to_z-of_z}
use Rattle.std.proofs.lemmas.List.{length-map}
use Rattle.plan_base.specs.declared.parts.Parts.{Parts}
use Rattle.plan_base.specs.Requests.{listed}
use Rattle.plan_base.specs.Bound.{quota_cost}
use Rattle.plan_base.specs.NetPrices.{IsNetInRange, net_prices}
use Rattle.groups.proofs.Footed.{seconds_listed, net_here}
use Rattle.plan_base.proofs.Growing.{net_fits}
use Rattle.groups.proofs.nets.net_at.Goals as goal
use Rattle.groups.proofs.nets.net_at.Goals.{After-quota_cost}
use mir.Val.{SFits}

pub quota_cost-requires : goal.quota_cost-requires
quota_cost-requires c = seconds_listed c.args.snapshot.now c.args.place c.request_at-request.result.now c.parts.ensures.orderly c.requires.place
    c.request_at-request.ensures

net_is : (c : After-quota_cost) → (slice_index_or c.as_slice-2.result.now c.args.place (pos 0) -ℤ c.quota_cost.result)
    ≡ slice_index_or (net_prices c.args.snapshot.now c.args.prices.now.0 c.args.quota_prices.now.0) c.args.place (pos 0)
net_is c =
    ap (λ (ps : List ℤ). slice_index_or ps c.args.place (pos 0) -ℤ c.quota_cost.result) c.as_slice-2.ensures
    ∙ ap (λ (z : ℤ). slice_index_or c.args.prices.now.0 c.args.place (pos 0) -ℤ z)
    (c.quota_cost.ensures ∙ ap (λ (us : List ℕ). pos (quota_cost us c.request_at-request.result.now.seconds c.index-as_slice-group_at.result.quota))
    c.as_slice-3.ensures)
    ∙ net_here c.args.snapshot.now c.args.prices.now.0 c.args.quota_prices.now.0 c.args.place c.group_at.result c.request_at-request.result.now _
    c.index-as_slice-group_at.result c.parts.ensures.orderly c.requires.place c.request_at-request.ensures c.group_at.ensures.value
    (c.as_slice.ensures ∙ ap (λ (s : Parts). s.groups) c.parts.ensures.value) c.index-as_slice-group_at.is

net_small : (c : After-quota_cost) → SFits w64 (slice_index_or c.as_slice-2.result.now c.args.place (pos 0) -ℤ c.quota_cost.result)
net_small c =
    let count : length (net_prices c.args.snapshot.now c.args.prices.now.0 c.args.quota_prices.now.0) ≡ length (listed c.args.snapshot.now) =
    length-map (listed c.args.snapshot.now) _ in
    let range : IsNetInRange (slice_index_or (net_prices c.args.snapshot.now c.args.prices.now.0 c.args.quota_prices.now.0) c.args.place (pos 0)) =
    c.requires.range c.args.place (pos 0) (omega arith) in
    subst (λ (z : ℤ). SFits w64 z) (sym (net_is c)) (net_fits _ range)

pub overflow_sub-result : goal.overflow_sub-result
overflow_sub-result c =
    let fit : SFits w64 (slice_index_or c.as_slice-2.result.now c.args.place (pos 0)) = search rules in
    let cost : SFits w64 c.quota_cost.result = search rules in
    simp to_z-of_z (net_small c)

pub returns : goal.returns
returns c =
    let fit : SFits w64 (slice_index_or c.as_slice-2.result.now c.args.place (pos 0)) = search rules in
    let cost : SFits w64 c.quota_cost.result = search rules in
    let whole : SFits w64 (slice_index_or c.as_slice-2.result.now c.args.place (pos 0) -ℤ c.quota_cost.result) = net_small c in
    simp to_z-of_z (net_is c)
