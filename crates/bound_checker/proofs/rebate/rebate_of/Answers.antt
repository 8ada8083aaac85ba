use Rattle.std.proofs.Common.{rules, ◌≡◌, ◌⊎◌, inl, inr, ℕ, ℤ, List, map, ◌∙◌, sym, ap, subst, w64}
use Rattle.std.proofs.lemmas.Int.{to_z-of_z}
use Rattle.plan_base.specs.declared.parts.Parts.{Parts}
use Rattle.plan_base.specs.declared.parts.Op.TheVariants.{Single, Many, OneOf, And}
use Rattle.plan_base.specs.Requests.{IsKind, members}
use Rattle.plan_base.specs.Bound.{net_price, IsRebate}
use Rattle.plan_base.specs.NetPrices.{positive, positive_sum, price_sum, IsGreatestPrice}
use Rattle.bound_checker.specs.Nets.{net_list}
use Rattle.plan_base.proofs.GroupRebates.{rebate_any, rebate_one, rebate_and}
use Rattle.bound_checker.proofs.Runs.{kind_read}
use Rattle.bound_checker.proofs.rebate.rebate_of.Goals as goal
use mir.Val.{SFits}

pub returns-in-Single : goal.returns-in-Single
returns-in-Single c =
    let groups = c.as_slice.ensures ∙ ap (λ (s : Parts). s.groups) c.parts.ensures.value in
    let fit : SFits w64 c.positive_sum.result = search rules in
    let kind : IsKind c.args.snapshot.now Single c.args.group ⊎ IsKind c.args.snapshot.now Many c.args.group = elim c.in-Single.is [
      | inl e ↦ inl (kind_read c.args.snapshot.now _ c.args.group _ Single groups c.requires.group e)
      | inr e ↦ inr (kind_read c.args.snapshot.now _ c.args.group _ Many groups c.requires.group e)
    ]
    in
    subst (λ (b : ℤ). IsRebate c.args.snapshot.now (net_price c.args.snapshot.now c.args.prices.now.0 c.args.quota_prices.now.0) c.args.group b)
    (sym (to_z-of_z w64 c.positive_sum.result fit ∙ c.positive_sum.ensures ∙ ap positive_sum c.nets_of-nets.ensures.value))
    (rebate_any c.args.snapshot.now (net_price c.args.snapshot.now c.args.prices.now.0 c.args.quota_prices.now.0) c.args.group c.parts.ensures.orderly kind)

pub returns-in-OneOf : goal.returns-in-OneOf
returns-in-OneOf c =
    let groups = c.as_slice.ensures ∙ ap (λ (s : Parts). s.groups) c.parts.ensures.value in
    let fit : SFits w64 c.greatest_net.result = search rules in
    let greatest : IsGreatestPrice (map (net_price c.args.snapshot.now c.args.prices.now.0 c.args.quota_prices.now.0)
    (members c.args.snapshot.now c.args.group)) c.greatest_net.result
    = subst (λ (cs : List ℤ). IsGreatestPrice cs c.greatest_net.result) c.nets_of-nets.ensures.value c.greatest_net.ensures
    in
    subst (λ (b : ℤ). IsRebate c.args.snapshot.now (net_price c.args.snapshot.now c.args.prices.now.0 c.args.quota_prices.now.0) c.args.group b)
    (sym (to_z-of_z w64 c.greatest_net.result fit))
    (rebate_one c.args.snapshot.now (net_price c.args.snapshot.now c.args.prices.now.0 c.args.quota_prices.now.0) c.args.group c.greatest_net.result
    c.parts.ensures.orderly (kind_read c.args.snapshot.now _ c.args.group _ OneOf groups c.requires.group c.in-OneOf.is) greatest)

pub returns-in-And : goal.returns-in-And
returns-in-And c =
    let groups = c.as_slice.ensures ∙ ap (λ (s : Parts). s.groups) c.parts.ensures.value in
    let fit : SFits w64 c.positive.result = search rules in
    let fit_sum : SFits w64 c.net_sum.result = search rules in
    let is : c.positive.result ≡ positive
    (price_sum (map (net_price c.args.snapshot.now c.args.prices.now.0 c.args.quota_prices.now.0) (members c.args.snapshot.now c.args.group)))
    = c.positive.ensures ∙ ap positive (to_z-of_z w64 c.net_sum.result fit_sum ∙ c.net_sum.ensures ∙ ap price_sum c.nets_of-nets.ensures.value)
    in
    subst (λ (b : ℤ). IsRebate c.args.snapshot.now (net_price c.args.snapshot.now c.args.prices.now.0 c.args.quota_prices.now.0) c.args.group b)
    (sym (to_z-of_z w64 c.positive.result fit ∙ is))
    (rebate_and c.args.snapshot.now (net_price c.args.snapshot.now c.args.prices.now.0 c.args.quota_prices.now.0) c.args.group c.parts.ensures.orderly
    (kind_read c.args.snapshot.now _ c.args.group _ And groups c.requires.group c.in-And.is))
