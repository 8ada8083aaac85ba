use Rattle.std.proofs.Common.{◌≡◌, ◌⊎◌, inl, inr, ℤ, List, ◌∙◌, sym, ap, subst, rules, w64, to_z, of_z}
use Rattle.std.proofs.lemmas.Int.{to_z-of_z}
use Rattle.plan_base.specs.declared.parts.Parts.{Parts}
use Rattle.plan_base.specs.declared.parts.Op.TheVariants.{Single, Many, OneOf, And}
use Rattle.plan_base.specs.Requests.{IsKind}
use Rattle.plan_base.specs.Bound.{price, IsRebate}
use Rattle.plan_base.specs.NetPrices.{group_prices, positive, positive_sum, price_sum, IsGreatestPrice}
use Rattle.plan_base.proofs.GroupRebates.{rebate_any, rebate_one, rebate_and}
use Rattle.groups.proofs.Rebating.{rebate_at_net, rebate_least}
use Rattle.groups.proofs.Runs.{kind_read}
use Rattle.groups.proofs.rebates.rebate.Goals as goal
use mir.Val.{SFits}

pub returns-in-Single : goal.returns-in-Single
returns-in-Single c =
    let groups = c.as_slice.ensures ∙ ap (λ (s : Parts). s.groups) c.parts.ensures.value in
    let fit : SFits w64 c.positive_sum.result = search rules in
    let kind : IsKind c.args.snapshot.now Single c.args.group ⊎ IsKind c.args.snapshot.now Many c.args.group = elim c.in-Single.is [
      | inl e ↦ inl (kind_read c.args.snapshot.now _ c.args.group _ Single groups c.requires.group e)
      | inr e ↦ inr (kind_read c.args.snapshot.now _ c.args.group _ Many groups c.requires.group e)
    ]
    in
    let is : c.positive_sum.result ≡ positive_sum (group_prices c.args.snapshot.now c.args.prices.now.0 c.args.group) = c.positive_sum.ensures
    ∙ ap positive_sum c.prices_of_group-prices.ensures.value in
    let found : IsRebate c.args.snapshot.now (price c.args.snapshot.now c.args.prices.now.0) c.args.group (to_z w64 (of_z w64 c.positive_sum.result)) =
    subst (λ (b : ℤ). IsRebate c.args.snapshot.now (price c.args.snapshot.now c.args.prices.now.0) c.args.group b)
    (sym (to_z-of_z w64 c.positive_sum.result fit ∙ is))
    (rebate_any c.args.snapshot.now (price c.args.snapshot.now c.args.prices.now.0) c.args.group c.parts.ensures.orderly kind)
    in
    record {
      rebate = found;
      at_net = rebate_at_net c.args.snapshot.now c.args.prices.now.0 c.args.group (to_z w64 (of_z w64 c.positive_sum.result)) found;
      least = rebate_least c.args.snapshot.now (price c.args.snapshot.now c.args.prices.now.0) c.args.group (to_z w64 (of_z w64 c.positive_sum.result)) found;
    }

pub returns-in-OneOf : goal.returns-in-OneOf
returns-in-OneOf c =
    let groups = c.as_slice.ensures ∙ ap (λ (s : Parts). s.groups) c.parts.ensures.value in
    let fit : SFits w64 c.greatest_price.result = search rules in
    let greatest : IsGreatestPrice (group_prices c.args.snapshot.now c.args.prices.now.0 c.args.group) c.greatest_price.result
    = subst (λ (ps : List ℤ). IsGreatestPrice ps c.greatest_price.result) c.prices_of_group-prices.ensures.value c.greatest_price.ensures
    in
    let found : IsRebate c.args.snapshot.now (price c.args.snapshot.now c.args.prices.now.0) c.args.group (to_z w64 (of_z w64 c.greatest_price.result)) =
    subst (λ (b : ℤ). IsRebate c.args.snapshot.now (price c.args.snapshot.now c.args.prices.now.0) c.args.group b)
    (sym (to_z-of_z w64 c.greatest_price.result fit))
    (rebate_one c.args.snapshot.now (price c.args.snapshot.now c.args.prices.now.0) c.args.group c.greatest_price.result c.parts.ensures.orderly
    (kind_read c.args.snapshot.now _ c.args.group _ OneOf groups c.requires.group c.in-OneOf.is) greatest)
    in
    record {
      rebate = found;
      at_net = rebate_at_net c.args.snapshot.now c.args.prices.now.0 c.args.group (to_z w64 (of_z w64 c.greatest_price.result)) found;
      least = rebate_least c.args.snapshot.now (price c.args.snapshot.now c.args.prices.now.0) c.args.group (to_z w64 (of_z w64 c.greatest_price.result)) found;
    }

pub returns-in-And : goal.returns-in-And
returns-in-And c =
    let groups = c.as_slice.ensures ∙ ap (λ (s : Parts). s.groups) c.parts.ensures.value in
    let fit : SFits w64 c.positive.result = search rules in
    let fit_sum : SFits w64 c.price_sum.result = search rules in
    let is : c.positive.result ≡ positive (price_sum (group_prices c.args.snapshot.now c.args.prices.now.0 c.args.group))
    = c.positive.ensures ∙ ap positive (to_z-of_z w64 c.price_sum.result fit_sum ∙ c.price_sum.ensures ∙ ap price_sum c.prices_of_group-prices.ensures.value)
    in
    let found : IsRebate c.args.snapshot.now (price c.args.snapshot.now c.args.prices.now.0) c.args.group (to_z w64 (of_z w64 c.positive.result)) =
    subst (λ (b : ℤ). IsRebate c.args.snapshot.now (price c.args.snapshot.now c.args.prices.now.0) c.args.group b)
    (sym (to_z-of_z w64 c.positive.result fit ∙ is))
    (rebate_and c.args.snapshot.now (price c.args.snapshot.now c.args.prices.now.0) c.args.group c.parts.ensures.orderly
    (kind_read c.args.snapshot.now _ c.args.group _ And groups c.requires.group c.in-And.is))
    in
    record {
      rebate = found;
      at_net = rebate_at_net c.args.snapshot.now c.args.prices.now.0 c.args.group (to_z w64 (of_z w64 c.positive.result)) found;
      least = rebate_least c.args.snapshot.now (price c.args.snapshot.now c.args.prices.now.0) c.args.group (to_z w64 (of_z w64 c.positive.result)) found;
    }
