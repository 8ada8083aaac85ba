use Rattle.std.proofs.Common.{rules, ◌≡◌, ◌⊎◌, inl, inr, ℕ, ◌*◌, ◌^◌, ℤ, pos, neg_ℤ, w64, ◌+ℤ◌, ◌≤ℤ◌, List, map, sym, ◌∙◌, ap, subst, arith}
use Rattle.std.proofs.lemmas.Int.{ints, to_z-of_z}
use Rattle.plan_base.specs.declared.parts.Parts.{Parts}
use Rattle.plan_base.specs.declared.parts.GroupPart.{GroupPart}
use Rattle.plan_base.specs.declared.parts.Op.TheVariants.{Single, Many, OneOf, And}
use Rattle.plan_base.specs.Requests.{IsKind, group_of, members}
use Rattle.plan_base.specs.Bound.{net_price}
use Rattle.plan_base.specs.NetPrices.{price_sum}
use Rattle.bound_checker.proofs.Runs.{kind_read}
use Rattle.bound_checker.proofs.Summing.{rebate_between}
use Rattle.explain.specs.Choice.{IsRebateWith}
use Rattle.explain.proofs.Choosing.{with_any, with_one, with_group}
use Rattle.explain.proofs.Fits.{fits_64}
use Rattle.explain.proofs.choice.rebate_with.Goals as goal
use mir.Val.{SFits}

groups_are : (s t : Parts) (gs : List GroupPart) → gs ≡ t.groups → t ≡ s → gs ≡ s.groups
groups_are s t gs e f = e ∙ ap (λ (x : Parts). x.groups) f

loss_between : (loss net : ℤ) → ((loss ≡ net) × (net ≤ℤ pos 0)) ⊎ ((loss ≡ pos 0) × (pos 0 ≤ℤ net)) → neg_ℤ (pos (2 * 10 ^ 12)) ≤ℤ net
    → (neg_ℤ (pos (2 * 10 ^ 12)) ≤ℤ loss) × (loss ≤ℤ pos 0)
loss_between loss net (inl (e, most)) low = (omega (arith, ints), omega (arith, ints))
loss_between loss net (inr (e, least)) low = (omega (arith, ints), omega (arith, ints))

pub overflow_add-result : goal.overflow_add-result
overflow_add-result c =
    let net : SFits w64 c.net_of-net.result = search rules in
    let loss = loss_between c.loss_of.result c.net_of-net.result (simp to_z-of_z at c.loss_of.ensures) c.net_of-net.ensures.range.0 in
    let rebate = rebate_between c.args.snapshot.now c.args.prices.now.0 c.args.quota_prices.now.0 c.known_group-group.result c.rebate_of.result
    c.recall_valid.ensures.orderly c.requires.range c.requires.quota_range c.rebate_of.ensures in
    let low : neg_ℤ (pos (2 * 10 ^ 12)) ≤ℤ c.loss_of.result = loss.0 in
    let high : c.loss_of.result ≤ℤ pos 0 = loss.1 in
    let least : pos 0 ≤ℤ c.rebate_of.result = rebate.0 in
    let most : c.rebate_of.result ≤ℤ pos 1024000000000000 = rebate.1 in
    let one : SFits w64 c.rebate_of.result = search rules in
    let two : SFits w64 c.loss_of.result = search rules in
    let both : SFits w64 (c.rebate_of.result +ℤ c.loss_of.result) = fits_64 _ (omega (arith, ints)) (omega (arith, ints)) in
    simp to_z-of_z both

pub returns-in-Single : goal.returns-in-Single
returns-in-Single c =
    let s : Parts = c.args.snapshot.now in
    let r : ℕ = c.args.request.0 in
    let g : ℕ = c.known_group-group.result in
    let f : ℕ → ℤ = net_price c.args.snapshot.now c.args.prices.now.0 c.args.quota_prices.now.0 in
    let group : c.known_group-group.result ≡ group_of c.args.snapshot.now c.args.request.0 = c.known_group-group.ensures.value in
    let groups = groups_are c.args.snapshot.now c.parts.result.now c.as_slice.result.now c.as_slice.ensures c.parts.ensures.value in
    let kind : IsKind c.args.snapshot.now Single c.known_group-group.result ⊎ IsKind c.args.snapshot.now Many c.known_group-group.result = elim c.in-Single.is [
      | inl e ↦ inl (kind_read c.args.snapshot.now _ c.known_group-group.result _ Single groups c.known_group-group.ensures.within e)
      | inr e ↦ inr (kind_read c.args.snapshot.now _ c.known_group-group.result _ Many groups c.known_group-group.ensures.within e)
    ] in
    let net : SFits w64 c.net_of-net.result = search rules in
    let sign = simp to_z-of_z at c.loss_of.ensures in
    let loss = loss_between c.loss_of.result c.net_of-net.result sign c.net_of-net.ensures.range.0 in
    let rebate = rebate_between c.args.snapshot.now c.args.prices.now.0 c.args.quota_prices.now.0 c.known_group-group.result c.rebate_of.result
    c.recall_valid.ensures.orderly c.requires.range c.requires.quota_range c.rebate_of.ensures in
    let low : neg_ℤ (pos (2 * 10 ^ 12)) ≤ℤ c.loss_of.result = loss.0 in
    let high : c.loss_of.result ≤ℤ pos 0 = loss.1 in
    let least : pos 0 ≤ℤ c.rebate_of.result = rebate.0 in
    let most : c.rebate_of.result ≤ℤ pos 1024000000000000 = rebate.1 in
    let one : SFits w64 c.rebate_of.result = search rules in
    let two : SFits w64 c.loss_of.result = search rules in
    let both : SFits w64 (c.rebate_of.result +ℤ c.loss_of.result) = fits_64 _ (omega (arith, ints)) (omega (arith, ints)) in
    let value : IsRebateWith s f g r (c.rebate_of.result +ℤ c.loss_of.result) =
    with_any s f g r (c.requires.request, sym group) kind c.rebate_of.result c.loss_of.result c.rebate_of.ensures
    (subst (λ (z : ℤ). ((c.loss_of.result ≡ z) × (z ≤ℤ pos 0)) ⊎ ((c.loss_of.result ≡ pos 0) × (pos 0 ≤ℤ z))) c.net_of-net.ensures.value sign) in
    let at_group : IsRebateWith s f (group_of c.args.snapshot.now c.args.request.0) r (c.rebate_of.result +ℤ c.loss_of.result) =
    subst (λ (h : ℕ). IsRebateWith s f h r (c.rebate_of.result +ℤ c.loss_of.result)) group value in
    let bottom : neg_ℤ (pos 1000000000000000) ≤ℤ (c.rebate_of.result +ℤ c.loss_of.result) = omega (arith, ints) in
    let top : (c.rebate_of.result +ℤ c.loss_of.result) ≤ℤ pos 2000000000000000 = omega (arith, ints) in
    record { value = simp to_z-of_z at_group; least = simp to_z-of_z bottom; most = simp to_z-of_z top }

pub returns-in-OneOf : goal.returns-in-OneOf
returns-in-OneOf c =
    let f : ℕ → ℤ = net_price c.args.snapshot.now c.args.prices.now.0 c.args.quota_prices.now.0 in
    let group : c.known_group-group.result ≡ group_of c.args.snapshot.now c.args.request.0 = c.known_group-group.ensures.value in
    let groups = groups_are c.args.snapshot.now c.parts.result.now c.as_slice.result.now c.as_slice.ensures c.parts.ensures.value in
    let kind : IsKind c.args.snapshot.now OneOf c.known_group-group.result =
    kind_read c.args.snapshot.now _ c.known_group-group.result _ OneOf groups c.known_group-group.ensures.within c.in-OneOf.is in
    let value : IsRebateWith c.args.snapshot.now f (group_of c.args.snapshot.now c.args.request.0) c.args.request.0 c.net_of-net.result
    = subst (IsRebateWith c.args.snapshot.now f (group_of c.args.snapshot.now c.args.request.0) c.args.request.0) (sym c.net_of-net.ensures.value)
    (subst (λ (h : ℕ). IsRebateWith c.args.snapshot.now f h c.args.request.0 (f c.args.request.0)) group
    (with_one c.args.snapshot.now f c.known_group-group.result c.args.request.0 (c.requires.request, sym group) kind)) in
    let low : neg_ℤ (pos (2 * 10 ^ 12)) ≤ℤ c.net_of-net.result = c.net_of-net.ensures.range.0 in
    let high : c.net_of-net.result ≤ℤ pos (2 * 10 ^ 12) = c.net_of-net.ensures.range.1 in
    let net : SFits w64 c.net_of-net.result = search rules in
    let bottom : neg_ℤ (pos 1000000000000000) ≤ℤ c.net_of-net.result = omega (arith, ints) in
    let top : c.net_of-net.result ≤ℤ pos 2000000000000000 = omega (arith, ints) in
    record { value = simp to_z-of_z value; least = simp to_z-of_z bottom; most = simp to_z-of_z top }

pub returns-in-And : goal.returns-in-And
returns-in-And c =
    let f : ℕ → ℤ = net_price c.args.snapshot.now c.args.prices.now.0 c.args.quota_prices.now.0 in
    let group : c.known_group-group.result ≡ group_of c.args.snapshot.now c.args.request.0 = c.known_group-group.ensures.value in
    let groups = groups_are c.args.snapshot.now c.parts.result.now c.as_slice.result.now c.as_slice.ensures c.parts.ensures.value in
    let kind : IsKind c.args.snapshot.now And c.known_group-group.result =
    kind_read c.args.snapshot.now _ c.known_group-group.result _ And groups c.known_group-group.ensures.within c.in-And.is in
    let value : IsRebateWith c.args.snapshot.now f (group_of c.args.snapshot.now c.args.request.0) c.args.request.0 c.group_sum.result
    = subst (IsRebateWith c.args.snapshot.now f (group_of c.args.snapshot.now c.args.request.0) c.args.request.0) (sym c.group_sum.ensures.value)
    (subst (λ (h : ℕ). IsRebateWith c.args.snapshot.now f h c.args.request.0
    (price_sum (map f (members c.args.snapshot.now c.known_group-group.result)))) group
    (with_group c.args.snapshot.now f c.known_group-group.result c.args.request.0 c.recall_valid.ensures.orderly
    (c.requires.request, sym group) kind)) in
    let low : neg_ℤ (pos 512000000000000) ≤ℤ c.group_sum.result = c.group_sum.ensures.least in
    let high : c.group_sum.result ≤ℤ pos 512000000000000 = c.group_sum.ensures.most in
    let net : SFits w64 c.group_sum.result = search rules in
    let bottom : neg_ℤ (pos 1000000000000000) ≤ℤ c.group_sum.result = omega (arith, ints) in
    let top : c.group_sum.result ≤ℤ pos 2000000000000000 = omega (arith, ints) in
    record { value = simp to_z-of_z value; least = simp to_z-of_z bottom; most = simp to_z-of_z top }
