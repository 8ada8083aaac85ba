use Rattle.std.proofs.Common.{rules, ◌≡◌, ℕ, ◌+◌, ◌*◌, ◌<◌, ◌≤◌, ℤ, pos, ◌+ℤ◌, ◌≤ℤ◌, length, ap, subst, ◌∙◌, arith, w64}
use Rattle.std.proofs.lemmas.Int.{ints, to_z-of_z}
use Rattle.plan_base.specs.declared.parts.Parts.{Parts}
use Rattle.plan_base.specs.Bound.{net_price, IsRebate}
use Rattle.bound_checker.specs.Summed.{IsSummed}
use Rattle.bound_checker.proofs.Summing.{summed_more, sum_fits, few_groups, rebate_between}
use Rattle.bound_checker.proofs.bound.rebate_sum.Goals as goal
use mir.Val.{SFits}

pub overflow_add-sum : goal.overflow_add-sum
overflow_add-sum c =
    let count : c.len-group-end.result ≡ length c.args.snapshot.now.groups = c.len-group-end.ensures
    ∙ ap (λ (s : Parts). length s.groups) c.parts.ensures.value in
    let few : length c.args.snapshot.now.groups ≤ 1024 = few_groups c.args.snapshot.now c.parts.ensures.orderly in
    let range = rebate_between c.args.snapshot.now c.args.prices.now.0 c.args.quota_prices.now.0 c.loop-group.group c.rebate_of.result
    c.parts.ensures.orderly c.requires.range c.requires.quota_range c.rebate_of.ensures in
    let low : pos 0 ≤ℤ c.rebate_of.result = range.0 in
    let high : c.rebate_of.result ≤ℤ pos 1024000000000000 = range.1 in
    let least : pos 0 ≤ℤ c.loop-group.sum.value = c.loop-group.invariant.least in
    let most : c.loop-group.sum.value ≤ℤ pos (c.loop-group.group * 1024000000000000) = c.loop-group.invariant.most in
    let kept : SFits w64 c.loop-group.sum.value = sum_fits _ least (omega (arith, ints)) in
    let part : SFits w64 c.rebate_of.result = sum_fits _ low (omega (arith, ints)) in
    let whole : SFits w64 (c.loop-group.sum.value +ℤ c.rebate_of.result) = sum_fits _ (omega (arith, ints)) (omega (arith, ints)) in
    simp to_z-of_z whole

pub loop-group-preserved : goal.loop-group-preserved
loop-group-preserved c =
    let count : c.len-group-end.result ≡ length c.args.snapshot.now.groups = c.len-group-end.ensures
    ∙ ap (λ (s : Parts). length s.groups) c.parts.ensures.value in
    let few : length c.args.snapshot.now.groups ≤ 1024 = few_groups c.args.snapshot.now c.parts.ensures.orderly in
    let range = rebate_between c.args.snapshot.now c.args.prices.now.0 c.args.quota_prices.now.0 c.loop-group.group c.rebate_of.result
    c.parts.ensures.orderly c.requires.range c.requires.quota_range c.rebate_of.ensures in
    let low : pos 0 ≤ℤ c.rebate_of.result = range.0 in
    let high : c.rebate_of.result ≤ℤ pos 1024000000000000 = range.1 in
    let least : pos 0 ≤ℤ c.loop-group.sum.value = c.loop-group.invariant.least in
    let most : c.loop-group.sum.value ≤ℤ pos (c.loop-group.group * 1024000000000000) = c.loop-group.invariant.most in
    let kept : SFits w64 c.loop-group.sum.value = sum_fits _ least (omega (arith, ints)) in
    let part : SFits w64 c.rebate_of.result = sum_fits _ low (omega (arith, ints)) in
    let whole : SFits w64 (c.loop-group.sum.value +ℤ c.rebate_of.result) = sum_fits _ (omega (arith, ints)) (omega (arith, ints)) in
    simp to_z-of_z (summed_more c.loop-group.group
    (IsRebate c.args.snapshot.now (net_price c.args.snapshot.now c.args.prices.now.0 c.args.quota_prices.now.0)) 1024000000000000
    c.loop-group.sum.value c.rebate_of.result c.loop-group.invariant c.rebate_of.ensures range)

pub returns : goal.returns
returns c =
    let count : c.len-group-end.result ≡ length c.args.snapshot.now.groups = c.len-group-end.ensures
    ∙ ap (λ (s : Parts). length s.groups) c.parts.ensures.value in
    let few : length c.args.snapshot.now.groups ≤ 1024 = few_groups c.args.snapshot.now c.parts.ensures.orderly in
    let all : c.loop-group.group ≡ length c.args.snapshot.now.groups = omega arith in
    let least : pos 0 ≤ℤ c.loop-group.sum.value = c.loop-group.invariant.least in
    let most : c.loop-group.sum.value ≤ℤ pos (c.loop-group.group * 1024000000000000) = c.loop-group.invariant.most in
    let kept : SFits w64 c.loop-group.sum.value = sum_fits _ least (omega (arith, ints)) in
    simp to_z-of_z (subst (λ (n : ℕ). IsSummed n
    (IsRebate c.args.snapshot.now (net_price c.args.snapshot.now c.args.prices.now.0 c.args.quota_prices.now.0)) 1024000000000000
    c.loop-group.sum.value) all c.loop-group.invariant)
