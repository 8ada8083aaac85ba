use Rattle.std.proofs.Common.{◌≡◌, ℤ, pos, w64, ◌+ℤ◌, ◌-ℤ◌, length, sym, ◌∙◌, ap, subst, arith}
use Rattle.std.proofs.lemmas.Grind.{common_steps}
use Rattle.std.proofs.lemmas.Int.{to_z-of_z}
use Rattle.plan_base.specs.declared.parts.Parts.{Parts}
use Rattle.plan_base.specs.Bound.{IsBound}
use Rattle.bound_checker.specs.Summed.{IsPartSum}
use Rattle.bound_checker.proofs.Summing.{few_telescopes}
use Rattle.rapid.proofs.PartSums.{part_fits, bests_part}
use Rattle.rapid.proofs.Priced.{bound_fits}
use Rattle.rapid.proofs.Mended.{count_more, range_more, rebate_part, bound_is}
use Rattle.rapid.proofs.pricing.bound_with.Goals as goal
use mir.Val.{SFits}

pub rebate_of-rebate-requires-clause-count : goal.rebate_of-rebate-requires-clause-count
rebate_of-rebate-requires-clause-count c =
    count_more c.args.extension.now c.requires.priceable c.recall_valid.ensures.orderly c.recall_valid-2.ensures.orderly c.requires.prices.0
    c.args.prices.now.0 c.requires.prices.1

pub rebate_of-rebate-requires-clause-range : goal.rebate_of-rebate-requires-clause-range
rebate_of-rebate-requires-clause-range c =
    range_more c.args.extension.now c.requires.priceable c.recall_valid.ensures.orderly c.recall_valid-2.ensures.orderly c.requires.prices.0
    c.args.prices.now.0 c.requires.prices.1

pub mended_bound-requires-clause-bound : goal.mended_bound-requires-clause-bound
mended_bound-requires-clause-bound c =
    bound_fits c.args.extension.now.claim.now.bound
    (c.bound_limit.ensures.most (pos c.args.extension.now.claim.now.bound) c.requires.priceable.certified.bound)

pub mended_bound-requires-clause-old : goal.mended_bound-requires-clause-old
mended_bound-requires-clause-old c =
    let old : IsPartSum c.best_sum-old.result =
    bests_part _ _ _ (few_telescopes c.args.extension.now.before.now c.recall_valid.ensures.orderly) c.best_sum-old.ensures in
    let fit_old : SFits w64 c.best_sum-old.result = part_fits _ old in
    simp to_z-of_z old

pub mended_bound-requires-clause-new : goal.mended_bound-requires-clause-new
mended_bound-requires-clause-new c =
    let new : IsPartSum c.best_sum-new.result =
    bests_part _ _ _ (few_telescopes c.args.extension.now.snapshot.now c.recall_valid-2.ensures.orderly) c.best_sum-new.ensures in
    let fit_new : SFits w64 c.best_sum-new.result = part_fits _ new in
    simp to_z-of_z new

pub mended_bound-requires-clause-rebate : goal.mended_bound-requires-clause-rebate
mended_bound-requires-clause-rebate c =
    let rebate : IsPartSum c.rebate_of-rebate.result =
    rebate_part c.args.extension.now c.requires.priceable c.recall_valid.ensures.orderly c.recall_valid-2.ensures.orderly c.requires.prices.0
    c.args.prices.now.0 c.requires.prices.1 _ _ c.rebate_of-rebate.ensures in
    let fit_rebate : SFits w64 c.rebate_of-rebate.result = part_fits _ rebate in
    simp to_z-of_z rebate

pub mended_bound-requires-clause-least : goal.mended_bound-requires-clause-least
mended_bound-requires-clause-least c =
    let old : IsPartSum c.best_sum-old.result =
    bests_part _ _ _ (few_telescopes c.args.extension.now.before.now c.recall_valid.ensures.orderly) c.best_sum-old.ensures in
    let fit_old : SFits w64 c.best_sum-old.result = part_fits _ old in
    let new : IsPartSum c.best_sum-new.result =
    bests_part _ _ _ (few_telescopes c.args.extension.now.snapshot.now c.recall_valid-2.ensures.orderly) c.best_sum-new.ensures in
    let fit_new : SFits w64 c.best_sum-new.result = part_fits _ new in
    let rebate : IsPartSum c.rebate_of-rebate.result =
    rebate_part c.args.extension.now c.requires.priceable c.recall_valid.ensures.orderly c.recall_valid-2.ensures.orderly c.requires.prices.0
    c.args.prices.now.0 c.requires.prices.1 _ _ c.rebate_of-rebate.ensures in
    let fit_rebate : SFits w64 c.rebate_of-rebate.result = part_fits _ rebate in
    let whole : IsBound c.args.extension.now.snapshot.now c.args.prices.now.0 c.args.extension.now.claim.now.quota_prices.0
    (pos c.args.extension.now.claim.now.bound -ℤ c.best_sum-old.result +ℤ c.best_sum-new.result +ℤ c.rebate_of-rebate.result) =
    bound_is c.args.extension.now c.requires.priceable c.recall_valid.ensures.orderly c.recall_valid-2.ensures.orderly c.requires.prices.0
    c.args.prices.now.0 c.requires.prices.1
    c.len-last.result (c.len-last.ensures ∙ ap (λ (s : Parts). length s.groups) c.parts.ensures.value) c.best_sum-old.result c.best_sum-new.result
    c.rebate_of-rebate.result c.best_sum-old.ensures.sum c.best_sum-new.ensures.sum c.rebate_of-rebate.ensures
    in
    simp to_z-of_z (c.bound_limit-2.ensures.least
    (pos c.args.extension.now.claim.now.bound -ℤ c.best_sum-old.result +ℤ c.best_sum-new.result +ℤ c.rebate_of-rebate.result) whole)

pub returns : goal.returns
returns c =
    let old : IsPartSum c.best_sum-old.result =
    bests_part _ _ _ (few_telescopes c.args.extension.now.before.now c.recall_valid.ensures.orderly) c.best_sum-old.ensures in
    let fit_old : SFits w64 c.best_sum-old.result = part_fits _ old in
    let new : IsPartSum c.best_sum-new.result =
    bests_part _ _ _ (few_telescopes c.args.extension.now.snapshot.now c.recall_valid-2.ensures.orderly) c.best_sum-new.ensures in
    let fit_new : SFits w64 c.best_sum-new.result = part_fits _ new in
    let rebate : IsPartSum c.rebate_of-rebate.result =
    rebate_part c.args.extension.now c.requires.priceable c.recall_valid.ensures.orderly c.recall_valid-2.ensures.orderly c.requires.prices.0
    c.args.prices.now.0 c.requires.prices.1 _ _ c.rebate_of-rebate.ensures in
    let fit_rebate : SFits w64 c.rebate_of-rebate.result = part_fits _ rebate in
    let whole : IsBound c.args.extension.now.snapshot.now c.args.prices.now.0 c.args.extension.now.claim.now.quota_prices.0
    (pos c.args.extension.now.claim.now.bound -ℤ c.best_sum-old.result +ℤ c.best_sum-new.result +ℤ c.rebate_of-rebate.result) =
    bound_is c.args.extension.now c.requires.priceable c.recall_valid.ensures.orderly c.recall_valid-2.ensures.orderly c.requires.prices.0
    c.args.prices.now.0 c.requires.prices.1
    c.len-last.result (c.len-last.ensures ∙ ap (λ (s : Parts). length s.groups) c.parts.ensures.value) c.best_sum-old.result c.best_sum-new.result
    c.rebate_of-rebate.result c.best_sum-old.ensures.sum c.best_sum-new.ensures.sum c.rebate_of-rebate.ensures
    in
    let is : pos c.mended_bound.result
    ≡ (pos c.args.extension.now.claim.now.bound -ℤ c.best_sum-old.result +ℤ c.best_sum-new.result +ℤ c.rebate_of-rebate.result) =
    simp to_z-of_z at c.mended_bound.ensures in
    subst (λ (b : ℤ). IsBound c.args.extension.now.snapshot.now c.args.prices.now.0 c.args.extension.now.claim.now.quota_prices.0 b) (sym is) whole

pub bound_limit-requires-2-clause-prices : goal.bound_limit-requires-2-clause-prices
bound_limit-requires-2-clause-prices c = grind (arith, common_steps)

pub best_sum-new-requires-clause-range : goal.best_sum-new-requires-clause-range
best_sum-new-requires-clause-range c = grind (arith, common_steps)
