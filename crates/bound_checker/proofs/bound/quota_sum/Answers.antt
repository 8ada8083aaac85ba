use Rattle.std.proofs.Common.{rules, ◌≡◌, ℕ, ◌+◌, ◌*◌, ◌<◌, ◌≤◌, ℤ, pos, ◌+ℤ◌, ◌≤ℤ◌, length, ap, subst, ◌∙◌, arith, w64}
use Rattle.std.proofs.lemmas.Int.{ints, to_z-of_z}
use Rattle.plan_base.specs.declared.parts.Parts.{Parts}
use Rattle.plan_base.specs.Bound.{IsQuotaPart}
use Rattle.plan_base.specs.Feasible.{quota_at}
use Rattle.std.proofs.Common.{slice_index_or}
use Rattle.bound_checker.proofs.Summing.{summed_more, sum_fits, few_quotas}
use Rattle.bound_checker.proofs.bound.quota_sum.Goals as goal
use mir.Val.{SFits}

quota_range : (b : ℤ) (n : ℕ) → b ≡ pos n → b ≤ℤ pos 20000000000000 → (pos 0 ≤ℤ b) × (b ≤ℤ pos 20000000000000)
quota_range b n e h = (omega (arith, ints), h)

pub loop-quota-preserved : goal.loop-quota-preserved
loop-quota-preserved c =
    let count : c.len-quota-end.result ≡ length c.args.snapshot.now.quotas = c.len-quota-end.ensures
    ∙ ap (λ (s : Parts). length s.quotas) c.parts.ensures.value in
    let few : length c.args.snapshot.now.quotas ≤ 1024 = few_quotas c.args.snapshot.now c.parts.ensures.orderly in
    let range = (let is : c.quota_part.result
    ≡ pos (slice_index_or c.args.quota_prices.now.0 c.loop-quota.quota 0 * quota_at c.args.snapshot.now
    c.loop-quota.quota) = c.quota_part.ensures.part in quota_range c.quota_part.result _ is c.quota_part.ensures.most) in
    let low : pos 0 ≤ℤ c.quota_part.result = range.0 in
    let high : c.quota_part.result ≤ℤ pos 20000000000000 = range.1 in
    let least : pos 0 ≤ℤ c.loop-quota.sum.value = c.loop-quota.invariant.least in
    let most : c.loop-quota.sum.value ≤ℤ pos (c.loop-quota.quota * 20000000000000) = c.loop-quota.invariant.most in
    let kept : SFits w64 c.loop-quota.sum.value = sum_fits _ least (omega (arith, ints)) in
    let part : SFits w64 c.quota_part.result = sum_fits _ low (omega (arith, ints)) in
    let whole : SFits w64 (c.loop-quota.sum.value +ℤ c.quota_part.result) = sum_fits _ (omega (arith, ints)) (omega (arith, ints)) in
    simp to_z-of_z (summed_more c.loop-quota.quota (IsQuotaPart c.args.snapshot.now c.args.quota_prices.now.0) 20000000000000 c.loop-quota.sum.value
    c.quota_part.result c.loop-quota.invariant c.quota_part.ensures.part range)
