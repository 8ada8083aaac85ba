use Rattle.std.proofs.Common.{rules, ◌≡◌, ℕ, ◌+◌, ◌*◌, ◌<◌, ◌≤◌, ℤ, pos, ◌+ℤ◌, ◌≤ℤ◌, length, ap, subst, ◌∙◌, arith, w64}
use Rattle.std.proofs.lemmas.Int.{ints, to_z-of_z}
use Rattle.plan_base.specs.declared.parts.Parts.{Parts}
use Rattle.bound_checker.specs.Summed.{IsPartSum}
use Rattle.bound_checker.proofs.Summing.{sum_fits, few_telescopes, few_groups, few_quotas}
use Rattle.bound_checker.proofs.bound.bound_of.Goals as goal
use mir.Val.{SFits}

pub sum_of-requires-clause-bests : goal.sum_of-requires-clause-bests
sum_of-requires-clause-bests c =
    let few : length c.args.snapshot.now.telescopes ≤ 32 = few_telescopes c.args.snapshot.now c.recall_valid.ensures.orderly in
    let least : pos 0 ≤ℤ c.in_ok-bests.bests = c.in_ok-bests.ensures.least in
    let most : c.in_ok-bests.bests ≤ℤ pos (length c.args.snapshot.now.telescopes * 1440414720000000) = c.in_ok-bests.ensures.most in
    let both : IsPartSum c.in_ok-bests.bests = (least, omega (arith, ints)) in
    let kept : SFits w64 c.in_ok-bests.bests = sum_fits _ least (omega (arith, ints)) in
    simp to_z-of_z both

pub sum_of-requires-clause-rebates : goal.sum_of-requires-clause-rebates
sum_of-requires-clause-rebates c =
    let few : length c.args.snapshot.now.groups ≤ 1024 = few_groups c.args.snapshot.now c.recall_valid.ensures.orderly in
    let least : pos 0 ≤ℤ c.rebate_sum-rebates.result = c.rebate_sum-rebates.ensures.least in
    let most : c.rebate_sum-rebates.result ≤ℤ pos (length c.args.snapshot.now.groups * 1024000000000000) = c.rebate_sum-rebates.ensures.most in
    let both : IsPartSum c.rebate_sum-rebates.result = (least, omega (arith, ints)) in
    let kept : SFits w64 c.rebate_sum-rebates.result = sum_fits _ least (omega (arith, ints)) in
    simp to_z-of_z both

pub sum_of-requires-clause-quotas : goal.sum_of-requires-clause-quotas
sum_of-requires-clause-quotas c =
    let few : length c.args.snapshot.now.quotas ≤ 1024 = few_quotas c.args.snapshot.now c.recall_valid.ensures.orderly in
    let least : pos 0 ≤ℤ c.quota_sum-quotas.result = c.quota_sum-quotas.ensures.least in
    let most : c.quota_sum-quotas.result ≤ℤ pos (length c.args.snapshot.now.quotas * 20000000000000) = c.quota_sum-quotas.ensures.most in
    let both : IsPartSum c.quota_sum-quotas.result = (least, omega (arith, ints)) in
    let kept : SFits w64 c.quota_sum-quotas.result = sum_fits _ least (omega (arith, ints)) in
    simp to_z-of_z both

pub returns : goal.returns
returns c =
    let first : length c.args.snapshot.now.telescopes ≤ 32 = few_telescopes c.args.snapshot.now c.recall_valid.ensures.orderly in
    let second : length c.args.snapshot.now.groups ≤ 1024 = few_groups c.args.snapshot.now c.recall_valid.ensures.orderly in
    let third : length c.args.snapshot.now.quotas ≤ 1024 = few_quotas c.args.snapshot.now c.recall_valid.ensures.orderly in
    let one : c.in_ok-bests.bests ≤ℤ pos (length c.args.snapshot.now.telescopes * 1440414720000000) = c.in_ok-bests.ensures.most in
    let two : c.rebate_sum-rebates.result ≤ℤ pos (length c.args.snapshot.now.groups * 1024000000000000) = c.rebate_sum-rebates.ensures.most in
    let three : c.quota_sum-quotas.result ≤ℤ pos (length c.args.snapshot.now.quotas * 20000000000000) = c.quota_sum-quotas.ensures.most in
    let bests : SFits w64 c.in_ok-bests.bests = sum_fits _ c.in_ok-bests.ensures.least (omega (arith, ints)) in
    let rebates : SFits w64 c.rebate_sum-rebates.result = sum_fits _ c.rebate_sum-rebates.ensures.least (omega (arith, ints)) in
    let quotas : SFits w64 c.quota_sum-quotas.result = sum_fits _ c.quota_sum-quotas.ensures.least (omega (arith, ints)) in
    record {
      bests = c.in_ok-bests.bests;
      rebates = c.rebate_sum-rebates.result;
      quotas = c.quota_sum-quotas.result;
      best = c.in_ok-bests.ensures.sum;
      rebate = c.rebate_sum-rebates.ensures.sum;
      quota = c.quota_sum-quotas.ensures.sum;
      whole = simp to_z-of_z at c.sum_of.ensures;
    }
