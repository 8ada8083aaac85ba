use Rattle.std.proofs.Common.{rules, ◌≡◌, ℕ, ◌^◌, pos, neg_ℤ, w64, ◌≤ℤ◌, ◌<ℤ◌, subst, arith}
use Rattle.std.proofs.lemmas.Int.{ints, to_z-of_z}
use Rattle.plan_base.specs.Requests.{group_of}
use Rattle.plan_base.specs.Bound.{net_price, IsRebate}
use Rattle.bound_checker.proofs.Summing.{rebate_between}
use Rattle.explain.specs.Forced.{IsForcedBound}
use Rattle.explain.proofs.left.bound_with.Goals as goal
use mir.Val.{SFits}

pub forced_sum-requires-clause-bound : goal.forced_sum-requires-clause-bound
forced_sum-requires-clause-bound c =
    let most : pos c.args.claim.now.bound <ℤ pos (10 ^ 17) = c.bound_limit.ensures.most (pos c.args.claim.now.bound) c.requires.certified.bound in
    omega (arith, ints)

pub forced_sum-requires-clause-rebate : goal.forced_sum-requires-clause-rebate
forced_sum-requires-clause-rebate c =
    let rebate = rebate_between c.args.snapshot.now c.args.claim.now.prices.0 c.args.claim.now.quota_prices.0 c.known_group-group.result
    c.rebate_of-rebate.result c.recall_valid.ensures.orderly c.requires.certified.price_range c.requires.certified.quota_price_range
    c.rebate_of-rebate.ensures in
    let low : pos 0 ≤ℤ c.rebate_of-rebate.result = rebate.0 in
    let high : c.rebate_of-rebate.result ≤ℤ pos 1024000000000000 = rebate.1 in
    let one : SFits w64 c.rebate_of-rebate.result = search rules in
    let bottom : neg_ℤ (pos 2000000000000000) ≤ℤ c.rebate_of-rebate.result = omega (arith, ints) in
    let top : c.rebate_of-rebate.result ≤ℤ pos 2000000000000000 = omega (arith, ints) in
    (simp to_z-of_z bottom, simp to_z-of_z top)

pub returns : goal.returns
returns c =
    let group : c.known_group-group.result ≡ group_of c.args.snapshot.now c.args.request.0 = c.known_group-group.ensures.value in
    let one : SFits w64 c.rebate_of-rebate.result = search rules in
    let two : SFits w64 c.rebate_with-with.result = search rules in
    let three : SFits w64 c.args.detour = search rules in
    let four : SFits w64 c.forced_sum.result = search rules in
    let sum = simp to_z-of_z at c.forced_sum.ensures in
    let bound : IsForcedBound c.args.snapshot.now c.args.claim.now c.args.request.0 c.forced_sum.result = record {
      rebate = c.rebate_of-rebate.result;
      rebate_with = c.rebate_with-with.result;
      detour = c.args.detour;
      is_rebate = subst (λ (g : ℕ). IsRebate c.args.snapshot.now
          (net_price c.args.snapshot.now c.args.claim.now.prices.0 c.args.claim.now.quota_prices.0) g c.rebate_of-rebate.result) group
          c.rebate_of-rebate.ensures;
      is_rebate_with = c.rebate_with-with.ensures.value;
      is_detour = c.requires.detour;
      whole = sum;
    } in
    simp to_z-of_z bound
