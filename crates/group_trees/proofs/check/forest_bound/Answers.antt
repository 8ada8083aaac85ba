use Rattle.std.proofs.Common.{◌<◌, ℕ, pos, ◌≤ℤ◌, ◌<ℤ◌, length, ◌^◌, sym, subst, arith, w64}
use Rattle.std.proofs.lemmas.Int.{ints, to_z-of_z}
use mir.Val.{SFits}
use Rattle.plan_base.specs.declared.parts.Parts.{Parts}
use Rattle.plan_base.specs.Bound.{net_price, IsRebate, IsBound}
use Rattle.bound_checker.specs.Summed.{IsSummed}
use Rattle.bound_checker.proofs.Summing.{sum_fits}
use Rattle.group_trees.specs.Built.{snapshot_of, trees_of}
use Rattle.group_trees.proofs.Judging.{groups_within, replaced_bound}
use Rattle.group_trees.proofs.check.forest_bound.Goals as goal

below : (n : ℕ) → pos n <ℤ pos (10 ^ 17) → n < 10 ^ 17
below n l = omega (arith, ints)

pub replaced-requires-clause-bound : goal.replaced-requires-clause-bound
replaced-requires-clause-bound c =
    below c.args.found (c.bound_limit.ensures.most (pos c.args.found)
    (subst (λ (p : Parts). IsBound p c.args.claim.now.prices.0 c.args.claim.now.quota_prices.0 (pos c.args.found))
    (sym c.snapshot-snapshot.ensures) c.requires.bound))

pub replaced-requires-clause-within : goal.replaced-requires-clause-within
replaced-requires-clause-within c =
    let prices = c.args.claim.now.prices.0 in
    let quota_prices = c.args.claim.now.quota_prices.0 in
    let most : c.args.found < 10 ^ 17 =
    below c.args.found (c.bound_limit.ensures.most (pos c.args.found)
    (subst (λ (p : Parts). IsBound p prices quota_prices (pos c.args.found)) (sym c.snapshot-snapshot.ensures) c.requires.bound)) in
    let within : c.rebate_sum-groups.result ≤ℤ pos c.args.found =
    groups_within (snapshot_of c.args.forest.now) prices quota_prices
    (pos c.args.found) c.rebate_sum-groups.result c.recall_sound.ensures.singles.no_quota c.requires.bound
    (subst (λ (p : Parts). IsSummed (length p.groups)
    (IsRebate p (net_price p prices quota_prices)) 1024000000000000 c.rebate_sum-groups.result) c.snapshot-snapshot.ensures
    c.rebate_sum-groups.ensures) in
    let kept : SFits w64 c.rebate_sum-groups.result = sum_fits _ c.rebate_sum-groups.ensures.least (omega (arith, ints)) in
    simp to_z-of_z within

pub returns : goal.returns
returns c =
    let prices = c.args.claim.now.prices.0 in
    let quota_prices = c.args.claim.now.quota_prices.0 in
    let sums : IsSummed (length (snapshot_of c.args.forest.now).groups)
    (IsRebate (snapshot_of c.args.forest.now) (net_price (snapshot_of c.args.forest.now) prices quota_prices)) 1024000000000000 c.rebate_sum-groups.result =
    subst (λ (p : Parts). IsSummed (length p.groups)
    (IsRebate p (net_price p prices quota_prices)) 1024000000000000 c.rebate_sum-groups.result) c.snapshot-snapshot.ensures
    c.rebate_sum-groups.ensures in
    let most : c.args.found < 10 ^ 17 =
    below c.args.found (c.bound_limit.ensures.most (pos c.args.found)
    (subst (λ (p : Parts). IsBound p prices quota_prices (pos c.args.found)) (sym c.snapshot-snapshot.ensures) c.requires.bound)) in
    let within : c.rebate_sum-groups.result ≤ℤ pos c.args.found =
    groups_within (snapshot_of c.args.forest.now) prices quota_prices
    (pos c.args.found) c.rebate_sum-groups.result c.recall_sound.ensures.singles.no_quota c.requires.bound sums in
    let kept : SFits w64 c.rebate_sum-groups.result = sum_fits _ c.rebate_sum-groups.ensures.least (omega (arith, ints)) in
    replaced_bound (snapshot_of c.args.forest.now) prices quota_prices
    (pos c.args.found) c.rebate_sum-groups.result c.recall_sound.ensures.singles.no_quota c.requires.bound sums
    (trees_of c.args.forest.now) c.tree_rebates-trees.result.value (pos c.replaced.result) c.tree_rebates-trees.ensures.sum.sum
    (simp to_z-of_z at c.replaced.ensures)
