use Rattle.std.proofs.Common.{◌≡◌, ℕ, ◌*◌, ◌<◌, ◌≤◌, pos, ◌+ℤ◌, ◌≤ℤ◌, List, length, ap, subst, sym, ◌∙◌, arith, w64}
use Rattle.std.proofs.lemmas.Int.{ints, to_z-of_z}
use mir.Val.{SFits}
use Rattle.std.proofs.lemmas.List.{length-map}
use Rattle.plan_base.specs.declared.parts.Parts.{Parts}
use Rattle.plan_base.specs.Requests.{listed}
use Rattle.bound_checker.specs.Summed.{IsSummed}
use Rattle.bound_checker.proofs.Summing.{summed_more, sum_fits}
use Rattle.group_trees.specs.declared.tree.Tree.{Tree}
use Rattle.group_trees.specs.Trees.{Node, seen, trees_seen}
use Rattle.group_trees.specs.Rebates.{IsRebateAt}
use Rattle.group_trees.specs.Built.{snapshot_of, trees_of}
use Rattle.group_trees.proofs.Sums.{prices_are_net}
use Rattle.group_trees.proofs.Trees.{trees_few, rebate_between}
use Rattle.group_trees.proofs.check.tree_rebates.Goals as goal

same_count : (ts : List Tree) (trees : List Node) → trees_seen ts ≡ trees → length ts ≡ length trees
same_count ts trees e = sym (length-map ts seen) ∙ ap (λ (us : List Node). length us) e

pub tree_rebate-requires-clause-range : goal.tree_rebate-requires-clause-range
tree_rebate-requires-clause-range c = prices_are_net c.args.prices.now.0 c.requires.range

pub overflow_add-sum : goal.overflow_add-sum
overflow_add-sum c =
    let s = snapshot_of c.args.forest.now in
    let trees = trees_of c.args.forest.now in
    let few : length (listed s) ≤ 1024 = subst (λ (p : Parts). length (listed p) ≤ 1024) c.snapshot.ensures c.recall_valid.ensures.few in
    let count : length c.trees-tree-end.result.now ≡ length trees = same_count c.trees-tree-end.result.now trees c.trees-tree-end.ensures in
    let most_trees : length trees ≤ 1024 = trees_few s trees few c.recall_sound.ensures in
    let here : c.loop-tree.tree < length trees = omega arith in
    let range = rebate_between s trees c.args.prices.now.0 c.loop-tree.tree c.tree_rebate.result few c.recall_sound.ensures c.requires.range
    here c.tree_rebate.ensures in
    let low : pos 0 ≤ℤ c.tree_rebate.result = range.0 in
    let high : c.tree_rebate.result ≤ℤ pos 1024000000000000 = range.1 in
    let least : pos 0 ≤ℤ c.loop-tree.sum.value = c.loop-tree.invariant.least in
    let most : c.loop-tree.sum.value ≤ℤ pos (c.loop-tree.tree * 1024000000000000) = c.loop-tree.invariant.most in
    let kept : SFits w64 c.loop-tree.sum.value = sum_fits _ least (omega (arith, ints)) in
    let part : SFits w64 c.tree_rebate.result = sum_fits _ low (omega (arith, ints)) in
    let whole : SFits w64 (c.loop-tree.sum.value +ℤ c.tree_rebate.result) = sum_fits _ (omega (arith, ints)) (omega (arith, ints)) in
    simp to_z-of_z whole

pub loop-tree-preserved : goal.loop-tree-preserved
loop-tree-preserved c =
    let s = snapshot_of c.args.forest.now in
    let trees = trees_of c.args.forest.now in
    let few : length (listed s) ≤ 1024 = subst (λ (p : Parts). length (listed p) ≤ 1024) c.snapshot.ensures c.recall_valid.ensures.few in
    let count : length c.trees-tree-end.result.now ≡ length trees = same_count c.trees-tree-end.result.now trees c.trees-tree-end.ensures in
    let most_trees : length trees ≤ 1024 = trees_few s trees few c.recall_sound.ensures in
    let here : c.loop-tree.tree < length trees = omega arith in
    let range = rebate_between s trees c.args.prices.now.0 c.loop-tree.tree c.tree_rebate.result few c.recall_sound.ensures c.requires.range
    here c.tree_rebate.ensures in
    let low : pos 0 ≤ℤ c.tree_rebate.result = range.0 in
    let high : c.tree_rebate.result ≤ℤ pos 1024000000000000 = range.1 in
    let least : pos 0 ≤ℤ c.loop-tree.sum.value = c.loop-tree.invariant.least in
    let most : c.loop-tree.sum.value ≤ℤ pos (c.loop-tree.tree * 1024000000000000) = c.loop-tree.invariant.most in
    let kept : SFits w64 c.loop-tree.sum.value = sum_fits _ least (omega (arith, ints)) in
    let part : SFits w64 c.tree_rebate.result = sum_fits _ low (omega (arith, ints)) in
    let whole : SFits w64 (c.loop-tree.sum.value +ℤ c.tree_rebate.result) = sum_fits _ (omega (arith, ints)) (omega (arith, ints)) in
    simp to_z-of_z (summed_more c.loop-tree.tree (IsRebateAt s c.args.prices.now.0 trees) 1024000000000000 c.loop-tree.sum.value c.tree_rebate.result
    c.loop-tree.invariant c.tree_rebate.ensures range)

pub returns-clause-sum : goal.returns-clause-sum
returns-clause-sum c =
    let count : length c.trees-tree-end.result.now ≡ length (trees_of c.args.forest.now) =
    same_count c.trees-tree-end.result.now (trees_of c.args.forest.now) c.trees-tree-end.ensures in
    let all : c.loop-tree.tree ≡ length (trees_of c.args.forest.now) = omega arith in
    subst (λ (n : ℕ). IsSummed n (IsRebateAt (snapshot_of c.args.forest.now) c.args.prices.now.0 (trees_of c.args.forest.now)) 1024000000000000
    c.loop-tree.sum.value) all c.loop-tree.invariant

pub returns-clause-most : goal.returns-clause-most
returns-clause-most c =
    let s = snapshot_of c.args.forest.now in
    let trees = trees_of c.args.forest.now in
    let few : length (listed s) ≤ 1024 = subst (λ (p : Parts). length (listed p) ≤ 1024) c.snapshot.ensures c.recall_valid.ensures.few in
    let count : length c.trees-tree-end.result.now ≡ length trees = same_count c.trees-tree-end.result.now trees c.trees-tree-end.ensures in
    let most_trees : length trees ≤ 1024 = trees_few s trees few c.recall_sound.ensures in
    let most : c.loop-tree.sum.value ≤ℤ pos (c.loop-tree.tree * 1024000000000000) = c.loop-tree.invariant.most in
    omega (arith, ints)
