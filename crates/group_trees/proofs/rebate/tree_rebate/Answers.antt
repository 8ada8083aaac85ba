use Rattle.std.proofs.Common.{rules, ◌≡◌, ◌≤◌, ℤ, List, length, sym, subst, w64, arith}
use Rattle.std.proofs.lemmas.Grind.{common_steps}
use Rattle.std.proofs.lemmas.Int.{to_z-of_z}
use Rattle.plan_base.specs.declared.parts.Parts.{Parts}
use Rattle.plan_base.specs.Requests.{listed}
use Rattle.plan_base.specs.Bound.{price}
use Rattle.group_trees.specs.Trees.{Node, seen}
use Rattle.group_trees.specs.Choices.{IsTreeChoice}
use Rattle.group_trees.specs.Rebates.{IsGreatest}
use Rattle.group_trees.specs.Pairs.{IsSound}
use Rattle.group_trees.specs.Built.{snapshot_of, trees_of}
use Rattle.group_trees.proofs.Trees.{tree_sound, seen_at, within_seen}
use Rattle.group_trees.proofs.rebate.tree_rebate.Goals as goal
use mir.Val.{SFits}

greatest_at : (s t : Parts) (prices : List ℤ) (u node : Node) (a b : ℤ) → t ≡ s → node ≡ u → b ≡ a → IsGreatest (IsTreeChoice u) (price t prices) a
    → IsGreatest (IsTreeChoice node) (price s prices) b
greatest_at s t prices u node a b e f g h =
    subst (λ (p : Parts). IsGreatest (IsTreeChoice node) (price p prices) b) e
    (subst (λ (n : Node). IsGreatest (IsTreeChoice n) (price t prices) b) (sym f)
    (subst (λ (z : ℤ). IsGreatest (IsTreeChoice u) (price t prices) z) (sym g) h))

pub sums_of-requires-clause-sound : goal.sums_of-requires-clause-sound
sums_of-requires-clause-sound c =
    let s = snapshot_of c.args.forest.now in
    let trees = trees_of c.args.forest.now in
    let x = c.index-trees-tree.result in
    let few = subst (λ (p : Parts). length (listed p) ≤ 1024) c.snapshot-snapshot.ensures c.recall_valid.ensures.few in
    let same = seen_at c.trees.result.now trees c.args.tree x (seen x) c.trees.ensures
    (within_seen c.trees.result.now trees c.args.tree c.trees.ensures c.requires.tree) c.index-trees-tree.is in
    subst (λ (p : Parts). IsSound p (seen x)) (sym c.snapshot-snapshot.ensures)
    (subst (IsSound s) same (tree_sound s trees c.args.tree (seen x) few c.recall_sound.ensures c.requires.tree))

pub returns : goal.returns
returns c =
    let x = c.index-trees-tree.result in
    let trees = trees_of c.args.forest.now in
    let fit : SFits w64 c.any_of.result = search rules in
    simp to_z-of_z
    (λ d. greatest_at (snapshot_of c.args.forest.now) c.snapshot-snapshot.result.now c.args.prices.now.0
    (seen x) _ c.sums_of.result.any c.any_of.result c.snapshot-snapshot.ensures
    (seen_at c.trees.result.now trees c.args.tree x d c.trees.ensures
    (within_seen c.trees.result.now trees c.args.tree c.trees.ensures c.requires.tree) c.index-trees-tree.is)
    c.any_of.ensures c.sums_of.ensures.any)

pub offset_bounds-trees-tree : goal.offset_bounds-trees-tree
offset_bounds-trees-tree c = grind (arith, common_steps)

pub bounds-trees-tree : goal.bounds-trees-tree
bounds-trees-tree c = grind (arith, common_steps)
