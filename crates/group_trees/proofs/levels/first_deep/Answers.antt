use Rattle.std.proofs.Common.{◌≤◌, sym, subst, arith, refl}
use Rattle.std.proofs.lemmas.Grind.{common_steps}
use Rattle.std.proofs.lemmas.List.Elements.{AllWithin-more}
use Rattle.group_trees.specs.Trees.{Node, levels, seen, trees_seen}
use Rattle.group_trees.proofs.Faults.{within_from_test}
use Rattle.group_trees.proofs.Trees.{seen_at}
use Rattle.group_trees.proofs.levels.first_deep.Goals as goal

pub loop-index-preserved : goal.loop-index-preserved
loop-index-preserved c =
    AllWithin-more (λ t. levels t ≤ 16) (trees_seen c.args.trees.now) 0 c.loop-index.index c.loop-index.invariant
    (λ d. subst (λ (t : Node). levels t ≤ 16)
    (sym (seen_at c.args.trees.now (trees_seen c.args.trees.now) c.loop-index.index c.index-trees-index.result d refl
    (omega arith) c.index-trees-index.is))
    (within_from_test (levels (seen c.index-trees-index.result)) 16 c.is_within.result c.is_within.ensures c.if-not-is_within.false))

pub returns : goal.returns
returns c = grind (arith, common_steps)
