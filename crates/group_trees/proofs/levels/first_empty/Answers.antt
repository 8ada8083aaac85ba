use Rattle.std.proofs.Common.{◌≡◌, true, sym, ◌∙◌, subst, arith, refl}
use Rattle.std.proofs.lemmas.Grind.{common_steps}
use Rattle.std.proofs.lemmas.List.Elements.{AllWithin-more}
use Rattle.group_trees.specs.Trees.{Node, is_full, trees_seen}
use Rattle.group_trees.proofs.Trees.{seen_at}
use Rattle.group_trees.proofs.levels.first_empty.Goals as goal

pub loop-index-preserved : goal.loop-index-preserved
loop-index-preserved c =
    AllWithin-more (λ t. is_full t ≡ true) (trees_seen c.args.trees.now) 0 c.loop-index.index c.loop-index.invariant
    (λ d. subst (λ (t : Node). is_full t ≡ true)
    (sym (seen_at c.args.trees.now (trees_seen c.args.trees.now) c.loop-index.index c.index-trees-index.result d refl
    (omega arith) c.index-trees-index.is)) (sym c.is_full.ensures ∙ c.if-not-is_full.false))

pub returns : goal.returns
returns c = grind (arith, common_steps)
