use Rattle.std.proofs.Common.{rules, ◌≡◌, ◌==◌, ◌&&◌, false, Bool, List, [], ◌∷◌, length, arith}
use Rattle.std.proofs.lemmas.Bool.Decides.{nat_tests}
use Rattle.group_trees.specs.declared.tree.Tree.{Tree}
use Rattle.group_trees.specs.Trees.{all_seen, has_child, are_full}
use Rattle.group_trees.proofs.levels.+full.Goals as goal

full_when : (ts : List Tree) (b : Bool) → (length ts == 0) ≡ false → b ≡ are_full (all_seen ts) → b ≡ (has_child (all_seen ts) && are_full (all_seen ts))
full_when [] b h e = absurd (grind (arith, nat_tests))
full_when (t ∷ ts) b h e = e

pub has_full-returns : goal.has_full-returns
has_full-returns t c = full_when c.args.children.now.items c.are_full.result (search rules) c.are_full.ensures
