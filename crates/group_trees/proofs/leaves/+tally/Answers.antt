use Rattle.std.proofs.Common.{◌≡◌, ◌++◌, ◌+◌, ◌<◌, ℕ, List, [], ◌∷◌, length, take, slice_index_or, sym, ap, ◌∙◌, subst, append_assoc, arith}
use Rattle.std.proofs.lemmas.List.{take_more, append-nil}
use Rattle.group_trees.specs.declared.tree.Tree.{Tree}
use Rattle.group_trees.specs.Trees.{seen, all_seen}
use Rattle.group_trees.specs.Choices.{leaves, all_leaves}
use Rattle.group_trees.specs.Tallies.{IsTally}
use Rattle.group_trees.proofs.leaves.+tally.Goals as goal

leaves_push : (xs : List Tree) (x : Tree) → all_leaves (all_seen (xs ++ x ∷ [])) ≡ all_leaves (all_seen xs) ++ leaves (seen x)
leaves_push [] x = append-nil (leaves (seen x))
leaves_push (y ∷ xs) x = ap (λ (rs : List ℕ). leaves (seen y) ++ rs) (leaves_push xs x)
    ∙ sym (append_assoc (leaves (seen y)) (all_leaves (all_seen xs)) (leaves (seen x)))

leaves_more : (rs : List ℕ) (xs : List Tree) (i : ℕ) (x : Tree) → i < length xs → x ≡ slice_index_or xs i x
    → (rs ++ all_leaves (all_seen (take i xs))) ++ leaves (seen x) ≡ rs ++ all_leaves (all_seen (take (i + 1) xs))
leaves_more rs xs i x l e =
    append_assoc rs (all_leaves (all_seen (take i xs))) (leaves (seen x))
    ∙ ap (λ (qs : List ℕ). rs ++ qs) (sym (leaves_push (take i xs) x))
    ∙ ap (λ (y : Tree). rs ++ all_leaves (all_seen (take i xs ++ y ∷ []))) e
    ∙ ap (λ (ys : List Tree). rs ++ all_leaves (all_seen ys)) (sym (take_more xs i x l))

pub tally_all-loop-tree-preserved : goal.tally_all-loop-tree-preserved
tally_all-loop-tree-preserved t c = (
  c.tally_tree.ensures.count,
  λ rs h.
      subst (λ (qs : List ℕ). IsTally c.args.snapshot.now qs c.tally_tree.new.tally)
      (leaves_more rs c.deref-tree-items.result.now c.loop-tree.tree-index c.tree-item.result (omega arith) c.tree-item.is)
      (c.tally_tree.ensures.tally (rs ++ all_leaves (all_seen (take c.loop-tree.tree-index c.deref-tree-items.result.now))) (c.loop-tree.invariant.1 rs h)),
)
