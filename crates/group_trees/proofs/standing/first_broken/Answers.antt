use Rattle.std.proofs.Common.{◌≡◌, ◌≤◌, ◌<◌, ℕ, Bool, true, false, not, List, length, slice_index_or, All, refl, sym, ap, ◌∙◌, subst, arith}
use Rattle.std.proofs.lemmas.List.Elements.{AllWithin-more}
use Rattle.plan_base.specs.declared.parts.Parts.{Parts}
use Rattle.plan_base.specs.Requests.{IsKnown}
use Rattle.bound_checker.proofs.Firsts.{first_without}
use Rattle.std.proofs.lemmas.List.{length-map}
use Rattle.group_trees.specs.declared.tree.Tree.{Tree}
use Rattle.group_trees.specs.Trees.{Node, seen, trees_seen}
use Rattle.group_trees.specs.Choices.{leaves}
use Rattle.group_trees.specs.Plans.{IsAllowed}
use Rattle.group_trees.specs.Standings.{keeps, is_flagged}
use Rattle.group_trees.specs.Built.{snapshot_of, trees_of}
use Rattle.group_trees.proofs.Keeps.{allowed_when, refused_when}
use Rattle.group_trees.proofs.Trees.{seen_at, seen_within, tree_known, tree_apart}
use Rattle.group_trees.proofs.standing.first_broken.Goals as goal

from_not : (b : Bool) → not b ≡ true → b ≡ false
from_not true h = cc
from_not false h = refl

from_not_false : (b : Bool) → not b ≡ false → b ≡ true
from_not_false true h = refl
from_not_false false h = cc

-- what was told of the tree that was read
told_at : (s t : Parts) (flags : List Bool) (node u : Node) (b v : Bool) → t ≡ s → node ≡ u → b ≡ keeps (is_flagged t flags) u → b ≡ v
    → keeps (is_flagged s flags) node ≡ v
told_at s t flags node u b v e f g h = ap (keeps (is_flagged s flags)) f ∙ ap (λ (p : Parts). keeps (is_flagged p flags) u) (sym e) ∙ sym g ∙ h

all_seen_trees : (ts : List Tree) (trees : List Node) (i : ℕ) → trees_seen ts ≡ trees → length ts ≤ i → length trees ≤ i
all_seen_trees ts trees i e l =
    let same : length (trees_seen ts) ≡ length ts = length-map ts seen in
    let all : length (trees_seen ts) ≡ length trees = ap (λ (us : List Node). length us) e in
    omega arith

pub placed_of-requires-clause-known : goal.placed_of-requires-clause-known
placed_of-requires-clause-known c =
    let s = snapshot_of c.args.forest.now in
    let trees = trees_of c.args.forest.now in
    let x = c.tree-item.result in
    let within = seen_within c.trees-tree-items.result.now trees c.loop-index.index c.trees-tree-items.ensures c.loop-index-test.true in
    let same = seen_at c.trees-tree-items.result.now trees c.loop-index.index x (seen x) c.trees-tree-items.ensures c.loop-index-test.true c.tree-item.is in
    subst (λ (p : Parts). All (IsKnown p) (leaves (seen x))) (sym c.snapshot.ensures)
    (subst (λ (t : Node). All (IsKnown s) (leaves t)) same (tree_known s trees c.loop-index.index (seen x) c.recall_sound.ensures within))

pub returns-then-not-placed_of : goal.returns-then-not-placed_of
returns-then-not-placed_of c = λ plan are.
    let s = snapshot_of c.args.forest.now in
    let trees = trees_of c.args.forest.now in
    let x = c.tree-item.result in
    let i = c.loop-index.index in
    let within = seen_within c.trees-tree-items.result.now trees i c.trees-tree-items.ensures c.loop-index-test.true in
    let same = seen_at c.trees-tree-items.result.now trees i x (seen x) c.trees-tree-items.ensures c.loop-index-test.true c.tree-item.is in
    first_without (IsAllowed plan) trees i (seen x) within
    (refused_when s plan c.args.flags.now (slice_index_or trees i (seen x)) are (tree_known s trees i (seen x) c.recall_sound.ensures within)
    (tree_apart s trees i (seen x) c.recall_sound.ensures within)
    (told_at s c.snapshot.result.now c.args.flags.now (slice_index_or trees i (seen x))
    (seen x) c.placed_of.result.kept false c.snapshot.ensures same c.placed_of.ensures.kept
    (from_not c.placed_of.result.kept c.if-not-placed_of.true)))
    (λ k d low high. let before : k < length trees = omega arith in
    allowed_when s plan c.args.flags.now (slice_index_or trees k d) are (tree_known s trees k d c.recall_sound.ensures before)
    (c.loop-index.invariant k d low high))

pub loop-index-preserved : goal.loop-index-preserved
loop-index-preserved c =
    let s = snapshot_of c.args.forest.now in
    let trees = trees_of c.args.forest.now in
    let x = c.tree-item.result in
    AllWithin-more (λ t. keeps (is_flagged s c.args.flags.now) t ≡ true) trees 0 c.loop-index.index c.loop-index.invariant
    (λ d. told_at s c.snapshot.result.now c.args.flags.now (slice_index_or trees c.loop-index.index d) (seen x) c.placed_of.result.kept true c.snapshot.ensures
    (seen_at c.trees-tree-items.result.now trees c.loop-index.index x d c.trees-tree-items.ensures c.loop-index-test.true c.tree-item.is)
    c.placed_of.ensures.kept (from_not_false c.placed_of.result.kept c.if-not-placed_of.false))

pub returns : goal.returns
returns c = λ plan are k d l.
    let s = snapshot_of c.args.forest.now in
    let trees = trees_of c.args.forest.now in
    let seen_all : length trees ≤ c.loop-index.index =
    all_seen_trees c.trees-tree-items.result.now trees c.loop-index.index c.trees-tree-items.ensures c.loop-index-test.false in
    allowed_when s plan c.args.flags.now (slice_index_or trees k d) are (tree_known s trees k d c.recall_sound.ensures l)
    (c.loop-index.invariant k d (omega arith) (omega arith))
