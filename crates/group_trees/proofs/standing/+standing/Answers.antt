use Rattle.std.proofs.Common.{rules, ◌≡◌, ◌<◌, ◌++◌, ◌&&◌, ◌||◌, ◌==◌, ℕ, zero, suc, Bool, List, [], ◌∷◌, length, slice_index_or, All, refl, sym, ap}
use Rattle.std.proofs.Common.{◌∙◌, subst, arith}
use Rattle.std.proofs.lemmas.List.Elements.{All-contains, All-contains_itself, Contains-append_left, Contains-append_right}
use Rattle.plan_base.specs.declared.parts.Parts.{Parts}
use Rattle.plan_base.specs.Requests.{IsKnown}
use Rattle.group_trees.specs.declared.tree.Tree.{Tree, the_lemmas}
use Rattle.group_trees.specs.Trees.{Node, leaf, all_of, seen, all_seen}
use Rattle.group_trees.specs.Choices.{leaves, all_leaves}
use Rattle.group_trees.specs.Standings.{node_count, touched_count, keeps, all_keep, is_flagged}
use Rattle.group_trees.proofs.Seen.{seen-Leaf, seen-And}
use Rattle.group_trees.proofs.standing.+standing.Goals as goal

known_leaf : (s : Parts) (t : Node) (r : ℕ) → t ≡ leaf r → All (IsKnown s) (leaves t) → IsKnown s r
known_leaf s t r e h = (subst (λ (u : Node). All (IsKnown s) (leaves u)) e h) 0 r (omega arith)

known_at : (s : Parts) (xs : List Tree) (i : ℕ) (d : Tree) → i < length xs → All (IsKnown s) (all_leaves (all_seen xs))
    → All (IsKnown s) (leaves (seen (slice_index_or xs i d)))
known_at s [] i d l h = absurd (omega arith)
known_at s (x ∷ xs) zero d l h = λ k e m. All-contains (IsKnown s) (leaves (seen x) ++ all_leaves (all_seen xs)) _ h
    (Contains-append_left (leaves (seen x)) (all_leaves (all_seen xs)) _ (All-contains_itself (leaves (seen x)) k e m))
known_at s (x ∷ xs) (suc i) d l h =
    known_at s xs i d (omega arith)
    (λ k e m. All-contains (IsKnown s) (leaves (seen x) ++ all_leaves (all_seen xs)) _ h
    (Contains-append_right (leaves (seen x)) (all_leaves (all_seen xs)) _ (All-contains_itself (all_leaves (all_seen xs)) k e m)))

count_seen : (xs : List Tree) → node_count (all_seen xs) ≡ length xs
count_seen [] = refl
count_seen (x ∷ xs) = ap suc (count_seen xs)

kept_all : (p : ℕ → Bool) (t : Node) (xs : List Tree) (kept all : Bool) (touched n : ℕ) → t ≡ all_of (all_seen xs)
    → kept ≡ (all && ((touched == 0) || (touched == n))) → all ≡ all_keep p (all_seen xs) → touched ≡ touched_count p (all_seen xs) → n ≡ length xs
    → kept ≡ keeps p t
kept_all p t xs kept all touched n e is ha ht hn =
    is ∙ ap (λ (b : Bool). b && ((touched == 0) || (touched == n))) ha ∙ ap (λ (m : ℕ). all_keep p (all_seen xs) && ((m == 0) || (m == n))) ht
    ∙ ap (λ (m : ℕ). all_keep p (all_seen xs) && ((touched_count p (all_seen xs) == 0) || (touched_count p (all_seen xs) == m)))
    (hn ∙ sym (count_seen xs)) ∙ ap (keeps p) (sym e)

pub placed_of-known_place-requires : goal.placed_of-known_place-requires
placed_of-known_place-requires t c =
    known_leaf c.args.snapshot.now (seen c.args.tree.now) c.in-Leaf.request.0 (ap seen c.in-Leaf.is ∙ seen-Leaf c.in-Leaf.request) c.requires.known

pub placed_of-returns-in-And-clause-kept : goal.placed_of-returns-in-And-clause-kept
placed_of-returns-in-And-clause-kept t c =
    let n : c.len.result ≡ length c.in-And.children.items = search rules in
    kept_all (is_flagged c.args.snapshot.now c.args.flags.now)
    (seen c.args.tree.now) c.in-And.children.items c.of_all.result.kept c.placed_of_all-in-And.result.kept
    c.placed_of_all-in-And.result.touched c.len.result
    (ap seen c.in-And.is ∙ seen-And c.in-And.children) c.of_all.ensures.kept c.placed_of_all-in-And.ensures.kept c.placed_of_all-in-And.ensures.touched n

pub placed_of_all-placed_of-one-requires : goal.placed_of_all-placed_of-one-requires
placed_of_all-placed_of-one-requires t c = (
  search (rules, the_lemmas),
  (
    subst (λ (y : Tree). All (IsKnown c.args.snapshot.now) (leaves (seen y))) (sym c.tree-item.is)
        (known_at c.args.snapshot.now c.deref-tree-items.result.now c.loop-tree.tree-index c.tree-item.result (omega arith)
        (subst (λ (xs : List Tree). All (IsKnown c.args.snapshot.now) (all_leaves (all_seen xs))) (sym c.deref-tree-items.ensures.value) c.requires.known)),
    c.requires.flags,
  ),
)
