-- What a forest says of each of its trees.
use Rattle.std.proofs.Common.{◌≡◌, ◌≢◌, ℕ, zero, suc, ◌+◌, ◌*◌, ◌≤◌, ◌<◌, Bool, true, false, ◌&&◌, ℤ, pos, ◌≤ℤ◌, List, [], ◌∷◌, ◌++◌, length, map}
use Rattle.std.proofs.Common.{slice_index_or, All, AllPairs, Contains, refl, sym, ap, ◌∙◌, subst, arith}
use Rattle.std.proofs.lemmas.Int.{ints}
use Rattle.std.proofs.lemmas.List.{length-append, length-map, get_or-map}
use Rattle.std.proofs.lemmas.List.Elements.{All-head, All-tail, All-contains_itself, Contains-append_left, Contains-append_right}
use Rattle.plan_base.specs.declared.parts.Parts.{Parts}
use Rattle.plan_base.specs.Requests.{listed, IsKnown}
use Rattle.plan_base.proofs.Known.{known_as}
use Rattle.plan_base.proofs.RoundPrices.{IsUpTo}
use Rattle.plan_base.proofs.Lists.{contains_map, length_among}
use Rattle.group_trees.specs.declared.tree.Tree.{Tree}
use Rattle.group_trees.specs.Trees.{Node, leaf, many, one_of, all_of, Nodes, none, and_then, seen, trees_seen, has_child, is_full, are_full}
use Rattle.group_trees.specs.Choices.{leaves, all_leaves}
use Rattle.group_trees.specs.Forests.{forest_leaves, IsForest}
use Rattle.group_trees.specs.Pairs.{IsSound}
use Rattle.group_trees.specs.Rebates.{IsTreeRebate, IsRebateAt}
use Rattle.plan_base.specs.Bound.{price}
use Rattle.plan_base.specs.Verdict.{IsPriceInRange}
use Rattle.group_trees.proofs.Choices.{no_choice, choice_short}
use Rattle.group_trees.proofs.Sums.{total_between, price_up_to}
use Rattle.group_trees.proofs.Apart.{pairs_left, pairs_right}
use Rattle.group_trees.proofs.ForestDuality.{leaf_known, leaves_once}

-- a leaf of a tree is a leaf of the forest
pub leaf_of_forest : (trees : List Node) (i : ℕ) (d : Node) (r : ℕ) → i < length trees → Contains (leaves (slice_index_or trees i d)) r
    → Contains (forest_leaves trees) r
leaf_of_forest [] i d r l c = absurd (omega arith)
leaf_of_forest (t ∷ ts) zero d r l c = Contains-append_left (leaves t) (forest_leaves ts) r c
leaf_of_forest (t ∷ ts) (suc i) d r l c = Contains-append_right (leaves t) (forest_leaves ts) r (leaf_of_forest ts i d r (omega arith) c)

tree_short : (trees : List Node) (i : ℕ) (d : Node) → i < length trees → length (leaves (slice_index_or trees i d)) ≤ length (forest_leaves trees)
tree_short [] i d l = absurd (omega arith)
tree_short (t ∷ ts) zero d l = let both : length (leaves t ++ forest_leaves ts) ≡ length (leaves t) + length (forest_leaves ts) =
    length-append (leaves t) (forest_leaves ts) in omega arith
tree_short (t ∷ ts) (suc i) d l =
    let both : length (leaves t ++ forest_leaves ts) ≡ length (leaves t) + length (forest_leaves ts) = length-append (leaves t) (forest_leaves ts) in
    let rest = tree_short ts i d (omega arith) in
    omega arith

number_listed : (s : Parts) (r : ℕ) → IsKnown s r → Contains (map (λ x. x.request.request.0) (listed s)) r
number_listed s r k =
    let x = known_as s r k in
    subst (λ (n : ℕ). Contains (map (λ x. x.request.request.0) (listed s)) n) x.1.number (contains_map (λ x. x.request.request.0) (listed s) x.0 x.1.in_list)

leaves_few : (s : Parts) (trees : List Node) → IsForest s trees → length (forest_leaves trees) ≤ length (listed s)
leaves_few s trees forest =
    let among : length (forest_leaves trees) ≤ length (map (λ x. x.request.request.0) (listed s)) =
    length_among (forest_leaves trees) _ (leaves_once s trees forest)
    (λ i d l. number_listed s _ (leaf_known s trees _ forest (All-contains_itself (forest_leaves trees) i d l))) in
    let same : length (map (λ x. x.request.request.0) (listed s)) ≡ length (listed s) = length-map (listed s) (λ x. x.request.request.0) in
    omega arith

-- each tree has requests alone, few of them, and no node without children
pub tree_sound : (s : Parts) (trees : List Node) (i : ℕ) (d : Node) → length (listed s) ≤ 1024 → IsForest s trees → i < length trees
    → IsSound s (slice_index_or trees i d)
tree_sound s trees i d few forest l =
    let short = tree_short trees i d l in
    let all = leaves_few s trees forest in
    record {
      known = λ j e m. leaf_known s trees _ forest (leaf_of_forest trees i d _ l (All-contains_itself (leaves (slice_index_or trees i d)) j e m));
      few = omega arith;
      full = forest.full i d l;
    }

pub tree_once : (trees : List Node) (i : ℕ) (d : Node) → i < length trees → AllPairs (λ a b. a ≢ b) (forest_leaves trees)
    → AllPairs (λ a b. a ≢ b) (leaves (slice_index_or trees i d))
tree_once [] i d l h = absurd (omega arith)
tree_once (t ∷ ts) zero d l h = pairs_left (leaves t) (forest_leaves ts) h
tree_once (t ∷ ts) (suc i) d l h = tree_once ts i d (omega arith) (pairs_right (leaves t) (forest_leaves ts) h)

-- what is seen of a tree that was read
pub seen_at : (ts : List Tree) (trees : List Node) (i : ℕ) (x : Tree) (d : Node) → trees_seen ts ≡ trees → i < length ts → x ≡ slice_index_or ts i x
    → slice_index_or trees i d ≡ seen x
seen_at ts trees i x d e l is = ap (λ (us : List Node). slice_index_or us i d) (sym e) ∙ get_or-map seen ts i x d l ∙ ap seen (sym is)

pub seen_within : (ts : List Tree) (trees : List Node) (i : ℕ) → trees_seen ts ≡ trees → i < length ts → i < length trees
seen_within ts trees i e l =
    let same : length (trees_seen ts) ≡ length ts = length-map ts seen in
    let all : length (trees_seen ts) ≡ length trees = ap (λ (us : List Node). length us) e in
    omega arith

pub within_seen : (ts : List Tree) (trees : List Node) (i : ℕ) → trees_seen ts ≡ trees → i < length trees → i < length ts
within_seen ts trees i e l =
    let same : length (trees_seen ts) ≡ length ts = length-map ts seen in
    let all : length (trees_seen ts) ≡ length trees = ap (λ (us : List Node). length us) e in
    omega arith

pub tree_known : (s : Parts) (trees : List Node) (i : ℕ) (d : Node) → IsForest s trees → i < length trees → All (IsKnown s) (leaves (slice_index_or trees i d))
tree_known s trees i d forest l =
    λ j e m. leaf_known s trees _ forest (leaf_of_forest trees i d _ l (All-contains_itself (leaves (slice_index_or trees i d)) j e m))

pub tree_apart : (s : Parts) (trees : List Node) (i : ℕ) (d : Node) → IsForest s trees → i < length trees
    → AllPairs (λ a b. a ≢ b) (leaves (slice_index_or trees i d))
tree_apart s trees i d forest l = tree_once trees i d l (leaves_once s trees forest)

and_left : (a b : Bool) → (a && b) ≡ true → a ≡ true
and_left true b h = refl
and_left false b h = h

and_right : (a b : Bool) → (a && b) ≡ true → b ≡ true
and_right true b h = h
and_right false b h = cc

-- a tree in which each node has children has a leaf
mutual
  some_leaf : (t : Node) → is_full t ≡ true → 1 ≤ length (leaves t)
  some_leaf (leaf r) h = omega arith
  some_leaf (many ts) h = some_leaves ts (and_left (has_child ts) (are_full ts) h) (and_right (has_child ts) (are_full ts) h)
  some_leaf (one_of ts) h = some_leaves ts (and_left (has_child ts) (are_full ts) h) (and_right (has_child ts) (are_full ts) h)
  some_leaf (all_of ts) h = some_leaves ts (and_left (has_child ts) (are_full ts) h) (and_right (has_child ts) (are_full ts) h)

  some_leaves : (ts : Nodes) → has_child ts ≡ true → are_full ts ≡ true → 1 ≤ length (all_leaves ts)
  some_leaves none c h = cc
  some_leaves (and_then t ts) c h =
      let one : 1 ≤ length (leaves t) = some_leaf t (and_left (is_full t) (are_full ts) h) in
      let both : length (leaves t ++ all_leaves ts) ≡ length (leaves t) + length (all_leaves ts) = length-append (leaves t) (all_leaves ts) in
      omega arith

trees_short : (trees : List Node) → All (λ t. is_full t ≡ true) trees → length trees ≤ length (forest_leaves trees)
trees_short [] h = omega arith
trees_short (t ∷ ts) h =
    let one : 1 ≤ length (leaves t) = some_leaf t (All-head (λ u. is_full u ≡ true) t ts h) in
    let rest : length ts ≤ length (forest_leaves ts) = trees_short ts (All-tail (λ u. is_full u ≡ true) t ts h) in
    let both : length (leaves t ++ forest_leaves ts) ≡ length (leaves t) + length (forest_leaves ts) = length-append (leaves t) (forest_leaves ts) in
    omega arith

-- there are no more trees than requests
pub trees_few : (s : Parts) (trees : List Node) → length (listed s) ≤ 1024 → IsForest s trees → length trees ≤ 1024
trees_few s trees few forest =
    let short : length trees ≤ length (forest_leaves trees) = trees_short trees forest.full in
    let all : length (forest_leaves trees) ≤ length (listed s) = leaves_few s trees forest in
    omega arith

-- a rebate is not negative, and at most 10^12 for each request
pub rebate_between : (s : Parts) (trees : List Node) (prices : List ℤ) (i : ℕ) (b : ℤ) → length (listed s) ≤ 1024 → IsForest s trees
    → All IsPriceInRange prices → i < length trees → IsRebateAt s prices trees i b
    → (pos 0 ≤ℤ b) × (b ≤ℤ pos 1024000000000000)
rebate_between s trees prices i b few forest range l h =
    let t : Node = slice_index_or trees i (leaf 0) in
    let rebate : IsTreeRebate (price s prices) t b = h (leaf 0) in
    let sound : IsSound s t = tree_sound s trees i (leaf 0) few forest l in
    let least : pos 0 ≤ℤ b = rebate.bound [] (no_choice t) in
    let reached = rebate.reached in
    let few_leaves : length reached.0 ≤ 1024 = let short = choice_short t reached.0 reached.1 in let most = sound.few in omega arith in
    let sum : IsUpTo (length reached.0 * 1000000000000) b = subst (IsUpTo (length reached.0 * 1000000000000)) reached.2
    (total_between 1000000000000 (price s prices) reached.0 (price_up_to 1000000000000 s prices range)) in
    let most : b ≤ℤ pos (length reached.0 * 1000000000000) = sum.1 in
    (least, omega (arith, ints))
