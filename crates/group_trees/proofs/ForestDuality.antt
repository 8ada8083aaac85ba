-- Weak duality with trees: what a plan is worth by telescope and by tree.
use Rattle.std.proofs.Common.{◌≡◌, ◌≢◌, ℕ, suc, ◌≤◌, ◌<◌, ◌⊎◌, inl, inr, Bool, ℤ, pos, ◌+ℤ◌, ◌≤ℤ◌, List, [], ◌∷◌, ◌++◌, length, slice_index_or, filter}
use Rattle.std.proofs.Common.{All, AllPairs, Contains, ◌∙◌, ap, arith}
use Rattle.std.proofs.lemmas.Int.{ints}
use Rattle.std.proofs.lemmas.List.Elements.{All-map, filter-append}
use Rattle.plan_base.specs.declared.parts.Parts.{Parts}
use Rattle.plan_base.specs.declared.claim.Placement.{Placement}
use Rattle.plan_base.specs.Sums.{total, IsSumOf}
use Rattle.plan_base.specs.Requests.{listed, place_of, IsKnown}
use Rattle.plan_base.specs.Snapshot.{IsOrderly}
use Rattle.plan_base.specs.Starts.{worth_at, value_of_plan}
use Rattle.plan_base.specs.Feasible.{requests_of}
use Rattle.plan_base.specs.Bound.{price, weight, surplus}
use Rattle.plan_base.proofs.Duality.{telescope_part}
use Rattle.plan_base.proofs.Totals.{total_map, total_add, total_append, total_of_naturals}
use Rattle.group_trees.specs.Trees.{Node}
use Rattle.group_trees.specs.Choices.{leaves}
use Rattle.group_trees.specs.Forests.{forest_leaves, times, IsForest}
use Rattle.group_trees.specs.Plans.{is_placed, IsForestFeasible}
use Rattle.group_trees.specs.Rebates.{IsRebateAt, IsForestBound}
use Rattle.group_trees.proofs.Shares.{once_from_times, contained_times, placed_total}

place_cases : (a b : ℕ) → (a < b) ⊎ (b ≤ a)
place_cases a b = grind arith

at_most : (a b : ℕ) → ¬ (b < a) → a ≤ b
at_most a b h = elim (place_cases b a) [ inl l ↦ absurd (h l) | inr l ↦ l ]

pub leaf_known : (s : Parts) (trees : List Node) (r : ℕ) → IsForest s trees → Contains (forest_leaves trees) r → IsKnown s r
leaf_known s trees r forest has = elim (place_cases (place_of s r) (length (listed s))) [
  | inl l ↦ l
  | inr l ↦ absurd (forest.leaves r (inl (has, λ known. omega arith)))
]

same_number : (a b : ℕ) → ¬ (a ≢ b) → a ≡ b
same_number a b h = elim (three a b) [ inl e ↦ e | inr n ↦ absurd (h n) ]
  where
    three : (a b : ℕ) → (a ≡ b) ⊎ (a ≢ b)
    three a b = grind arith

pub leaf_once : (s : Parts) (trees : List Node) (r : ℕ) → IsForest s trees → IsKnown s r → times r (forest_leaves trees) ≡ 1
leaf_once s trees r forest known = same_number _ 1 (λ other. forest.leaves r (inr (known, other)))

pub known_leaf : (s : Parts) (trees : List Node) (r : ℕ) → IsForest s trees → IsKnown s r → Contains (forest_leaves trees) r
known_leaf s trees r forest known =
    contained_times r (forest_leaves trees) (let one : times r (forest_leaves trees) ≡ 1 = leaf_once s trees r forest known in omega arith)

pub leaves_once : (s : Parts) (trees : List Node) → IsForest s trees → AllPairs (λ a b. a ≢ b) (forest_leaves trees)
leaves_once s trees forest = once_from_times (forest_leaves trees)
    (λ r has. let one : times r (forest_leaves trees) ≡ 1 = leaf_once s trees r forest (leaf_known s trees r forest has) in omega arith)

-- ---- by tree

-- where what is placed of each tree sums up to no more than its part, all of it sums up to no more than the parts
pub shares : (c : ℕ → ℤ) (p : ℕ → Bool) (trees : List Node) (parts : List ℤ) → length parts ≡ length trees
    → ((i : ℕ) (d : Node) → i < length trees → total c (filter p (leaves (slice_index_or trees i d))) ≤ℤ slice_index_or parts i (pos 0))
    → total c (filter p (forest_leaves trees)) ≤ℤ total (λ x. x) parts
shares c p [] [] e h = omega (arith, ints)
shares c p [] (b ∷ bs) e h = absurd (omega arith)
shares c p (t ∷ ts) [] e h = absurd (omega arith)
shares c p (t ∷ ts) (b ∷ bs) e h =
    let here : total c (filter p (leaves t)) ≤ℤ b = h 0 t (omega arith) in
    let rest : total c (filter p (forest_leaves ts)) ≤ℤ total (λ x. x) bs = shares c p ts bs (omega arith) (λ i d l. h (suc i) d (omega arith)) in
    let both : total c (filter p (leaves t ++ forest_leaves ts)) ≡ total c (filter p (leaves t)) +ℤ total c (filter p (forest_leaves ts)) =
    ap (total c) (filter-append p (leaves t) (forest_leaves ts)) ∙ total_append c (filter p (leaves t)) (filter p (forest_leaves ts)) in
    omega (arith, ints)

tree_part : (s : Parts) (trees : List Node) (prices : List ℤ) (plan : List Placement) (b : ℤ) → IsForest s trees → IsForestFeasible s trees plan
    → IsSumOf (length trees) (IsRebateAt s prices trees) b → total (price s prices) (requests_of plan) ≤ℤ b
tree_part s trees prices plan b forest f sum =
    let rs : List ℕ = requests_of plan in
    let known : All (λ r. IsKnown s r) rs = All-map (λ r. IsKnown s r) (λ p. p.request.0) plan (λ i d l. (f.possible i d l).known) in
    let placed : total (price s prices) rs ≡ total (price s prices) (filter (is_placed rs) (forest_leaves trees)) =
    placed_total (price s prices) rs (forest_leaves trees) f.once (leaves_once s trees forest)
    (λ i d l. known_leaf s trees _ forest (known i d l)) in
    let most : total (price s prices) (filter (is_placed rs) (forest_leaves trees)) ≤ℤ total (λ x. x) sum.parts =
    shares (price s prices) (is_placed rs) trees sum.parts sum.count
    (λ i d l. (sum.each i l d).bound (filter (is_placed rs) (leaves (slice_index_or trees i d))) (f.allowed i d l)) in
    let whole : total (λ x. x) sum.parts ≡ b = sum.sum in
    omega (arith, ints)

-- no plan that is feasible for a forest is worth more than the bound that prices give
pub duality : (s : Parts) (trees : List Node) (prices : List ℤ) (plan : List Placement) (b : ℤ) → IsOrderly s → IsForest s trees
    → IsForestFeasible s trees plan → IsForestBound s trees prices b → pos (value_of_plan s plan) ≤ℤ b
duality s trees prices plan b o forest f bound =
    let value : total (λ p. pos (worth_at s p)) plan ≡ pos (value_of_plan s plan) = total_of_naturals (worth_at s) plan in
    let both : total (λ p. pos (worth_at s p)) plan ≡ surplus s prices plan +ℤ total (λ p. price s prices p.request.0) plan =
    total_add (λ p. pos (worth_at s p)) (weight s prices) (λ p. price s prices p.request.0) (λ p. omega (arith, ints)) plan in
    let placed : total (λ p. price s prices p.request.0) plan ≡ total (price s prices) (requests_of plan) =
    total_map (price s prices) (λ p. p.request.0) plan in
    let one : surplus s prices plan ≤ℤ bound.bests = telescope_part s prices plan bound.bests o f.possible f.disjoint bound.best in
    let two : total (price s prices) (requests_of plan) ≤ℤ bound.rebates = tree_part s trees prices plan bound.rebates forest f bound.rebate in
    let whole : b ≡ bound.bests +ℤ bound.rebates = bound.whole in
    omega (arith, ints)
