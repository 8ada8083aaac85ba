use Rattle.std.proofs.Common.{rules, ◌≡◌, ℕ, ◌+◌, ◌-◌, drop, sym, ap, ◌∙◌, subst, arith}
use Rattle.plan_base.specs.declared.parts.Parts.{Parts}
use Rattle.plan_base.specs.Requests.{IsKnown}
use Rattle.plan_base.specs.Bound.{price}
use Rattle.group_trees.specs.declared.tree.Tree.{the_lemmas}
use Rattle.group_trees.specs.Trees.{Node, leaf, many, one_of, all_of, seen, all_seen}
use Rattle.group_trees.specs.Choices.{IsTreeChoice, IsUnion, IsOfOne, IsWhole}
use Rattle.group_trees.specs.Rebates.{IsGreatest}
use Rattle.group_trees.specs.Pairs.{IsSome, IsPair, IsSound}
use Rattle.group_trees.proofs.Seen.{seen-Leaf, seen-Many, seen-OneOf, seen-And}
use Rattle.group_trees.proofs.Sound.{sound_many, sound_one_of, sound_all_of, some_child}
use Rattle.group_trees.proofs.Kids.{sound_read, union_last, union_next, best_last, best_next, whole_end, whole_next, child_sums, union_sums, whole_sum}
use Rattle.group_trees.proofs.Kids.{leaf_pair, many_pair, one_of_pair, all_of_pair}
use Rattle.group_trees.proofs.rebate.+rebate.Goals as goal

known_leaf : (s : Parts) (t : Node) (r : ℕ) → t ≡ leaf r → IsSound s t → IsKnown s r
known_leaf s t r e h = let sound : IsSound s (leaf r) = subst (IsSound s) e h in sound.known 0 r (omega arith)

pub sums_of-price_of-requires-clause-known : goal.sums_of-price_of-requires-clause-known
sums_of-price_of-requires-clause-known t c =
    known_leaf c.args.snapshot.now (seen c.args.tree.now) c.in-Leaf.request.0 (ap seen c.in-Leaf.is ∙ seen-Leaf c.in-Leaf.request) c.requires.sound

pub sums_of-returns-in-Leaf : goal.sums_of-returns-in-Leaf
sums_of-returns-in-Leaf t c =
    let b = c.beside_nothing.ensures in
    leaf_pair c.args.snapshot.now c.args.prices.now.0 (seen c.args.tree.now) c.in-Leaf.request.0 c.price_of.result.value c.beside_nothing.result
    (ap seen c.in-Leaf.is ∙ seen-Leaf c.in-Leaf.request) c.price_of.ensures b.some b.least b.above b.one

pub sums_of-union_of-requires : goal.sums_of-union_of-requires
sums_of-union_of-requires t c =
    let here : IsSound c.args.snapshot.now (many (all_seen c.in-Many.children.items)) =
    subst (IsSound c.args.snapshot.now) (ap seen c.in-Many.is ∙ seen-Many c.in-Many.children) c.requires.sound in (
      search (rules, the_lemmas),
      (
        c.requires.count,
        (c.requires.range, (sound_many c.args.snapshot.now (all_seen c.in-Many.children.items) here, some_child c.in-Many.children.items here.full)),
      ),
    )

pub sums_of-best_child-requires : goal.sums_of-best_child-requires
sums_of-best_child-requires t c =
    let here : IsSound c.args.snapshot.now (one_of (all_seen c.in-OneOf.children.items)) =
    subst (IsSound c.args.snapshot.now) (ap seen c.in-OneOf.is ∙ seen-OneOf c.in-OneOf.children) c.requires.sound in (
      search (rules, the_lemmas),
      (
        c.requires.count,
        (
          c.requires.range,
          (
            sound_one_of c.args.snapshot.now (all_seen c.in-OneOf.children.items) here,
            some_child c.in-OneOf.children.items here.full,
          ),
        ),
      ),
    )

pub sums_of-whole_of-requires : goal.sums_of-whole_of-requires
sums_of-whole_of-requires t c =
    let here : IsSound c.args.snapshot.now (all_of (all_seen c.in-And.children.items)) =
    subst (IsSound c.args.snapshot.now) (ap seen c.in-And.is ∙ seen-And c.in-And.children) c.requires.sound in
    (search (rules, the_lemmas), (c.requires.count, (c.requires.range, sound_all_of c.args.snapshot.now (all_seen c.in-And.children.items) here)))

pub sums_of-returns-in-Many : goal.sums_of-returns-in-Many
sums_of-returns-in-Many t c =
    many_pair c.args.snapshot.now c.args.prices.now.0 (seen c.args.tree.now) (all_seen c.in-Many.children.items) c.union_of.result
    (ap seen c.in-Many.is ∙ seen-Many c.in-Many.children) c.union_of.ensures

pub sums_of-returns-in-OneOf : goal.sums_of-returns-in-OneOf
sums_of-returns-in-OneOf t c =
    let b = c.beside_nothing-in-OneOf.ensures in
    one_of_pair c.args.snapshot.now c.args.prices.now.0 (seen c.args.tree.now)
    (all_seen c.in-OneOf.children.items) c.best_child.result.value c.beside_nothing-in-OneOf.result
    (ap seen c.in-OneOf.is ∙ seen-OneOf c.in-OneOf.children) c.best_child.ensures b.some b.least b.above b.one

pub sums_of-returns-in-And : goal.sums_of-returns-in-And
sums_of-returns-in-And t c =
    let b = c.beside_nothing-in-And.ensures in
    let here : IsSound c.args.snapshot.now (all_of (all_seen c.in-And.children.items)) =
    subst (IsSound c.args.snapshot.now) (ap seen c.in-And.is ∙ seen-And c.in-And.children) c.requires.sound in
    all_of_pair c.args.snapshot.now c.args.prices.now.0
    (seen c.args.tree.now) c.in-And.children.items c.whole_of.result.value c.beside_nothing-in-And.result
    (ap seen c.in-And.is ∙ seen-And c.in-And.children)
    (some_child c.in-And.children.items here.full) c.whole_of.ensures b.some b.least b.above b.one

pub union_of-sums_of-sum-requires : goal.union_of-sums_of-sum-requires
union_of-sums_of-sum-requires t c = (
  search (rules, the_lemmas),
  (
    c.requires.count,
    (
      c.requires.range,
      sound_read c.args.snapshot.now c.args.children.now.items (c.len-last.result - 1) c.index.result.now
          (omega arith) c.index.ensures c.requires.sound,
    ),
  ),
)

pub union_of-loop-index-init : goal.union_of-loop-index-init
union_of-loop-index-init t c =
    union_last c.args.snapshot.now c.args.prices.now.0 c.args.children.now.items c.requires.range c.requires.sound
    (c.len-last.result - 1) c.index.result.now c.sums_of-sum.result (omega arith) c.index.ensures c.sums_of-sum.ensures

pub union_of-sums_of-requires : goal.union_of-sums_of-requires
union_of-sums_of-requires t c = (
  search (rules, the_lemmas),
  (
    c.requires.count,
    (
      c.requires.range,
      sound_read c.args.snapshot.now c.args.children.now.items (c.loop-index.index - 1) c.index-in-loop-index.result.now
          (omega arith) c.index-in-loop-index.ensures c.requires.sound,
    ),
  ),
)

pub union_of-joined-sum-requires-clause-first : goal.union_of-joined-sum-requires-clause-first
union_of-joined-sum-requires-clause-first t c =
    child_sums c.args.snapshot.now c.args.prices.now.0 c.args.children.now.items c.requires.range c.requires.sound
    (c.loop-index.index - 1) c.index-in-loop-index.result.now c.sums_of.result (omega arith) c.index-in-loop-index.ensures c.sums_of.ensures

pub union_of-joined-sum-requires-clause-rest : goal.union_of-joined-sum-requires-clause-rest
union_of-joined-sum-requires-clause-rest t c =
    union_sums c.args.snapshot.now c.args.prices.now.0 c.args.children.now.items c.requires.range c.requires.sound c.loop-index.index
    c.loop-index.sum c.loop-index.invariant

pub union_of-loop-index-preserved : goal.union_of-loop-index-preserved
union_of-loop-index-preserved t c =
    let up : c.loop-index.index - 1 + 1 ≡ c.loop-index.index = omega arith in
    union_next c.args.snapshot.now c.args.prices.now.0 c.args.children.now.items c.requires.range c.requires.sound
    (c.loop-index.index - 1) c.index-in-loop-index.result.now c.sums_of.result c.loop-index.sum c.joined-sum.result
    (omega arith) c.index-in-loop-index.ensures c.sums_of.ensures (rw up c.loop-index.invariant) c.joined-sum.ensures

pub union_of-returns : goal.union_of-returns
union_of-returns t c =
    let none : c.loop-index.index ≡ 0 = omega arith in
    subst (λ (n : ℕ). IsPair (IsUnion (all_seen (drop n c.args.children.now.items))) (price c.args.snapshot.now c.args.prices.now.0) c.loop-index.sum)
    none c.loop-index.invariant

pub best_child-sums_of-requires : goal.best_child-sums_of-requires
best_child-sums_of-requires t c = (
  search (rules, the_lemmas),
  (
    c.requires.count,
    (
      c.requires.range,
      sound_read c.args.snapshot.now c.args.children.now.items (c.len-last.result - 1) c.index.result.now
          (omega arith) c.index.ensures c.requires.sound,
    ),
  ),
)

pub best_child-loop-index-init : goal.best_child-loop-index-init
best_child-loop-index-init t c =
    best_last c.args.snapshot.now c.args.prices.now.0 c.args.children.now.items c.requires.range c.requires.sound
    (c.len-last.result - 1) c.index.result.now c.some_of-best.result.value (omega arith) c.index.ensures
    (subst (IsGreatest (IsSome (IsTreeChoice (seen c.index.result.now))) (price c.args.snapshot.now c.args.prices.now.0))
    (sym c.some_of-best.ensures) c.sums_of.ensures.some)

pub best_child-sums_of-requires-in-loop-index : goal.best_child-sums_of-requires-in-loop-index
best_child-sums_of-requires-in-loop-index t c = (
  search (rules, the_lemmas),
  (
    c.requires.count,
    (
      c.requires.range,
      sound_read c.args.snapshot.now c.args.children.now.items (c.loop-index.index - 1) c.index-in-loop-index.result.now
          (omega arith) c.index-in-loop-index.ensures c.requires.sound,
    ),
  ),
)

pub best_child-loop-index-preserved : goal.best_child-loop-index-preserved
best_child-loop-index-preserved t c =
    let up : c.loop-index.index - 1 + 1 ≡ c.loop-index.index = omega arith in
    best_next c.args.snapshot.now c.args.prices.now.0 c.args.children.now.items c.requires.range c.requires.sound
    (c.loop-index.index - 1) c.index-in-loop-index.result.now c.sums_of-in-loop-index.result.some c.loop-index.best.value
    c.better-best.result.value (omega arith) c.index-in-loop-index.ensures c.sums_of-in-loop-index.ensures.some
    (rw up c.loop-index.invariant) c.better-best.ensures.left c.better-best.ensures.right c.better-best.ensures.one

pub best_child-returns : goal.best_child-returns
best_child-returns t c =
    let none : c.loop-index.index ≡ 0 = omega arith in
    subst (λ (n : ℕ). IsGreatest (IsSome (IsOfOne (all_seen (drop n c.args.children.now.items))))
    (price c.args.snapshot.now c.args.prices.now.0) c.loop-index.best.value) none c.loop-index.invariant

pub whole_of-loop-index-init : goal.whole_of-loop-index-init
whole_of-loop-index-init t c =
    whole_end c.args.snapshot.now c.args.prices.now.0 c.args.children.now.items c.requires.range c.requires.sound c.len-index.result (omega arith)

pub whole_of-sums_of-requires : goal.whole_of-sums_of-requires
whole_of-sums_of-requires t c = (
  search (rules, the_lemmas),
  (
    c.requires.count,
    (
      c.requires.range,
      sound_read c.args.snapshot.now c.args.children.now.items (c.loop-index.index - 1) c.index.result.now
          (omega arith) c.index.ensures c.requires.sound,
    ),
  ),
)

pub whole_of-added-sum-requires-clause-first : goal.whole_of-added-sum-requires-clause-first
whole_of-added-sum-requires-clause-first t c =
    (child_sums c.args.snapshot.now c.args.prices.now.0 c.args.children.now.items c.requires.range c.requires.sound
    (c.loop-index.index - 1) c.index.result.now c.sums_of.result (omega arith) c.index.ensures c.sums_of.ensures).some

pub whole_of-added-sum-requires-clause-rest : goal.whole_of-added-sum-requires-clause-rest
whole_of-added-sum-requires-clause-rest t c =
    whole_sum c.args.snapshot.now c.args.prices.now.0 c.args.children.now.items c.requires.range c.requires.sound c.loop-index.index
    c.loop-index.sum.value c.loop-index.invariant

pub whole_of-loop-index-preserved : goal.whole_of-loop-index-preserved
whole_of-loop-index-preserved t c =
    let up : c.loop-index.index - 1 + 1 ≡ c.loop-index.index = omega arith in
    whole_next c.args.snapshot.now c.args.prices.now.0 c.args.children.now.items c.requires.range c.requires.sound
    (c.loop-index.index - 1) c.index.result.now c.sums_of.result.some c.loop-index.sum.value c.added-sum.result.value
    (omega arith) c.index.ensures c.sums_of.ensures.some (rw up c.loop-index.invariant) c.added-sum.ensures

pub whole_of-returns : goal.whole_of-returns
whole_of-returns t c =
    let none : c.loop-index.index ≡ 0 = omega arith in
    subst (λ (n : ℕ). IsGreatest (IsWhole (all_seen (drop n c.args.children.now.items)))
    (price c.args.snapshot.now c.args.prices.now.0) c.loop-index.sum.value) none c.loop-index.invariant
