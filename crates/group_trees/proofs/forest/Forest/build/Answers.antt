use Rattle.std.proofs.Common.{◌≡◌, ◌≤◌, ◌<◌, ℕ, true, false, List, All, subst}
use Rattle.std.proofs.lemmas.Option.{MatchOption-at_some}
use Rattle.plan_base.specs.declared.number.RequestNo.{RequestNo}
use Rattle.plan_base.specs.Verdict.{IsFirst}
use Rattle.group_trees.specs.declared.tree.Tree.{Tree}
use Rattle.group_trees.specs.Trees.{levels, is_full, trees_seen}
use Rattle.group_trees.specs.Forests.{forest_leaves, IsWrongLeaf, IsAt}
use Rattle.group_trees.proofs.Faults.{deep_first, empty_first, leaf_first}
use Rattle.group_trees.proofs.forest.Forest.build.Goals as goal

pub returns-in-Some-first_deep-clause-fault : goal.returns-in-Some-first_deep-clause-fault
returns-in-Some-first_deep-clause-fault c = λ told.
    deep_first c.args.snapshot.now (trees_seen c.args.trees.items) c.in-Some-first_deep.tree c.in_default.ensures
    (subst (λ (ts : List Tree). IsFirst (IsAt (λ t. 16 < levels t) (trees_seen ts)) c.in-Some-first_deep.tree) c.as_slice.ensures.value
    c.in-Some-first_deep.ensures)

pub returns-in-Some-first_empty-clause-fault : goal.returns-in-Some-first_empty-clause-fault
returns-in-Some-first_empty-clause-fault c = λ told.
    empty_first c.args.snapshot.now (trees_seen c.args.trees.items) c.in-Some-first_empty.tree c.in_default.ensures
    (subst (λ (ts : List Tree). All (λ t. levels t ≤ 16) (trees_seen ts)) c.as_slice.ensures.value c.in_default-first_deep.ensures)
    (subst (λ (ts : List Tree). IsFirst (IsAt (λ t. is_full t ≡ false) (trees_seen ts)) c.in-Some-first_empty.tree) c.as_slice-2.ensures.value
    c.in-Some-first_empty.ensures)

pub returns-in-Some-2-clause-fault : goal.returns-in-Some-2-clause-fault
returns-in-Some-2-clause-fault c = λ told.
    leaf_first c.args.snapshot.now (trees_seen c.args.trees.items) c.in-Some-2.request c.in_default.ensures
    (subst (λ (ts : List Tree). All (λ t. levels t ≤ 16) (trees_seen ts)) c.as_slice.ensures.value c.in_default-first_deep.ensures)
    (subst (λ (ts : List Tree). All (λ t. is_full t ≡ true) (trees_seen ts)) c.as_slice-2.ensures.value c.in_default-first_empty.ensures)
    (let wrong = IsWrongLeaf c.args.snapshot.now (forest_leaves (trees_seen c.args.trees.items)) in
    MatchOption-at_some ((r : ℕ) → ¬ (wrong r)) (λ (r : RequestNo). IsFirst wrong r.0) c.in-Some-2.request c.in-Some-2.is c.in_ok-request.ensures)
