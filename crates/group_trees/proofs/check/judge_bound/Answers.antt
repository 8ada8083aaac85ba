use Rattle.std.proofs.Common.{ℕ, pos, List, All, refl, sym, subst}
use Rattle.std.proofs.lemmas.Option.{MatchOption-at_some, MatchOption-at_none}
use Rattle.plan_base.specs.declared.claim.Placement.{Placement}
use Rattle.plan_base.specs.Verdict.{IsFirst}
use Rattle.group_trees.specs.Forests.{IsAt}
use Rattle.group_trees.specs.Plans.{IsAllowed}
use Rattle.group_trees.specs.Rebates.{IsForestBound}
use Rattle.group_trees.specs.Built.{snapshot_of, trees_of}
use Rattle.group_trees.proofs.Judging.{tree_first, bound_first, certified_when}
use Rattle.group_trees.proofs.check.judge_bound.Goals as goal

pub returns-in-Some : goal.returns-in-Some
returns-in-Some c =
    let trees = trees_of c.args.forest.now in
    let plan = c.as_slice.result.now in
    let found : IsFirst (IsAt (λ t. ¬ (IsAllowed plan t)) trees) c.in-Some.tree =
    MatchOption-at_some (All (IsAllowed plan) trees)
    (IsFirst (IsAt (λ t. ¬ (IsAllowed plan t)) trees)) c.in-Some.tree c.in-Some.is c.in_ok-tree.ensures in
    tree_first (snapshot_of c.args.forest.now) trees c.args.claim.now c.in-Some.tree c.requires.fit.placed
    (subst (λ (ps : List Placement). IsFirst (IsAt (λ t. ¬ (IsAllowed ps t)) trees) c.in-Some.tree) c.as_slice.ensures found)

pub returns-then-claimed-found : goal.returns-then-claimed-found
returns-then-claimed-found c =
    let trees = trees_of c.args.forest.now in
    let plan = c.as_slice.result.now in
    let all : All (IsAllowed plan) trees =
    MatchOption-at_none (All (IsAllowed plan) trees) (IsFirst (IsAt (λ t. ¬ (IsAllowed plan t)) trees)) c.in_default.is c.in_ok-tree.ensures in
    let allowed : All (IsAllowed c.args.claim.now.placements) trees = subst (λ (ps : List Placement). All (IsAllowed ps) trees) c.as_slice.ensures all in
    bound_first (snapshot_of c.args.forest.now) trees c.args.claim.now c.args.claim.now.bound c.forest_bound-found.result c.requires.fit allowed refl
    c.forest_bound-found.ensures c.if-claimed-found.true

pub returns : goal.returns
returns c =
    let trees = trees_of c.args.forest.now in
    let plan = c.as_slice.result.now in
    let all : All (IsAllowed plan) trees =
    MatchOption-at_none (All (IsAllowed plan) trees) (IsFirst (IsAt (λ t. ¬ (IsAllowed plan t)) trees)) c.in_default.is c.in_ok-tree.ensures in
    let allowed : All (IsAllowed c.args.claim.now.placements) trees = subst (λ (ps : List Placement). All (IsAllowed ps) trees) c.as_slice.ensures all in (
      certified_when (snapshot_of c.args.forest.now) trees c.args.claim.now c.requires.fit allowed
          (subst (λ (b : ℕ). IsForestBound (snapshot_of c.args.forest.now) trees c.args.claim.now.prices.0 (pos b))
          (sym c.if-claimed-found.false) c.forest_bound-found.ensures),
      refl,
      refl,
    )
