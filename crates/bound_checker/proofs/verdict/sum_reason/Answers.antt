use Rattle.std.proofs.Common.{◌≡◌, ◌≤◌, ℕ, pos, List, length, refl, sym, ◌∙◌, ap, subst, arith}
use Rattle.plan_base.specs.declared.claim.Placement.{Placement}
use Rattle.plan_base.specs.Bound.{IsBound}
use Rattle.plan_base.specs.Starts.{value_of_plan}
use Rattle.bound_checker.proofs.Stages.{few_feasible, clear_of_quota_price_range, clear_of_value, certified_when}
use Rattle.bound_checker.proofs.verdict.sum_reason.Goals as goal

pub value_of-found-requires-clause-few : goal.value_of-found-requires-clause-few
value_of-found-requires-clause-few c =
    let s = c.args.snapshot.now in
    let plan = c.args.claim.now.placements in
    let few = few_feasible s plan c.recall_valid.ensures.orderly c.requires.feasible in
    let same : length c.as_slice.result.now ≡ length plan = ap (λ (xs : List Placement). length xs) c.as_slice.ensures in
    omega arith

pub returns-then-claimed-found : goal.returns-then-claimed-found
returns-then-claimed-found c =
    let found : c.value_of-found.result ≡ value_of_plan c.args.snapshot.now c.args.claim.now.placements = c.value_of-found.ensures
    ∙ ap (λ (xs : List Placement). value_of_plan c.args.snapshot.now xs) c.as_slice.ensures in
    ((refl, found, c.if-claimed-found.true), clear_of_quota_price_range c.args.snapshot.now c.args.claim.now c.requires.feasible c.requires.prices)

pub returns-then-claimed-found-2 : goal.returns-then-claimed-found-2
returns-then-claimed-found-2 c =
    let found : c.value_of-found.result ≡ value_of_plan c.args.snapshot.now c.args.claim.now.placements = c.value_of-found.ensures
    ∙ ap (λ (xs : List Placement). value_of_plan c.args.snapshot.now xs) c.as_slice.ensures in (
      (refl, c.in_ok-found.ensures, c.if-claimed-found-2.true),
      clear_of_value c.args.snapshot.now c.args.claim.now c.requires.feasible c.requires.prices (c.if-claimed-found.false ∙ found),
    )

pub returns : goal.returns
returns c =
    let found : c.value_of-found.result ≡ value_of_plan c.args.snapshot.now c.args.claim.now.placements = c.value_of-found.ensures
    ∙ ap (λ (xs : List Placement). value_of_plan c.args.snapshot.now xs) c.as_slice.ensures in
    certified_when c.args.snapshot.now c.args.claim.now c.requires.feasible c.requires.prices (c.if-claimed-found.false ∙ found)
    (subst (λ (b : ℕ). IsBound c.args.snapshot.now c.args.claim.now.prices.0 c.args.claim.now.quota_prices.0 (pos b))
    (sym c.if-claimed-found-2.false) c.in_ok-found.ensures)
