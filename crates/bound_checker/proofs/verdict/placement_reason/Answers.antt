use Rattle.std.proofs.Common.{◌≡◌, ◌<◌, ℕ, List, length, ap, arith}
use Rattle.std.proofs.lemmas.Option.{MatchOption-at_some, MatchOption-at_none}
use Rattle.plan_base.specs.declared.claim.Placement.{Placement}
use Rattle.plan_base.specs.Starts.{ShareSlice}
use Rattle.plan_base.specs.Feasible.{IsEachOnce, IsDisjoint}
use Rattle.plan_base.specs.Verdict.{IsFirst, HasEarlier}
use Rattle.bound_checker.proofs.Stages.{earlier_within, impossible_within, unknown_first, twice_first, impossible_first, overlap_first, placed_when}
use Rattle.bound_checker.proofs.verdict.placement_reason.Goals as goal

pub returns-in-Some : goal.returns-in-Some
returns-in-Some c = unknown_first c.args.snapshot.now c.args.claim.now c.as_slice-plan.result.now c.as_slice-plan.ensures c.in-Some.index c.in-Some.ensures

pub overflow_cast-index-in-Some-2 : goal.overflow_cast-index-in-Some-2
overflow_cast-index-in-Some-2 c =
    let plan = c.as_slice-plan.result.now in
    let found : IsFirst (HasEarlier (λ p q. p.request ≡ q.request) plan) c.in-Some-2.index =
    MatchOption-at_some (IsEachOnce plan) (IsFirst (HasEarlier (λ p q. p.request ≡ q.request) plan)) c.in-Some-2.index
    c.in-Some-2.is c.in_ok-index.ensures in
    let within : c.in-Some-2.index < length plan = earlier_within (λ p q. p.request ≡ q.request) plan c.in-Some-2.index found in
    let same : length plan ≡ length c.args.claim.now.placements = ap (λ (xs : List Placement). length xs) c.as_slice-plan.ensures in
    omega arith

pub returns-in-Some-2 : goal.returns-in-Some-2
returns-in-Some-2 c =
    let plan = c.as_slice-plan.result.now in
    let found : IsFirst (HasEarlier (λ p q. p.request ≡ q.request) plan) c.in-Some-2.index =
    MatchOption-at_some (IsEachOnce plan) (IsFirst (HasEarlier (λ p q. p.request ≡ q.request) plan)) c.in-Some-2.index
    c.in-Some-2.is c.in_ok-index.ensures in
    twice_first c.args.snapshot.now c.args.claim.now plan c.as_slice-plan.ensures c.in-Some-2.index c.in_default.ensures found

pub overflow_cast-index-in-Some-first_not_possible : goal.overflow_cast-index-in-Some-first_not_possible
overflow_cast-index-in-Some-first_not_possible c =
    let plan = c.as_slice-plan.result.now in
    let within : c.in-Some-first_not_possible.index < length plan =
    impossible_within c.args.snapshot.now plan c.in-Some-first_not_possible.index c.in-Some-first_not_possible.ensures in
    let same : length plan ≡ length c.args.claim.now.placements = ap (λ (xs : List Placement). length xs) c.as_slice-plan.ensures in
    omega arith

pub returns-in-Some-first_not_possible : goal.returns-in-Some-first_not_possible
returns-in-Some-first_not_possible c =
    let plan = c.as_slice-plan.result.now in
    let once : IsEachOnce plan = MatchOption-at_none (IsEachOnce plan)
    (IsFirst (HasEarlier (λ p q. p.request ≡ q.request) plan)) c.in_default-2.is c.in_ok-index.ensures in
    impossible_first c.args.snapshot.now c.args.claim.now plan c.as_slice-plan.ensures c.in-Some-first_not_possible.index c.in_default.ensures once
    c.in-Some-first_not_possible.ensures

pub overflow_cast-index-in-Some-3 : goal.overflow_cast-index-in-Some-3
overflow_cast-index-in-Some-3 c =
    let s = c.args.snapshot.now in
    let plan = c.as_slice-plan.result.now in
    let found : IsFirst (HasEarlier (ShareSlice s) plan) c.in-Some-3.index =
    MatchOption-at_some (IsDisjoint s plan) (IsFirst (HasEarlier (ShareSlice s) plan)) c.in-Some-3.index c.in-Some-3.is c.in_ok-index-2.ensures in
    let within : c.in-Some-3.index < length plan = earlier_within (ShareSlice s) plan c.in-Some-3.index found in
    let same : length plan ≡ length c.args.claim.now.placements = ap (λ (xs : List Placement). length xs) c.as_slice-plan.ensures in
    omega arith

pub returns-in-Some-3 : goal.returns-in-Some-3
returns-in-Some-3 c =
    let s = c.args.snapshot.now in
    let plan = c.as_slice-plan.result.now in
    let once : IsEachOnce plan = MatchOption-at_none (IsEachOnce plan)
    (IsFirst (HasEarlier (λ p q. p.request ≡ q.request) plan)) c.in_default-2.is c.in_ok-index.ensures in
    let found : IsFirst (HasEarlier (ShareSlice s) plan) c.in-Some-3.index =
    MatchOption-at_some (IsDisjoint s plan) (IsFirst (HasEarlier (ShareSlice s) plan)) c.in-Some-3.index c.in-Some-3.is c.in_ok-index-2.ensures in
    overlap_first s c.args.claim.now plan c.as_slice-plan.ensures c.in-Some-3.index c.in_default.ensures once c.in_default-first_not_possible.ensures found

pub returns : goal.returns
returns c =
    let s = c.args.snapshot.now in
    let plan = c.as_slice-plan.result.now in
    let once : IsEachOnce plan = MatchOption-at_none (IsEachOnce plan)
    (IsFirst (HasEarlier (λ p q. p.request ≡ q.request) plan)) c.in_default-2.is c.in_ok-index.ensures in
    let disjoint : IsDisjoint s plan =
    MatchOption-at_none (IsDisjoint s plan) (IsFirst (HasEarlier (ShareSlice s) plan)) c.in_default-3.is c.in_ok-index-2.ensures in
    placed_when s c.args.claim.now plan c.as_slice-plan.ensures c.in_default.ensures once c.in_default-first_not_possible.ensures disjoint
