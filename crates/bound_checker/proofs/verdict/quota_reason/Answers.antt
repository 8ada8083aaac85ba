use Rattle.std.proofs.Common.{◌≡◌, ◌≤◌, ◌<◌, ℕ, List, length, slice_index_or, refl, sym, ◌∙◌, ap, subst, arith}
use Rattle.std.proofs.lemmas.List.{get_or_default}
use Rattle.plan_base.specs.declared.parts.Parts.{Parts}
use Rattle.plan_base.specs.declared.claim.Placement.{Placement}
use Rattle.plan_base.specs.declared.fault.Counted.TheVariants.{Quotas}
use Rattle.plan_base.specs.Verdict.{IsFirst}
use Rattle.bound_checker.specs.Claims.{AreQuotaSums}
use Rattle.bound_checker.proofs.Stages.{few_placed}
use Rattle.bound_checker.proofs.GroupReasons.{IsOver, quota_first, feasible_when}
use Rattle.bound_checker.proofs.verdict.quota_reason.Goals as goal

pub sum_seconds-requires-clause-few : goal.sum_seconds-requires-clause-few
sum_seconds-requires-clause-few c =
    let few = few_placed c.args.snapshot.now c.args.claim.now.placements c.parts.ensures.orderly c.requires.placed in
    let same : length c.as_slice.result.now ≡ length c.args.claim.now.placements = ap (λ (xs : List Placement). length xs) c.as_slice.ensures in
    omega arith

pub overflow_cast-result : goal.overflow_cast-result
overflow_cast-result c =
    let s = c.args.snapshot.now in
    let most : length s.quotas ≤ 1024 = c.parts.ensures.orderly.within Quotas 0 0 (omega arith) in
    let here : c.as_slice-quotas.result.now ≡ s.quotas = c.as_slice-quotas.ensures ∙ ap (λ (x : Parts). x.quotas) c.parts.ensures.value in
    let same : length c.as_slice-quotas.result.now ≡ length s.quotas = ap (λ (xs : List ℕ). length xs) here in
    let found : IsFirst (IsOver c.as_slice-quotas.result.now c.as_slice-2.result.now) c.in-Some.place = c.in-Some.ensures in
    let within : c.in-Some.place < length c.as_slice-quotas.result.now = found.0.0 in
    omega arith

pub returns : goal.returns
returns c =
    let s = c.args.snapshot.now in
    let quotas = c.as_slice-quotas.result.now in
    let sums = c.in_ok-sums.sums.items in
    let here : quotas ≡ s.quotas = c.as_slice-quotas.ensures ∙ ap (λ (x : Parts). x.quotas) c.parts.ensures.value in
    let are : AreQuotaSums s c.args.claim.now.placements sums =
    subst (λ (xs : List Placement). AreQuotaSums s xs sums) c.as_slice.ensures c.in_ok-sums.ensures in
    let found : IsFirst (IsOver quotas sums) c.in-Some.place =
    subst (λ (xs : List ℕ). IsFirst (IsOver quotas xs) c.in-Some.place) c.as_slice-2.ensures.value c.in-Some.ensures in
    let counted : length sums ≡ length s.quotas = are.quotas in
    let same : length quotas ≡ length s.quotas = ap (λ (xs : List ℕ). length xs) here in
    let within : c.in-Some.place < length sums = let inside : c.in-Some.place < length quotas = found.0.0 in omega arith in
    quota_first s c.args.claim.now quotas sums c.requires here are c.in-Some.place c.index.result.now _
    (c.index.ensures ∙ get_or_default sums c.in-Some.place c.index.result.now 0 within) refl found

pub returns-in_default : goal.returns-in_default
returns-in_default c =
    let s = c.args.snapshot.now in
    let quotas = c.as_slice-quotas.result.now in
    let sums = c.in_ok-sums.sums.items in
    let here : quotas ≡ s.quotas = c.as_slice-quotas.ensures ∙ ap (λ (x : Parts). x.quotas) c.parts.ensures.value in
    let are : AreQuotaSums s c.args.claim.now.placements sums =
    subst (λ (xs : List Placement). AreQuotaSums s xs sums) c.as_slice.ensures c.in_ok-sums.ensures in
    feasible_when s c.args.claim.now quotas sums c.requires here are
    (subst (λ (xs : List ℕ). (q : ℕ) → q < length quotas → slice_index_or xs q 0 ≤ slice_index_or quotas q 0)
    c.as_slice-2.ensures.value c.in_default.ensures)
