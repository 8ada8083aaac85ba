use Rattle.std.proofs.Common.{◌≡◌, ◌≤◌, ◌+◌, ◌*◌, false, true, List, ℕ, sym, ◌∙◌, subst, ap, ◌<◌, length, All, Contains, arith}
use Rattle.std.proofs.lemmas.List.Elements.{All-contains}
use Rattle.plan_base.specs.declared.parts.Parts.{Parts}
use Rattle.plan_base.specs.declared.parts.RequestPart.{RequestPart}
use Rattle.plan_base.specs.declared.claim.Placement.{Placement}
use Rattle.plan_base.specs.declared.number.TelescopeNo.{TelescopeNo}
use Rattle.plan_base.specs.Snapshot.{IsOrderly}
use Rattle.plan_base.specs.Starts.{slices_for}
use Rattle.bound_checker.specs.Claims.{CanObserve}
use Rattle.bound_checker.proofs.PossibleStarts.{PassesTests, possible_from_tests, tests_from_possible}
use Rattle.bound_checker.proofs.possible.is_possible.Goals as goal

pub can_observe-requires-clause-telescope : goal.can_observe-requires-clause-telescope
can_observe-requires-clause-telescope c =
    subst (λ (s : Parts). c.args.placement.telescope.0 < length s.telescopes) (sym c.parts-parts.ensures.value)
    (All-contains (λ t. t.0 < length c.args.snapshot.now.telescopes) c.request_of-request.result.now.telescopes c.args.placement.telescope
    c.request_of-request.ensures.ranges.telescopes (subst (λ (ts : List TelescopeNo). Contains ts c.args.placement.telescope) c.as_slice.ensures
    (c.has_telescope.ensures.0 c.if-not-has_telescope.false)))

pub returns : goal.returns
returns c =
    let s : Parts = c.args.snapshot.now in
    let same : c.parts-parts.result.now ≡ s = c.parts-parts.ensures.value in
    let p : Placement = c.args.placement in
    let q : RequestPart = c.request_of-request.result.now in
    let a : ℕ = c.observed_span-observed.result.from.0 in
    let b : ℕ = c.observed_span-observed.result.to.0 in
    let from : a ≡ p.slice.0 * s.len = subst (λ (x : Parts). a ≡ p.slice.0 * x.len) same c.observed_span-observed.ensures.from in
    let to : b ≡ p.slice.0 * s.len + q.seconds = subst (λ (x : Parts). b ≡ p.slice.0 * x.len + q.seconds) same c.observed_span-observed.ensures.to in
    let horizon : (s.first.0 ≤ p.slice.0) × (p.slice.0 + slices_for s.len q.seconds ≤ s.first.0 + s.slices)
    = subst (λ (x : Parts). (x.first.0 ≤ p.slice.0) × (p.slice.0 + slices_for x.len q.seconds ≤ x.first.0 + x.slices)) same
    (c.is_within_horizon.ensures.0 c.if-not-is_within_horizon.false)
    in (
      λ yes. possible_from_tests s p q a b c.requires c.request_of-request.ensures.is from to record {
        able = subst (λ (ts : List TelescopeNo). Contains ts p.telescope) c.as_slice.ensures (c.has_telescope.ensures.0 c.if-not-has_telescope.false);
        begins = horizon.0;
        ends = horizon.1;
        observed = subst (λ (x : Parts). CanObserve x q p.telescope.0 a b) same (c.can_observe.ensures.0 yes);
      },
      λ possible. c.can_observe.ensures.1
          (subst (λ (x : Parts). CanObserve x q p.telescope.0 a b) (sym same)
          (tests_from_possible s p q a b c.requires c.request_of-request.ensures.is from to c.parts-parts.ensures.orderly possible).observed),
    )

pub returns-then-not-has_telescope : goal.returns-then-not-has_telescope
returns-then-not-has_telescope c = (
  λ yes. absurd (cc),
  λ possible.
      let able : Contains c.request_of-request.result.now.telescopes c.args.placement.telescope =
      subst (λ (ts : List TelescopeNo). Contains ts c.args.placement.telescope) c.request_of-request.ensures.is.telescopes possible.able in
      sym c.if-not-has_telescope.true
      ∙ c.has_telescope.ensures.1 (subst (λ (ts : List TelescopeNo). Contains ts c.args.placement.telescope) (sym c.as_slice.ensures) able),
)

pub returns-then-not-is_within_horizon : goal.returns-then-not-is_within_horizon
returns-then-not-is_within_horizon c = (
  λ yes. absurd (cc),
  λ possible.
      let s : Parts = c.args.snapshot.now in
      let p : Placement = c.args.placement in
      let q : RequestPart = c.request_of-request.result.now in
      let ends : p.slice.0 + slices_for s.len q.seconds ≤ s.first.0 + s.slices =
      subst (λ (n : ℕ). p.slice.0 + slices_for s.len n ≤ s.first.0 + s.slices) c.request_of-request.ensures.is.seconds possible.ends in
      sym c.if-not-is_within_horizon.true
      ∙ c.is_within_horizon.ensures.1
      (subst (λ (x : Parts). (x.first.0 ≤ p.slice.0) × (p.slice.0 + slices_for x.len q.seconds ≤ x.first.0 + x.slices))
      (sym c.parts-parts.ensures.value) (possible.begins, ends)),
)
