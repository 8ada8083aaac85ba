use Rattle.std.proofs.Common.{rules, arith, ◌≡◌, ℕ, ◌+◌, ◌-◌, ◌≤◌, ◌<◌, min, subst}
use Rattle.bound_checker.specs.Listings.{IsAdded}
use Rattle.bound_checker.proofs.Swept.{goes_on, swept_starts, swept_none, swept_all}
use Rattle.bound_checker.proofs.starts.list_stretches.Goals as goal

pub push_starts-requires-clause-order : goal.push_starts-requires-clause-order
push_starts-requires-clause-order c =
    let first : c.from-first.result ≡ c.args.parts.now.first.0 = c.from-first.ensures in
    let stop : c.saturating_sub-stop.result ≡ c.args.parts.now.first.0 + c.args.parts.now.slices + 1 - c.args.offer.now.size = omega arith in
    let end : c.min-end.result ≡ min c.stretch_in_sight-stretch.result.end c.saturating_sub-stop.result = omega arith in
    let before = c.loop-slice.invariant in
    let on = goes_on c.args.parts.now c.args.sight.now c.args.offer.now c.args.rows.now.items c.loop-slice.rows.items c.loop-slice.slice
    c.min-end.result c.saturating_sub-stop.result c.stretch_in_sight-stretch.result c.stretch_in_sight-stretch.ensures before.0
    c.loop-slice-test.true stop end in
    omega arith

pub loop-slice-preserved-in_ok-push_starts : goal.loop-slice-preserved-in_ok-push_starts
loop-slice-preserved-in_ok-push_starts c =
    let first : c.from-first.result ≡ c.args.parts.now.first.0 = c.from-first.ensures in
    let stop : c.saturating_sub-stop.result ≡ c.args.parts.now.first.0 + c.args.parts.now.slices + 1 - c.args.offer.now.size = omega arith in
    let end : c.min-end.result ≡ min c.stretch_in_sight-stretch.result.end c.saturating_sub-stop.result = omega arith in
    let before = c.loop-slice.invariant in (
      let on = goes_on c.args.parts.now c.args.sight.now c.args.offer.now c.args.rows.now.items c.loop-slice.rows.items c.loop-slice.slice
          c.min-end.result c.saturating_sub-stop.result c.stretch_in_sight-stretch.result c.stretch_in_sight-stretch.ensures before.0
          c.loop-slice-test.true stop end in omega (arith, before.0),
      swept_starts c.args.parts.now c.args.sight.now c.args.offer.now c.args.rows.now.items c.loop-slice.rows.items c.loop-slice.slice
          c.min-end.result c.saturating_sub-stop.result c.stretch_in_sight-stretch.result c.stretch_in_sight-stretch.ensures before.0
          c.loop-slice-test.true stop end
          c.push_starts.new.rows.items c.if-stretch.true before.1
          (subst (λ (n : ℕ). IsAdded c.args.offer.now n (λ k. (c.loop-slice.slice ≤ k) × (k < c.min-end.result)) c.loop-slice.rows.items
          c.push_starts.new.rows.items) first c.in_ok-push_starts.ensures),
    )

pub loop-slice-preserved : goal.loop-slice-preserved
loop-slice-preserved c =
    let first : c.from-first.result ≡ c.args.parts.now.first.0 = c.from-first.ensures in
    let stop : c.saturating_sub-stop.result ≡ c.args.parts.now.first.0 + c.args.parts.now.slices + 1 - c.args.offer.now.size = omega arith in
    let end : c.min-end.result ≡ min c.stretch_in_sight-stretch.result.end c.saturating_sub-stop.result = omega arith in
    let before = c.loop-slice.invariant in (
      let on = goes_on c.args.parts.now c.args.sight.now c.args.offer.now c.args.rows.now.items c.loop-slice.rows.items c.loop-slice.slice
          c.min-end.result c.saturating_sub-stop.result c.stretch_in_sight-stretch.result c.stretch_in_sight-stretch.ensures before.0
          c.loop-slice-test.true stop end in omega (arith, before.0),
      swept_none c.args.parts.now c.args.sight.now c.args.offer.now c.args.rows.now.items c.loop-slice.rows.items c.loop-slice.slice c.min-end.result
          c.saturating_sub-stop.result c.stretch_in_sight-stretch.result c.stretch_in_sight-stretch.ensures before.0 c.loop-slice-test.true stop end
          c.if-stretch.false before.1,
    )

pub returns : goal.returns
returns c =
    let first : c.from-first.result ≡ c.args.parts.now.first.0 = c.from-first.ensures in
    let stop : c.saturating_sub-stop.result ≡ c.args.parts.now.first.0 + c.args.parts.now.slices + 1 - c.args.offer.now.size = omega arith in
    swept_all c.args.parts.now c.args.sight.now c.args.offer.now c.args.rows.now.items c.loop-slice.rows.items c.loop-slice.slice
    c.saturating_sub-stop.result c.loop-slice-test.false stop c.loop-slice.invariant.1
