use Rattle.std.proofs.Common.{arith, ◌≡◌, ℕ, ◌+◌, ◌-◌, ◌≤◌, ◌<◌, min, sym, ◌∙◌, ap, subst}
use Rattle.bound_checker.specs.Listings.{CanStart}
use Rattle.openings.specs.Openings.{IsFlagged}
use Rattle.openings.proofs.Flags.{IsFlaggedTo, flags_start, goes_on, flags_swept, flags_ended}
use Rattle.openings.proofs.opening.flags_of.Goals as goal

pub loop-slice-init : goal.loop-slice-init
loop-slice-init c =
    let first : c.from-first.result ≡ c.args.parts.now.first.0 = c.from-first.ensures in
    let none : c.from-first.result - c.args.parts.now.first.0 ≡ 0 = omega arith in
    record {
      from = omega arith;
      within = omega arith;
      flags = subst (λ (n : ℕ). IsFlaggedTo (λ i. CanStart c.args.parts.now c.args.sight.now c.args.offer.now (c.args.parts.now.first.0 + i)) n
          c.in_ok-flags.flags.items) (sym none)
          (subst (IsFlaggedTo (λ i. CanStart c.args.parts.now c.args.sight.now c.args.offer.now (c.args.parts.now.first.0 + i)) 0)
          (sym c.in_ok-flags.ensures.items)
          (flags_start (λ i. CanStart c.args.parts.now c.args.sight.now c.args.offer.now (c.args.parts.now.first.0 + i))));
    }

pub loop-slice-preserved : goal.loop-slice-preserved
loop-slice-preserved c =
    let first : c.from-first.result ≡ c.args.parts.now.first.0 = c.from-first.ensures in
    let slices : c.from.result ≡ c.args.parts.now.slices = c.from.ensures in
    let stop : c.saturating_sub-stop.result ≡ c.args.parts.now.first.0 + c.args.parts.now.slices + 1 - c.args.offer.now.size =
    c.saturating_sub-stop.ensures ∙ ap (λ (n : ℕ). n + c.from.result + 1 - c.args.offer.now.size) first
    ∙ ap (λ (n : ℕ). c.args.parts.now.first.0 + n + 1 - c.args.offer.now.size) slices in
    let end : c.min-end.result ≡ min c.stretch_in_sight-stretch.result.end c.saturating_sub-stop.result = omega arith in
    let on : c.loop-slice.slice < c.min-end.result =
    goes_on c.args.parts.now c.args.sight.now c.args.offer.now c.loop-slice.slice c.min-end.result c.saturating_sub-stop.result
    c.stretch_in_sight-stretch.result c.stretch_in_sight-stretch.ensures c.loop-slice.invariant.from c.loop-slice-test.true stop end in
    let some : 1 ≤ c.args.offer.now.size = c.requires.offer.size_least in
    record {
      from = omega (arith, c.loop-slice.invariant.from);
      within = omega arith;
      flags = flags_swept c.args.parts.now c.args.sight.now c.args.offer.now c.loop-slice.slice c.min-end.result c.saturating_sub-stop.result
          c.stretch_in_sight-stretch.result c.stretch_in_sight-stretch.ensures c.loop-slice.invariant.from c.loop-slice-test.true stop end
          c.loop-slice.flags.items c.push_flags.new.flags.items c.in_ok-push_flags.ensures c.loop-slice.invariant.flags;
    }

pub returns : goal.returns
returns c =
    let first : c.from-first.result ≡ c.args.parts.now.first.0 = c.from-first.ensures in
    let slices : c.from.result ≡ c.args.parts.now.slices = c.from.ensures in
    let stop : c.saturating_sub-stop.result ≡ c.args.parts.now.first.0 + c.args.parts.now.slices + 1 - c.args.offer.now.size =
    c.saturating_sub-stop.ensures ∙ ap (λ (n : ℕ). n + c.from.result + 1 - c.args.offer.now.size) first
    ∙ ap (λ (n : ℕ). c.args.parts.now.first.0 + n + 1 - c.args.offer.now.size) slices in
    subst (IsFlagged (λ i. CanStart c.args.parts.now c.args.sight.now c.args.offer.now (c.args.parts.now.first.0 + i)) c.args.parts.now.slices)
    (sym c.from_vec.ensures)
    (flags_ended c.args.parts.now c.args.sight.now c.args.offer.now c.loop-slice.slice c.saturating_sub-stop.result c.loop-slice.flags.items
    c.loop-slice.invariant.from c.loop-slice.invariant.within c.loop-slice-test.false stop c.loop-slice.invariant.flags)
