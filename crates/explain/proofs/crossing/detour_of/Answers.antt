use Rattle.std.proofs.Common.{rules, ℤ, pos, neg_ℤ, w64, ◌-ℤ◌, ◌≤ℤ◌, MatchOption, Option, subst, arith}
use Rattle.std.proofs.lemmas.Int.{ints, to_z-of_z}
use Rattle.plan_base.specs.Bound.{IsBest}
use Rattle.explain.specs.Through.{IsThrough}
use Rattle.explain.specs.Forced.{CanTake}
use Rattle.explain.specs.Crossings.{IsDetourInRange}
use Rattle.explain.proofs.Fits.{fits_64}
use Rattle.explain.proofs.Gaining.{best_read}
use Rattle.explain.proofs.Gathering.{is_detour}
use Rattle.explain.proofs.crossing.detour_of.Goals as goal
use mir.Val.{SFits}

pub overflow_sub-result : goal.overflow_sub-result
overflow_sub-result c =
    let best : IsBest c.args.snapshot.now c.args.prices.now.0 c.args.telescope.0 c.args.snapshot.now.first.0 c.index-best.result.now
    = best_read c.args.snapshot.now c.args.prices.now.0 c.args.telescope.0 c.args.chart.now c.index-best.result.now c.requires.chart c.index-best.ensures in
    let through : IsThrough c.args.snapshot.now c.args.prices.now.0 c.args.telescope.0 c.args.openings.now.request.0 c.in-Some.through
    = subst (λ (o : Option ℤ). MatchOption o (¬ (CanTake c.args.snapshot.now c.args.telescope.0 c.args.openings.now.request.0))
    (IsThrough c.args.snapshot.now c.args.prices.now.0 c.args.telescope.0 c.args.openings.now.request.0)) c.in-Some.is c.requires.through in
    let range : IsDetourInRange (c.in-Some.through -ℤ c.index-best.result.now) =
    (is_detour c.args.snapshot.now c.args.prices.now.0 c.args.telescope.0 c.args.openings.now.request.0 c.recall_valid.ensures.orderly
    c.in-Some.through c.index-best.result.now c.requires.prices through best).1 in
    let low : neg_ℤ (pos 10000000000000000) ≤ℤ (c.in-Some.through -ℤ c.index-best.result.now) = range.0 in
    let high : (c.in-Some.through -ℤ c.index-best.result.now) ≤ℤ pos 0 = range.1 in
    let one : SFits w64 c.in-Some.through = search rules in
    let two : SFits w64 c.index-best.result.now = search rules in
    let both : SFits w64 (c.in-Some.through -ℤ c.index-best.result.now) = fits_64 _ (omega (arith, ints)) (omega (arith, ints)) in
    simp to_z-of_z both

pub returns-in-Some : goal.returns-in-Some
returns-in-Some c =
    let best : IsBest c.args.snapshot.now c.args.prices.now.0 c.args.telescope.0 c.args.snapshot.now.first.0 c.index-best.result.now
    = best_read c.args.snapshot.now c.args.prices.now.0 c.args.telescope.0 c.args.chart.now c.index-best.result.now c.requires.chart c.index-best.ensures in
    let through : IsThrough c.args.snapshot.now c.args.prices.now.0 c.args.telescope.0 c.args.openings.now.request.0 c.in-Some.through
    = subst (λ (o : Option ℤ). MatchOption o (¬ (CanTake c.args.snapshot.now c.args.telescope.0 c.args.openings.now.request.0))
    (IsThrough c.args.snapshot.now c.args.prices.now.0 c.args.telescope.0 c.args.openings.now.request.0)) c.in-Some.is c.requires.through in
    let detour = is_detour c.args.snapshot.now c.args.prices.now.0 c.args.telescope.0 c.args.openings.now.request.0 c.recall_valid.ensures.orderly
    c.in-Some.through c.index-best.result.now c.requires.prices through best in
    let low : neg_ℤ (pos 10000000000000000) ≤ℤ (c.in-Some.through -ℤ c.index-best.result.now) = detour.1.0 in
    let high : (c.in-Some.through -ℤ c.index-best.result.now) ≤ℤ pos 0 = detour.1.1 in
    let one : SFits w64 c.in-Some.through = search rules in
    let two : SFits w64 c.index-best.result.now = search rules in
    let both : SFits w64 (c.in-Some.through -ℤ c.index-best.result.now) = fits_64 _ (omega (arith, ints)) (omega (arith, ints)) in
    simp to_z-of_z detour
