use Rattle.std.proofs.Common.{◌≡◌, ◌+◌, ◌≤◌, pos, ◌+ℤ◌, length, drop, slice_index_or, rules, arith, w64}
use Rattle.std.proofs.lemmas.Int.{ints, to_z-of_z}
use Rattle.std.proofs.lemmas.List.{at_drop_more}
use Rattle.plan_base.specs.Sums.{total}
use Rattle.plan_base.specs.NetPrices.{IsNetInRange, positive}
use Rattle.plan_base.proofs.Growing.{positive_in_range}
use Rattle.groups.proofs.sums.positive_sum.Goals as goal
use mir.Val.{SFits}

pub loop-price-preserved : goal.loop-price-preserved
loop-price-preserved c =
    let fit : SFits w64 (slice_index_or c.args.prices.now c.loop-price.price-index (pos 0)) = search rules in
    let gives : c.positive.result ≡ positive (slice_index_or c.args.prices.now c.loop-price.price-index (pos 0)) = simp to_z-of_z at c.positive.ensures in
    let range : IsNetInRange (positive (slice_index_or c.args.prices.now c.loop-price.price-index (pos 0))) =
    positive_in_range _ (c.requires.range c.loop-price.price-index (pos 0) c.loop-price-test.true) in
    let step : total positive (drop c.loop-price.price-index c.args.prices.now)
    ≡ positive (slice_index_or c.args.prices.now c.loop-price.price-index (pos 0)) +ℤ total positive
    (drop (c.loop-price.price-index + 1) c.args.prices.now)
    = at_drop_more (total positive) c.args.prices.now c.loop-price.price-index (pos 0) c.loop-price-test.true
    in
    let few : length c.args.prices.now ≤ 256 = c.requires.few in
    let least = range.0 in
    let most = range.1 in
    record { rest = omega (arith, ints); least = omega (arith, ints); most = omega (arith, ints) }
