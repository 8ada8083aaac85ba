use Rattle.std.proofs.Common.{◌≡◌, ◌+◌, ◌≤◌, pos, ◌+ℤ◌, length, drop, slice_index_or, arith}
use Rattle.std.proofs.lemmas.Int.{ints}
use Rattle.std.proofs.lemmas.List.{at_drop_more}
use Rattle.plan_base.specs.Sums.{total}
use Rattle.plan_base.specs.NetPrices.{IsNetInRange}
use Rattle.groups.proofs.sums.price_sum.Goals as goal

pub loop-price-preserved : goal.loop-price-preserved
loop-price-preserved c =
    let range : IsNetInRange (slice_index_or c.args.prices.now c.loop-price.price-index (pos 0)) =
    c.requires.range c.loop-price.price-index (pos 0) c.loop-price-test.true in
    let step : total (λ x. x) (drop c.loop-price.price-index c.args.prices.now) ≡ slice_index_or c.args.prices.now c.loop-price.price-index
    (pos 0) +ℤ total (λ x. x) (drop (c.loop-price.price-index + 1) c.args.prices.now)
    = at_drop_more (total (λ x. x)) c.args.prices.now c.loop-price.price-index (pos 0) c.loop-price-test.true
    in
    let few : length c.args.prices.now ≤ 256 = c.requires.few in
    record { rest = omega (arith, ints); least = omega (arith, ints); most = omega (arith, ints) }
