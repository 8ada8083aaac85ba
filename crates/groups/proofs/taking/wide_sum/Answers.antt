use Rattle.std.proofs.Common.{◌≡◌, ◌+◌, ◌≤◌, pos, ◌+ℤ◌, length, slice_index_or, rules, arith, w64}
use Rattle.std.proofs.lemmas.Int.{ints, to_z-of_z}
use Rattle.groups.proofs.Wide.{IsWide, between, wide_more}
use Rattle.groups.proofs.taking.wide_sum.Goals as goal
use mir.Val.{SFits}

pub loop-price-preserved : goal.loop-price-preserved
loop-price-preserved c =
    let fit : SFits w64 (slice_index_or c.args.prices.now c.loop-price.price-index (pos 0)) = search rules in
    let is : c.from.result ≡ slice_index_or c.args.prices.now c.loop-price.price-index (pos 0) = simp to_z-of_z at c.from.ensures in
    let range = between (slice_index_or c.args.prices.now c.loop-price.price-index (pos 0)) fit in
    let more : IsWide c.args.prices.now (c.loop-price.price-index + 1)
    (c.loop-price.sum.value +ℤ slice_index_or c.args.prices.now c.loop-price.price-index (pos 0))
    = wide_more c.args.prices.now c.loop-price.price-index c.loop-price.sum.value c.loop-price-test.true range.0 range.1 c.loop-price.invariant
    in
    let rest = more.rest in
    let least = more.least in
    let most = more.most in
    let few : length c.args.prices.now ≤ 256 = c.requires.few in
    record { rest = omega (arith, ints); least = omega (arith, ints); most = omega (arith, ints) }
