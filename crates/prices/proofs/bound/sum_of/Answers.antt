use Rattle.std.proofs.Common.{pos, ◌+ℤ◌, slice_index_or, rules, w64}
use Rattle.std.proofs.lemmas.Int.{to_z-of_z}
use Rattle.prices.proofs.Summing.{summed_more, summed_fits}
use Rattle.prices.proofs.bound.sum_of.Goals as goal
use mir.Val.{SFits}

pub overflow_add-sum : goal.overflow_add-sum
overflow_add-sum c =
    let sum : SFits w64 c.loop-number.sum.value = search rules in
    let here : SFits w64 (slice_index_or c.args.numbers.now c.loop-number.number-index (pos 0)) = search rules in
    simp to_z-of_z (summed_fits c.args.numbers.now c.loop-number.number-index c.loop-number.sum.value c.loop-number-test.true c.requires.not_negative
    c.requires.most c.loop-number.invariant)

pub loop-number-preserved : goal.loop-number-preserved
loop-number-preserved c =
    let sum : SFits w64 c.loop-number.sum.value = search rules in
    let here : SFits w64 (slice_index_or c.args.numbers.now c.loop-number.number-index (pos 0)) = search rules in
    let whole : SFits w64 (c.loop-number.sum.value +ℤ slice_index_or c.args.numbers.now c.loop-number.number-index (pos 0))
    = summed_fits c.args.numbers.now c.loop-number.number-index c.loop-number.sum.value c.loop-number-test.true c.requires.not_negative
    c.requires.most c.loop-number.invariant
    in
    simp to_z-of_z (summed_more c.args.numbers.now c.loop-number.number-index c.loop-number.sum.value c.loop-number-test.true
    c.requires.not_negative c.loop-number.invariant)
