use Rattle.std.proofs.Common.{arith}
use Rattle.std.proofs.lemmas.Int.{ints}
use Rattle.prices.proofs.Summing.{parts_most}
use Rattle.prices.proofs.bound.lagrangian.Goals as goal

pub sum_of-requires-clause-most : goal.sum_of-requires-clause-most
sum_of-requires-clause-most c =
    (parts_most c.args.bests.now c.args.rebates.now c.args.quotas.now c.requires.bests c.requires.rebates c.requires.quotas c.requires.most).0

pub sum_of-requires-2-clause-most : goal.sum_of-requires-2-clause-most
sum_of-requires-2-clause-most c =
    (parts_most c.args.bests.now c.args.rebates.now c.args.quotas.now c.requires.bests c.requires.rebates c.requires.quotas c.requires.most).1

pub overflow_add-result : goal.overflow_add-result
overflow_add-result c =
    let most = parts_most c.args.bests.now c.args.rebates.now c.args.quotas.now c.requires.bests c.requires.rebates c.requires.quotas c.requires.most in
    let one = most.0 in
    let two = most.1 in
    let first = c.sum_of.ensures in
    let second = c.sum_of-2.ensures in
    record { fits = omega (arith, ints) }
