use Rattle.std.proofs.Common.{◌^◌, ◌<◌, ◌≤◌, ◌∷◌, [], ◌++◌, ℤ, pos, ◌∙◌, ap, arith}
use Rattle.std.proofs.lemmas.Int.{ints, to_z-of_z}
use Rattle.rapid.proofs.Mended.{value_most}
use Rattle.rapid.proofs.Priced.{bound_fits, free_price, full_price}
use Rattle.rapid.proofs.pricing.price.Goals as goal

pub overflow_add-claim : goal.overflow_add-claim
overflow_add-claim c =
    let bound : c.args.extension.now.claim.now.bound < 10 ^ 17 =
    bound_fits c.args.extension.now.claim.now.bound
    (c.bound_limit.ensures.most (pos c.args.extension.now.claim.now.bound) c.requires.certified.bound) in
    let value : c.args.extension.now.request.now.value ≤ 288000000 =
    value_most c.args.extension.now c.requires c.recall_valid.ensures.orderly c.recall_valid-2.ensures.orderly in
    omega arith

pub returns-then-free-claim : goal.returns-then-free-claim
returns-then-free-claim c = free_price c.args.extension.now.snapshot.now c.args.extension.now.claim.now c.args.extension.now.request.now.value
    c.in_ok-free.free c.in_ok-free.ensures.prices c.in_ok-free.ensures.bound c.in_ok-free.ensures.tables (omega arith)

pub returns : goal.returns
returns c =
    full_price c.args.extension.now.snapshot.now c.args.extension.now.claim.now c.args.extension.now.request.now.value c.in_ok-free.free
    c.in_ok-full.full (value_most c.args.extension.now c.requires c.recall_valid.ensures.orderly c.recall_valid-2.ensures.orderly)
    c.in_ok-free.ensures.prices c.in_ok-free.ensures.bound (omega arith)
    (c.in_ok-full.ensures.prices ∙ ap (λ (z : ℤ). c.args.extension.now.claim.now.prices.0 ++ z ∷ []) (grind (arith, ints, to_z-of_z)))
    c.in_ok-full.ensures.bound c.in_ok-full.ensures.tables
