use Rattle.std.proofs.Common.{◌≤◌, arith}
use Rattle.plan_base.specs.Requests.{request_value, fade_of}
use Rattle.plan_base.proofs.Known.{known_has, value_at_most}
use Rattle.repair.proofs.worth.worth_of.Goals as goal

pub faded-requires-clause-value : goal.faded-requires-clause-value
faded-requires-clause-value c =
    let most : request_value c.args.snapshot.now c.args.start.request.0 ≤ 288000000 =
    value_at_most c.args.snapshot.now c.args.start.request.0 c.recall_valid.ensures.orderly c.requires.possible.known in
    let is = c.requires.offer.value in
    let from = c.from.ensures in
    omega arith

pub faded-requires-clause-fade : goal.faded-requires-clause-fade
faded-requires-clause-fade c =
    let most : fade_of c.args.snapshot.now c.args.start.request.0 ≤ 1000 =
    known_has (λ n. n ≤ 1000) (λ x. x.request.fade) 0 c.args.snapshot.now c.args.start.request.0 c.recall_valid.ensures.orderly.fades
    c.requires.possible.known in
    let is = c.requires.offer.fade in
    let from = c.from-2.ensures in
    omega arith
