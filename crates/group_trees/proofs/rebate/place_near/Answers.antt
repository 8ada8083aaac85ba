use Rattle.std.proofs.Common.{sym, ◌∙◌, ap, arith}
use Rattle.plan_base.specs.Requests.{place_of}
use Rattle.plan_base.proofs.Here.{IsHere, request_here}
use Rattle.group_trees.proofs.rebate.place_near.Goals as goal

pub returns-then-request_at-request-clause-value : goal.returns-then-request_at-request-clause-value
returns-then-request_at-request-clause-value c =
    let here : IsHere c.args.snapshot.now c.args.guess c.request_at.result.now =
    request_here c.args.snapshot.now c.args.guess c.request_at.result.now c.recall_valid.ensures.orderly (omega arith) c.request_at.ensures in
    sym here.at ∙ ap (place_of c.args.snapshot.now) c.if-request_at-request.true
