use Rattle.std.proofs.Common.{◌≡◌, ◌+◌, List, Any, sym, ◌∙◌, subst}
use Rattle.std.proofs.lemmas.Bool.{false≢true}
use Rattle.plan_base.specs.declared.claim.Placement.{Placement}
use Rattle.plan_base.proofs.Here.{IsHere, request_here}
use Rattle.explain.specs.Explained.{AreLeftTo}
use Rattle.explain.proofs.Leaving.{left_stays, left_more}
use Rattle.explain.proofs.why.add_left.Goals as goal

pub left_of-requires-clause-request : goal.left_of-requires-clause-request
left_of-requires-clause-request c =
    (request_here c.args.snapshot.now c.args.place c.request_at.result.now c.recall_valid.ensures.orderly c.requires.place c.request_at.ensures).known

pub returns-then-is_placed : goal.returns-then-is_placed
returns-then-is_placed c =
    let here : IsHere c.args.snapshot.now c.args.place c.request_at.result.now =
    request_here c.args.snapshot.now c.args.place c.request_at.result.now c.recall_valid.ensures.orderly c.requires.place c.request_at.ensures in
    left_stays c.args.snapshot.now c.args.claim.now.prices.0 c.args.claim.now c.args.place c.request_at.result.now.request.0 here.known
    here.at c.args.lefts.now.items
    (subst (λ (plan : List Placement). Any (λ p. p.request.0 ≡ c.request_at.result.now.request.0) plan) c.as_slice.ensures
    (c.is_placed.ensures.0 c.if-is_placed.true)) c.requires.lefts

pub returns : goal.returns
returns c =
    let here : IsHere c.args.snapshot.now c.args.place c.request_at.result.now =
    request_here c.args.snapshot.now c.args.place c.request_at.result.now c.recall_valid.ensures.orderly c.requires.place c.request_at.ensures in
    subst (AreLeftTo c.args.snapshot.now c.args.claim.now (c.args.place + 1)) (sym c.in_ok-push.ensures.items)
    (left_more c.args.snapshot.now c.args.claim.now.prices.0 c.args.claim.now c.args.place c.request_at.result.now.request.0 here.known here.at
    c.args.lefts.now.items c.in_ok-left.left
    (λ placed. false≢true (sym c.if-is_placed.false
    ∙ c.is_placed.ensures.1 (subst (λ (plan : List Placement). Any (λ p. p.request.0 ≡ c.request_at.result.now.request.0) plan)
    (sym c.as_slice.ensures) placed)))
    c.in_ok-left.ensures c.requires.lefts)
