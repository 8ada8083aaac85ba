use Rattle.std.proofs.Common.{◌≡◌, ◌∙◌, ap, sym, ◌<◌, List, length, map, get_or, arith}
use Rattle.std.proofs.lemmas.Grind.{common_steps}
use Rattle.std.specs.Result.{result_err}
use Rattle.request_model.specs.declared.request.RequestDoc.{RequestDoc}
use Rattle.desk_core.specs.Desk.{seen}
use Rattle.desk_core.specs.Asking.{seen_made, made_from, made_of}
use Rattle.desk_core.proofs.Asked.{gathered_stops, says_refused}
use Rattle.desk_core.proofs.desk.Desk.made_of.Goals as goal

pub returns-in_err-more : goal.returns-in_err-more
returns-in_err-more c =
    let d = seen c.args.self.now in
    let op = c.args.document.now.op in
    let i = c.loop-index.index in
    let rs = c.args.document.now.requests in
    let fault = c.in_err-more.field-0.0 in
    let l : i < length rs = omega (arith, ap length c.as_slice-asked-items.ensures) in
    let place : c.asked-item.result ≡ get_or rs i c.asked-item.result =
    c.asked-item.is ∙ ap (λ (qs : List RequestDoc). get_or qs i c.asked-item.result) c.as_slice-asked-items.ensures in
    says_refused _ (made_of d c.args.document.now) fault _ c.from_residual.ensures.1 (λ memory.
    ap result_err c.loop-index.invariant
    ∙ gathered_stops d op rs i c.asked-item.result (map seen_made c.loop-index.made.items) fault l memory
    (ap (λ (q : RequestDoc). result_err (made_from d op (i, q))) (sym place) ∙ c.in_err-more.ensures.refused memory))

pub loop-index-preserved : goal.loop-index-preserved
loop-index-preserved c = grind (arith, common_steps)

pub returns : goal.returns
returns c = grind (arith, common_steps)
