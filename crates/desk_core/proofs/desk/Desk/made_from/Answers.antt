use Rattle.std.proofs.Common.{◌∙◌, ap}
use Rattle.std.specs.Result.{result_err}
use Rattle.std.specs.Prelude.{Result}
use Rattle.desk_events.specs.declared.refusal.Refusal.{Refusal}
use Rattle.desk_core.specs.Desk.{seen}
use Rattle.desk_core.specs.Asking.{follows, windows_for, tested, made_from}
use Rattle.desk_core.proofs.Asked.{stops, says_refused}
use Rattle.desk_core.proofs.desk.Desk.made_from.Goals as goal

pub returns-in_err-lists : goal.returns-in_err-lists
returns-in_err-lists c =
    let d = seen c.args.self.now in
    let q = c.args.asked.now in
    let fault = c.in_err-lists.field-0.0 in
    says_refused _ (made_from d c.args.op (c.args.index, q)) fault _ c.from_residual-in_err-lists.ensures.1 (λ memory.
    ap result_err (ap (λ (r : Result _ Refusal). follows r
    (λ seconds. follows (windows_for c.args.op c.args.index seconds q.when) (tested d c.args.index q seconds))) c.in_ok-seconds.ensures.ok)
    ∙ stops (windows_for c.args.op c.args.index c.in_ok-seconds.seconds q.when) (tested d c.args.index q c.in_ok-seconds.seconds) fault memory
    (c.in_err-lists.ensures.refused memory))
