use Rattle.std.proofs.Common.{◌∙◌, ◌++◌, ap, sym, List}
use Rattle.std.proofs.lemmas.List.{append-nil}
use Rattle.plan_base.specs.declared.number.RequestNo.{RequestNo}
use Rattle.desk_runs.proofs.Turns.{untouched_over}
use Rattle.desk_runs.proofs.expiry.turn_group.Goals as goal

pub returns-then-not-is_touched-clause-requests : goal.returns-then-not-is_touched-clause-requests
returns-then-not-is_touched-clause-requests c =
    let free = sym c.is_touched.ensures ∙ c.if-not-is_touched.true in
    sym (ap (λ (l : List RequestNo). c.args.expiry.now.requests.items ++ l) (untouched_over c.args.running.now c.args.now c.args.group.now free)
    ∙ append-nil c.args.expiry.now.requests.items)
