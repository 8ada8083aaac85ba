use Rattle.std.proofs.Common.{subst, ◌<◌, length, take, arith}
use Rattle.request_model.specs.declared.request.RequestDoc.{RequestDoc}
use Rattle.desk_core.specs.Targets.{names_of, target_names, AreTooMany}
use Rattle.desk_core.proofs.Numbering.{grown_by, grown_after, requests_too_many, gave_up}
use Rattle.desk_core.proofs.targets.number_requests.Goals as goal

pub returns-in_err-number_each : goal.returns-in_err-number_each
returns-in_err-number_each c =
    let i = c.loop-request.request-index in
    let rs = c.args.requests.now in
    let n = c.args.network.now in
    let m = c.loop-request.network in
    let l : i < length rs = omega arith in
    let grown = grown_after n m c.number_each.new.network
    (grown_by (target_names (take i rs)) n m c.loop-request.invariant) c.in_err-number_each.ensures.grown in
    gave_up (target_names rs) n c.number_each.new.network c.in_err-number_each.field-0.0 _ c.from_residual.ensures.1
    (λ memory. requests_too_many n m rs i c.request-item.result c.in_err-number_each.field-0.0 l c.loop-request.invariant
    (subst (λ (d : RequestDoc). AreTooMany m.registry.targets (names_of d.configurations) c.in_err-number_each.field-0.0) c.request-item.is
    (rw (← c.as_slice.ensures) (c.in_err-number_each.ensures.refused memory))))
    grown
