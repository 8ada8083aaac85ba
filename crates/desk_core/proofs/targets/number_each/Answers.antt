use Rattle.std.proofs.Common.{◌∙◌, ap, sym, ◌<◌, length, take, arith}
use Rattle.request_model.specs.declared.request.ConfigDoc.{ConfigDoc}
use Rattle.site_model.specs.Network.{adds_target}
use Rattle.site_model.specs.Registry.{target_refusal}
use Rattle.desk_core.specs.Targets.{names_of}
use Rattle.desk_core.proofs.Numbering.{one_more, grown_by, too_many_at, gave_up}
use Rattle.desk_core.proofs.targets.number_each.Goals as goal

pub loop-configuration-preserved : goal.loop-configuration-preserved
loop-configuration-preserved c =
    let i = c.loop-configuration.configuration-index in
    let l : i < length c.args.configurations.now = omega arith in
    c.in_ok-target.ensures.numbered.ok
    ∙ ap (λ (d : ConfigDoc). adds_target c.loop-configuration.network d.target) c.configuration-item.is
    ∙ one_more c.args.network.now c.loop-configuration.network c.args.configurations.now i c.configuration-item.result l c.loop-configuration.invariant

pub returns-in_err-target : goal.returns-in_err-target
returns-in_err-target c =
    let i = c.loop-configuration.configuration-index in
    let l : i < length c.args.configurations.now = omega arith in
    let grown = grown_by (names_of (take i c.args.configurations.now)) c.args.network.now c.target.new.self
    (c.in_err-target.ensures.numbered.unchanged ∙ c.loop-configuration.invariant) in
    gave_up (names_of c.args.configurations.now) c.args.network.now c.target.new.self c.in_err-target.field-0.0 _ c.from_residual.ensures.1
    (λ memory. too_many_at c.args.network.now c.loop-configuration.network c.args.configurations.now i c.configuration-item.result
    c.in_err-target.field-0.0 l c.loop-configuration.invariant
    (ap (λ (d : ConfigDoc). target_refusal c.loop-configuration.network.registry d.target) (sym c.configuration-item.is)
    ∙ c.in_err-target.ensures.numbered.refused memory))
    grown
