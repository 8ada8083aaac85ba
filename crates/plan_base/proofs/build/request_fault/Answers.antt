use Rattle.std.proofs.Common.{ap, ◌∙◌}
use Rattle.std.specs.Option.{option_map}
use Rattle.plan_base.specs.declared.fault.SnapshotFault.TheVariants.{RequestOrder}
use Rattle.plan_base.specs.Faults.{first_fall}
use Rattle.plan_base.proofs.FaultLemmas.{fall_absent, fall_found, request_fault_is}
use Rattle.plan_base.proofs.build.request_fault.Goals as goal

pub returns-in-None : goal.returns-in-None
returns-in-None c s e =
    ap (option_map (λ r. RequestOrder r.request)) (fall_absent (λ r. r.request.0) c.args.rows.now c.in-None.ensures.place
    ∙ ap (first_fall (λ r. r.request.0)) e)
    ∙ request_fault_is s

pub returns-in-Some : goal.returns-in-Some
returns-in-Some c s e =
    ap (option_map (λ r. RequestOrder r.request))
    (fall_found (λ r. r.request.0) c.args.rows.now c.in-Some.index _ c.in-Some.ensures.within c.in-Some.ensures.place
    ∙ ap (first_fall (λ r. r.request.0)) e)
    ∙ request_fault_is s
