use Rattle.std.proofs.Common.{◌≡◌, ap, ◌∙◌, rules}
use Rattle.std.specs.Option.{option_map}
use Rattle.plan_base.specs.declared.fault.SnapshotFault.TheVariants.{FadeRange}
use Rattle.plan_base.proofs.FaultLemmas.{fade_fault_is}
use Rattle.plan_base.proofs.build.fade_fault.Goals as goal

pub returns : goal.returns
returns c =
    let found : c.map.result ≡ option_map (λ r. FadeRange r) c.fading_request.result = search rules in
    found ∙ ap (option_map (λ r. FadeRange r)) (rw c.as_slice.ensures at c.fading_request.ensures) ∙ fade_fault_is c.args.parts.now
