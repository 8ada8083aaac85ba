use Rattle.std.proofs.Common.{◌≡◌, ap, ◌∙◌, rules}
use Rattle.std.specs.Option.{option_map}
use Rattle.plan_base.specs.declared.fault.SnapshotFault.TheVariants.{NoSuchTelescope}
use Rattle.plan_base.proofs.FaultLemmas.{telescope_fault_is}
use Rattle.plan_base.proofs.build.telescope_fault.Goals as goal

pub returns : goal.returns
returns c =
    let found : c.map.result ≡ option_map (λ t. NoSuchTelescope t) c.unfit_telescope.result = search rules in
    found ∙ ap (option_map (λ t. NoSuchTelescope t)) c.unfit_telescope.ensures ∙ telescope_fault_is c.args.parts.now
