use Rattle.std.proofs.Common.{ap, sym, ◌∙◌}
use Rattle.std.specs.Option.{option_and_then}
use Rattle.desk_core.specs.Desk.{seen}
use Rattle.desk_core.specs.Registering.{on_visibility, with_network}
use Rattle.desk_core.specs.Refusals.{refusal_of_site}
use Rattle.site_model.specs.Network.{visibility_refusal}
use Rattle.desk_core.proofs.Refusing.{network_refused}
use Rattle.desk_core.proofs.desk.Desk.set_visibility.Goals as goal

-- the network refused
pub returns-in_err-set_visibility : goal.returns-in_err-set_visibility
returns-in_err-set_visibility c =
    let d = seen c.args.self.now in
    network_refused (on_visibility d c.args.target.now c.args.site.now c.args.spans.now) d
    (with_network c.set_visibility.new.self d) c.in_err-set_visibility.field-0.0 _
    c.from_residual-in_err-set_visibility.ensures.1
    (λ memory.
    ap (λ spans. option_and_then refusal_of_site (visibility_refusal d.network c.args.target.now c.args.site.now spans)) (sym c.in_ok-spans.ensures.set)
    ∙ ap (option_and_then refusal_of_site) (c.in_err-set_visibility.ensures.refused memory))
    (ap (λ n. with_network n d) c.in_err-set_visibility.ensures.unchanged)
