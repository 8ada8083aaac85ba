use Rattle.std.proofs.Common.{◌∙◌, ap, refl, map, Option}
use Rattle.std.specs.Option.{option_or}
use Rattle.desk_events.specs.declared.refusal.Refusal.{Refusal}
use Rattle.desk_core.specs.Desk.{seen}
use Rattle.desk_core.specs.Asking.{seen_made, made_of}
use Rattle.desk_core.specs.Submitting.{on_made}
use Rattle.desk_core.specs.Closing.{without_group, on_amend}
use Rattle.desk_core.proofs.Makings.{made_are}
use Rattle.desk_core.proofs.Replacing.{refused_as, passed_on, not_made}
use Rattle.desk_core.proofs.desk.Desk.amend.Goals as goal

pub amend_made-requires-clause-made : goal.amend_made-requires-clause-made
amend_made-requires-clause-made c =
    made_are (seen c.args.self.now) c.args.document.now (map seen_made c.in_ok-made.made.items) c.requires.document c.in_ok-made.ensures.ok

pub returns-in_err-made : goal.returns-in_err-made
returns-in_err-made c =
    let d = seen c.args.self.now in
    let document = c.args.document.now in
    let freed = without_group c.args.old d in
    let fault = c.in_err-made.field-0.0 in
    passed_on (on_amend d c.args.old document) d d fault _ c.from_residual-in_err-made.ensures.1
    (refused_as (on_amend d c.args.old document) d d fault
    (λ memory. ap (λ (o : Option Refusal). option_or o (on_made freed document (made_of freed document)).refusal) c.in_ok-check_amendment.ensures.none
    ∙ not_made freed document (made_of freed document) fault memory (c.in_err-made.ensures.refused memory))
    refl)
