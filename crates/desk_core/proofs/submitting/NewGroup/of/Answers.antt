use Rattle.std.proofs.Common.{◌≡◌, ◌∙◌, ap, List, arith}
use Rattle.std.proofs.lemmas.Grind.{common_steps}
use Rattle.std.specs.List.{zip}
use Rattle.allocations.specs.Ledger.{seconds_of_holds}
use Rattle.desk_core.specs.declared.desk.Wanted.{Wanted}
use Rattle.desk_core.specs.Holds.{needs_of, holds_of}
use Rattle.desk_core.proofs.Needs.{small_needs}
use Rattle.desk_core.proofs.Held.{holds_at_most}
use Rattle.desk_core.proofs.submitting.NewGroup.of.Goals as goal

pub ipp_charge-charged-requires : goal.ipp_charge-charged-requires
ipp_charge-charged-requires c =
    let group = c.args.group.now in
    let needs = needs_of c.args.document (zip group.requests c.args.wanted) in
    let small = small_needs c.args.document group.requests c.args.wanted c.requires.few c.requires.short in
    let most = holds_at_most group.op needs in
    let same : seconds_of_holds c.as_slice-2.result.now ≡ seconds_of_holds (holds_of group.op needs) =
    ap seconds_of_holds (c.as_slice-2.ensures.value ∙ c.in_ok-holds.ensures
    ∙ ap (λ (ws : List Wanted). holds_of group.op (needs_of c.args.document (zip group.requests ws))) c.as_slice.ensures) in
    omega (arith, small, most, same)

pub returns : goal.returns
returns c = grind (arith, common_steps)
