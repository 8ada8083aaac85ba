use Rattle.std.proofs.Common.{◌≡◌, ◌∙◌, ap, List, arith}
use Rattle.std.specs.List.{zip}
use Rattle.allocations.specs.Ledger.{seconds_of_holds}
use Rattle.desk_runs.specs.declared.group.Request.{Request}
use Rattle.desk_core.specs.Holds.{needs_of}
use Rattle.desk_core.proofs.Needs.{small_needs}
use Rattle.desk_core.proofs.holding.held.Goals as goal

pub holds_of-requires : goal.holds_of-requires
holds_of-requires c =
    let document = c.args.document.now in
    let group = c.args.group.now in
    let small = small_needs document group.requests c.args.wanted.now c.requires.few c.requires.short in
    let same : seconds_of_holds c.as_slice-2.result.now ≡ seconds_of_holds (needs_of document (zip group.requests c.args.wanted.now)) =
    ap seconds_of_holds (c.as_slice-2.ensures.value ∙ c.in_ok-needs.ensures
    ∙ ap (λ (rs : List Request). needs_of document (zip rs c.args.wanted.now)) c.as_slice.ensures) in
    omega (arith, small, same)
