use Rattle.std.proofs.Common.{ℕ, ◌∙◌, sym, ap, subst}
use Rattle.plan_base.specs.declared.parts.Parts.{Parts}
use Rattle.plan_base.specs.NetPrices.{IsGroupRun}
use Rattle.groups.proofs.Runs.{first_request}
use Rattle.groups.proofs.rebates.first_place.Goals as goal

pub known_place-requires : goal.known_place-requires
known_place-requires c =
    (first_request c.args.snapshot.now _ c.args.group _ _ c.index-requests-0.result c.parts.ensures.orderly
    (c.as_slice.ensures ∙ ap (λ (s : Parts). s.groups) c.parts.ensures.value) c.requires c.as_slice-requests.ensures).0

pub returns : goal.returns
returns c =
    let first = first_request c.args.snapshot.now _ c.args.group _ _ c.index-requests-0.result c.parts.ensures.orderly
    (c.as_slice.ensures ∙ ap (λ (s : Parts). s.groups) c.parts.ensures.value) c.requires c.as_slice-requests.ensures in
    subst (λ (a : ℕ). IsGroupRun c.args.snapshot.now c.args.group a) (sym c.known_place.ensures.value) first.1
