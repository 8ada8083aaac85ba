use Rattle.std.proofs.Common.{◌≡◌, ◌+◌, [], Some, slice_index_or, min, sym, ap, subst, ◌∙◌, arith}
use Rattle.std.specs.Map.{keys_of}
use Rattle.std.proofs.lemmas.List.{get_or_default}
use Rattle.std.proofs.lemmas.Grind.{common_steps}
use Rattle.site_model.specs.declared.fault.SiteFault.TheVariants.{NoSuchInstrument}
use Rattle.site_model.specs.Registry.{most_index}
use Rattle.site_model.proofs.Placed.{PlacedSoFar, one_placed, first_unknown, all_known}
use Rattle.site_model.proofs.names.places_of.Goals as goal

pub returns-in_default-clause-refused : goal.returns-in_default-clause-refused
returns-in_default-clause-refused c =
    let keys = keys_of c.args.instruments.now.entries in
    let read : c.index-names-index.result ≡ slice_index_or c.args.names.now c.loop-index.index [] = c.index-names-index.is
    ∙ get_or_default c.args.names.now c.loop-index.index c.index-names-index.result [] c.loop-index-test.true in
    let least : c.min.result ≡ min c.loop-index.index most_index = first_of (omega arith, grind (arith, common_steps)) in
    λ _. first_unknown keys c.args.names.now c.loop-index.index c.loop-index.places c.index-names-index.result c.loop-index.invariant
    c.loop-index-test.true read (sym c.get_index_of.ensures.index ∙ c.in_default.is)
    ∙ ap (λ i. Some (NoSuchInstrument i)) (sym least)

pub loop-index-preserved : goal.loop-index-preserved
loop-index-preserved c =
    let keys = keys_of c.args.instruments.now.entries in
    let read : c.index-names-index.result ≡ slice_index_or c.args.names.now c.loop-index.index [] = c.index-names-index.is
    ∙ get_or_default c.args.names.now c.loop-index.index c.index-names-index.result [] c.loop-index-test.true in
    subst (PlacedSoFar keys c.args.names.now (c.loop-index.index + 1)) (sym c.in_ok-push.ensures.ok)
    (one_placed keys c.args.names.now c.loop-index.index c.in-Some.place c.loop-index.places c.index-names-index.result c.loop-index.invariant
    c.loop-index-test.true read (sym c.get_index_of.ensures.index ∙ c.in-Some.is))

pub returns-clause-allowed : goal.returns-clause-allowed
returns-clause-allowed c = all_known (keys_of c.args.instruments.now.entries) c.args.names.now c.loop-index.index c.loop-index.places
    c.loop-index.invariant c.loop-index-test.false
