use Rattle.std.proofs.Common.{◌≡◌, ◌∙◌, subst}
use Rattle.std.proofs.lemmas.Result.{IfOk-weaker}
use Rattle.plan_base.specs.declared.parts.Parts.{Parts}
use Rattle.snapshot_starts.specs.Pairs.{pairs_of}
use Rattle.snapshot_starts.proofs.FoundPairs.{are_found}
use Rattle.snapshot_starts.proofs.find.find_all.Goals as goal

pub returns : goal.returns
returns g c =
    let pairs : c.in_ok-pairs.pairs.items ≡ pairs_of c.args.search.now =
    subst (λ (s : Parts). c.in_ok-pairs.pairs.items ≡ pairs_of s) c.snapshot.ensures c.in_ok-pairs.ensures in
    IfOk-weaker c.in_ok-find_for.field-0 _ _
    (λ found zip. are_found c.args.search.now c.as_slice.result.now found.items (c.as_slice.ensures.value ∙ pairs) zip) c.in_ok-find_for.ensures
