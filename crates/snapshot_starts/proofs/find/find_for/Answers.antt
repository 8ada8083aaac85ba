use Rattle.std.proofs.Common.{ap, ◌∙◌, subst}
use Rattle.rayon.proofs.ListFacts.{IfOk-then}
use Rattle.rayon.proofs.ToStd.{slice-AllZip}
use Rattle.std.specs.Prelude.{IfOk}
use Rattle.std.specs.List.{AllZip}
use Rattle.plan_base.specs.declared.parts.Parts.{Parts}
use Rattle.snapshot_starts.specs.Found.{IsFoundFor}
use Rattle.snapshot_starts.proofs.FoundPairs.{collected}
use Rattle.snapshot_starts.proofs.find.find_for.Goals as goal

pub returns : goal.returns
returns g c =
    let slice = ap (λ it. it.slice.now) c.map.ensures.base ∙ c.par_iter.ensures in
    let same = ap (λ f. f.0.now) c.map.ensures.f in
    IfOk-then c.collect.result _ _ c.collect.ensures (λ v h.
    let chain = h.1 in
    let zip = slice-AllZip chain.0 c.args.pairs.now (chain.1 ∙ slice) (λ p r. IfOk r (IsFoundFor c.map.result.f.0.now p)) h.0 chain.2 in
    collected c.args.search.now c.args.pairs.now h.0 v (subst (λ (s : Parts). AllZip (λ p r. IfOk r (IsFoundFor s p)) c.args.pairs.now h.0) same zip) h.2)
