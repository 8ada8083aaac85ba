use Rattle.std.proofs.Common.{rules, arith, ◌≡◌, ◌+◌, ◌-◌, ◌≤◌, ◌<◌, ℤ, to_z, of_z, w64, List, [], ◌∷◌, ◌++◌, length, sym, ◌∙◌, ap}
use Rattle.std.proofs.lemmas.Int.{to_z-of_z}
use Rattle.std.proofs.lemmas.List.{get_or_default}
use Rattle.bound_checker.specs.declared.table.Start.{Start}
use Rattle.bound_checker.specs.Offers.{offer_weight}
use Rattle.bound_checker.specs.Listings.{start_in, IsAdded}
use Rattle.bound_checker.proofs.Added.{added_said}
use Rattle.bound_checker.proofs.Swept.{start_pushed}
use Rattle.bound_checker.proofs.starts.push_starts.Goals as goal
use mir.Val.{SFits}

pub loop-slice-preserved : goal.loop-slice-preserved
loop-slice-preserved c =
    let fit : SFits w64 c.weight_at.result = search rules in
    let from : c.args.first ≤ c.loop-slice.slice = omega arith in
    let at : c.args.first + (c.loop-slice.slice - c.args.first) ≡ c.loop-slice.slice = omega arith in
    let start : Start = record { weight = to_z w64 (of_z w64 c.weight_at.result); after = c.loop-slice.slice - c.args.first + c.args.offer.now.size } in
    let is : start ≡ start_in c.args.offer.now c.args.first (c.loop-slice.slice - c.args.first) =
    ap (λ (w : ℤ). let x : Start = record { weight = w; after = c.loop-slice.slice - c.args.first + c.args.offer.now.size } in x)
    (to_z-of_z w64 c.weight_at.result fit ∙ c.weight_at.ensures ∙ ap (offer_weight c.args.offer.now) (sym at)) in
    let within : c.loop-slice.slice - c.args.first < length c.loop-slice.rows.items = omega (arith, c.loop-slice.invariant.count) in
    start_pushed c.args.offer.now c.args.first c.args.from c.loop-slice.slice
    (c.loop-slice.slice - c.args.first) c.args.rows.now.items c.loop-slice.rows.items start c.push.new.self at (omega arith) within is
    (c.in_ok-push.ensures.ok ∙ ap (λ (xs : List Start). xs ++ start ∷ [])
    (c.index_mut.ensures.value ∙ get_or_default c.loop-slice.rows.items (c.loop-slice.slice - c.args.first) _ [] within)) c.loop-slice.invariant

pub returns : goal.returns
returns c =
    let top : c.loop-slice.slice ≤ c.args.to = c.loop-slice.auto.slice-end c.requires.order in
    added_said c.args.offer.now c.args.first (λ k. (c.args.from ≤ k) × (k < c.loop-slice.slice))
    (λ k. (c.args.from ≤ k) × (k < c.args.to)) c.args.rows.now.items c.loop-slice.rows.items (λ k h. (h.0, omega arith))
    (λ k h. (h.0, omega arith)) c.loop-slice.invariant
