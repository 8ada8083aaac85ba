use Rattle.std.proofs.Common.{arith, ◌≡◌, ℕ, ◌+◌, ◌-◌, ◌≤◌, ◌<◌, List, [], ◌∷◌, ◌++◌, length, sym, ◌∙◌, ap, subst}
use Rattle.std.proofs.lemmas.List.{get_or_default}
use Rattle.interval_solver.specs.declared.start.Start.{Start}
use Rattle.interval_solver.specs.Offers.{offer_worth}
use Rattle.interval_solver.specs.Listings.{start_in, AreAdded}
use Rattle.interval_solver.proofs.Adding.{none_added, one_added}
use Rattle.interval_solver.proofs.listing.push_starts.Goals as goal

pub loop-slice-init : goal.loop-slice-init
loop-slice-init c = none_added c.args.offer.now c.args.first c.args.from c.args.from c.args.rows.now.items (omega arith)

pub loop-slice-preserved : goal.loop-slice-preserved
loop-slice-preserved c =
    let from : c.args.first ≤ c.loop-slice.slice = omega arith in
    let at : c.args.first + (c.loop-slice.slice - c.args.first) ≡ c.loop-slice.slice = omega arith in
    let start : Start = record {
      worth = c.worth_at.result;
      place = c.args.offer.now.place;
      after = c.loop-slice.slice - c.args.first + c.args.offer.now.size;
    } in
    let is : start ≡ start_in c.args.offer.now c.args.first (c.loop-slice.slice - c.args.first)
    = ap (λ (w : ℕ). let x : Start = record {
      worth = w;
      place = c.args.offer.now.place;
      after = c.loop-slice.slice - c.args.first + c.args.offer.now.size;
    } in x) (c.worth_at.ensures ∙ ap (offer_worth c.args.offer.now) (sym at))
    in
    let within : c.loop-slice.slice - c.args.first < length c.loop-slice.rows.items = omega (arith, c.loop-slice.invariant.count) in
    one_added c.args.offer.now c.args.first c.args.from c.loop-slice.slice
    (c.loop-slice.slice - c.args.first) c.args.rows.now.items c.loop-slice.rows.items start c.push.new.self at (omega arith) within is
    (c.in_ok-push.ensures.ok ∙ ap (λ (xs : List Start). xs ++ start ∷ [])
    (c.index_mut.ensures.value ∙ get_or_default c.loop-slice.rows.items (c.loop-slice.slice - c.args.first) _ [] within)) c.loop-slice.invariant

pub returns : goal.returns
returns c =
    let top : c.loop-slice.slice ≤ c.args.to = c.loop-slice.auto.slice-end c.requires.order in
    let all : c.loop-slice.slice ≡ c.args.to = omega arith in
    subst (λ (k : ℕ). AreAdded c.args.offer.now c.args.first c.args.from k c.args.rows.now.items c.loop-slice.rows.items) all c.loop-slice.invariant
