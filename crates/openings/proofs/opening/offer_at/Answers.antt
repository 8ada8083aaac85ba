use Rattle.std.proofs.Common.{rules, pos, ℤ, w64, List, slice_index_or, subst}
use Rattle.std.proofs.lemmas.Int.{to_z-of_z}
use Rattle.plan_base.specs.declared.parts.Parts.{Parts}
use Rattle.plan_base.proofs.Here.{IsHere, request_here}
use Rattle.bound_checker.specs.Offers.{IsOffer}
use Rattle.openings.proofs.Flags.{number_here, offer_is}
use Rattle.openings.proofs.opening.offer_at.Goals as goal
use mir.Val.{SFits}

pub offer_of-requires-clause-asked : goal.offer_of-requires-clause-asked
offer_of-requires-clause-asked c =
    (request_here c.args.snapshot.now c.known_place-place.result c.request_at.result.now c.recall_valid.ensures.orderly
    c.known_place-place.ensures.within c.request_at.ensures).asked

pub returns : goal.returns
returns c =
    let here : IsHere c.args.snapshot.now c.known_place-place.result c.request_at.result.now =
    request_here c.args.snapshot.now c.known_place-place.result c.request_at.result.now c.recall_valid.ensures.orderly
    c.known_place-place.ensures.within c.request_at.ensures in
    let fit : SFits w64 (slice_index_or c.as_slice.result.now c.known_place-place.result (pos 0)) = search rules in
    let made = simp to_z-of_z at c.offer_of.ensures.offer in
    let offer : IsOffer c.args.snapshot.now.len c.request_at.result.now
    (slice_index_or c.args.prices.now.0 c.known_place-place.result (pos 0)) c.offer_of.result
    = subst (λ (cs : List ℤ). IsOffer c.args.snapshot.now.len c.request_at.result.now
    (slice_index_or cs c.known_place-place.result (pos 0)) c.offer_of.result) c.as_slice.ensures
    (subst (λ (s : Parts). IsOffer s.len c.request_at.result.now
    (slice_index_or c.as_slice.result.now c.known_place-place.result (pos 0)) c.offer_of.result) c.parts.ensures.value made) in
    offer_is c.args.snapshot.now c.args.prices.now.0 c.args.request.0 c.known_place-place.result c.request_at.result.now c.offer_of.result here
    (number_here c.args.snapshot.now c.args.request.0 c.known_place-place.result c.request_at.result.now here c.requires.request
    c.known_place-place.ensures.value) offer c.offer_of.ensures.range
