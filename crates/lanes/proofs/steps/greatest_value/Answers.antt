use Rattle.std.proofs.Common.{◌≡◌, ◌<◌, ◌+◌, ℕ, max, fold, drop, List, length, map, slice_index_or, nat_cmp, sym, ◌∙◌, ap, arith}
use Rattle.std.specs.Ordering.{ord_max}
use Rattle.std.proofs.lemmas.List.{length-map, get_or-map, at_drop_more}
use Rattle.std.proofs.lemmas.Grind.{common_steps}
use Rattle.plan_base.specs.Requests.{Listed, listed}
use Rattle.plan_base.proofs.Here.{element_at}
use Rattle.lanes.proofs.steps.greatest_value.Goals as goal

larger_is : (a b : ℕ) → ord_max nat_cmp a b ≡ max a b
larger_is a b = grind (arith, common_steps)

pub loop-place-preserved : goal.loop-place-preserved
loop-place-preserved c =
    let s = c.args.snapshot.now in
    let values : List ℕ = map (λ x. x.request.value) (listed s) in
    let place = c.loop-place.place in
    let greatest = c.loop-place.greatest in
    let within : place < length (listed s) = omega (arith, c.request_count-place-end.ensures.value) in
    let size : length values ≡ length (listed s) = length-map (listed s) (λ x. x.request.value) in
    let x : Listed = (element_at (listed s) place within).0 in
    let read : slice_index_or values place 0 ≡ c.request_at.result.now.value
    = get_or-map (λ x. x.request.value) (listed s) place x 0 within ∙ ap (λ q. q.value) (c.request_at.ensures x)
    in
    let next : c.max-greatest.result ≡ max greatest (slice_index_or values place 0)
    = c.max-greatest.ensures ∙ larger_is greatest c.request_at.result.now.value ∙ ap (max greatest) (sym read)
    in
    ap (λ (n : ℕ). fold max n (drop (place + 1) values)) next ∙ sym (at_drop_more (fold max greatest) values place 0 (omega arith)) ∙ c.loop-place.invariant
