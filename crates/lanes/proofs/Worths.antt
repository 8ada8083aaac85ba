-- The request of a start, as it stands in the snapshot.
use Rattle.std.proofs.Common.{◌≡◌, ℕ, ◌-◌, List, map, slice_index_or, sym, ap, ◌∙◌}
use Rattle.std.specs.Prelude.{HoldsAt}
use Rattle.plan_base.specs.declared.parts.Parts.{Parts}
use Rattle.plan_base.specs.declared.parts.RequestPart.{RequestPart}
use Rattle.plan_base.specs.declared.span.Span.{Span}
use Rattle.plan_base.specs.declared.claim.Placement.{Placement}
use Rattle.plan_base.specs.Requests.{Listed, listed, place_of, IsKnown, request_value, fade_of}
use Rattle.plan_base.specs.Starts.{slices_for, least_of, faded, worth_at, earliest_slice}
use Rattle.plan_base.proofs.Known.{known_as}
use Rattle.plan_base.proofs.Here.{IsHere}

-- the request that stands at the place of r is r
pub number_here : (s : Parts) (r place : ℕ) (q : RequestPart) → IsKnown s r → place ≡ place_of s r
    → HoldsAt (λ x. x.request ≡ q) (listed s) place → q.request.0 ≡ r
number_here s r place q known is at =
    let x = known_as s r known in
    let same : slice_index_or (listed s) place x.0 ≡ x.0 = ap (λ (k : ℕ). slice_index_or (listed s) k x.0) is ∙ x.1.at_place in
    ap (λ (p : RequestPart). p.request.0) (sym (at x.0)) ∙ ap (λ (y : Listed). y.request.request.0) same ∙ x.1.number

-- what a start is worth, by what its request is worth and how it fades
pub worth_here : (s : Parts) (p : Placement) (place : ℕ) (q : RequestPart) (value fade earliest delay : ℕ) → IsHere s place q → q.request.0 ≡ p.request.0
    → value ≡ q.value → fade ≡ q.fade → earliest ≡ slices_for s.len (least_of (map (λ w. w.from.0) q.windows)) → delay ≡ p.slice.0 - earliest
    → faded value fade delay ≡ worth_at s p
worth_here s p place q value fade earliest delay here number v f e d =
    let r : ℕ = p.request.0 in
    let first : earliest ≡ earliest_slice s r = e ∙ ap (λ (ws : List Span). slices_for s.len (least_of (map (λ w. w.from.0) ws))) (sym here.windows)
    ∙ ap (earliest_slice s) number in
    ap (λ (n : ℕ). faded n fade delay) (v ∙ sym here.value ∙ ap (request_value s) number)
    ∙ ap (λ (n : ℕ). faded (request_value s r) n delay) (f ∙ sym here.fade ∙ ap (fade_of s) number)
    ∙ ap (λ (n : ℕ). faded (request_value s r) (fade_of s r) n) (d ∙ ap (λ (n : ℕ). p.slice.0 - n) first)
