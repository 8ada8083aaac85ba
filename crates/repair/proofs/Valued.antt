-- What starts and plans are worth.
use Rattle.std.proofs.Common.{◌≡◌, ℕ, ◌+◌, ◌-◌, ◌<◌, ◌⊎◌, inl, inr, List, [], ◌∷◌, ◌++◌, length, map, drop, slice_index_or, refl, sym, ◌∙◌, ap, subst, arith}
use Rattle.std.specs.Prelude.{HoldsAt}
use Rattle.std.proofs.lemmas.List.{length_push, get_or_append_left, get_or_push}
use Rattle.plan_base.specs.declared.parts.Parts.{Parts}
use Rattle.plan_base.specs.declared.parts.RequestPart.{RequestPart}
use Rattle.plan_base.specs.declared.span.Span.{Span}
use Rattle.plan_base.specs.declared.claim.Placement.{Placement}
use Rattle.plan_base.specs.declared.number.RequestNo.{RequestNo}
use Rattle.plan_base.specs.Requests.{Listed, listed, place_of, IsKnown, group_of, request_value, fade_of}
use Rattle.plan_base.specs.Operators.{is_and}
use Rattle.plan_base.specs.Round.{op_at}
use Rattle.plan_base.specs.Snapshot.{IsOrderly}
use Rattle.plan_base.specs.Starts.{slices_for, least_of, faded, worth_at, value_of_plan}
use Rattle.std.proofs.lemmas.List.Sums.{sum_by-drop_more}
use Rattle.plan_base.proofs.Known.{known_as}
use Rattle.plan_base.proofs.Here.{IsHere, request_here}
use Rattle.repair.specs.declared.offers.Offer.{Offer}
use Rattle.repair.specs.Worths.{IsOffer, IsOfferOf, AreOffersOf}

last_or_before : (j i : ℕ) → j < i + 1 → (j ≡ i) ⊎ (j < i)
last_or_before j i h = grind arith

pub offers_none : (s : Parts) → AreOffersOf s 0 []
offers_none s = record { count = refl; each = λ i below. absurd (omega arith) }

pub offers_more : (s : Parts) (n : ℕ) (offers : List Offer) (offer : Offer) → AreOffersOf s n offers → IsOfferOf s n offer
    → AreOffersOf s (n + 1) (offers ++ offer ∷ [])
offers_more s n offers offer are is =
    let count : length offers ≡ n = are.count in
    record {
      count = length_push offers offer ∙ ap (λ (m : ℕ). m + 1) count;
      each = λ i below d. elim (last_or_before i n below) [
        | inl last ↦ subst (IsOfferOf s i) (sym (get_or_push offers offer d i (omega arith))) (subst (λ (m : ℕ). IsOfferOf s m offer) (sym last) is)
        | inr before ↦ subst (IsOfferOf s i) (sym (get_or_append_left offers (offer ∷ []) d i (omega arith))) (are.each i before d)
      ];
    }

-- what the request at a place offers
pub offer_made : (s : Parts) (place : ℕ) (q : RequestPart) (offer : Offer) → IsOrderly s → place < length (listed s)
    → HoldsAt (λ x. x.request ≡ q) (listed s) place
    → offer.request ≡ q.request → offer.is_of_and ≡ is_and (op_at s (group_of s q.request.0)) → offer.value ≡ q.value → offer.fade ≡ q.fade
    → offer.earliest ≡ slices_for s.len (least_of (map (λ w. w.from.0) q.windows)) → IsOfferOf s place offer
offer_made s place q offer o l at number of_and value fade earliest d =
    let here : IsHere s place q = request_here s place q o l at in
    subst (λ (p : RequestPart). IsOffer s p.request.0 offer) (sym (at d)) (record {
      number = ap (λ (n : RequestNo). n.0) number;
      of_and = of_and;
      value = value ∙ sym here.value;
      fade = fade ∙ sym here.fade;
      earliest = earliest ∙ ap (λ (ws : List Span). slices_for s.len (least_of (map (λ w. w.from.0) ws))) (sym here.windows);
    })

-- the offer of a known request
pub offer_known : (s : Parts) (offers : List Offer) (r place : ℕ) (offer : Offer) → AreOffersOf s (length (listed s)) offers → IsKnown s r
    → place ≡ place_of s r → slice_index_or offers place offer ≡ offer → IsOffer s r offer
offer_known s offers r place offer are known at is =
    let x = known_as s r known in
    let here : IsOffer s (slice_index_or (listed s) place x.0).request.request.0 (slice_index_or offers place offer) =
    are.each place (let k = known in omega arith) offer x.0 in
    let same : slice_index_or (listed s) place x.0 ≡ x.0 = ap (λ (k : ℕ). slice_index_or (listed s) k x.0) at ∙ x.1.at_place in
    subst (λ (n : ℕ). IsOffer s n offer) (ap (λ (y : Listed). y.request.request.0) same ∙ x.1.number)
    (subst (IsOffer s (slice_index_or (listed s) place x.0).request.request.0) is here)

-- what a start is worth, by the offer of its request
pub worth_by : (s : Parts) (p : Placement) (offer : Offer) (value fade delay : ℕ) → IsOffer s p.request.0 offer → value ≡ offer.value
    → fade ≡ offer.fade → delay ≡ p.slice.0 - offer.earliest → faded value fade delay ≡ worth_at s p
worth_by s p offer value fade delay is v f d =
    ap (λ (n : ℕ). faded n fade delay) (v ∙ is.value) ∙ ap (λ (n : ℕ). faded (request_value s p.request.0) n delay) (f ∙ is.fade)
    ∙ ap (λ (n : ℕ). faded (request_value s p.request.0) (fade_of s p.request.0) n) (d ∙ ap (λ (n : ℕ). p.slice.0 - n) is.earliest)

-- the value of one start more
pub value_more : (s : Parts) (plan : List Placement) (i : ℕ) (d : Placement) (value more whole : ℕ) → i < length plan
    → more ≡ worth_at s (slice_index_or plan i d) → value + value_of_plan s (drop i plan) ≡ whole
    → value + more + value_of_plan s (drop (i + 1) plan) ≡ whole
value_more s plan i d value more whole l is so_far =
    let step : value_of_plan s (drop i plan) ≡ worth_at s (slice_index_or plan i d) + value_of_plan s (drop (i + 1) plan) =
    sum_by-drop_more (worth_at s) plan i d l in
    omega arith
