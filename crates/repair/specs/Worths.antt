-- What requests are worth, and how they fade.
use Rattle.std.specs.Prelude.{◌≡◌, ℕ, ◌<◌, List, length, HoldsAt}
use Rattle.plan_base.specs.declared.parts.Parts.{Parts}
use Rattle.plan_base.specs.Requests.{listed, group_of, request_value, fade_of}
use Rattle.plan_base.specs.Starts.{earliest_slice}
use Rattle.plan_base.specs.Operators.{is_and}
use Rattle.plan_base.specs.Round.{op_at}
use Rattle.groups.specs.Places.{ArePlaces}
use Rattle.repair.specs.declared.offers.Offer.{Offer}
use Rattle.repair.specs.declared.offers.Offers.{Offers}

-- what request r offers
pub record IsOffer (s : Parts) (r : ℕ) (offer : Offer) : Type 0 where
  pub number : offer.request.0 ≡ r
  pub of_and : offer.is_of_and ≡ is_and (op_at s (group_of s r))
  pub value : offer.value ≡ request_value s r
  pub fade : offer.fade ≡ fade_of s r
  pub earliest : offer.earliest ≡ earliest_slice s r

-- what the request at a place offers
abbrev pub IsOfferOf : Parts → ℕ → Offer → Type 0
IsOfferOf s place offer = HoldsAt (λ x. IsOffer s x.request.request.0 offer) (listed s) place

-- the offers of the first n requests, in their order
pub record AreOffersOf (s : Parts) (n : ℕ) (offers : List Offer) : Type 0 where
  pub count : length offers ≡ n
  pub each : (i : ℕ) → i < n → HoldsAt (IsOfferOf s i) offers i

-- the offers of all requests, and where these stand
pub record AreOffers (s : Parts) (offers : Offers) : Type 0 where
  pub by_place : AreOffersOf s (length (listed s)) offers.by_place.items
  pub places : ArePlaces s offers.places
