-- What a request asks for, and what it gives at each slice.
use Rattle.std.specs.Prelude.{◌≡◌, ℕ, ◌-◌, ◌≤◌, ℤ, pos, ◌-ℤ◌, map, All}
use Rattle.plan_base.specs.Limits.{most_slices, most_value, most_fade}
use Rattle.plan_base.specs.declared.parts.RequestPart.{RequestPart}
use Rattle.plan_base.specs.Snapshot.{IsMoment}
use Rattle.plan_base.specs.Starts.{slices_for, least_of, faded}
use Rattle.plan_base.specs.Verdict.{IsPriceInRange}
use Rattle.bound_checker.specs.declared.worth.Offer.{Offer}
use Rattle.bound_checker.specs.Stretches.{IsObservation}

-- the numbers of the offer are in their ranges
pub record IsOfferRange (o : Offer) : Type 0 where
  pub observation : IsObservation o.observation
  pub size_least : 1 ≤ o.size
  pub size_most : o.size ≤ most_slices
  pub price : IsPriceInRange o.price
  pub value : o.value ≤ most_value
  pub fade : o.fade ≤ most_fade

-- what the request offers at a price, where slices have this length
pub record IsOffer (length : ℕ) (q : RequestPart) (cost : ℤ) (o : Offer) : Type 0 where
  pub len : o.observation.len ≡ length
  pub seconds : o.observation.seconds ≡ q.seconds
  pub size : o.size ≡ slices_for length q.seconds
  pub price : o.price ≡ cost
  pub value : o.value ≡ q.value
  pub fade : o.fade ≡ q.fade
  pub earliest : o.earliest ≡ slices_for length (least_of (map (λ w. w.from.0) q.windows))

-- what it is worth beyond its price if it begins at slice k
abbrev pub offer_weight : Offer → ℕ → ℤ
offer_weight o k = pos (faded o.value o.fade (k - o.earliest)) -ℤ o.price
