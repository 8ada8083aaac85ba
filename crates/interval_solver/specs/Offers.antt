-- What a request offers at each slice.
use Rattle.std.specs.Prelude.{◌≡◌, ℕ, ◌-◌, ◌≤◌, map}
use Rattle.plan_base.specs.Limits.{most_slices, most_value, most_pending, most_fade}
use Rattle.plan_base.specs.declared.parts.RequestPart.{RequestPart}
use Rattle.plan_base.specs.Starts.{slices_for, least_of, faded}
use Rattle.interval_solver.specs.declared.offer.Offer.{Offer}

-- the numbers of the offer are in their ranges
pub record IsOfferRange (o : Offer) : Type 0 where
  pub place : o.place ≤ most_pending
  pub size : o.size ≤ most_slices
  pub value : o.value ≤ most_value
  pub fade : o.fade ≤ most_fade

-- what the request at a place offers, where slices have this length
pub record IsOffer (length : ℕ) (q : RequestPart) (place : ℕ) (o : Offer) : Type 0 where
  pub at : o.place ≡ place
  pub size : o.size ≡ slices_for length q.seconds
  pub value : o.value ≡ q.value
  pub fade : o.fade ≡ q.fade
  pub earliest : o.earliest ≡ slices_for length (least_of (map (λ w. w.from.0) q.windows))

-- what it is worth if it begins at slice k
abbrev pub offer_worth : Offer → ℕ → ℕ
offer_worth o k = faded o.value o.fade (k - o.earliest)
