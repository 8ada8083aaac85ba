-- The net prices of a group's requests.
use Rattle.std.specs.Prelude.{◌≡◌, ℕ, ◌*◌, ◌≤◌, ℤ, pos, ◌-ℤ◌, List, [], ◌∷◌, length, slice_index_or, Option, Some, None, All}
use Rattle.plan_base.specs.Limits.{most_quota_price, most_seconds, most_members}
use Rattle.plan_base.specs.declared.parts.RequestPart.{RequestPart}
use Rattle.plan_base.specs.Verdict.{IsPriceInRange}
use Rattle.bound_checker.specs.declared.nets.Nets.{Nets}

-- the prices of requests less what their seconds cost at a price
abbrev pub nets_at : ℕ → List RequestPart → List ℤ → List ℤ
nets_at u [] cs = []
nets_at u (q ∷ qs) [] = []
nets_at u (q ∷ qs) (c ∷ cs) = (c -ℤ pos (u * q.seconds)) ∷ nets_at u qs cs

-- the net prices that these are
abbrev pub net_list : Nets → List ℤ
net_list x = nets_at x.quota_price x.requests.now x.prices.now

-- as many prices as requests, and all numbers in their ranges
pub record IsNets (x : Nets) : Type 0 where
  pub count : length x.prices.now ≡ length x.requests.now
  pub few : length x.requests.now ≤ most_members
  pub range : All IsPriceInRange x.prices.now
  pub quota : x.quota_price ≤ most_quota_price
  pub seconds : All (λ q. q.seconds ≤ most_seconds) x.requests.now

-- the price of the quota that is named, if one is
abbrev pub price_of : List ℕ → Option ℕ → ℕ
price_of quota_prices None = 0
price_of quota_prices (Some q) = slice_index_or quota_prices q 0
