-- Net prices, the prices of a group's requests, and the numbers that are made of them.
use Rattle.std.specs.Prelude.{◌≡◌, ℕ, ◌+◌, ◌≤◌, ◌<◌, Bool, ◌&&◌, int_lt, int_le, if◌then◌else◌, ◌⊎◌, ℤ}
use Rattle.std.specs.Prelude.{pos, neg_ℤ, ◌≤ℤ◌, List, length, map, take, drop, slice_index_or, All, Contains}
use Rattle.std.specs.List.{list_all}
use Rattle.plan_base.specs.declared.parts.Parts.{Parts}
use Rattle.plan_base.specs.Limits.{most_net_price}
use Rattle.plan_base.specs.Sums.{total}
use Rattle.plan_base.specs.Requests.{listed, place_of, members}
use Rattle.plan_base.specs.Bound.{price, net_price}

-- not above the greatest size of a net price
abbrev pub IsNetInRange : ℤ → Type 0
IsNetInRange c = (neg_ℤ (pos most_net_price) ≤ℤ c) × (c ≤ℤ pos most_net_price)

-- the prices of the requests of the group at place g, in their order
abbrev pub group_prices : Parts → List ℤ → ℕ → List ℤ
group_prices s prices g = map (price s prices) (members s g)

-- the net prices of all requests, in their order
abbrev pub net_prices : Parts → List ℤ → List ℕ → List ℤ
net_prices s prices quota_prices = map (λ x. net_price s prices quota_prices x.request.request.0) (listed s)

-- the number where it is above 0, else 0
abbrev pub positive : ℤ → ℤ
positive c = if int_lt (pos 0) c then c else pos 0

-- the sum of what is above 0
abbrev pub positive_sum : List ℤ → ℤ
positive_sum prices = total positive prices

-- the sum of all
abbrev pub price_sum : List ℤ → ℤ
price_sum prices = total (λ c. c) prices

-- the greatest of the prices, or 0 where none is above 0
pub record IsGreatestPrice (prices : List ℤ) (b : ℤ) : Type 0 where
  pub least : pos 0 ≤ℤ b
  pub above : All (λ c. c ≤ℤ b) prices
  pub reached : (b ≡ pos 0) ⊎ Contains prices b

-- the price at a place is above each before it, and below none after it
abbrev pub is_first_greatest : List ℤ → ℕ → Bool
is_first_greatest prices i =
    list_all (λ c. int_lt c (slice_index_or prices i (pos 0))) (take i prices) && list_all (λ c. int_le c (slice_index_or prices i (pos 0))) (drop i prices)

-- from the place of a group's first request on, its requests follow each other among all
pub record IsGroupRun (s : Parts) (g a : ℕ) : Type 0 where
  pub within : a + length (members s g) ≤ length (listed s)
  pub each : (i : ℕ) → i < length (members s g) → place_of s (slice_index_or (members s g) i 0) ≡ a + i
