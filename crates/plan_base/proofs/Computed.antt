-- What the definitions give on the small snapshots, worked out by hand.
use Rattle.std.proofs.Common.{◌≡◌, pos, neg_ℤ, [], ◌∷◌, true, false, refl}
use Rattle.plan_base.specs.Requests.{place_of, group_of}
use Rattle.plan_base.specs.Starts.{size_of, end_second, worth_at, value_of_plan}
use Rattle.plan_base.specs.Feasible.{quota_seconds}
use Rattle.plan_base.specs.Bound.{price, weight, surplus, net_price}
use Rattle.plan_base.specs.Round.{is_taken, demand_of, greatest_value, step_of, quota_step, next_prices, next_quota_prices}
use Rattle.plan_base.proofs.Small.{small, fading, at}

whole_slice : size_of small 1 ≡ 1
whole_slice = refl

second_begun : size_of small 4 ≡ 2
second_begun = refl

three_slices : size_of small 9 ≡ 3
three_slices = refl

ends : end_second small (at 4 3) ≡ 1201
ends = refl

place_of_last : place_of small 9 ≡ 2
place_of_last = refl

group_of_last : group_of small 9 ≡ 1
group_of_last = refl

not_faded : worth_at small (at 1 0) ≡ 50000
not_faded = refl

after_three : worth_at small (at 1 3) ≡ 35000
after_three = refl

after_nine : worth_at small (at 1 9) ≡ 5000
after_nine = refl

after_ten : worth_at small (at 1 10) ≡ 1
after_ten = refl

after_hundred : worth_at small (at 1 100) ≡ 1
after_hundred = refl

never_fades : worth_at small (at 4 200) ≡ 70000
never_fades = refl

plan_of_two : value_of_plan small (at 4 0 ∷ at 1 3 ∷ []) ≡ 105000
plan_of_two = refl

seconds_of_quota : quota_seconds small 0 (1 ∷ 4 ∷ []) ≡ 301
seconds_of_quota = refl

price_of_middle : price small (pos 5 ∷ neg_ℤ (pos 7) ∷ pos 11 ∷ []) 4 ≡ neg_ℤ (pos 7)
price_of_middle = refl

weight_at_price : weight small (pos 60000 ∷ pos 0 ∷ pos 0 ∷ []) (at 1 3) ≡ neg_ℤ (pos 25000)
weight_at_price = refl

surplus_of_two : surplus small (pos 20000 ∷ pos 10 ∷ pos 0 ∷ []) (at 4 0 ∷ at 1 3 ∷ []) ≡ pos 84990
surplus_of_two = refl

net_of_quota : net_price small (pos 0 ∷ pos 50000 ∷ pos 0 ∷ []) (167 ∷ []) 4 ≡ neg_ℤ (pos 267)
net_of_quota = refl

net_without_quota : net_price small (pos 50000 ∷ pos 0 ∷ pos 0 ∷ []) (167 ∷ []) 1 ≡ pos 50000
net_without_quota = refl

net_without_prices : net_price small (pos 0 ∷ pos 50000 ∷ pos 0 ∷ []) [] 4 ≡ pos 50000
net_without_prices = refl

greatest : greatest_value small ≡ 70000
greatest = refl

first_step : step_of 0 0 50000 ≡ 50000
first_step = refl

second_step : step_of 0 1 50000 ≡ 25000
second_step = refl

second_lane : step_of 1 0 50000 ≡ 25000
second_lane = refl

least_step : step_of 7 255 1 ≡ 1
least_step = refl

step_of_quota : quota_step 50000 ≡ 13
step_of_quota = refl

-- the rounds of the SINGLE alone: unused at 50000, twice at 25000, not at 41666, and so on
unused : next_prices fading (step_of 0 1 50000) (pos 50000 ∷ []) (net_price fading (pos 50000 ∷ []) []) [] ≡ pos 25000 ∷ []
unused = refl

used_twice : next_prices fading (step_of 0 2 50000) (pos 25000 ∷ []) (net_price fading (pos 25000 ∷ []) []) (at 1 3 ∷ at 1 4 ∷ []) ≡ pos 41666 ∷ []
used_twice = refl

unused_again : next_prices fading (step_of 0 3 50000) (pos 41666 ∷ []) (net_price fading (pos 41666 ∷ []) []) [] ≡ pos 29166 ∷ []
unused_again = refl

used_as_taken : next_prices fading (step_of 0 4 50000) (pos 30833 ∷ []) (net_price fading (pos 30833 ∷ []) []) (at 1 3 ∷ []) ≡ pos 30833 ∷ []
used_as_taken = refl

surplus_of_twice : surplus fading (pos 25000 ∷ []) (at 1 3 ∷ at 1 4 ∷ []) ≡ pos 15000
surplus_of_twice = refl

-- a ONEOF takes the first of its greatest price above 0
takes_greater : is_taken small (price small (pos 0 ∷ pos 5 ∷ pos 6 ∷ [])) 9 ≡ true
takes_greater = refl

takes_one : is_taken small (price small (pos 0 ∷ pos 5 ∷ pos 6 ∷ [])) 4 ≡ false
takes_one = refl

takes_first : is_taken small (price small (pos 0 ∷ pos 5 ∷ pos 5 ∷ [])) 4 ≡ true
takes_first = refl

takes_none : is_taken small (price small (pos 0 ∷ pos 0 ∷ pos 0 ∷ [])) 4 ≡ false
takes_none = refl

demand : demand_of small (price small (pos 7 ∷ pos 5 ∷ pos 6 ∷ [])) 0 ≡ 900
demand = refl

-- 900 seconds are demanded of 600: up by 13 at a step of 50000
quota_price_rises : next_quota_prices small 50000 (100 ∷ []) (price small (pos 7 ∷ pos 5 ∷ pos 6 ∷ [])) ≡ 113 ∷ []
quota_price_rises = refl

quota_price_falls : next_quota_prices small 50000 (100 ∷ []) (price small (pos 7 ∷ pos 0 ∷ pos 0 ∷ [])) ≡ 87 ∷ []
quota_price_falls = refl

quota_price_stays_above : next_quota_prices small 50000 (4 ∷ []) (price small (pos 7 ∷ pos 0 ∷ pos 0 ∷ [])) ≡ 0 ∷ []
quota_price_stays_above = refl

quota_price_stays_within : next_quota_prices small 50000 (199999 ∷ []) (price small (pos 7 ∷ pos 5 ∷ pos 6 ∷ [])) ≡ 200000 ∷ []
quota_price_stays_within = refl
