-- Planned claims for one snapshot have one bound and one value, whatever the number of workers.
use Rattle.std.proofs.Common.{◌≡◌, ℕ, ◌≤◌, ◌<◌, ◌⊎◌, ℤ, pos, ◌≤ℤ◌, List, inl, inr, arith}
use Rattle.std.proofs.lemmas.Int.{ints}
use Rattle.plan_base.specs.declared.claim.Claim.{Claim}
use Rattle.plan_base.specs.declared.claim.Placement.{Placement}
use Rattle.plan_base.specs.declared.claim.Settings.{Settings}
use Rattle.plan_base.specs.declared.parts.Parts.{Parts}
use Rattle.plan_base.specs.Starts.{value_of_plan}
use Rattle.plan_base.specs.Fill.{IsGreedy}
use Rattle.plan_base.specs.Repaired.{IsListing}
use Rattle.plan_base.specs.Planned.{IsRoundOf, IsRoundPlan, IsPlanned, IsRoundShown}
use Rattle.lanes.specs.Laws.{HaveSameRounds, WorkersAgree}

-- the rounds of the one settings are those of the other
round_of : (s : Parts) (x y : Settings) (lane round : ℕ) (prices : List ℤ) (quota_prices : List ℕ) → HaveSameRounds x y
    → IsRoundOf s x lane round prices quota_prices → IsRoundOf s y lane round prices quota_prices
round_of s x y lane round prices quota_prices same is = record {
  lane_known = omega (arith, same.lanes, is.lane_known);
  round_known = omega (arith, same.rounds, is.round_known);
  is_round = is.is_round;
}

round_plan : (s : Parts) (x y : Settings) (lane round value : ℕ) (plan : List Placement) → HaveSameRounds x y → IsRoundPlan s x lane round value plan
    → IsRoundPlan s y lane round value plan
round_plan s x y lane round value plan same is = record {
  prices = is.prices;
  quota_prices = is.quota_prices;
  is_round = round_of s x y lane round is.prices is.quota_prices same is.is_round;
  repaired = is.repaired;
  worth = is.worth;
}

turned : (x y : Settings) → HaveSameRounds x y → HaveSameRounds y x
turned x y same = record { lanes = omega (arith, same.lanes); rounds = omega (arith, same.rounds) }

bound_below : (s : Parts) (x y : Settings) (a b : Claim) → HaveSameRounds x y → IsPlanned s x a → IsPlanned s y b → a.bound ≤ b.bound
bound_below s x y a b same p q =
    let gives = round_of s y x q.bound.lane q.bound.round b.prices.0 b.quota_prices.0 (turned x y same) q.bound.gives in
    let below : pos a.bound ≤ℤ pos b.bound = p.bound.least q.bound.lane q.bound.round b.prices.0 b.quota_prices.0 (pos b.bound) gives q.certified.bound in
    omega (arith, ints, below)

pub one_bound : (s : Parts) (x y : Settings) (a b : Claim) → HaveSameRounds x y → IsPlanned s x a → IsPlanned s y b → a.bound ≡ b.bound
one_bound s x y a b same p q = omega (arith, bound_below s x y a b same p q, bound_below s y x b a (turned x y same) q p)

shown_below : (s : Parts) (x y : Settings) (a b : Claim) (greedy : List Placement) → HaveSameRounds x y → IsGreedy s greedy → IsPlanned s y b
    → ((value_of_plan s greedy ≡ a.value) × IsListing greedy a.placements) ⊎ ((value_of_plan s greedy < a.value) × IsRoundShown s x a)
    → a.value ≤ b.value
shown_below s x y a b greedy same is q (inl h) =
    let most : value_of_plan s greedy ≤ b.value = q.value.above_greedy greedy is in
    let worth : value_of_plan s greedy ≡ a.value = h.0 in
    omega (arith, most, worth)
shown_below s x y a b greedy same is q (inr h) =
    let shown = h.1 in
    q.value.above_rounds shown.lane shown.round a.value shown.plan (round_plan s x y shown.lane shown.round a.value shown.plan same shown.gives)

value_below : (s : Parts) (x y : Settings) (a b : Claim) → HaveSameRounds x y → IsPlanned s x a → IsPlanned s y b → a.value ≤ b.value
value_below s x y a b same p q = shown_below s x y a b p.plan.0 same p.plan.1 q p.plan.2

pub one_value : (s : Parts) (x y : Settings) (a b : Claim) → HaveSameRounds x y → IsPlanned s x a → IsPlanned s y b → a.value ≡ b.value
one_value s x y a b same p q = omega (arith, value_below s x y a b same p q, value_below s y x b a (turned x y same) q p)

pub workers_agree : WorkersAgree
workers_agree s x y a b same p q = (one_bound s x y a b same p q, one_value s x y a b same p q)
