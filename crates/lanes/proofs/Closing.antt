-- From what workers have found, and why they made no further rounds, to a planned claim.
use Rattle.std.proofs.Common.{◌≡◌, ℕ, ◌^◌, ◌≤◌, ◌<◌, ◌⊎◌, inl, inr, List, [], length, sym, ap, subst, ◌∙◌, arith}
use Rattle.std.specs.Prelude.{ℤ, pos, ◌≤ℤ◌, All}
use Rattle.std.proofs.lemmas.Int.{ints}
use Rattle.plan_base.specs.declared.parts.Parts.{Parts}
use Rattle.plan_base.specs.declared.claim.Placement.{Placement}
use Rattle.plan_base.specs.declared.claim.Settings.{Settings}
use Rattle.plan_base.specs.declared.claim.Claim.{Claim}
use Rattle.plan_base.specs.Snapshot.{IsOrderly}
use Rattle.plan_base.specs.Starts.{value_of_plan}
use Rattle.plan_base.specs.Feasible.{IsFeasible}
use Rattle.plan_base.specs.Bound.{IsBound}
use Rattle.plan_base.specs.Fill.{IsGreedy}
use Rattle.plan_base.specs.Round.{IsRoundPrices}
use Rattle.plan_base.specs.Repaired.{IsListing}
use Rattle.plan_base.specs.Planned.{IsRoundOf, IsEarlierRound, IsRoundPlan, IsPlanShown, IsPlanned}
use Rattle.plan_base.proofs.Duality.{duality}
use Rattle.plan_base.specs.Limits.{most_quota_price}
use Rattle.plan_base.specs.Verdict.{IsPriceInRange}
use Rattle.plan_base.proofs.Limits.{value_limit}
use Rattle.plan_base.proofs.OneFill.{one_filled}
use Rattle.lanes.specs.Found.{FoundSeen, IsBoundMade, IsValueMade, IsLeastMade, IsFirstValue, IsFound}
use Rattle.lanes.specs.Searched.{up_to, IsValueGiven, IsMetBy}
use Rattle.plan_base.proofs.RepairedPlans.{repaired_feasible}

-- all rounds of lane j were made; or bound and value have met, and with one worker by what lanes up to j gave, or before any round of lane j or of a later one
abbrev pub IsSettled : Parts → Settings → (ℕ → ℕ → Type 0) → ℕ → ℕ → ℕ → ℕ → Type 0
IsSettled s settings made opening bound value j =
    ((k : ℕ) → k < settings.rounds → made j k)
    ⊎ ((bound ≤ value) × (settings.workers ≡ 1 → IsMetBy s made opening j ⊎ ((i k : ℕ) → made i k → i < j)))

-- what was found in all lanes of the settings, from the greedy plan on
pub record IsAllFound (s : Parts) (settings : Settings) (made : ℕ → ℕ → Type 0) (greedy : List Placement) (f : FoundSeen) : Type 0 where
  pub some_lanes : 1 ≤ settings.lanes
  pub some_rounds : 1 ≤ settings.rounds
  pub is_greedy : IsGreedy s greedy
  pub within : (j k : ℕ) → made j k → (j < settings.lanes) × (k < settings.rounds)
  pub closed : (j k l : ℕ) → made j l → k < l → made j k
  pub found : IsFound s settings.workers made (value_of_plan s greedy) greedy f
  pub settled : (j : ℕ) → j < settings.lanes → IsSettled s settings made (value_of_plan s greedy) f.bound f.value j

module _ (s : Parts) (settings : Settings) (made : ℕ → ℕ → Type 0) (greedy : List Placement) (f : FoundSeen) (orderly : IsOrderly s)
    (x : IsAllFound s settings made greedy f) where
  pub worth : value_of_plan s f.plan ≡ f.value
  worth = elim x.found.value.reached [ inl o ↦ ap (value_of_plan s) o.1 ∙ sym o.0 | inr y ↦ y.1.reached.worth ]

  below_limit : f.value < 10 ^ 12
  below_limit = let l = value_limit s f.plan orderly x.found.feasible in let w = worth in omega arith

  -- some round was made
  pub least : IsLeastMade s settings.workers made f.bound f.prices f.quota_prices
  least = elim x.found.bound [
    | inl none ↦ elim (x.settled 0 x.some_lanes) [
      | inl all ↦ absurd (none.0 0 0 (all 0 x.some_rounds))
      | inr met ↦ (let l = below_limit in let n = none.1 in
          let m = met.0 in absurd (omega arith))
    ]
    | inr l ↦ l
  ]

  -- no feasible plan is worth more than the bound of any prices
  dual : (plan : List Placement) (c : List ℤ) (u : List ℕ) (b : ℕ) → IsFeasible s plan → IsBound s c u (pos b) → value_of_plan s plan ≤ b
  dual plan c u b feasible is = let d = duality s c u plan (pos b) orderly feasible is in omega (arith, ints)

  value_below : f.value ≤ f.bound
  value_below = let l = dual f.plan f.prices f.quota_prices f.bound x.found.feasible least.reached.is_bound in let w = worth in omega arith

  below_all : (j k : ℕ) (c : List ℤ) (u : List ℕ) (b : ℤ) → IsRoundOf s settings j k c u → IsBound s c u b → pos f.bound ≤ℤ b
  below_all j k c u b of is = elim (x.settled j of.lane_known) [
    | inl all ↦ least.least j k c u b (all k of.round_known) of.is_round is
    | inr met ↦ (let d = duality s c u f.plan b orderly x.found.feasible is in let m = met.0 in let w = worth in omega (arith, ints))
  ]

  above_all : (j k v : ℕ) (plan : List Placement) → IsRoundPlan s settings j k v plan → v ≤ f.value
  above_all j k v plan of = elim (x.settled j of.is_round.lane_known) [
    | inl all ↦ (let a = x.found.value.above j k of.prices of.quota_prices plan (all k of.is_round.round_known) of.is_round.is_round of.repaired in
        let w = of.worth in omega arith)
    | inr met ↦ (let d = dual plan f.prices f.quota_prices f.bound (repaired_feasible s of.prices plan orderly of.repaired) least.reached.is_bound in
        let m = met.0 in let w = of.worth in omega arith)
  ]

  -- a value that lanes gave is no greater than the one that was found
  given_below : (j v : ℕ) → IsValueGiven s (up_to made j) (value_of_plan s greedy) v → v ≤ f.value
  given_below j v (inl under) = let a = x.found.value.above_opening in omega arith
  given_below j v (inr (q, y)) = let a = x.found.value.above y.lane y.round y.prices y.quota_prices q y.was_made.0 y.gives y.repaired in
      let w = y.worth in omega arith

  -- where lanes up to j gave a bound no higher than a value, one of them gave the least bound
  met_bound : (j : ℕ) (m : IsMetBy s made (value_of_plan s greedy) j) → (c : List ℤ) × (u : List ℕ) × IsBoundMade s (up_to made j) f.bound c u
  met_bound j m = elim m.gives [
    | inl none ↦ (let g = given_below j m.value m.has in let l = below_limit in let met = m.met in absurd (omega arith))
    | inr (c, u, y) ↦
        let g = given_below j m.value m.has in
        let met = m.met in
        let v = value_below in
        let l = least.least y.lane y.round c u (pos m.bound) y.was_made.0 y.gives y.is_bound in
        let same : m.bound ≡ f.bound = omega (arith, ints) in
        (c, u, subst (λ (b : ℕ). IsBoundMade s (up_to made j) b c u) same y)
  ]

  met_value : (j : ℕ) (m : IsMetBy s made (value_of_plan s greedy) j) → (f.value ≤ value_of_plan s greedy)
      ⊎ ((q : List Placement) × IsValueMade s (up_to made j) f.value q)
  met_value j m =
      let g = given_below j m.value m.has in
      let met = m.met in
      let v = value_below in
      let low : f.bound ≤ m.bound = elim m.gives [
        | inl none ↦ (let l = below_limit in absurd (omega arith))
        | inr (c, u, y) ↦ (let l = least.least y.lane y.round c u (pos m.bound) y.was_made.0 y.gives y.is_bound in omega (arith, ints))
      ] in
      let same : m.value ≡ f.value = omega arith in
      elim m.has [ inl under ↦ inl (omega arith) | inr (q, y) ↦ inr (q, subst (λ (w : ℕ). IsValueMade s (up_to made j) w q) same y) ]

  -- with one worker an earlier round gives no bound as low
  first_bound : settings.workers ≡ 1 → (j k : ℕ) (c : List ℤ) (u : List ℕ) → IsEarlierRound j k least.reached.lane least.reached.round
      → IsRoundOf s settings j k c u
      → ¬ (IsBound s c u (pos f.bound))
  first_bound alone j k c u (inr (same, less)) of is =
      least.first alone j k c u (x.closed j k least.reached.round (subst (λ (i : ℕ). made i least.reached.round) (sym same) least.reached.was_made)
      less) (inr (same, less)) of.is_round is
  first_bound alone j k c u (inl less) of is = elim (x.settled j of.lane_known) [
    | inl all ↦ least.first alone j k c u (all k of.round_known) (inl less) of.is_round is
    | inr (low, why) ↦ elim (why alone) [
      | inl m ↦ (let (d, w, y) = met_bound j m in
          least.first alone y.lane y.round d w y.was_made.0 (inl (let le = y.was_made.1 in omega arith)) y.gives y.is_bound)
      | inr above ↦ (let l = above least.reached.lane least.reached.round least.reached.was_made in absurd (omega arith))
    ]
  ]

  -- nor a plan as good, where the greedy one isn't
  first_value : (y : IsFirstValue s settings.workers made f.value f.plan) → value_of_plan s greedy < f.value → settings.workers ≡ 1
      → (j k : ℕ) (q : List Placement)
      → IsEarlierRound j k y.reached.lane y.reached.round → ¬ (IsRoundPlan s settings j k f.value q)
  first_value y more alone j k q (inr (same, less)) of =
      y.first alone j k of.prices of.quota_prices q
      (x.closed j k y.reached.round (subst (λ (i : ℕ). made i y.reached.round) (sym same) y.reached.was_made) less) (inr (same, less))
      of.is_round.is_round of.repaired of.worth
  first_value y more alone j k q (inl less) of = elim (x.settled j of.is_round.lane_known) [
    | inl all ↦ y.first alone j k of.prices of.quota_prices q (all k of.is_round.round_known) (inl less) of.is_round.is_round of.repaired of.worth
    | inr (low, why) ↦ elim (why alone) [
      | inl m ↦ elim (met_value j m) [
        | inl under ↦ absurd (omega arith)
        | inr (r, z) ↦ y.first alone z.lane z.round z.prices z.quota_prices r z.was_made.0
            (inl (let le = z.was_made.1 in omega arith)) z.gives z.repaired z.worth
      ]
      | inr above ↦ (let l = above y.reached.lane y.reached.round y.reached.was_made in absurd (omega arith))
    ]
  ]

  shown : (claim : Claim) → claim.value ≡ f.value → IsListing f.plan claim.placements → IsPlanShown s settings claim
  shown claim value listing = elim x.found.value.reached [
    | inl o ↦ (greedy, x.is_greedy, inl ((sym o.0 ∙ sym value), subst (λ (p : List Placement). IsListing p claim.placements) o.1 listing))
    | inr (more, y) ↦ (
      greedy,
      x.is_greedy,
      inr (
        (omega arith),
        record {
          lane = y.reached.lane;
          round = y.reached.round;
          plan = f.plan;
          gives = record {
            prices = y.reached.prices;
            quota_prices = y.reached.quota_prices;
            is_round = record {
              lane_known = (x.within y.reached.lane y.reached.round y.reached.was_made).0;
              round_known = (x.within y.reached.lane y.reached.round y.reached.was_made).1;
              is_round = y.reached.gives;
            };
            repaired = y.reached.repaired;
            worth = y.reached.worth ∙ sym value;
          };
          listing = listing;
          first = λ alone j k q earlier of. first_value y more alone j k q earlier (subst (λ (v : ℕ). IsRoundPlan s settings j k v q) value of);
        },
      ),
    )
  ]

  bound_of : (claim : Claim) → claim.bound ≡ f.bound → claim.prices.0 ≡ f.prices → claim.quota_prices.0 ≡ f.quota_prices
      → IsBound s claim.prices.0 claim.quota_prices.0 (pos claim.bound)
  bound_of claim bound prices quota_prices =
      subst (λ (c : List ℤ). IsBound s c claim.quota_prices.0 (pos claim.bound)) (sym prices)
      (subst (λ (u : List ℕ). IsBound s f.prices u (pos claim.bound)) (sym quota_prices)
      (subst (λ (b : ℕ). IsBound s f.prices f.quota_prices (pos b)) (sym bound) least.reached.is_bound))

  round_of : (claim : Claim) → claim.prices.0 ≡ f.prices → claim.quota_prices.0 ≡ f.quota_prices
      → IsRoundPrices s least.reached.lane least.reached.round claim.prices.0 claim.quota_prices.0
  round_of claim prices quota_prices =
      subst (λ (c : List ℤ). IsRoundPrices s least.reached.lane least.reached.round c claim.quota_prices.0) (sym prices)
      (subst (λ (u : List ℕ). IsRoundPrices s least.reached.lane least.reached.round f.prices u) (sym quota_prices) least.reached.gives)

  -- a claim of what was found is planned
  pub planned : (claim : Claim) → claim.bound ≡ f.bound → claim.prices.0 ≡ f.prices → claim.quota_prices.0 ≡ f.quota_prices → claim.value ≡ f.value
      → IsListing f.plan claim.placements → IsFeasible s claim.placements → value_of_plan s claim.placements ≡ f.value → IsPlanned s settings claim
  planned claim bound prices quota_prices value listing feasible worth_listed = record {
    certified = record {
      feasible = feasible;
      price_count = ap (λ (c : List ℤ). length c) prices ∙ x.found.prices.count;
      price_range = subst (λ (c : List ℤ). All IsPriceInRange c) (sym prices) x.found.prices.range;
      quota_price_count = inr (ap (λ (u : List ℕ). length u) quota_prices ∙ x.found.prices.quota_count);
      quota_price_range = subst (λ (u : List ℕ). All (λ q. q ≤ most_quota_price) u) (sym quota_prices) x.found.prices.quota_range;
      value = value ∙ sym worth_listed;
      bound = bound_of claim bound prices quota_prices;
    };
    bound = record {
      lane = least.reached.lane;
      round = least.reached.round;
      gives = record {
        lane_known = (x.within least.reached.lane least.reached.round least.reached.was_made).0;
        round_known = (x.within least.reached.lane least.reached.round least.reached.was_made).1;
        is_round = round_of claim prices quota_prices;
      };
      least = λ j k c u b of is. subst (λ (d : ℕ). pos d ≤ℤ b) (sym bound) (below_all j k c u b of is);
      first = λ alone j k c u earlier of is. first_bound alone j k c u earlier of (subst (λ (d : ℕ). IsBound s c u (pos d)) bound is);
    };
    value = record {
      above_greedy = λ other is. (let same : other ≡ greedy = one_filled s [] other greedy is x.is_greedy in
          let w = ap (value_of_plan s) same in let a = x.found.value.above_opening in omega arith);
      above_rounds = λ j k v q of. (let a = above_all j k v q of in omega arith);
    };
    plan = shown claim value listing;
  }
