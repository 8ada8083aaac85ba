-- No feasible plan that places a request is worth more than the request's bound.
use Rattle.std.proofs.Common.{◌≡◌, ℕ, ◌<◌, ◌⊎◌, inl, inr, true, ◌==◌, ℤ, pos, int_lt, ◌+ℤ◌, ◌-ℤ◌, ◌≤ℤ◌, List, length, filter, Contains, refl, sym, subst, arith}
use Rattle.std.proofs.lemmas.Int.{ints}
use Rattle.plan_base.specs.declared.parts.Parts.{Parts}
use Rattle.plan_base.specs.declared.claim.Placement.{Placement}
use Rattle.plan_base.specs.declared.claim.Claim.{Claim}
use Rattle.plan_base.specs.Sums.{total, IsSumOf}
use Rattle.plan_base.specs.Requests.{group_of}
use Rattle.plan_base.specs.Snapshot.{IsOrderly}
use Rattle.plan_base.specs.Starts.{IsPossibleStart, worth_at, value_of_plan}
use Rattle.plan_base.specs.Feasible.{requests_of, IsFeasible}
use Rattle.plan_base.specs.Bound.{price, weight, surplus, IsBest, net_price, IsRebate, IsBound}
use Rattle.plan_base.proofs.Known.{telescope_known, requests_known, group_known}
use Rattle.plan_base.proofs.Lists.{contains_filter}
use Rattle.plan_base.proofs.Duality.{test_from_same, starts_on, choice_of, cost_of, quota_part}
use Rattle.plan_base.proofs.Members.{contains_from_map}
use Rattle.plan_base.proofs.Single.{one_best, one_rebate}
use Rattle.plan_base.proofs.Totals.{total_map, total_add, total_of_naturals}
use Rattle.plan_base.proofs.Split.{split}
use Rattle.explain.specs.declared.answer.Forced.{Forced}
use Rattle.explain.specs.declared.answer.Forced.TheVariants.{NoStart, Bound}
use Rattle.explain.specs.Through.{IsThrough}
use Rattle.explain.specs.Choice.{IsRebateWith}
use Rattle.explain.specs.Forced.{IsDetour, IsForcedBound, ForcedValue, Excludes, IsPlanWith, IsInNoGoodPlan}
use Rattle.explain.proofs.Swapped.{swapped}

-- the placement of a request that a plan places
placed_at : (plan : List Placement) (r : ℕ) → Contains (requests_of plan) r → (p : Placement) × Contains plan p × (p.request.0 ≡ r)
placed_at plan r has = contains_from_map (λ p. p.request.0) plan r has

module _ (s : Parts) (prices : List ℤ) (quota_prices : List ℕ) (plan : List Placement) (orderly : IsOrderly s) (feasible : IsFeasible s plan) where
  -- by telescope: the one that takes the request gives no more than a list through it
  telescopes_with : (p : Placement) (bests best through : ℤ) → Contains plan p → IsSumOf (length s.telescopes) (λ t. IsBest s prices t s.first.0) bests
      → IsBest s prices p.telescope.0 s.first.0 best → IsThrough s prices p.telescope.0 p.request.0 through
      → surplus s prices plan ≤ℤ (bests -ℤ best +ℤ through)
  telescopes_with p bests best through has sum is_best is_through =
      let possible : IsPossibleStart s p = subst (IsPossibleStart s) has.2 (feasible.possible has.0 p has.1) in
      split (weight s prices) (λ q. q.telescope.0) plan (length s.telescopes)
      (λ t y. ((t ≡ p.telescope.0) × (y ≡ through)) ⊎ IsBest s prices t s.first.0 y) (bests -ℤ best +ℤ through)
      (swapped (length s.telescopes) (λ t. IsBest s prices t s.first.0) bests p.telescope.0 best through sum (telescope_known s p orderly possible)
      (λ z h. one_best s prices p.telescope.0 s.first.0 z best h is_best))
      (λ i d l. inr (telescope_known s _ orderly (feasible.possible i d l)))
      (λ t y l part. elim part [
        | inl (at, is) ↦
            let here : Contains (filter (λ q. q.telescope.0 == t) plan) p =
            contains_filter (λ q. q.telescope.0 == t) plan p has (test_from_same p.telescope.0 t (sym at)) in
            subst (λ (z : ℤ). surplus s prices (filter (λ q. q.telescope.0 == t) plan) ≤ℤ z) (sym is)
            ((subst (λ (u : ℕ). IsThrough s prices u p.request.0 through) (sym at) is_through).bound (filter (λ q. q.telescope.0 == t) plan)
            (record { list = starts_on s plan t feasible.possible feasible.disjoint; has = (here.0, p, here.1, here.2, refl) }))
        | inr is ↦ is.bound (filter (λ q. q.telescope.0 == t) plan) (starts_on s plan t feasible.possible feasible.disjoint)
      ])

  -- by group: that of the request gives no more than a choice with it
  groups_with : (r : ℕ) (rebates rebate rebate_with : ℤ) → Contains (requests_of plan) r
      → IsSumOf (length s.groups) (IsRebate s (net_price s prices quota_prices)) rebates
      → IsRebate s (net_price s prices quota_prices) (group_of s r) rebate → IsRebateWith s (net_price s prices quota_prices) (group_of s r) r rebate_with
      → total (net_price s prices quota_prices) (requests_of plan) ≤ℤ (rebates -ℤ rebate +ℤ rebate_with)
  groups_with r rebates rebate rebate_with has sum is_rebate is_with =
      let known = subst (λ (x : ℕ). group_of s x < length s.groups) has.2 (group_known s _ (requests_known s plan feasible has.0 r has.1)) in
      split (net_price s prices quota_prices) (group_of s) (requests_of plan) (length s.groups)
      (λ g y. ((g ≡ group_of s r) × (y ≡ rebate_with)) ⊎ IsRebate s (net_price s prices quota_prices) g y) (rebates -ℤ rebate +ℤ rebate_with)
      (swapped (length s.groups) (IsRebate s (net_price s prices quota_prices)) rebates (group_of s r) rebate rebate_with sum known
      (λ z h. one_rebate s (net_price s prices quota_prices) (group_of s r) z rebate h is_rebate))
      (λ i d l. inr (group_known s _ (requests_known s plan feasible i d l)))
      (λ g y l part. elim part [
        | inl (at, is) ↦
            let here : Contains (filter (λ x. group_of s x == g) (requests_of plan)) r =
            contains_filter (λ x. group_of s x == g) (requests_of plan) r has (test_from_same (group_of s r) g (sym at)) in
            subst (λ (z : ℤ). total (net_price s prices quota_prices) (filter (λ x. group_of s x == g) (requests_of plan)) ≤ℤ z) (sym is)
            ((subst (λ (h : ℕ). IsRebateWith s (net_price s prices quota_prices) h r rebate_with) (sym at) is_with).bound
            (filter (λ x. group_of s x == g) (requests_of plan))
            (record { allowed = choice_of s plan g feasible; has = here }))
        | inr is ↦ is.bound (filter (λ x. group_of s x == g) (requests_of plan)) (choice_of s plan g feasible)
      ])

pub forced_bound : (s : Parts) (claim : Claim) (r : ℕ) (b : ℤ) (plan : List Placement) → IsOrderly s
    → IsBound s claim.prices.0 claim.quota_prices.0 (pos claim.bound)
    → IsForcedBound s claim r b → IsPlanWith s r plan → pos (value_of_plan s plan) ≤ℤ b
forced_bound s claim r b plan o bound forced with_r =
    let prices : List ℤ = claim.prices.0 in
    let quota_prices : List ℕ = claim.quota_prices.0 in
    let found = placed_at plan r with_r.places in
    let p : Placement = found.0 in
    let possible : IsPossibleStart s p = subst (IsPossibleStart s) found.1.2 (with_r.feasible.possible found.1.0 p found.1.1) in
    let detour = forced.is_detour.bound p.telescope.0 (p, record { start = record { possible = possible; same_request = found.2 }; same_telescope = refl }) in
    let is_detour : IsDetour s prices p.telescope.0 r detour.0 = detour.1 in
    let is_through : IsThrough s prices p.telescope.0 p.request.0 is_detour.through =
    subst (λ (x : ℕ). IsThrough s prices p.telescope.0 x is_detour.through) (sym found.2) is_detour.is_through in
    let value : total (λ q. pos (worth_at s q)) plan ≡ pos (value_of_plan s plan) = total_of_naturals (worth_at s) plan in
    let both : total (λ q. pos (worth_at s q)) plan ≡ surplus s prices plan +ℤ total (λ q. price s prices q.request.0) plan =
    total_add (λ q. pos (worth_at s q)) (weight s prices) (λ q. price s prices q.request.0) (λ q. omega (arith, ints)) plan in
    let placed : total (λ q. price s prices q.request.0) plan ≡ total (price s prices) (requests_of plan) =
    total_map (price s prices) (λ q. q.request.0) plan in
    let net : total (price s prices) (requests_of plan) ≡ total (net_price s prices quota_prices) (requests_of plan) +ℤ total (cost_of s quota_prices)
    (requests_of plan) = total_add (price s prices) (net_price s prices quota_prices) (cost_of s quota_prices)
    (λ x. omega (arith, ints)) (requests_of plan) in
    let one : surplus s prices plan ≤ℤ (bound.bests -ℤ is_detour.best +ℤ is_detour.through) =
    telescopes_with s prices quota_prices plan o with_r.feasible p bound.bests is_detour.best is_detour.through found.1 bound.best
    is_detour.is_best is_through in
    let two : total (net_price s prices quota_prices) (requests_of plan) ≤ℤ (bound.rebates -ℤ forced.rebate +ℤ forced.rebate_with) =
    groups_with s prices quota_prices plan o with_r.feasible r bound.rebates forced.rebate forced.rebate_with with_r.places bound.rebate
    forced.is_rebate forced.is_rebate_with in
    let three : total (cost_of s quota_prices) (requests_of plan) ≤ℤ bound.quotas = quota_part s quota_prices plan bound.quotas o with_r.feasible bound.quota in
    let whole : pos claim.bound ≡ bound.bests +ℤ bound.rebates +ℤ bound.quotas = bound.whole in
    let difference : detour.0 ≡ is_detour.through -ℤ is_detour.best = is_detour.difference in
    let within : detour.0 ≤ℤ forced.detour = detour.2 in
    let is : b ≡ pos claim.bound -ℤ forced.rebate +ℤ forced.rebate_with +ℤ forced.detour = forced.whole in
    omega (arith, ints)

pub excluded : (s : Parts) (claim : Claim) (r : ℕ) (forced : Forced) → IsOrderly s → IsBound s claim.prices.0 claim.quota_prices.0 (pos claim.bound)
    → ForcedValue s claim r forced → Excludes claim forced → IsInNoGoodPlan s claim r
excluded s claim r NoStart o bound none excludes plan with_r =
    let found = placed_at plan r with_r.places in
    absurd (none found.0 (record {
      possible = subst (IsPossibleStart s) found.1.2 (with_r.feasible.possible found.1.0 found.0 found.1.1);
      same_request = found.2;
    }))
excluded s claim r (Bound b) o bound forced excludes plan with_r =
    let most : pos (value_of_plan s plan) ≤ℤ b = forced_bound s claim r b plan o bound forced with_r in
    let less : int_lt b (pos claim.value) ≡ true = excludes in
    omega (arith, ints)
