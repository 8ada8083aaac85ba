-- The prices of a lane, at its first round and from one round to the next.
use Rattle.std.proofs.Common.{◌≡◌, ◌≢◌, ℕ, suc, ◌+◌, ◌<◌, ◌≤◌, ℤ, pos, List, length, map, replicate, slice_index_or, slice_set, All, refl, sym, ◌∙◌}
use Rattle.std.proofs.Common.{ap, subst, arith}
use Rattle.std.proofs.lemmas.Int.{ints}
use Rattle.std.proofs.lemmas.List.{length-replicate, length-set, get_or-map, get_or-set_same, get_or-set_other}
use Rattle.std.proofs.lemmas.List.Elements.{All-replicate}
use Rattle.std.proofs.lemmas.Simd.{splat_is_map}
use Rattle.plan_base.specs.declared.parts.Parts.{Parts}
use Rattle.plan_base.specs.declared.claim.Placement.{Placement}
use Rattle.plan_base.specs.Requests.{listed}
use Rattle.plan_base.specs.Snapshot.{IsOrderly}
use Rattle.plan_base.specs.Bound.{net_price}
use Rattle.plan_base.specs.Canonical.{IsCanonicalStarts}
use Rattle.plan_base.specs.Round.{greatest_value, step_of, next_prices, next_quota_prices, IsRoundPrices}
use Rattle.plan_base.specs.Verdict.{IsPriceInRange}
use Rattle.interval_solver.specs.Lanes.{lane}
use Rattle.interval_solver.specs.Uses.{Started}
use Rattle.prices.specs.Rounds.{AreUses, prices_after, step_size}
use Rattle.prices.proofs.Rounding.{next_is, size_is}
use Rattle.lanes.specs.declared.lane_prices.LanePrices.{LanePrices}
use Rattle.lanes.specs.Rounds.{LaneSeen, IsLane, IsSolved, Stepping, IsSolvedAt, IsLaneNow, IsAnswer, lane_seen, IsRoundAnswer}
use Rattle.plan_base.proofs.RoundPrices.{round_count, round_quota_count, round_in_range, round_quota_in_range}

-- all prices are 0
pub first_lane : (s : Parts) (l : LanePrices) → l.lane < 8 → l.made ≡ 0 → l.prices.0 ≡ replicate (length (listed s)) (pos 0)
    → l.quota_prices.0 ≡ replicate (length s.quotas) 0 → IsLane s l
first_lane s l lane made prices quota_prices = record {
  lane = lane;
  made = omega (arith, made);
  is_round =
      subst (λ (n : ℕ). IsRoundPrices s l.lane n l.prices.0 l.quota_prices.0) (sym made)
      (prices ∙ splat_is_map (listed s) (length (listed s)) (pos 0) refl, quota_prices ∙ splat_is_map s.quotas (length s.quotas) 0 refl);
  count = ap length prices ∙ length-replicate (length (listed s)) (pos 0);
  quota_count = ap length quota_prices ∙ length-replicate (length s.quotas) 0;
  range = subst (All IsPriceInRange) (sym prices) (All-replicate IsPriceInRange (length (listed s)) (pos 0) (omega (arith, ints), omega (arith, ints)));
  quota_range = subst (All (λ u. u ≤ 200000)) (sym quota_prices) (All-replicate (λ u. u ≤ 200000) (length s.quotas) 0 (omega arith));
}

module _ (s : Parts) (l : LanePrices) (starts : List Placement) (orderly : IsOrderly s) (h : IsLane s l)
    (canonical : IsCanonicalStarts s l.prices.0 starts) where
  -- the step of the lane's round
  abbrev pub step : ℕ
  step = step_of l.lane l.made (greatest_value s)

  -- the net prices of the lane's round
  abbrev pub nets : ℕ → ℤ
  nets = net_price s l.prices.0 l.quota_prices.0

  next_round : IsRoundPrices s l.lane (suc l.made) (next_prices s step l.prices.0 nets starts) (next_quota_prices s step l.quota_prices.0 nets)
  next_round = (l.prices.0, l.quota_prices.0, h.is_round, record { starts = starts; canonical = canonical; moved = refl; moved_quota = refl })

  -- the next prices are in their range
  pub next_stays : (uses : List ℕ) → l.made < 256 → AreUses s starts uses → All IsPriceInRange (prices_after s (pos step) l.prices.0 nets uses)
  next_stays uses few are = subst (All IsPriceInRange) (sym (next_is s step l.prices.0 nets uses starts orderly are))
      (round_in_range s l.lane (suc l.made) _ _ orderly (omega arith) next_round)

  -- they are those of the lane's next round
  pub next_lane : (n : LanePrices) → l.made < 256 → n.lane ≡ l.lane → n.made ≡ l.made + 1 → n.prices.0 ≡ next_prices s step l.prices.0 nets starts
      → n.quota_prices.0 ≡ next_quota_prices s step l.quota_prices.0 nets → IsLane s n
  next_lane n few same_lane made prices quota_prices =
      let more : n.made ≡ suc l.made = omega (arith, made) in
      let at_lane : IsRoundPrices s n.lane (suc l.made) (next_prices s step l.prices.0 nets starts) (next_quota_prices s step l.quota_prices.0 nets)
      = subst (λ (j : ℕ). IsRoundPrices s j (suc l.made) (next_prices s step l.prices.0 nets starts) (next_quota_prices s step l.quota_prices.0 nets))
      (sym same_lane) next_round
      in
      let at_round : IsRoundPrices s n.lane n.made (next_prices s step l.prices.0 nets starts) (next_quota_prices s step l.quota_prices.0 nets)
      = subst (λ (k : ℕ). IsRoundPrices s n.lane k (next_prices s step l.prices.0 nets starts) (next_quota_prices s step l.quota_prices.0 nets))
      (sym more) at_lane
      in
      let at_prices : IsRoundPrices s n.lane n.made n.prices.0 (next_quota_prices s step l.quota_prices.0 nets)
      = subst (λ (c : List ℤ). IsRoundPrices s n.lane n.made c (next_quota_prices s step l.quota_prices.0 nets)) (sym prices) at_round
      in
      let is_round : IsRoundPrices s n.lane n.made n.prices.0 n.quota_prices.0 =
      subst (λ (u : List ℕ). IsRoundPrices s n.lane n.made n.prices.0 u) (sym quota_prices) at_prices in
      record {
        lane = omega (arith, same_lane, h.lane);
        made = omega arith;
        is_round = is_round;
        count = round_count s n.lane n.made n.prices.0 n.quota_prices.0 is_round;
        quota_count = round_quota_count s n.lane n.made n.prices.0 n.quota_prices.0 is_round;
        range = round_in_range s n.lane n.made n.prices.0 n.quota_prices.0 orderly (omega arith) is_round;
        quota_range = round_quota_in_range s n.lane n.made n.prices.0 n.quota_prices.0 is_round;
      }

-- a step that goes up is its size
pub step_size_is : (z : ℤ) (n : ℕ) → z ≡ pos n → step_size z ≡ n
step_size_is z n e = let same : pos (step_size z) ≡ pos n = size_is z (omega (arith, ints, e)) ∙ e in omega (arith, ints, same)

-- what is known of a lane that was solved
pub solved_now : (x v : Stepping) (l : ℕ) (a : LanePrices) (u : Started) → v ≡ x → a ≡ slice_index_or v.lanes l a
    → u ≡ slice_index_or v.uses l u → IsSolvedAt x l
    → IsSolved v.snapshot a.prices.0 u.starts (lane l v.bests)
solved_now x v l a u is is_lane is_uses h =
    let at : IsSolvedAt v l = subst (λ (y : Stepping). IsSolvedAt y l) (sym is) h in
    subst (λ (b : LanePrices). IsSolved v.snapshot b.prices.0 u.starts (lane l v.bests)) (sym is_lane)
    (subst (λ (w : Started). IsSolved v.snapshot (slice_index_or v.lanes l a).prices.0 w.starts (lane l v.bests)) (sym is_uses) (at a u))

-- lanes that are other than one whose prices changed are as they were solved
pub others_solved : (s : Parts) (lanes : List LanePrices) (uses : List Started) (bests : List (List ℤ)) (l k : ℕ) (new a : LanePrices) (u : Started) → k ≢ l
    → IsSolved s (slice_index_or lanes k a).prices.0 (slice_index_or uses k u).starts (lane k bests)
    → IsSolved s (slice_index_or (slice_set lanes l new) k a).prices.0 (slice_index_or uses k u).starts (lane k bests)
others_solved s lanes uses bests l k new a u other h =
    subst (λ (b : LanePrices). IsSolved s b.prices.0 (slice_index_or uses k u).starts (lane k bests)) (sym (get_or-set_other lanes l k new a other)) h

-- ---- one lane

-- the lane and its rounds, where there is one lane
pub seen_at : (x : Stepping) (d : LanePrices) → length x.lanes ≡ 1
    → lane_seen x ≡ record { snapshot = x.snapshot; lane = (slice_index_or x.lanes 0 d).lane; made = (slice_index_or x.lanes 0 d).made }
seen_at x d one =
    let at_lane = get_or-map (λ (l : LanePrices). l.lane) x.lanes 0 d 0 (omega (arith, one)) in
    let at_made = get_or-map (λ (l : LanePrices). l.made) x.lanes 0 d 0 (omega (arith, one)) in
    λ i. record { snapshot = x.snapshot; lane = at_lane i; made = at_made i }

-- the one lane is now one of which so many rounds were made
pub seen_now : (x y : Stepping) (lane made : ℕ) → length x.lanes ≡ 1 → y.snapshot ≡ x.snapshot → IsLaneNow x.snapshot 0 lane made x.lanes y.lanes
    → lane_seen y ≡ record { snapshot = x.snapshot; lane = lane; made = made }
seen_now x y lane made one same now =
    let count : length y.lanes ≡ 1 = ap length now.set ∙ length-set x.lanes 0 now.prices ∙ one in
    let read : slice_index_or y.lanes 0 now.prices ≡ now.prices
    = ap (λ (ls : List LanePrices). slice_index_or ls 0 now.prices) now.set ∙ get_or-set_same x.lanes 0 now.prices now.prices (omega (arith, one))
    in
    let at_lane : (slice_index_or y.lanes 0 now.prices).lane ≡ lane = ap (λ (l : LanePrices). l.lane) read ∙ now.same_lane in
    let at_made : (slice_index_or y.lanes 0 now.prices).made ≡ made = ap (λ (l : LanePrices). l.made) read ∙ now.rounds in
    seen_at y now.prices count ∙ (λ i. record { snapshot = same i; lane = at_lane i; made = at_made i })

-- there is one lane still
pub one_still : (s : Parts) (lane made : ℕ) (old new : List LanePrices) → length old ≡ 1 → IsLaneNow s 0 lane made old new → length new ≡ 1
one_still s lane made old new one now = ap length now.set ∙ length-set old 0 now.prices ∙ one

-- the answer of the one lane's round
pub answer_seen : (x : Stepping) (d : LanePrices) (b v : ℕ) (plan : List Placement) → length x.lanes ≡ 1
    → IsAnswer x.snapshot (slice_index_or x.lanes 0 d) b v plan
    → IsRoundAnswer x.snapshot (lane_seen x).lane (lane_seen x).made b v
answer_seen x d b v plan one h =
    let l : LanePrices = slice_index_or x.lanes 0 d in
    subst (λ (y : LaneSeen). IsRoundAnswer x.snapshot y.lane y.made b v) (sym (seen_at x d one))
    (record {
      prices = l.prices.0;
      quota_prices = l.quota_prices.0;
      is_round = h.is_lane.is_round;
      is_bound = h.bound;
      plan = plan;
      repaired = h.repaired;
      worth = h.worth;
    })

-- the same lanes are seen alike
pub same_seen : (x y : Stepping) → y.snapshot ≡ x.snapshot → y.lanes ≡ x.lanes → lane_seen y ≡ lane_seen x
same_seen x y snapshot lanes = λ i. record {
  snapshot = snapshot i;
  lane = slice_index_or (map (λ (l : LanePrices). l.lane) (lanes i)) 0 0;
  made = slice_index_or (map (λ (l : LanePrices). l.made) (lanes i)) 0 0;
}
