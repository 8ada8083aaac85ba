use Rattle.std.proofs.Common.{◌≡◌, ◌<◌, ℕ, ℤ, pos, ◌≤ℤ◌, List, length, slice_index_or}
use Rattle.plan_base.specs.Requests.{listed}
use Rattle.plan_base.specs.Bound.{net_price, IsRebate}
use Rattle.plan_base.specs.NetPrices.{net_prices}
use Rattle.lanes.proofs.bound_parts.write_rebates.Given as goal

abbrev pub invariant-loop-group : goal.invariant-loop-group
invariant-loop-group l = record {
  count : length l.rebates ≡ length l.snapshot.groups;
  each : (given : List ℤ) (quota_prices : List ℕ) → length given ≡ length (listed l.snapshot) → l.net.0 ≡ net_prices l.snapshot given quota_prices
      → (i : ℕ) → i < l.group → IsRebate l.snapshot (net_price l.snapshot given quota_prices) i (slice_index_or l.rebates i (pos 0));
  least : (i : ℕ) → i < l.group → pos 0 ≤ℤ slice_index_or l.rebates i (pos 0);
}
