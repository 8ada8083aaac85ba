use Rattle.std.proofs.Common.{◌≡◌, ◌<◌, ℕ, pos, length, slice_index_or}
use Rattle.plan_base.specs.Bound.{IsQuotaPart}
use Rattle.lanes.proofs.bound_parts.write_quotas.Given as goal

abbrev pub invariant-loop-quota : goal.invariant-loop-quota
invariant-loop-quota l = record {
  count : length l.quotas ≡ length l.snapshot.quotas;
  each : (i : ℕ) → i < l.quota → IsQuotaPart l.snapshot l.quota_prices.0 i (slice_index_or l.quotas i (pos 0));
}
