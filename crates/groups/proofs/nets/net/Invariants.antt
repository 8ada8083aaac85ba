use Rattle.std.proofs.Common.{◌≡◌, ℕ, ◌<◌, pos, length, slice_index_or}
use Rattle.plan_base.specs.Requests.{listed}
use Rattle.plan_base.specs.NetPrices.{net_prices}
use Rattle.groups.proofs.nets.net.Given as goal

abbrev pub invariant-loop-place : goal.invariant-loop-place
invariant-loop-place l =
    (length l.into.0 ≡ length (listed l.snapshot))
    × ((k : ℕ) → k < l.place → slice_index_or l.into.0 k (pos 0) ≡ slice_index_or (net_prices l.snapshot l.prices.0 l.quota_prices.0) k (pos 0))
