use Rattle.std.proofs.Common.{slice_index_or}
use Rattle.plan_base.specs.Round.{moved_quota_price}
use Rattle.prices.proofs.Setting.{IsSetUpTo}
use Rattle.prices.proofs.moves.move_quota_prices.Given as goal

abbrev pub invariant-loop-quota : goal.invariant-loop-quota
invariant-loop-quota l =
    IsSetUpTo 0 (λ q. moved_quota_price l.step (slice_index_or l.fn.quota_prices q 0) (slice_index_or l.demands q 0) (slice_index_or l.quotas q 0))
    l.fn.quota_prices l.quota_prices l.quota
