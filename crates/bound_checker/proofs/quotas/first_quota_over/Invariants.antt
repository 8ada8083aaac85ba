use Rattle.std.proofs.Common.{ℕ, ◌<◌, ◌≤◌, slice_index_or}
use Rattle.bound_checker.proofs.quotas.first_quota_over.Given as goal

abbrev pub invariant-loop-place : goal.invariant-loop-place
invariant-loop-place l = (q : ℕ) → q < l.place → slice_index_or l.sums q 0 ≤ slice_index_or l.quotas q 0
