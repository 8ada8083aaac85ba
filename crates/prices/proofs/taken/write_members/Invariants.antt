use Rattle.std.proofs.Common.{pos, false, slice_index_or}
use Rattle.groups.specs.Takings.{takes_by}
use Rattle.prices.proofs.Setting.{IsWrittenFrom}
use Rattle.prices.proofs.taken.write_members.Given as goal

abbrev pub invariant-loop-place : goal.invariant-loop-place
invariant-loop-place l = IsWrittenFrom false (λ i. takes_by l.taking (slice_index_or l.prices i (pos 0)) i) l.fn.taken l.taken l.first l.place
