use Rattle.std.proofs.Common.{pos, false, slice_index_or}
use Rattle.prices.specs.Rounds.{stepped_price}
use Rattle.prices.proofs.Setting.{IsSetUpTo}
use Rattle.prices.proofs.moves.move_prices.Given as goal

abbrev pub invariant-loop-place : goal.invariant-loop-place
invariant-loop-place l =
    IsSetUpTo (pos 0) (λ i. stepped_price l.step (slice_index_or l.fn.prices i (pos 0)) (slice_index_or l.uses i 0) (slice_index_or l.taken i false))
    l.fn.prices l.prices l.place
