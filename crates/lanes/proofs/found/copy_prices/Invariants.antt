use Rattle.std.proofs.Common.{◌≡◌, length, take}
use Rattle.lanes.proofs.found.copy_prices.Given as goal

abbrev pub invariant-loop-place : goal.invariant-loop-place
invariant-loop-place g l = (length l.into ≡ length l.from) × (take l.place l.into ≡ take l.place l.from)
