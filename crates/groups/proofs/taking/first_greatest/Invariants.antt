use Rattle.std.proofs.Common.{int_lt}
use Rattle.std.specs.List.{IsFirstBest}
use Rattle.groups.proofs.taking.first_greatest.Given as goal

abbrev pub invariant-loop-place : goal.invariant-loop-place
invariant-loop-place l = IsFirstBest (λ a b. int_lt b a) l.prices l.place l.first
