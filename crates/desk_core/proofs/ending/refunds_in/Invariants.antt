use Rattle.std.proofs.Common.{◌≡◌, ◌++◌, drop}
use Rattle.desk_core.specs.Endings.{refunds_in}
use Rattle.desk_core.proofs.ending.refunds_in.Given as goal

abbrev pub invariant-loop-ending : goal.invariant-loop-ending
invariant-loop-ending l = l.refunds.items ++ refunds_in (drop l.ending-index l.endings) ≡ refunds_in l.endings
