use Rattle.std.proofs.Common.{All}
use Rattle.interval_solver.specs.Blocks.{IsWholeIn}
use Rattle.interval_solver.proofs.blocks.list_wholes.Given as goal

abbrev pub invariant-loop-start : goal.invariant-loop-start
invariant-loop-start l = All (IsWholeIn l.rows l.block) l.found.items
