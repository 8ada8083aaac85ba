use Rattle.interval_solver.proofs.Covering.{covered}
use Rattle.interval_solver.proofs.start_rows.StartRows.new.Goals as goal

pub invariant_of-result : goal.invariant_of-result
invariant_of-result c = covered c.args.all c.in_ok-wholes.wholes c.in_ok-singles.singles c.in_ok-wholes.ensures c.in_ok-singles.ensures
