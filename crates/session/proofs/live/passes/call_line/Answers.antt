use Rattle.session.proofs.Passes.{called_range}
use Rattle.desk_passes.specs.Calls.{view}
use Rattle.session.proofs.live.passes.call_line.Goals as goal

pub solve_plan_with-requires-after_bounds : goal.solve_plan_with-requires-after_bounds
solve_plan_with-requires-after_bounds g c κs within =
    called_range (view c.args.pass.now) (view c.call.new.pass) c.in_ok-line.line c.in_ok-call.field-0 c.in-Taken.taken c.in-Taken.field-1
    c.in-Taken.is c.in_ok-call.ensures.ok c.in_ok-call.ensures.caller
