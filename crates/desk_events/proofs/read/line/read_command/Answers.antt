use Rattle.std.proofs.lemmas.Result.{IfOk-weaker}
use Rattle.desk_events.proofs.InRange.{in_range}
use Rattle.desk_events.proofs.read.line.read_command.Goals as goal

pub returns-clause-ranges : goal.returns-clause-ranges
returns-clause-ranges c =
    IfOk-weaker c.read_line.result _ _ (λ command read. in_range c.args.line.now command read) c.read_line.ensures.value
