use Rattle.plan_json.proofs.OneLine.{lines_are_distinct}
use Rattle.plan_json.proofs.laws.lines_are_distinct.Goals as goal

pub returns : goal.returns
returns c = lines_are_distinct
