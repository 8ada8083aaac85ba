use Rattle.plan_json.proofs.LinesBack.{lines_are_read_back}
use Rattle.plan_json.proofs.laws.lines_are_read_back.Goals as goal

pub returns : goal.returns
returns c = lines_are_read_back
