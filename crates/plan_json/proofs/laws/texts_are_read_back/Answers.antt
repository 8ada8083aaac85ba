use Rattle.plan_json.proofs.TextsBack.{texts_are_read_back}
use Rattle.plan_json.proofs.laws.texts_are_read_back.Goals as goal

pub returns : goal.returns
returns c = texts_are_read_back
