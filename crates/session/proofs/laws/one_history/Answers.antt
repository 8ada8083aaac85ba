use Rattle.session.proofs.Telling.{text_has_one}
use Rattle.session.proofs.laws.one_history.Goals as goal

pub returns : goal.returns
returns c = text_has_one
