use Rattle.request_model.proofs.BackGroup.{groups_are_read_back}
use Rattle.request_model.proofs.laws.groups_are_read_back.Goals as goal

pub returns : goal.returns
returns c = groups_are_read_back
