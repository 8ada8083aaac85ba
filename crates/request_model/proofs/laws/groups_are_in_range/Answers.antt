use Rattle.request_model.proofs.InRange.{groups_are_in_range}
use Rattle.request_model.proofs.laws.groups_are_in_range.Goals as goal

pub returns : goal.returns
returns c = groups_are_in_range
