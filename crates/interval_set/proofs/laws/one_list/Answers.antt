use Rattle.interval_set.proofs.OneList.{one_list}
use Rattle.interval_set.proofs.laws.one_list.Goals as goal

pub returns : goal.returns
returns c = one_list
