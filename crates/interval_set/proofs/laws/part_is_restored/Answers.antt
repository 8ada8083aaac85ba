use Rattle.interval_set.proofs.OneList.{part_is_restored}
use Rattle.interval_set.proofs.laws.part_is_restored.Goals as goal

pub returns : goal.returns
returns c = part_is_restored
