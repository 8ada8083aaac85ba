use Rattle.interval_set.proofs.Counts.{set_is_no_longer, union_is_no_longer, meet_is_shorter, difference_is_no_longer}
use Rattle.interval_set.proofs.laws.answers_are_short.Goals as goal

pub returns : goal.returns
returns c = record { list = set_is_no_longer; union = union_is_no_longer; meet = meet_is_shorter; difference = difference_is_no_longer }
