use Rattle.desk_book.proofs.Whole.{over_is_whole}
use Rattle.desk_book.proofs.laws.over_is_whole.Goals as goal

pub returns : goal.returns
returns c = over_is_whole
