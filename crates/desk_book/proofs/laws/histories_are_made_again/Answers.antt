use Rattle.desk_book.proofs.Again.{made_again}
use Rattle.desk_book.proofs.laws.histories_are_made_again.Goals as goal

pub returns : goal.returns
returns c = made_again
