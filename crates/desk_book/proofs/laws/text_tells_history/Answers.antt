use Rattle.desk_book.proofs.Texts.{text_tells_history}
use Rattle.desk_book.proofs.laws.text_tells_history.Goals as goal

pub returns : goal.returns
returns c = text_tells_history
