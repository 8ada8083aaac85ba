use Rattle.desk_book.proofs.Versions.{versions_count}
use Rattle.desk_book.proofs.laws.versions_count.Goals as goal

pub returns : goal.returns
returns c = versions_count
