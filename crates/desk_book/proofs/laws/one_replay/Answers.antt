use Rattle.desk_book.proofs.Replays.{one_replay}
use Rattle.desk_book.proofs.laws.one_replay.Goals as goal

pub returns : goal.returns
returns c = one_replay
