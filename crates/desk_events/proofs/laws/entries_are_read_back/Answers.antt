use Rattle.plan_json.proofs.LinesBack.{lines_are_read_back}
use Rattle.desk_events.specs.Entry.{data_of_entry}
use Rattle.desk_events.proofs.laws.entries_are_read_back.Goals as goal

pub returns : goal.returns
returns c e h = lines_are_read_back (data_of_entry e) h
