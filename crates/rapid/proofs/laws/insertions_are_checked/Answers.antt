use Rattle.rapid.proofs.Checked.{writes_in_turn, lines_have_claims, insertions_are_checked, read_insertions_are_checked}
use Rattle.rapid.proofs.laws.insertions_are_checked.Goals as goal

pub returns-clause-turns : goal.returns-clause-turns
returns-clause-turns c = writes_in_turn

pub returns-clause-lines : goal.returns-clause-lines
returns-clause-lines c = lines_have_claims

pub returns-clause-checked : goal.returns-clause-checked
returns-clause-checked c = insertions_are_checked

pub returns-clause-read : goal.returns-clause-read
returns-clause-read c = read_insertions_are_checked
