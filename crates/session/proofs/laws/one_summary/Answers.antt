use Rattle.session.proofs.OneSummary.{lines_have_one, number_has_one, runs_write_one}
use Rattle.session.proofs.laws.one_summary.Goals as goal

pub returns-clause-lines : goal.returns-clause-lines
returns-clause-lines c = lines_have_one

pub returns-clause-number : goal.returns-clause-number
returns-clause-number c = number_has_one

pub returns-clause-written : goal.returns-clause-written
returns-clause-written c = runs_write_one
