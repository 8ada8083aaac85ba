use Rattle.session.proofs.ExportsLast.{exports_are_last, export_lines_are_answered}
use Rattle.session.proofs.laws.exports_are_last.Goals as goal

pub returns-clause-shown : goal.returns-clause-shown
returns-clause-shown c = exports_are_last

pub returns-clause-lines : goal.returns-clause-lines
returns-clause-lines c = export_lines_are_answered
