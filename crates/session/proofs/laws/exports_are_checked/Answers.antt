use Rattle.session.proofs.Exports.{exports_are_checked}
use Rattle.session.proofs.laws.exports_are_checked.Goals as goal

pub returns : goal.returns
returns c = exports_are_checked
