use Rattle.plan_doc.proofs.Certified.{exports_are_certified}
use Rattle.plan_doc.proofs.laws.exports_are_certified.Goals as goal

pub returns : goal.returns
returns c = exports_are_certified
