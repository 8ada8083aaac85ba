use Rattle.plan_doc.proofs.BackSnapshot.{publications_are_read_back}
use Rattle.plan_doc.proofs.laws.publications_are_read_back.Goals as goal

pub returns : goal.returns
returns c = publications_are_read_back
