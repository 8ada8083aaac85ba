use Rattle.plan_doc.proofs.BackSnapshot.{snapshots_are_read_back}
use Rattle.plan_doc.proofs.laws.snapshots_are_read_back.Goals as goal

pub returns : goal.returns
returns c = snapshots_are_read_back
