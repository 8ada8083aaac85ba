use Rattle.plan_doc.proofs.Distinct.{snapshots_are_distinct}
use Rattle.plan_doc.proofs.laws.snapshots_are_distinct.Goals as goal

pub returns : goal.returns
returns c = snapshots_are_distinct
