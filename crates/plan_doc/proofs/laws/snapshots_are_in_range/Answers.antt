use Rattle.plan_doc.proofs.InRange.{snapshots_are_in_range}
use Rattle.plan_doc.proofs.laws.snapshots_are_in_range.Goals as goal

pub returns : goal.returns
returns c = snapshots_are_in_range
