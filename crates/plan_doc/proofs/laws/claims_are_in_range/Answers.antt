use Rattle.plan_doc.proofs.InRange.{claims_are_in_range}
use Rattle.plan_doc.proofs.laws.claims_are_in_range.Goals as goal

pub returns : goal.returns
returns c = claims_are_in_range
