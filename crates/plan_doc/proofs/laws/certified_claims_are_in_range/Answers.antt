use Rattle.plan_doc.proofs.Certified.{certified_claims_are_in_range}
use Rattle.plan_doc.proofs.laws.certified_claims_are_in_range.Goals as goal

pub returns : goal.returns
returns c = certified_claims_are_in_range
