use Rattle.plan_doc.proofs.BackClaim.{claims_are_read_back}
use Rattle.plan_doc.proofs.laws.claims_are_read_back.Goals as goal

pub returns : goal.returns
returns c = claims_are_read_back
