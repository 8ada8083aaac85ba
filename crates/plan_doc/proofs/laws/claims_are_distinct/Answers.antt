use Rattle.plan_doc.proofs.Distinct.{claims_are_distinct}
use Rattle.plan_doc.proofs.laws.claims_are_distinct.Goals as goal

pub returns : goal.returns
returns c = claims_are_distinct
