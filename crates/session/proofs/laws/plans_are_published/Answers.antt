use Rattle.session.proofs.PlansPublished.{plans_are_published}
use Rattle.session.proofs.laws.plans_are_published.Goals as goal

pub returns : goal.returns
returns c = plans_are_published
