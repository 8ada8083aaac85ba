use Rattle.plan_json.proofs.Written.{moments_are_read}
use Rattle.plan_json.proofs.moment.moments_are_read.Goals as goal

pub returns : goal.returns
returns c = moments_are_read
