use Rattle.std.proofs.Common.{rules}
use Rattle.plan_base.proofs.FaultLemmas.{length-listed}
use Rattle.plan_base.proofs.counts.request_count.Goals as goal

pub returns : goal.returns
returns c = rw (length-listed c.args.parts.now) (search rules)
