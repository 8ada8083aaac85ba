use Rattle.plan_base.proofs.RangeLemmas.{decides_in_ranges}
use Rattle.plan_base.proofs.parts.Parts.is_in_ranges.Goals as goal

pub returns : goal.returns
returns c = rw c.is_in_ranges.ensures (decides_in_ranges c.args.self.now)
