use Rattle.std.proofs.Common.{◌≤◌, length, arith}
use Rattle.interval_set.proofs.Counts.{set_is_no_longer}
use Rattle.desk_core.proofs.Early.{early}
use Rattle.desk_core.proofs.Seconds.{spans_of_is}
use Rattle.desk_core.proofs.set.set_of.Goals as goal

pub returns-clause-set : goal.returns-clause-set
returns-clause-set c = spans_of_is c.args.spans.now c.in_ok-set.set c.in_ok-set.ensures (early c.args.spans.now c.requires.each)

pub returns-clause-few : goal.returns-clause-few
returns-clause-few c =
    let short : length c.in_ok-set.set ≤ length c.args.spans.now = set_is_no_longer c.args.spans.now c.in_ok-set.set c.in_ok-set.ensures in
    let count : length c.args.spans.now ≤ 512 = c.requires.count in
    omega arith
