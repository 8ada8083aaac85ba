use Rattle.std.proofs.Common.{◌≡◌, length, ◌∙◌, ap, arith}
use Rattle.lanes.proofs.Written.{written_here, written_others}
use Rattle.lanes.proofs.solving.write_lane.Goals as goal

pub returns-clause-here : goal.returns-clause-here
returns-clause-here g c =
    let size : length c.as_slice-prices.result.now ≡ length c.args.into.now = ap length c.as_slice-prices.ensures ∙ c.requires.count in
    written_here g.row.L c.args.place c.loop-request.request c.as_slice-prices.result.now c.args.into.now c.loop-request.into
    (omega arith) size c.loop-request.invariant ∙ c.as_slice-prices.ensures

pub returns-clause-others : goal.returns-clause-others
returns-clause-others g c = written_others g.row.L c.args.place c.loop-request.request c.as_slice-prices.result.now c.args.into.now
    c.loop-request.into c.loop-request.invariant
