use Rattle.std.proofs.Common.{rules, ◌≡◌, length, arith}
use Rattle.interval_solver.proofs.InVectors.{differences_fit, difference_in_lane, differences_are_numbers}
use Rattle.interval_solver.proofs.vectors.less.Goals as goal

pub overflow_sub-result : goal.overflow_sub-result
overflow_sub-result g c = differences_fit g.row.L c.args.number c.args.others c.ranges.number c.requires.others c.requires.differences

pub returns-clause-fit : goal.returns-clause-fit
returns-clause-fit g c = differences_are_numbers g.row.L c.args.number c.args.others c.ranges.number c.requires.others c.requires.differences

pub returns-clause-each : goal.returns-clause-each
returns-clause-each g c = λ l h.
    let long : length c.args.others ≡ g.row.L = search rules in
    difference_in_lane g.row.L c.args.number c.args.others l c.ranges.number c.requires.others c.requires.differences h (omega arith)
