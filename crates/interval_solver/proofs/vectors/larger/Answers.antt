use Rattle.std.proofs.Common.{rules, ◌≡◌, length, arith}
use Rattle.interval_solver.proofs.InVectors.{larger_in_lane, larger_are_numbers}
use Rattle.interval_solver.proofs.vectors.larger.Goals as goal

pub returns-clause-fit : goal.returns-clause-fit
returns-clause-fit g c = larger_are_numbers c.args.numbers c.args.others c.requires.numbers c.requires.others

pub returns-clause-each : goal.returns-clause-each
returns-clause-each g c = λ l h.
    let long : length c.args.numbers ≡ g.row.L = search rules in
    let other : length c.args.others ≡ g.row.L = search rules in
    larger_in_lane c.args.numbers c.args.others l c.requires.numbers c.requires.others (omega arith) (omega arith)
