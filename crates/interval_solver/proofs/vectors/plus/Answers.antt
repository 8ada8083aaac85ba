use Rattle.std.proofs.Common.{rules, ◌≡◌, length, arith}
use Rattle.interval_solver.proofs.InVectors.{sums_fit, sum_in_lane, sums_are_numbers}
use Rattle.interval_solver.proofs.vectors.plus.Goals as goal

pub overflow_add-result : goal.overflow_add-result
overflow_add-result g c =
    let long : length c.args.numbers ≡ g.row.L = search rules in
    sums_fit c.args.numbers c.args.others c.requires.numbers c.requires.others (λ l h. c.requires.sums l (omega arith))

pub returns-clause-fit : goal.returns-clause-fit
returns-clause-fit g c =
    let long : length c.args.numbers ≡ g.row.L = search rules in
    sums_are_numbers c.args.numbers c.args.others c.requires.numbers c.requires.others (λ k n. c.requires.sums k (omega arith))

pub returns-clause-each : goal.returns-clause-each
returns-clause-each g c = λ l h.
    let long : length c.args.numbers ≡ g.row.L = search rules in
    let other : length c.args.others ≡ g.row.L = search rules in
    sum_in_lane c.args.numbers c.args.others l c.requires.numbers c.requires.others (λ k n. c.requires.sums k (omega arith)) (omega arith) (omega arith)
