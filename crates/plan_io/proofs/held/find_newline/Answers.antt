use Rattle.std.proofs.Common.{◌≡◌, ◌-◌, ◌+◌, ◌<◌, length, take, drop, arith, eq-eqb, ap, ◌∙◌}
use Rattle.std.proofs.lemmas.List.{take_rest, length-drop}
use Rattle.plan_io.proofs.Cuts.{none_from}
use Rattle.plan_io.proofs.held.find_newline.Goals as goal

pub returns-in-Some-clause-before : goal.returns-in-Some-clause-before
returns-in-Some-clause-before c =
    let bytes = c.args.bytes.now in
    let rest = take (length bytes - c.args.from) (drop c.args.from bytes) in
    none_from bytes rest c.args.from c.in-Some.at (take_rest bytes c.args.from) (λ k lt e. c.in-Some.ensures.0.before k (omega arith) lt (eq-eqb _ 10 e))

pub returns-in-None-clause-before : goal.returns-in-None-clause-before
returns-in-None-clause-before c =
    let bytes = c.args.bytes.now in
    let rest = take (length bytes - c.args.from) (drop c.args.from bytes) in
    let size : length rest ≡ length bytes - c.args.from = ap length (take_rest bytes c.args.from) ∙ length-drop c.args.from bytes in
    λ k low high.
    let under : k < c.args.from + length rest = omega (arith, size, high, c.requires) in
    none_from bytes rest c.args.from (length rest) (take_rest bytes c.args.from) (λ j lt e. c.in-None.ensures j (omega arith) lt (eq-eqb _ 10 e)) k low under
