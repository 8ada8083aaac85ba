use Rattle.bound_checker.proofs.Spans.{first_decides}
use Rattle.bound_checker.proofs.stretches.stretch_in_sorted.Goals as goal

pub returns-in-Some : goal.returns-in-Some
returns-in-Some c =
    first_decides c.args.spans.now c.args.observation c.args.slice c.first_to.result c.stretch_in.result c.in-Some.span.now c.requires.apart
    c.first_to.ensures c.in-Some.ensures.lookup.3.0 c.in-Some.ensures.lookup.1 c.stretch_in.ensures.stretch c.stretch_in.ensures.early
