use Rattle.std.proofs.Common.{◌∙◌, ap, arith}
use Rattle.workload.specs.Generator.{number_after}
use Rattle.workload.specs.Subjects.{draws_of}
use Rattle.workload.proofs.Places.{number_more, line_past, line_here}
use Rattle.workload.proofs.workload.Workload.next.Goals as goal

pub returns-then-self-ge-LINES-clause-line : goal.returns-then-self-ge-LINES-clause-line
returns-then-self-ge-LINES-clause-line c =
    rw (← c.self.view_is) ((line_past c.self.inside.number c.self.inside.workers c.self.inside.given
    (omega (arith, c.if-self-ge-LINES.true)) c.self.invariant.0).0)

pub returns-then-self-ge-LINES-clause-given : goal.returns-then-self-ge-LINES-clause-given
returns-then-self-ge-LINES-clause-given c =
    rw (← c.self.view_is) ((line_past c.self.inside.number c.self.inside.workers c.self.inside.given
    (omega (arith, c.if-self-ge-LINES.true)) c.self.invariant.0).1)

pub invariant_of-self : goal.invariant_of-self
invariant_of-self c = (
  omega (arith, c.if-self-ge-LINES.false),
  c.in_ok-line.ensures.next
      ∙ ap (λ x. number_after x (draws_of c.subject_at.result)) c.self.invariant.1
      ∙ number_more c.self.inside.number c.self.inside.given c.subject_at.result (omega (arith, c.if-self-ge-LINES.false)) c.subject_at.ensures,
)

pub returns-clause-line : goal.returns-clause-line
returns-clause-line c =
    rw (← c.self.view_is)
    ((line_here c.self.inside.number c.self.inside.workers c.self.inside.given c.subject_at.result c.self.inside.draws.x c.in_ok-line.line.items
    (omega (arith, c.if-self-ge-LINES.false)) c.subject_at.ensures
    c.self.invariant.1 c.in_ok-line.ensures.line).0)

pub returns-clause-given : goal.returns-clause-given
returns-clause-given c =
    rw (← c.self.view_is)
    ((line_here c.self.inside.number c.self.inside.workers c.self.inside.given c.subject_at.result c.self.inside.draws.x c.in_ok-line.line.items
    (omega (arith, c.if-self-ge-LINES.false)) c.subject_at.ensures
    c.self.invariant.1 c.in_ok-line.ensures.line).1)
