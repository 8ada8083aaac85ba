use Rattle.std.proofs.Common.{nat_le, rules}
use Rattle.plan_base.proofs.FaultLemmas.{list_any-all_spans}
use Rattle.plan_base.proofs.build.span_fault.Goals as goal

pub returns-then-has_empty_span : goal.returns-then-has_empty_span
returns-then-has_empty_span c = rw (list_any-all_spans (λ w. nat_le w.to.0 w.from.0) c.args.parts.now) (search rules)

pub returns-else-has_empty_span : goal.returns-else-has_empty_span
returns-else-has_empty_span c = rw (list_any-all_spans (λ w. nat_le w.to.0 w.from.0) c.args.parts.now) (search rules)
