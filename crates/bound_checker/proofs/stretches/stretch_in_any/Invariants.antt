use Rattle.bound_checker.proofs.Spans.{IsNoneUntil}
use Rattle.bound_checker.proofs.stretches.stretch_in_any.Given as goal

abbrev pub invariant-loop-span : goal.invariant-loop-span
invariant-loop-span l = IsNoneUntil l.spans l.observation l.slice l.span-index l.end
