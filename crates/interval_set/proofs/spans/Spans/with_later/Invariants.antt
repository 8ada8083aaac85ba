use Rattle.interval_set.proofs.Merges.{IsAddedSoFar}
use Rattle.interval_set.proofs.spans.Spans.with_later.Given as goal

abbrev pub invariant-loop-span : goal.invariant-loop-span
invariant-loop-span l = IsAddedSoFar l.fn.self l.spans l.span-index l.self
