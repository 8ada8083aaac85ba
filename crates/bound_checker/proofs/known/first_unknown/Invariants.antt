use Rattle.std.specs.List.{AllWithin}
use Rattle.plan_base.specs.Requests.{IsKnown}
use Rattle.bound_checker.proofs.known.first_unknown.Given as goal

abbrev pub invariant-loop-index : goal.invariant-loop-index
invariant-loop-index l = AllWithin (λ p. IsKnown l.snapshot p.request.0) l.plan 0 l.index
