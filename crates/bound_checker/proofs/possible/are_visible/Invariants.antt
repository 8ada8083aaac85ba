use Rattle.std.specs.List.{AllWithin}
use Rattle.plan_base.specs.BySpans.{IsVisibleThrough}
use Rattle.bound_checker.proofs.possible.are_visible.Given as goal

abbrev pub invariant-loop-target : goal.invariant-loop-target
invariant-loop-target l = AllWithin (λ target. IsVisibleThrough l.parts target.0 l.site.0 l.observed.from.0 l.observed.to.0) l.targets 0 l.target-index
