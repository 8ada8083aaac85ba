use Rattle.std.proofs.Common.{◌+◌, ◌-◌, ◌≤◌}
use Rattle.bound_checker.specs.Listings.{CanStart}
use Rattle.openings.proofs.Flags.{IsFlaggedTo}
use Rattle.openings.proofs.opening.flags_of.Given as goal

abbrev pub invariant-loop-slice : goal.invariant-loop-slice
invariant-loop-slice l = record {
  from : l.parts.first.0 ≤ l.slice;
  within : l.slice ≤ l.parts.first.0 + l.parts.slices;
  flags : IsFlaggedTo (λ i. CanStart l.parts l.sight l.offer (l.parts.first.0 + i)) (l.slice - l.parts.first.0) l.flags.items;
}

abbrev pub decreases-loop-slice : goal.decreases-loop-slice
decreases-loop-slice l = l.stop - l.slice
