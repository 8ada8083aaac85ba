use Rattle.std.proofs.Common.{◌≤◌, ◌<◌, ◌-◌}
use Rattle.bound_checker.specs.Listings.{IsAdded, CanStart}
use Rattle.bound_checker.proofs.starts.list_stretches.Given as goal

abbrev pub invariant-loop-slice : goal.invariant-loop-slice
invariant-loop-slice l = (l.parts.first.0 ≤ l.slice)
    × IsAdded l.offer l.parts.first.0 (λ k. (k < l.slice) × CanStart l.parts l.sight l.offer k) l.initial.rows.items l.rows.items

abbrev pub decreases-loop-slice : goal.decreases-loop-slice
decreases-loop-slice l = l.stop - l.slice
