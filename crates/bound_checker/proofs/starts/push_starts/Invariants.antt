use Rattle.std.proofs.Common.{◌≤◌, ◌<◌}
use Rattle.bound_checker.specs.Listings.{IsAdded}
use Rattle.bound_checker.proofs.starts.push_starts.Given as goal

abbrev pub invariant-loop-slice : goal.invariant-loop-slice
invariant-loop-slice l = IsAdded l.offer l.first (λ k. (l.from ≤ k) × (k < l.slice)) l.initial.rows.items l.rows.items
