use Rattle.std.proofs.Common.{◌≡◌, ◌-◌, ◌≤◌, None, length, All}
use Rattle.groups.proofs.places.no_notes.Given as goal

abbrev pub invariant-loop-noted : goal.invariant-loop-noted
invariant-loop-noted l = (length l.noted.items ≤ 4096) × All (λ note. note ≡ None) l.noted.items

abbrev pub decreases-loop-noted : goal.decreases-loop-noted
decreases-loop-noted l = 4096 - length l.noted.items
