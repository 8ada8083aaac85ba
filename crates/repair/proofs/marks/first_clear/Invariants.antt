use Rattle.std.proofs.Common.{ℕ, ◌+◌, ◌-◌, ◌<◌, ◌≤◌}
use Rattle.repair.specs.Marks.{IsClear}
use Rattle.repair.proofs.marks.first_clear.Given as goal

abbrev pub invariant-loop-slot : goal.invariant-loop-slot
invariant-loop-slot l = record { from : l.from ≤ l.slot; blocked : (j : ℕ) → l.from ≤ j → j < l.slot → ¬ (IsClear l.marks j (j + l.size)) }

abbrev pub decreases-loop-slot : goal.decreases-loop-slot
decreases-loop-slot l = l.to - l.slot
