use Rattle.std.proofs.Common.{◌≡◌, ◌≤◌, length, take}
use Rattle.repair.proofs.draft.Draft.truncate.Given as goal

abbrev pub invariant-loop-self : goal.invariant-loop-self
invariant-loop-self l = record {
  same : l.self.snapshot ≡ l.fn.self.snapshot;
  count : l.count ≤ length l.self.placed;
  front : take l.count l.self.placed ≡ take l.count l.fn.self.placed;
}

abbrev pub decreases-loop-self : goal.decreases-loop-self
decreases-loop-self l = length l.self.placed
