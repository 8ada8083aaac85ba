use Rattle.std.proofs.Common.{◌≡◌, All, map, take}
use Rattle.repair.specs.Entries.{IsEntry, numbers_of, number_at}
use Rattle.repair.proofs.trials.entries_of.Given as goal

abbrev pub invariant-loop-place : goal.invariant-loop-place
invariant-loop-place l = record {
  entries : All (IsEntry l.snapshot) l.entries.items;
  numbers : numbers_of l.entries.items ≡ map (λ i. number_at l.requests i) (take l.place-index l.order);
}
