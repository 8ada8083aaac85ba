use Rattle.std.proofs.Common.{◌≡◌, ◌≤◌, length, take}
use Rattle.std.specs.Prelude.{filter_map}
use Rattle.std.specs.Vec.{vec_capacity}
use Rattle.repair.proofs.ranked.list_noted.Given as goal

abbrev pub invariant-loop-place : goal.invariant-loop-place
invariant-loop-place l = record {
  listed : l.ranked.items ≡ filter_map (λ rank. rank) (take l.place l.noted);
  few : length l.ranked.items ≤ l.place;
  room : vec_capacity l.ranked ≡ vec_capacity l.fn.ranked;
}
