use Rattle.std.proofs.Common.{◌≡◌, ◌<◌, ◌≤◌, drop, take}
use Rattle.std.specs.Prelude.{All, map, length}
use Rattle.allocations.specs.Raw.{hold_of}
use Rattle.allocations.specs.Refusals.{first_refusal}
use Rattle.allocations.specs.Store.{freed_postings, freed_groups, freed_books, left_at}
use Rattle.allocations.proofs.asking.amounts_for.Given as goal

abbrev pub invariant-loop-hold : goal.invariant-loop-hold
invariant-loop-hold l = record {
  places : All (λ m. m.account < length l.store.keys) l.amounts.items;
  stand : map (hold_of l.store.keys) l.amounts.items ≡ take l.hold-index l.holds;
  fit : All (λ m. m.seconds ≤ left_at m.account (freed_postings l.old l.store.postings l.store.groups) (freed_groups l.old l.store.groups)) l.amounts.items;
  given : first_refusal (freed_books l.store l.old) (drop l.hold-index l.holds) ≡ first_refusal (freed_books l.store l.old) l.holds;
}
