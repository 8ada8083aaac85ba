use Rattle.std.proofs.Common.{◌≡◌, ◌+◌, ◌<◌, ℕ, length, drop, get_or}
use Rattle.allocations.specs.Amounts.{amount_at, no_sums}
use Rattle.allocations.proofs.sums.raise.Given as goal

abbrev pub invariant-loop-amount : goal.invariant-loop-amount
invariant-loop-amount l = record {
  held : (i : ℕ) → i < length l.initial.sums → (get_or l.sums i no_sums).held + amount_at i (drop l.amount-index l.amounts)
      ≡ (get_or l.initial.sums i no_sums).held + amount_at i l.amounts;
  balance : (i : ℕ) → i < length l.initial.sums → (get_or l.sums i no_sums).balance ≡ (get_or l.initial.sums i no_sums).balance;
}
