-- Amounts of accounts by place.
use Rattle.std.specs.Prelude.{ℕ, ◌+◌, ◌-◌, ◌^◌, ◌<◌, ◌≤◌, List, sum_by, ◌==◌, if◌then◌else◌}
use Rattle.allocations.specs.declared.entry.EntryKind.{EntryKind}
use Rattle.allocations.specs.declared.entry.EntryKind.TheVariants.{Grant, Charge, Refund}
use Rattle.allocations.specs.declared.sums.Amount.{Amount}
use Rattle.allocations.specs.declared.sums.Sums.{Sums}

-- the seconds of the account at place i
abbrev pub amount_at : ℕ → List Amount → ℕ
amount_at i amounts = sum_by (λ m. if m.account == i then m.seconds else 0) amounts

-- nothing granted, nothing held
abbrev pub no_sums : Sums
no_sums = record { balance = 0; held = 0 }

-- the sums after an entry of a kind
abbrev pub sums_after : Sums → EntryKind → ℕ → Sums
sums_after s Grant seconds = record s { balance = s.balance + seconds }
sums_after s Charge seconds = record s { balance = s.balance - seconds }
sums_after s Refund seconds = record s { balance = s.balance + seconds }

-- the sums stay in their range
abbrev pub CanTake : Sums → EntryKind → ℕ → Type 0
CanTake s Grant seconds = s.balance + seconds < 2 ^ 64
CanTake s Charge seconds = seconds ≤ s.balance
CanTake s Refund seconds = s.balance + seconds < 2 ^ 64
