use Rattle.std.proofs.Common.{◌≡◌, length, All}
use Rattle.lanes.specs.Found.{ArePrices}
use Rattle.lanes.proofs.solve.founds_of.Given as goal

abbrev pub invariant-loop : goal.invariant-loop
invariant-loop l = (length l.founds.items ≡ l.counter) × All (λ y. ArePrices l.snapshot y.found.prices y.found.quota_prices) l.founds.items
