use Rattle.std.specs.List.{AllWithin}
use Rattle.plan_base.specs.Verdict.{IsPriceInRange}
use Rattle.bound_checker.proofs.ranges.first_price_out_of_range.Given as goal

abbrev pub invariant-loop-index : goal.invariant-loop-index
invariant-loop-index l = AllWithin IsPriceInRange l.prices 0 l.index
