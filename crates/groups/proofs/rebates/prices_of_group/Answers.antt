use Rattle.std.proofs.Common.{◌≡◌, ℕ, ◌+◌, ◌-◌, ℤ, List, take, drop, ◌∙◌, sym, ap, arith}
use Rattle.groups.proofs.Runs.{run_prices}
use Rattle.groups.proofs.rebates.prices_of_group.Goals as goal

pub returns-clause-value : goal.returns-clause-value
returns-clause-value c =
    let size : c.first_place-first.result + c.member_count-count.result - c.first_place-first.result ≡ c.member_count-count.result = omega arith in
    ap (λ (n : ℕ). take n (drop c.first_place-first.result c.as_slice-prices.result.now)) size
    ∙ ap (λ (ps : List ℤ). take c.member_count-count.result (drop c.first_place-first.result ps)) c.as_slice-prices.ensures
    ∙ run_prices c.args.snapshot.now c.args.prices.now.0 c.args.group c.first_place-first.result c.member_count-count.result
    c.first_place-first.ensures c.requires.count (sym c.member_count-count.ensures.value)
