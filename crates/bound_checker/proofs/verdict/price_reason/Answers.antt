use Rattle.std.proofs.Common.{◌≡◌, ◌<◌, ℕ, ℤ, pos, List, length, slice_index_or, sym, ◌∙◌, ap, subst, arith}
use Rattle.plan_base.specs.Verdict.{IsFirst, IsPriceInRange}
use Rattle.plan_base.specs.Requests.{listed}
use Rattle.bound_checker.proofs.Stages.{clear_of_quota, clear_of_price_count}
use Rattle.bound_checker.proofs.verdict.price_reason.Goals as goal

-- a price out of its range
abbrev IsOutside : List ℤ → ℕ → Type 0
IsOutside prices i = (i < length prices) × ¬ (IsPriceInRange (slice_index_or prices i (pos 0)))

pub returns-then-given-wanted : goal.returns-then-given-wanted
returns-then-given-wanted c = (
  (
    ap (λ (xs : List ℤ). length xs) c.as_slice-prices.ensures,
    c.request_count-wanted.ensures.value,
    c.if-given-wanted.true,
  ),
  clear_of_quota c.args.snapshot.now c.args.claim.now c.requires,
)

pub returns : goal.returns
returns c =
    let prices = c.as_slice-prices.result.now in
    let found : IsFirst (IsOutside prices) c.in_ok-index.field-0 = c.in_ok-index.ensures in
    let count : length c.args.claim.now.prices.0 ≡ length (listed c.args.snapshot.now) =
    ap (λ (xs : List ℤ). length xs) (sym c.as_slice-prices.ensures) ∙ c.if-given-wanted.false ∙ c.request_count-wanted.ensures.value in (
      subst (λ (xs : List ℤ). IsFirst (IsOutside xs) c.in_ok-index.field-0) c.as_slice-prices.ensures found,
      clear_of_price_count c.args.snapshot.now c.args.claim.now c.requires count,
    )
