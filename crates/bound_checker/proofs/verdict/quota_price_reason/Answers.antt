use Rattle.std.proofs.Common.{◌≡◌, ◌≤◌, ◌<◌, ◌⊎◌, inl, inr, ℕ, List, length, slice_index_or, sym, ◌∙◌, ap, subst, arith}
use Rattle.std.proofs.lemmas.List.{get_or_past}
use Rattle.plan_base.specs.declared.parts.Parts.{Parts}
use Rattle.plan_base.specs.declared.fault.Counted.TheVariants.{Quotas}
use Rattle.plan_base.specs.Verdict.{IsFirst, IsQuotaPriceCount}
use Rattle.bound_checker.proofs.Stages.{clear_of_price_range, clear_of_quota_price_count}
use Rattle.bound_checker.proofs.verdict.quota_price_reason.Goals as goal

-- the count that was tested is that of the claim
count_of : (s t : Parts) (prices claimed : List ℕ) (wanted : ℕ) → prices ≡ claimed → t ≡ s → wanted ≡ length t.quotas
    → (length prices ≡ 0) ⊎ (length prices ≡ wanted) → IsQuotaPriceCount s claimed
count_of s t prices claimed wanted e f is (inl none) = inl (ap (λ (xs : List ℕ). length xs) (sym e) ∙ none)
count_of s t prices claimed wanted e f is (inr each) = inr (ap (λ (xs : List ℕ). length xs) (sym e) ∙ each ∙ is ∙ ap (λ (x : Parts). length x.quotas) f)

tested_of : (s t : Parts) (prices claimed : List ℕ) (wanted : ℕ) → prices ≡ claimed → t ≡ s → wanted ≡ length t.quotas → IsQuotaPriceCount s claimed
    → (length prices ≡ 0) ⊎ (length prices ≡ wanted)
tested_of s t prices claimed wanted e f is (inl none) = inl (ap (λ (xs : List ℕ). length xs) e ∙ none)
tested_of s t prices claimed wanted e f is (inr each) = inr (ap (λ (xs : List ℕ). length xs) e ∙ each ∙ ap (λ (x : Parts). length x.quotas) (sym f) ∙ sym is)

few : (n m : ℕ) → m ≤ 1024 → (n ≡ 0) ⊎ (n ≡ m) → n ≤ 1024
few n m l (inl e) = omega arith
few n m l (inr e) = omega arith

place_cases : (a b : ℕ) → (a < b) ⊎ (b ≤ a)
place_cases a b = grind arith

-- a price above 0 stands in the list
priced_within : (prices : List ℕ) (i : ℕ) → 200000 < slice_index_or prices i 0 → i < length prices
priced_within prices i over = elim (place_cases i (length prices)) [
  | inl l ↦ l
  | inr past ↦ absurd (let none : slice_index_or prices i 0 ≡ 0 = get_or_past prices i 0 past in omega arith)
]

pub returns-then-not-is_quota_price_count : goal.returns-then-not-is_quota_price_count
returns-then-not-is_quota_price_count c = (
  (
    ap (λ (xs : List ℕ). length xs) c.as_slice-prices.ensures,
    c.len-wanted.ensures ∙ ap (λ (x : Parts). length x.quotas) c.parts.ensures.value,
    λ count.
        let tested = tested_of c.args.snapshot.now c.parts.result.now c.as_slice-prices.result.now c.args.claim.now.quota_prices.0 c.len-wanted.result
        c.as_slice-prices.ensures c.parts.ensures.value c.len-wanted.ensures count in
        let bad = sym c.if-not-is_quota_price_count.true ∙ c.is_quota_price_count.ensures.1 tested in
        cc,
  ),
  clear_of_price_range c.args.snapshot.now c.args.claim.now c.requires.feasible c.requires.prices,
)

pub overflow_cast-index : goal.overflow_cast-index
overflow_cast-index c =
    let prices = c.as_slice-prices.result.now in
    let found : IsFirst (λ i. 200000 < slice_index_or prices i 0) c.in_ok-index.field-0 = c.in_ok-index.ensures in
    let within : c.in_ok-index.field-0 < length prices = priced_within prices c.in_ok-index.field-0 found.0 in
    let quotas : length c.args.snapshot.now.quotas ≤ 1024 = c.parts.ensures.orderly.within Quotas 0 0 (omega arith) in
    let wanted : c.len-wanted.result ≡ length c.args.snapshot.now.quotas = c.len-wanted.ensures ∙ ap (λ (x : Parts). length x.quotas) c.parts.ensures.value in
    let most : length prices ≤ 1024 =
    few (length prices) c.len-wanted.result (omega arith) (c.is_quota_price_count.ensures.0 c.if-not-is_quota_price_count.false) in
    omega arith

pub returns : goal.returns
returns c =
    let prices = c.as_slice-prices.result.now in
    let found : IsFirst (λ i. 200000 < slice_index_or prices i 0) c.in_ok-index.field-0 = c.in_ok-index.ensures in
    let count : IsQuotaPriceCount c.args.snapshot.now c.args.claim.now.quota_prices.0
    = count_of c.args.snapshot.now c.parts.result.now prices c.args.claim.now.quota_prices.0 c.len-wanted.result c.as_slice-prices.ensures
    c.parts.ensures.value c.len-wanted.ensures (c.is_quota_price_count.ensures.0 c.if-not-is_quota_price_count.false)
    in (
      subst (λ (xs : List ℕ). IsFirst (λ i. 200000 < slice_index_or xs i 0) c.in_ok-index.field-0) c.as_slice-prices.ensures found,
      clear_of_quota_price_count c.args.snapshot.now c.args.claim.now c.requires.feasible c.requires.prices count,
    )
