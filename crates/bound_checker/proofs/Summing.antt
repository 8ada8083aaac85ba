-- Sums that grow part by part, and the ranges of their parts.
use Rattle.std.proofs.Common.{◌≡◌, ℕ, ◌+◌, ◌*◌, ◌^◌, ◌<◌, ◌≤◌, ◌⊎◌, inl, inr, ℤ, pos, negsuc, neg_ℤ, w64, ◌+ℤ◌, ◌≤ℤ◌, List, [], ◌∷◌, ◌++◌, length}
use Rattle.std.proofs.Common.{length-append, slice_index_or, filter, not, ◌==◌, All, refl, sym, ◌∙◌, ap, subst, arith}
use Rattle.std.proofs.lemmas.Int.{ints}
use Rattle.std.proofs.lemmas.List.{get_or_append_left, get_or-append-add}
use Rattle.std.proofs.lemmas.List.Elements.{All-nil}
use Rattle.std.proofs.lemmas.List.Filters.{length-filter_both}
use Rattle.plan_base.specs.declared.parts.Parts.{Parts}
use Rattle.plan_base.specs.declared.fault.Counted.TheVariants.{Telescopes, Groups, Quotas, Requests}
use Rattle.plan_base.specs.Sums.{total, IsSumOf}
use Rattle.plan_base.specs.Requests.{listed}
use Rattle.plan_base.specs.Snapshot.{IsOrderly}
use Rattle.plan_base.specs.Bound.{net_price, IsAllowedChoice, IsRebate}
use Rattle.plan_base.specs.Verdict.{IsPriceInRange}
use Rattle.plan_base.proofs.Totals.{total_append, total_at_most}
use Rattle.plan_base.proofs.Limits.{net_price_between, length_of_choice}
use Rattle.bound_checker.specs.Summed.{IsSummed}
use mir.Val.{SFits}

below_or_at : (a b : ℕ) → a < b + 1 → (a < b) ⊎ (a ≡ b)
below_or_at a b h = grind arith

pub summed_none : (P : ℕ → ℤ → Type 0) (m : ℕ) → IsSummed 0 P m (pos 0)
summed_none P m = record {
  sum = record { parts = []; count = refl; each = λ i l. absurd (omega arith); sum = refl };
  least = omega (arith, ints);
  most = omega (arith, ints);
}

pub summed_more : (i : ℕ) (P : ℕ → ℤ → Type 0) (m : ℕ) (a b : ℤ) → IsSummed i P m a → P i b → (pos 0 ≤ℤ b) × (b ≤ℤ pos m) → IsSummed (i + 1) P m (a +ℤ b)
summed_more i P m a b so_far part range =
    let xs : List ℤ = so_far.sum.parts in
    let count : length xs ≡ i = so_far.sum.count in
    let size : length (xs ++ b ∷ []) ≡ length xs + 1 = length-append xs (b ∷ []) in
    let whole : total (λ x. x) (xs ++ b ∷ []) ≡ total (λ x. x) xs +ℤ total (λ x. x) (b ∷ []) = total_append (λ x. x) xs (b ∷ []) in
    let before : total (λ x. x) xs ≡ a = so_far.sum.sum in
    let at : i ≡ length xs + 0 = omega arith in
    let here : slice_index_or (xs ++ b ∷ []) i (pos 0) ≡ b = ap (λ (n : ℕ). slice_index_or (xs ++ b ∷ []) n (pos 0)) at
    ∙ get_or-append-add xs (b ∷ []) 0 (pos 0) in
    let low = range.0 in
    let high = range.1 in
    let least : pos 0 ≤ℤ a = so_far.least in
    let most : a ≤ℤ pos (i * m) = so_far.most in
    let product : (i + 1) * m ≡ i * m + m = grind arith in
    record {
      sum = record {
        parts = xs ++ b ∷ [];
        count = omega arith;
        each = λ k l. elim (below_or_at k i l) [
          | inl less ↦ subst (P k) (sym (get_or_append_left xs (b ∷ []) (pos 0) k (omega arith))) (so_far.sum.each k less)
          | inr same ↦ subst (λ (n : ℕ). P n (slice_index_or (xs ++ b ∷ []) n (pos 0))) (sym same) (subst (P i) (sym here) part)
        ];
        sum = omega (arith, ints);
      };
      least = omega (arith, ints);
      most = omega (arith, ints, ap (λ (n : ℕ). pos n) product);
    }

pub sum_fits : (z : ℤ) → pos 0 ≤ℤ z → z ≤ℤ pos (2 ^ 62) → SFits w64 z
sum_fits (pos n) low high = record { sfits = omega (arith, ints) }
sum_fits (negsuc n) low high = absurd (omega (arith, ints))

pub few_telescopes : (s : Parts) → IsOrderly s → length s.telescopes ≤ 32
few_telescopes s o = o.within Telescopes 0 0 (omega arith)

pub few_groups : (s : Parts) → IsOrderly s → length s.groups ≤ 1024
few_groups s o = o.within Groups 0 0 (omega arith)

pub few_quotas : (s : Parts) → IsOrderly s → length s.quotas ≤ 1024
few_quotas s o = o.within Quotas 0 0 (omega arith)

-- a rebate is not negative, and at most 10^12 for each request
pub rebate_between : (s : Parts) (prices : List ℤ) (quota_prices : List ℕ) (g : ℕ) (b : ℤ) → IsOrderly s → All IsPriceInRange prices
    → All (λ u. u ≤ 200000) quota_prices → IsRebate s (net_price s prices quota_prices) g b
    → (pos 0 ≤ℤ b) × (b ≤ℤ pos 1024000000000000)
rebate_between s prices quota_prices g b o a u rebate =
    let none : IsAllowedChoice s g [] =
    record {
      members = All-nil _;
      once = λ i j d l m. absurd (omega arith);
      one_of = λ k. omega arith;
      whole = λ k. inr (λ r f h. absurd (omega (arith, h.1)));
    } in
    let least : pos 0 ≤ℤ b = rebate.bound [] none in
    let choice : List ℕ = rebate.reached.0 in
    let count : length choice ≤ length (filter (λ x. x.group == g) (listed s)) = length_of_choice s g choice rebate.reached.1 in
    let fewer : length (filter (λ x. x.group == g) (listed s)) ≤ length (listed s) =
    (let all = length-filter_both (λ x. x.group == g) (λ x. not (x.group == g)) (λ x. refl) (listed s) in omega arith) in
    let few : length (listed s) ≤ 1024 = o.within Requests 0 0 (omega arith) in
    let sum : total (net_price s prices quota_prices) choice ≤ℤ pos (length choice * 10 ^ 12) =
    total_at_most (net_price s prices quota_prices) (10 ^ 12) choice
    (λ i d l. (net_price_between s prices quota_prices _ o (rebate.reached.1.members i d l).0 a u).1) in
    let is : total (net_price s prices quota_prices) choice ≡ b = rebate.reached.2 in
    (least, omega (arith, ints))
