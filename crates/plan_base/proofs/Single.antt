-- One best, one rebate and one bound for the same arguments.
use Rattle.std.proofs.Common.{◌≡◌, ℕ, ◌<◌, ℤ, pos, ◌+ℤ◌, ◌≤ℤ◌, List, length, slice_index_or, sym, ◌∙◌, ap, subst, arith}
use Rattle.std.proofs.lemmas.Int.{ints}
use Rattle.std.proofs.lemmas.List.{same_lists, get_or_default}
use Rattle.plan_base.specs.declared.parts.Parts.{Parts}
use Rattle.plan_base.specs.Sums.{total, IsSumOf}
use Rattle.plan_base.specs.Bound.{IsBest, IsRebate, net_price, IsQuotaPart, IsBound}

same_from_both : (a b : ℤ) → a ≤ℤ b → b ≤ℤ a → a ≡ b
same_from_both a b h g = omega (arith, ints)

pub one_best : (s : Parts) (prices : List ℤ) (t k : ℕ) (a b : ℤ) → IsBest s prices t k a → IsBest s prices t k b → a ≡ b
one_best s prices t k a b ha hb =
    let below : a ≤ℤ b = subst (λ (z : ℤ). z ≤ℤ b) ha.reached.2 (hb.bound ha.reached.0 ha.reached.1) in
    let above : b ≤ℤ a = subst (λ (z : ℤ). z ≤ℤ a) hb.reached.2 (ha.bound hb.reached.0 hb.reached.1) in
    same_from_both a b below above

pub one_rebate : (s : Parts) (c : ℕ → ℤ) (g : ℕ) (a b : ℤ) → IsRebate s c g a → IsRebate s c g b → a ≡ b
one_rebate s c g a b ha hb =
    let below : a ≤ℤ b = subst (λ (z : ℤ). z ≤ℤ b) ha.reached.2 (hb.bound ha.reached.0 ha.reached.1) in
    let above : b ≤ℤ a = subst (λ (z : ℤ). z ≤ℤ a) hb.reached.2 (ha.bound hb.reached.0 hb.reached.1) in
    same_from_both a b below above

pub one_sum : (n : ℕ) (P : ℕ → ℤ → Type 0) (a b : ℤ) → ((i : ℕ) (x y : ℤ) → P i x → P i y → x ≡ y) → IsSumOf n P a → IsSumOf n P b → a ≡ b
one_sum n P a b one ha hb =
    let counts : length ha.parts ≡ length hb.parts = ha.count ∙ sym hb.count in
    let parts : ha.parts ≡ hb.parts = same_lists ha.parts hb.parts counts (λ i d l.
    let below : i < n = omega (arith, ha.count) in
    let here : slice_index_or ha.parts i (pos 0) ≡ slice_index_or hb.parts i (pos 0) = one i _ _ (ha.each i below) (hb.each i below) in
    get_or_default ha.parts i d (pos 0) l ∙ here ∙ get_or_default hb.parts i (pos 0) d (omega (arith, counts))) in
    sym ha.sum ∙ ap (λ (xs : List ℤ). total (λ x. x) xs) parts ∙ hb.sum

pub one_bound : (s : Parts) (prices : List ℤ) (quota_prices : List ℕ) (a b : ℤ) → IsBound s prices quota_prices a → IsBound s prices quota_prices b → a ≡ b
one_bound s prices quota_prices a b ha hb =
    let bests : ha.bests ≡ hb.bests = one_sum (length s.telescopes) (λ t. IsBest s prices t s.first.0) ha.bests hb.bests
    (λ t x y. one_best s prices t s.first.0 x y) ha.best hb.best in
    let rebates : ha.rebates ≡ hb.rebates = one_sum (length s.groups) (IsRebate s (net_price s prices quota_prices)) ha.rebates hb.rebates
    (λ g x y. one_rebate s (net_price s prices quota_prices) g x y) ha.rebate hb.rebate in
    let quotas : ha.quotas ≡ hb.quotas = one_sum (length s.quotas) (IsQuotaPart s quota_prices) ha.quotas hb.quotas
    (λ q x y e f. e ∙ sym f) ha.quota hb.quota in
    let left : a ≡ ha.bests +ℤ ha.rebates +ℤ ha.quotas = ha.whole in
    let right : b ≡ hb.bests +ℤ hb.rebates +ℤ hb.quotas = hb.whole in
    omega (arith, ints)
