-- The bound of a snapshot with one more group: the bests are exchanged, and the group's rebate is added.
use Rattle.std.proofs.Common.{◌≡◌, ℕ, ◌+◌, ◌<◌, inl, inr, ℤ, pos, ◌+ℤ◌, ◌-ℤ◌, List, [], ◌∷◌, ◌++◌, length, length-append, slice_index_or, sym, ◌∙◌, ap}
use Rattle.std.proofs.Common.{subst, arith}
use Rattle.std.proofs.lemmas.Bool.{cases_lt}
use Rattle.std.proofs.lemmas.Int.{ints}
use Rattle.std.proofs.lemmas.List.{get_or_append_left, get_or-append-add}
use Rattle.plan_base.specs.declared.parts.Parts.{Parts}
use Rattle.plan_base.specs.declared.parts.GroupPart.{GroupPart}
use Rattle.plan_base.specs.declared.parts.RequestPart.{RequestPart}
use Rattle.plan_base.specs.Sums.{total, AreParts, IsSumOf}
use Rattle.plan_base.specs.Requests.{listed}
use Rattle.plan_base.specs.Snapshot.{IsOrderly}
use Rattle.plan_base.specs.Bound.{IsBest, net_price, IsRebate, IsBound}
use Rattle.plan_base.proofs.Totals.{total_append}
use Rattle.plan_base.proofs.Single.{one_best, one_sum}
use Rattle.rapid.specs.Insertion.{with_group}
use Rattle.rapid.proofs.Rebates.{rebate_kept}

-- parts with one more
pub parts_more : (n : ℕ) (P : ℕ → ℤ → Type 0) (xs : List ℤ) (b : ℤ) → AreParts n P xs → P n b → AreParts (n + 1) P (xs ++ b ∷ [])
parts_more n P xs b h part =
    let count : length xs ≡ n = h.count in
    let size : length (xs ++ b ∷ []) ≡ length xs + 1 = length-append xs (b ∷ []) in
    let at : n ≡ length xs + 0 = omega arith in
    let here : slice_index_or (xs ++ b ∷ []) n (pos 0) ≡ b = ap (λ (k : ℕ). slice_index_or (xs ++ b ∷ []) k (pos 0)) at
    ∙ get_or-append-add xs (b ∷ []) 0 (pos 0) in
    record {
      count = omega arith;
      each = λ k l. elim (cases_lt k n) [
        | inl less ↦ subst (P k) (sym (get_or_append_left xs (b ∷ []) (pos 0) k (omega arith))) (h.each k less)
        | inr above ↦ let same : k ≡ n = omega arith in
            subst (λ (m : ℕ). P m (slice_index_or (xs ++ b ∷ []) m (pos 0))) (sym same) (subst (P n) (sym here) part)
      ];
    }

-- a sum with one more part
sum_more : (n : ℕ) (P : ℕ → ℤ → Type 0) (a b : ℤ) → IsSumOf n P a → P n b → IsSumOf (n + 1) P (a +ℤ b)
sum_more n P a b h part =
    let parts = parts_more n P h.parts b (record { count = h.count; each = h.each }) part in
    let whole : total (λ x. x) (h.parts ++ b ∷ []) ≡ total (λ x. x) h.parts +ℤ total (λ x. x) (b ∷ []) = total_append (λ x. x) h.parts (b ∷ []) in
    let before : total (λ x. x) h.parts ≡ a = h.sum in
    record { parts = h.parts ++ b ∷ []; count = parts.count; each = parts.each; sum = omega (arith, ints) }

-- a sum of parts of which another thing holds too
sum_weaker : (n : ℕ) (P Q : ℕ → ℤ → Type 0) (a : ℤ) → ((i : ℕ) (x : ℤ) → i < n → P i x → Q i x) → IsSumOf n P a → IsSumOf n Q a
sum_weaker n P Q a weaker h = record { parts = h.parts; count = h.count; each = λ i l. weaker i (slice_index_or h.parts i (pos 0)) l (h.each i l); sum = h.sum }

add_up : (b bests rebates quotas x y r : ℤ) → b ≡ bests +ℤ rebates +ℤ quotas → bests ≡ x → b -ℤ x +ℤ y +ℤ r ≡ y +ℤ (rebates +ℤ r) +ℤ quotas
add_up b bests rebates quotas x y r e f = omega (arith, ints)

pub bound_more : (s : Parts) (group : GroupPart) (q : RequestPart) → group.requests ≡ q ∷ [] → IsOrderly s → IsOrderly (with_group s group)
    → (cs : List ℤ) (c : ℤ) → length cs ≡ length (listed s) → (us : List ℕ) (b x y r : ℤ)
    → IsBound s cs us b → IsSumOf (length s.telescopes) (λ t. IsBest s cs t s.first.0) x
    → IsSumOf (length s.telescopes) (λ t. IsBest (with_group s group) (cs ++ c ∷ []) t s.first.0) y
    → IsRebate (with_group s group) (net_price (with_group s group) (cs ++ c ∷ []) us) (length s.groups) r
    → IsBound (with_group s group) (cs ++ c ∷ []) us (b -ℤ x +ℤ y +ℤ r)
bound_more s group q only before o cs c count us b x y r bound old new rebate =
    let net_after : ℕ → ℤ = net_price (with_group s group) (cs ++ c ∷ []) us in
    let bests : bound.bests ≡ x = one_sum (length s.telescopes) (λ t. IsBest s cs t s.first.0) bound.bests x
    (λ t v w. one_best s cs t s.first.0 v w) bound.best old in
    let groups : length s.groups + 1 ≡ length (s.groups ++ group ∷ []) = sym (length-append s.groups (group ∷ [])) in
    let kept : IsSumOf (length s.groups) (IsRebate (with_group s group) net_after) bound.rebates =
    sum_weaker (length s.groups) (IsRebate s (net_price s cs us)) (IsRebate (with_group s group) net_after) bound.rebates
    (λ g z l h. rebate_kept s group before q only o cs c count us g z l h) bound.rebate in
    record {
      bests = y;
      rebates = bound.rebates +ℤ r;
      quotas = bound.quotas;
      best = new;
      rebate = subst (λ (n : ℕ). IsSumOf n (IsRebate (with_group s group) net_after) (bound.rebates +ℤ r)) groups
          (sum_more (length s.groups) (IsRebate (with_group s group) net_after) bound.rebates r kept rebate);
      quota = bound.quota;
      whole = add_up b bound.bests bound.rebates bound.quotas x y r bound.whole bests;
    }
