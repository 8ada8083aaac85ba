-- Counts of places, as places are added and taken back.
use Rattle.std.proofs.Common.{◌≡◌, ◌≢◌, ℕ, ◌+◌, ◌-◌, ◌<◌, ◌≤◌, ◌⊎◌, inl, inr, ◌==◌, cond, List, [], ◌∷◌, ◌++◌, length, slice_index_or, slice_set}
use Rattle.std.proofs.Common.{replicate, All, refl, sym, ◌∙◌, ap, subst, get_or-set_other, get_or-set_same, length-set, arith}
use Rattle.std.proofs.lemmas.List.{get_or-replicate, length-replicate}
use Rattle.std.proofs.lemmas.List.Sums.{sum_by-append, sum_by-cons, count_by-le-length}
use Rattle.std.proofs.lemmas.List.Elements.{All-nil, All-head, All-tail, All-push}
use Rattle.std.proofs.lemmas.Bool.Decides.{nat_tests}
use Rattle.interval_solver.specs.Uses.{count_of, IsTally}

pub same_or_not : (a b : ℕ) → (a ≡ b) ⊎ (a ≢ b)
same_or_not a b = grind arith

pub one_where_same : (p k : ℕ) → p ≡ k → cond {A = ℕ} (p == k) 1 0 ≡ 1
one_where_same p k e = grind (arith, nat_tests)

pub none_where_not : (p k : ℕ) → p ≢ k → cond {A = ℕ} (p == k) 1 0 ≡ 0
none_where_not p k e = grind (arith, nat_tests)

count_push : (places : List ℕ) (p k : ℕ) → count_of (places ++ p ∷ []) k ≡ count_of places k + cond {A = ℕ} (p == k) 1 0
count_push places p k = let e : count_of (places ++ p ∷ []) k ≡ count_of places k + (0 + cond {A = ℕ} (p == k) 1 0) =
    sum_by-append (λ q. cond (q == k) 1 0) places (p ∷ []) in omega arith

count_cons : (p k : ℕ) (places : List ℕ) → count_of (p ∷ places) k ≡ cond {A = ℕ} (p == k) 1 0 + count_of places k
count_cons p k places = sum_by-cons (λ q. cond (q == k) 1 0) p places

-- nothing is counted
pub tally_none : (n : ℕ) → IsTally [] (replicate n 0)
tally_none n = record {
  within = All-nil (λ p. p < length (replicate n 0));
  each = λ k l. get_or-replicate n k 0 0 (omega (arith, length-replicate {A = ℕ} n 0));
}

within_set : (places counts : List ℕ) (p n : ℕ) → All (λ q. q < length counts) places → All (λ q. q < length (slice_set counts p n)) places
within_set places counts p n h = subst (λ (m : ℕ). All (λ q. q < m) places) (sym (length-set counts p n)) h

-- one place more is counted
pub tally_more : (places counts : List ℕ) (p n : ℕ) → IsTally places counts → p < length counts → n ≡ slice_index_or counts p 0
    → IsTally (places ++ p ∷ []) (slice_set counts p (n + 1))
tally_more places counts p n t l is = record {
  within = within_set (places ++ p ∷ []) counts p (n + 1) (All-push (λ q. q < length counts) places p t.within l);
  each = λ k m. elim (same_or_not p k) [
    | inl same ↦
        let here : slice_index_or (slice_set counts p (n + 1)) k 0 ≡ n + 1 =
        ap (λ (j : ℕ). slice_index_or (slice_set counts p (n + 1)) j 0) (sym same) ∙ get_or-set_same counts p (n + 1) 0 l in
        let before : slice_index_or counts p 0 ≡ count_of places p = t.each p l in
        let as_k : count_of places p ≡ count_of places k = ap (count_of places) same in
        let one = one_where_same p k same in
        let pushed = count_push places p k in
        omega arith
    | inr differ ↦
        let here : slice_index_or (slice_set counts p (n + 1)) k 0 ≡ slice_index_or counts k 0 = get_or-set_other counts p k (n + 1) 0 (λ e. differ (sym e)) in
        let before : slice_index_or counts k 0 ≡ count_of places k = t.each k (omega (arith, length-set counts p (n + 1))) in
        let none = none_where_not p k differ in
        let pushed = count_push places p k in
        omega arith
  ];
}

-- the first place is counted, and may be taken back
pub counted_first : (places counts : List ℕ) (p : ℕ) → IsTally (p ∷ places) counts → (p < length counts) × (1 ≤ slice_index_or counts p 0)
counted_first places counts p t =
    let l : p < length counts = All-head (λ q. q < length counts) p places t.within in
    let is : slice_index_or counts p 0 ≡ count_of (p ∷ places) p = t.each p l in
    let one = one_where_same p p refl in
    let cons = count_cons p p places in
    (l, omega arith)

pub tally_less : (places counts : List ℕ) (p n : ℕ) → IsTally (p ∷ places) counts → n ≡ slice_index_or counts p 0 → IsTally places (slice_set counts p (n - 1))
tally_less places counts p n t is = record {
  within = within_set places counts p (n - 1) (All-tail (λ q. q < length counts) p places t.within);
  each = λ k m. elim (same_or_not p k) [
    | inl same ↦
        let l : p < length counts = All-head (λ q. q < length counts) p places t.within in
        let here : slice_index_or (slice_set counts p (n - 1)) k 0 ≡ n - 1 =
        ap (λ (j : ℕ). slice_index_or (slice_set counts p (n - 1)) j 0) (sym same) ∙ get_or-set_same counts p (n - 1) 0 l in
        let before : slice_index_or counts p 0 ≡ count_of (p ∷ places) p = t.each p l in
        let one = one_where_same p p refl in
        let cons = count_cons p p places in
        let as_k : count_of places p ≡ count_of places k = ap (count_of places) same in
        omega arith
    | inr differ ↦
        let here : slice_index_or (slice_set counts p (n - 1)) k 0 ≡ slice_index_or counts k 0 = get_or-set_other counts p k (n - 1) 0 (λ e. differ (sym e)) in
        let before : slice_index_or counts k 0 ≡ count_of (p ∷ places) k = t.each k (omega (arith, length-set counts p (n - 1))) in
        let none = none_where_not p k differ in
        let cons = count_cons p k places in
        omega arith
  ];
}

-- a count is at most the number of places
pub count_at_most : (places counts : List ℕ) (k : ℕ) → IsTally places counts → k < length counts → slice_index_or counts k 0 ≤ length places
count_at_most places counts k t l = let is : slice_index_or counts k 0 ≡ count_of places k = t.each k l in
    omega (arith, count_by-le-length (λ p. p == k) places)
