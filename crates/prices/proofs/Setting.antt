-- Lists that are written place by place.
use Rattle.std.proofs.Common.{◌≡◌, ℕ, ◌+◌, ◌<◌, ◌≤◌, ◌⊎◌, inl, inr, List, length, slice_index_or, slice_set, replicate, sym, ◌∙◌, ap, arith}
use Rattle.std.proofs.lemmas.List.{length-set, get_or-set_same, get_or-set_other, length-replicate, get_or-replicate, get_or_past}

-- the first n places of a list are as wanted, and the others as they were
pub record IsSetUpTo {X : Type 0} (d : X) (want : ℕ → X) (old now : List X) (n : ℕ) : Type 0 where
  pub count : length now ≡ length old
  pub done : (i : ℕ) → i < n → slice_index_or now i d ≡ want i
  pub rest : (i : ℕ) → n ≤ i → slice_index_or now i d ≡ slice_index_or old i d

pub below_or_same : (i n : ℕ) → i < n + 1 → (i < n) ⊎ (i ≡ n)
below_or_same i n l = grind arith

-- one place more
pub set_more : {X : Type 0} (d : X) (want : ℕ → X) (old now : List X) (n : ℕ) (y : X) → n < length now → y ≡ want n → IsSetUpTo d want old now n
    → IsSetUpTo d want old (slice_set now n y) (n + 1)
set_more d want old now n y l e h = record {
  count = length-set now n y ∙ h.count;
  done = λ i k. elim (below_or_same i n k) [
    | inl below ↦ get_or-set_other now n i y d (λ same. omega (arith, same)) ∙ h.done i below
    | inr same ↦ ap (λ (j : ℕ). slice_index_or (slice_set now n y) j d) same ∙ get_or-set_same now n y d l ∙ e ∙ ap want (sym same)
  ];
  rest = λ i k. get_or-set_other now n i y d (λ same. omega (arith, same)) ∙ h.rest i (omega arith);
}

-- n places of a list from one on are as wanted, and those before it as they were
pub record IsWrittenFrom {X : Type 0} (d : X) (want : ℕ → X) (old now : List X) (first n : ℕ) : Type 0 where
  pub count : length now ≡ length old
  pub before : (k : ℕ) → k < first → slice_index_or now k d ≡ slice_index_or old k d
  pub done : (i : ℕ) → i < n → slice_index_or now (first + i) d ≡ want i

-- one place more
pub written_more : {X : Type 0} (d : X) (want : ℕ → X) (old now : List X) (first n : ℕ) (y : X) → first + n < length now → y ≡ want n
    → IsWrittenFrom d want old now first n
    → IsWrittenFrom d want old (slice_set now (first + n) y) first (n + 1)
written_more d want old now first n y l e h = record {
  count = length-set now (first + n) y ∙ h.count;
  before = λ k m. get_or-set_other now (first + n) k y d (λ same. omega (arith, same)) ∙ h.before k m;
  done = λ i k. elim (below_or_same i n k) [
    | inl below ↦ get_or-set_other now (first + n) (first + i) y d (λ same. omega (arith, same)) ∙ h.done i below
    | inr same ↦ ap (λ (j : ℕ). slice_index_or (slice_set now (first + n) y) (first + j) d) same
        ∙ get_or-set_same now (first + n) y d l ∙ e ∙ ap want (sym same)
  ];
}

below_or_from : (k n : ℕ) → (k < n) ⊎ (n ≤ k)
below_or_from k n = grind arith

abbrev zeros : ℕ → List ℕ
zeros n = replicate n 0

-- a list of zeros has none but zeros
pub zero_at : (n q : ℕ) → slice_index_or (zeros n) q 0 ≡ 0
zero_at n q = elim (below_or_from q n) [
  | inl l ↦ get_or-replicate {A = ℕ} n q 0 0 l
  | inr l ↦ let count : length (zeros n) ≡ n = length-replicate n 0 in get_or_past (zeros n) q 0 (omega arith)
]
