-- The ranks of worths, sorted, give the places by falling worth.
use Rattle.std.proofs.Common.{◌≡◌, ◌≢◌, true, false, ℕ, ◌+◌, ◌<◌, ◌≤◌, ◌⊎◌, inl, inr, List, [], ◌∷◌, ◌++◌, length, map, slice_index_or, All, AllPairs}
use Rattle.std.proofs.Common.{Contains, IsPermutation, Ordering, Less, Equal, sym, ◌∙◌, ap, subst, arith}
use Rattle.std.specs.Cmp.{nat_cmp_is}
use Rattle.std.specs.Ordering.{is_lt, nat_cmp, ordering_then}
use Rattle.std.proofs.lemmas.Bool.{cases_eq, cases_lt}
use Rattle.std.proofs.lemmas.Map.Keys.{ge_from_not_lt}
use Rattle.std.proofs.lemmas.List.{length_push, length-map, get_or-map, get_or_append_left, get_or_push}
use Rattle.std.proofs.lemmas.List.Elements.{All-map, Contains-get_or}
use Rattle.std.proofs.lemmas.List.Sorted.{All-permutation, Contains-permutation}
use Rattle.plan_base.proofs.Lists.{contains_map}
use Rattle.repair.specs.declared.order.Rank.{Rank}
use Rattle.repair.specs.Orders.{worth, IsRankOf, AreRanksOf, AreRanks, IsFallingOrder}
use Rattle.plan_base.proofs.Pairs.{all_pairs_permutation, all_pairs_from_neighbours}

last_or_before : (j i : ℕ) → j < i + 1 → (j ≡ i) ⊎ (j < i)
last_or_before j i h = grind arith

-- one rank more
pub ranks_more : (worths : List ℕ) (ranks : List Rank) (n : ℕ) (x : Rank) → AreRanksOf worths n ranks → IsRankOf worths n x
    → AreRanksOf worths (n + 1) (ranks ++ x ∷ [])
ranks_more worths ranks n x are is =
    let count : length ranks ≡ n = are.count in
    record {
      count = length_push ranks x ∙ ap (λ (m : ℕ). m + 1) count;
      each = λ i below d. elim (last_or_before i n below) [
        | inl last ↦ subst (IsRankOf worths i) (sym (get_or_push ranks x d i (omega arith))) (subst (λ (m : ℕ). IsRankOf worths m x) (sym last) is)
        | inr before ↦ subst (IsRankOf worths i) (sym (get_or_append_left ranks (x ∷ []) d i (omega arith))) (are.each i before d)
      ];
    }

-- a comes before b in the order
abbrev IsRankedBefore : Rank → Rank → Type 0
IsRankedBefore a b = (b.worth.0 < a.worth.0) ⊎ ((a.worth.0 ≡ b.worth.0) × (a.place ≤ b.place))

not_less : (a b c d : ℕ) → is_lt (ordering_then (nat_cmp a b) (nat_cmp c d)) ≡ false → (b < a) ⊎ ((a ≡ b) × (d ≤ c))
not_less a b c d h = elim (cases_lt b a) [
  | inl less ↦ inl less
  | inr le ↦ elim (cases_eq a b) [
    | inl same ↦
        let tie : Equal ≡ nat_cmp a b = nat_cmp_is a b Equal same in
        inr (same, ge_from_not_lt c d (subst (λ (o : Ordering). is_lt (ordering_then o (nat_cmp c d)) ≡ false) (sym tie) h))
    | inr other ↦
        let less : Less ≡ nat_cmp a b = nat_cmp_is a b Less (omega arith) in
        let bad : true ≡ false = subst (λ (o : Ordering). is_lt (ordering_then o (nat_cmp c d)) ≡ false) (sym less) h in
        cc
  ]
]

joined : (a b c : Rank) → IsRankedBefore a b → IsRankedBefore b c → IsRankedBefore a c
joined a b c ab bc = elim ab [
  | inl x ↦ elim bc [ inl y ↦ inl (omega arith) | inr y ↦ inl (omega arith) ]
  | inr x ↦ elim bc [ inl y ↦ inl (omega arith) | inr y ↦ inr (omega arith, omega arith) ]
]

-- what is known of each rank
pub record IsRankIn (worths : List ℕ) (r : Rank) : Type 0 where
  pub below : r.place < length worths
  pub worth_there : r.worth.0 ≡ worth worths r.place

rank_known : (worths : List ℕ) (ranks : List Rank) → AreRanks worths ranks → All (IsRankIn worths) ranks
rank_known worths ranks are = λ k d below.
    let count : length ranks ≡ length worths = are.count in
    let at = are.each k (omega arith) d in
    let place : (slice_index_or ranks k d).place ≡ k = at.place in
    record { below = omega arith; worth_there = at.worth_there ∙ ap (worth worths) (sym place) }

rank_places : (worths : List ℕ) (ranks : List Rank) → AreRanks worths ranks → AllPairs (λ a b. a.place ≢ b.place) ranks
rank_places worths ranks are = λ i j d less below.
    let count : length ranks ≡ length worths = are.count in
    let first : (slice_index_or ranks i d).place ≡ i = (are.each i (omega arith) d).place in
    let second : (slice_index_or ranks j d).place ≡ j = (are.each j (omega arith) d).place in
    omega arith

-- the places of the sorted ranks are all places by falling worth, then place
pub order_from_ranks : (worths : List ℕ) (ranks sorted : List Rank) (order : List ℕ) → AreRanks worths ranks → IsPermutation ranks sorted
    → ((k : ℕ) (d : Rank) → 0 ≤ k → k + 1 < length sorted
    → is_lt (ordering_then (nat_cmp (slice_index_or sorted k d).worth.0 (slice_index_or sorted (k + 1) d).worth.0)
    (nat_cmp (slice_index_or sorted (k + 1) d).place (slice_index_or sorted k d).place)) ≡ false)
    → order ≡ map (λ r. r.place) sorted → IsFallingOrder worths order
order_from_ranks worths ranks sorted order are same near is =
    let known : All (IsRankIn worths) sorted = All-permutation (IsRankIn worths) ranks sorted same (rank_known worths ranks are) in
    let apart : AllPairs (λ a b. a.place ≢ b.place) sorted =
    all_pairs_permutation (λ a b. a.place ≢ b.place) (λ x y other e. other (sym e)) ranks sorted same (rank_places worths ranks are) in
    let falling : AllPairs IsRankedBefore sorted =
    all_pairs_from_neighbours IsRankedBefore joined sorted (λ k d below. not_less _ _ _ _ (near k d (omega arith) below)) in
    subst (IsFallingOrder worths) (sym is) record {
      places = All-map (λ g. g < length worths) (λ r. r.place) sorted (λ k d below. (known k d below).below);
      complete = λ g below.
          let count : length ranks ≡ length worths = are.count in
          let e : Rank = record { worth = record { 0 = 0 }; place = 0 } in
          let r : Rank = slice_index_or ranks g e in
          let has : Contains sorted r = Contains-permutation ranks sorted r same (Contains-get_or ranks g e (omega arith)) in
          subst (Contains (map (λ (x : Rank). x.place) sorted)) (are.each g below e).place (contains_map (λ x. x.place) sorted r has);
      falling = λ i j d less below.
          let len : length (map (λ (r : Rank). r.place) sorted) ≡ length sorted = length-map sorted (λ r. r.place) in
          let e : Rank = record { worth = record { 0 = 0 }; place = d } in
          let x : Rank = slice_index_or sorted i e in
          let y : Rank = slice_index_or sorted j e in
          let x_worth : x.worth.0 ≡ worth worths x.place = (known i e (omega arith)).worth_there in
          let y_worth : y.worth.0 ≡ worth worths y.place = (known j e (omega arith)).worth_there in
          let other : x.place ≢ y.place = apart i j e less (omega arith) in
          let first : slice_index_or (map (λ (r : Rank). r.place) sorted) i d ≡ x.place = get_or-map (λ r. r.place) sorted i e d (omega arith) in
          let second : slice_index_or (map (λ (r : Rank). r.place) sorted) j d ≡ y.place = get_or-map (λ r. r.place) sorted j e d (omega arith) in
          let holds : (worth worths y.place < worth worths x.place) ⊎ ((worth worths x.place ≡ worth worths y.place) × (x.place < y.place)) =
          elim (falling i j e less (omega arith)) [
            | inl more ↦ inl (omega arith)
            | inr tie ↦ inr (omega arith, omega arith)
          ] in
          rw (first, second) holds;
    }
