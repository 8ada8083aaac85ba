-- The placements of a plan, listed by telescope, then slice.
use Rattle.std.proofs.Common.{◌≡◌, ◌≢◌, ℕ, ◌+◌, ◌<◌, ◌≤◌, ◌⊎◌, inl, inr, Bool, true, false, cond, List, [], ◌∷◌, slice_index_or, All, AllPairs}
use Rattle.std.proofs.Common.{Contains, IsPermutation, sum_by, Ordering, Less, Equal, refl, sym, ◌∙◌, subst, arith}
use Rattle.std.specs.Cmp.{nat_cmp_is}
use Rattle.std.specs.Ordering.{is_lt, nat_cmp, ordering_then}
use Rattle.std.specs.List.Sorted.{IsSortedBy}
use Rattle.std.proofs.lemmas.Bool.{cases_eq, cases_lt}
use Rattle.std.proofs.lemmas.Map.Keys.{ge_from_not_lt}
use Rattle.std.proofs.lemmas.List.Sorted.{All-permutation, Contains-permutation, IsPermutation-sym, sum_by-IsPermutation}
use Rattle.plan_base.specs.declared.parts.Parts.{Parts}
use Rattle.plan_base.specs.declared.number.TelescopeNo.{TelescopeNo}
use Rattle.plan_base.specs.declared.claim.Placement.{Placement}
use Rattle.plan_base.specs.Requests.{AllOrNone}
use Rattle.plan_base.specs.Starts.{IsPossibleStart, ShareSlice, size_of, worth_at, value_of_plan}
use Rattle.plan_base.specs.Feasible.{requests_of, AreOfOneOneOf, IsFeasible}
use Rattle.plan_base.specs.Repaired.{IsListing, is_listed_before}
use Rattle.plan_base.specs.Snapshot.{IsOrderly}
use Rattle.plan_base.proofs.Sizes.{start_size_above}
use Rattle.plan_base.proofs.Pairs.{all_pairs_permutation, all_pairs_from_neighbours}
use Rattle.plan_base.proofs.Permuted.{requests_permuted, quota_seconds_permuted}

-- a comes before b by telescope, then slice, or at the same slice
abbrev IsNotAfter : Placement → Placement → Type 0
IsNotAfter a b = (a.telescope.0 < b.telescope.0) ⊎ ((a.telescope.0 ≡ b.telescope.0) × (a.slice.0 ≤ b.slice.0))

not_after : (a b : Placement) → is_listed_before b a ≡ false → IsNotAfter a b
not_after a b h = elim (cases_lt a.telescope.0 b.telescope.0) [
  | inl less ↦ inl less
  | inr le ↦ elim (cases_eq b.telescope.0 a.telescope.0) [
    | inl same ↦
        let tie : Equal ≡ nat_cmp b.telescope.0 a.telescope.0 = nat_cmp_is b.telescope.0 a.telescope.0 Equal same in
        inr (sym same, ge_from_not_lt b.slice.0 a.slice.0 (subst (λ (o : Ordering). is_lt (ordering_then o (nat_cmp b.slice.0 a.slice.0)) ≡ false) (sym tie) h))
    | inr other ↦
        let less : Less ≡ nat_cmp b.telescope.0 a.telescope.0 = nat_cmp_is b.telescope.0 a.telescope.0 Less (omega arith) in
        let bad : true ≡ false = subst (λ (o : Ordering). is_lt (ordering_then o (nat_cmp b.slice.0 a.slice.0)) ≡ false) (sym less) h in
        cc
  ]
]

joined : (a b c : Placement) → IsNotAfter a b → IsNotAfter b c → IsNotAfter a c
joined a b c (inl x) (inl y) = inl (omega arith)
joined a b c (inl x) (inr y) = inl (let e = y.0 in omega arith)
joined a b c (inr x) (inl y) = inl (let e = x.0 in omega arith)
joined a b c (inr x) (inr y) = inr (x.0 ∙ y.0, (let d = x.1 in let e = y.1 in omega arith))

same_telescope : (a b : TelescopeNo) → a.0 ≡ b.0 → a ≡ b
same_telescope a b e i = record { 0 = e i }

share_turned : (s : Parts) (a b : Placement) → ¬ (ShareSlice s a b) → ¬ (ShareSlice s b a)
share_turned s a b none share = none (sym share.0, share.1, share.3, share.2)

module _ (s : Parts) (plan listing : List Placement) (orderly : IsOrderly s) (same : IsPermutation plan listing) (feasible : IsFeasible s plan) where
  requests : IsPermutation (requests_of plan) (requests_of listing)
  requests = requests_permuted plan listing same

  apart : AllPairs (λ a b. ¬ (ShareSlice s a b)) listing
  apart = all_pairs_permutation (λ a b. ¬ (ShareSlice s a b)) (share_turned s) plan listing same feasible.disjoint

  possible : All (IsPossibleStart s) listing
  possible = All-permutation (IsPossibleStart s) plan listing same feasible.possible

  whole : (g : ℕ) → AllOrNone s g (requests_of plan) → AllOrNone s g (requests_of listing)
  whole g (inl all) = inl (λ r of. Contains-permutation (requests_of plan) (requests_of listing) r requests (all r of))
  whole g (inr none) = inr (λ r of c.
      none r of (Contains-permutation (requests_of listing) (requests_of plan) r
      (IsPermutation-sym (requests_of plan) (requests_of listing) requests) c))

  -- it is feasible too
  pub listing_feasible : IsFeasible s listing
  listing_feasible = record {
    possible = possible;
    once = all_pairs_permutation (λ a b. a ≢ b) (λ a b other e. other (sym e)) (requests_of plan) (requests_of listing) requests feasible.once;
    disjoint = apart;
    oneof_once = all_pairs_permutation (λ a b. ¬ (AreOfOneOneOf s a b)) (λ a b none both. none (both.0, both.1, both.3, both.2)) (requests_of plan)
        (requests_of listing) requests feasible.oneof_once;
    and_whole = λ g kind. whole g (feasible.and_whole g kind);
    within_quotas = λ q lt. (let w = feasible.within_quotas q lt in let e = quota_seconds_permuted s q plan listing same in omega arith);
  }

  -- and worth as much
  pub listing_worth : value_of_plan s listing ≡ value_of_plan s plan
  listing_worth = sum_by-IsPermutation (worth_at s) plan listing same

  pub listing_is : IsSortedBy is_listed_before listing → IsListing plan listing
  listing_is sorted =
      let order : AllPairs IsNotAfter listing =
      all_pairs_from_neighbours IsNotAfter joined listing
      (λ k d lt. not_after (slice_index_or listing k d) (slice_index_or listing (k + 1) d) (sorted k d (omega arith) lt)) in
      record {
        same = same;
        rising = λ i j d less below.
            let a : Placement = slice_index_or listing i d in
            let b : Placement = slice_index_or listing j d in
            let a_size : 0 < size_of s a.request.0 = start_size_above s orderly a (possible i d (omega arith)) in
            let b_size : 0 < size_of s b.request.0 = start_size_above s orderly b (possible j d below) in
            elim (order i j d less below) [
              | inl telescope ↦ inl telescope
              | inr tie ↦ elim (cases_lt a.slice.0 b.slice.0) [
                | inl before ↦ inr (same_telescope a.telescope b.telescope tie.0, before)
                | inr not_before ↦ (let le = tie.1 in
                    absurd (apart i j d less below (
                      same_telescope a.telescope b.telescope tie.0,
                      b.slice.0,
                      (omega arith, omega arith),
                      (omega arith, omega arith),
                    )))
              ]
            ];
      }
