-- A table of numbers, one a slice, that meets the recursion of the best has the bests.
use Rattle.std.proofs.Common.{◌≡◌, ◌≢◌, ℕ, zero, suc, ◌+◌, ◌<◌, ◌≤◌, ◌⊎◌, inl, inr, Bool, true, not, ◌==◌, ℤ, pos, ◌+ℤ◌, ◌≤ℤ◌, List, [], ◌∷◌}
use Rattle.std.proofs.Common.{slice_index_or, filter, All, AllPairs, Contains, refl, sym, ◌∙◌, ap, subst, arith}
use Rattle.std.proofs.lemmas.Int.{ints}
use Rattle.std.proofs.lemmas.List.{get_or_default}
use Rattle.std.proofs.lemmas.List.Elements.{All-nil, All-head, All-cons, All-filter, All-contains, All-weaker, All-contains_itself, filter_passes}
use Rattle.std.proofs.lemmas.List.Kept.{AllPairs-cons, AllPairs-filter}
use Rattle.std.proofs.lemmas.Bool.Decides.{nat_tests}
use Rattle.plan_base.specs.declared.parts.Parts.{Parts}
use Rattle.plan_base.specs.declared.claim.Placement.{Placement}
use Rattle.plan_base.specs.Snapshot.{IsOrderly}
use Rattle.plan_base.specs.Starts.{IsPossibleStart, ShareSlice, size_of}
use Rattle.plan_base.specs.Bound.{IsStartList, weight, surplus, IsBest}
use Rattle.plan_base.specs.Tables.{IsStartOn, slice_after, horizon_end, IsTable}
use Rattle.plan_base.specs.Canonical.{IsIdle, IsTight}
use Rattle.plan_base.proofs.Sizes.{size_above}
use Rattle.plan_base.proofs.Split.{total_split}
use Rattle.plan_base.proofs.Single.{one_best}

equal_from_test : (a b : ℕ) → (a == b) ≡ true → a ≡ b
equal_from_test a b h = grind (arith, nat_tests)

differ_from_test : (a b : ℕ) → not (a == b) ≡ true → a ≢ b
differ_from_test a b h = grind (arith, nat_tests)

same_number : (p q : Placement) → p.telescope.0 ≡ q.telescope.0 → p.telescope ≡ q.telescope
same_number p q e = λ i. record { 0 = e i }

pub share_symmetric : (s : Parts) (p q : Placement) → ShareSlice s p q → ShareSlice s q p
share_symmetric s p q (e, k, a, b) = (sym e, k, b, a)

-- of two starts of one list at different slices neither occupies a slice of the other
pub apart_in : (s : Parts) (starts : List Placement) (p q : Placement) → AllPairs (λ a b. ¬ (ShareSlice s a b)) starts → Contains starts p
    → Contains starts q → p.slice.0 ≢ q.slice.0 → ¬ (ShareSlice s p q)
apart_in s starts p q disjoint (i, l, e) (j, m, d) differ share = elim (below_same_above i j) [
  | inl (inl below) ↦ disjoint i j p below m
      (subst (λ (x : Placement). ShareSlice s x (slice_index_or starts j p)) (sym e)
      (subst (ShareSlice s p) (sym (get_or_default starts j p q m ∙ d)) share))
  | inl (inr above) ↦ disjoint j i p above l
      (subst (λ (x : Placement). ShareSlice s x (slice_index_or starts i p)) (sym (get_or_default starts j p q m ∙ d))
      (subst (ShareSlice s q) (sym e) (share_symmetric s p q share)))
  | inr at ↦ let same : p ≡ q = sym e ∙ ap (λ (k : ℕ). slice_index_or starts k p) at ∙ get_or_default starts j p q m ∙ d in
      differ (ap (λ (x : Placement). x.slice.0) same)
]
  where
    below_same_above : (a b : ℕ) → ((a < b) ⊎ (b < a)) ⊎ (a ≡ b)
    below_same_above a b = grind arith

module _ (s : Parts) (prices : List ℤ) (t : ℕ) (orderly : IsOrderly s) where
  start_size : (p : Placement) → IsPossibleStart s p → 1 ≤ size_of s p.request.0
  start_size p h = size_above s p.request.0 orderly h.known

  -- a start of a start list
  start_in : (k : ℕ) (starts : List Placement) (p : Placement) → IsStartList s t k starts → Contains starts p → IsStartOn s t p × (k ≤ p.slice.0)
  start_in k starts p list has = (
    record {
      possible = All-contains (IsPossibleStart s) starts p list.possible has;
      same_telescope = All-contains (λ q. q.telescope.0 ≡ t) starts p list.same_telescope has;
    },
    All-contains (λ q. k ≤ q.slice.0) starts p list.later has,
  )

  -- a start at slice j or later, which shares no slice with one that begins at k before it, begins after it
  begins_after : (p q : Placement) → IsStartOn s t p → IsStartOn s t q → p.slice.0 ≤ q.slice.0 → ¬ (ShareSlice s p q) → slice_after s p ≤ q.slice.0
  begins_after p q hp hq later apart = elim (below_or_not q.slice.0 (slice_after s p)) [
    | inl below ↦ absurd (apart (
      same_number p q (hp.same_telescope ∙ sym hq.same_telescope),
      q.slice.0,
      (later, below),
      (omega arith, omega (arith, start_size q hq.possible)),
    ))
    | inr not_below ↦ not_below
  ]
    where
      below_or_not : (a b : ℕ) → (a < b) ⊎ (b ≤ a)
      below_or_not a b = grind arith

  filtered_list : (k j : ℕ) (test : Placement → Bool) (starts : List Placement) → IsStartList s t k starts
      → All (λ p. j ≤ p.slice.0) (filter test starts) → IsStartList s t j (filter test starts)
  filtered_list k j test starts list later = record {
    possible = All-filter test (IsPossibleStart s) starts list.possible;
    same_telescope = All-filter test (λ p. p.telescope.0 ≡ t) starts list.same_telescope;
    later = later;
    disjoint = AllPairs-filter (λ a b. ¬ (ShareSlice s a b)) test starts list.disjoint;
  }

  -- with the start before it, a list from the slice after the start's last is a list
  longer_list : (p : Placement) (starts : List Placement) → IsStartOn s t p → IsStartList s t (slice_after s p) starts → IsStartList s t p.slice.0 (p ∷ starts)
  longer_list p starts hp list = record {
    possible = All-cons (IsPossibleStart s) p starts hp.possible list.possible;
    same_telescope = All-cons (λ q. q.telescope.0 ≡ t) p starts hp.same_telescope list.same_telescope;
    later = All-cons (λ q. p.slice.0 ≤ q.slice.0) p starts (omega arith)
        (All-weaker (λ q. slice_after s p ≤ q.slice.0) (λ q. p.slice.0 ≤ q.slice.0) (λ q h. omega arith) starts list.later);
    disjoint = AllPairs-cons (λ a b. ¬ (ShareSlice s a b)) p starts
        (All-weaker (λ q. slice_after s p ≤ q.slice.0) (λ q. ¬ (ShareSlice s p q)) (λ q h share. not_both q h share) starts list.later) list.disjoint;
  }
    where
      not_both : (q : Placement) → slice_after s p ≤ q.slice.0 → ShareSlice s p q → ⊥
      not_both q h (e, k, (a, b), (c, d)) = omega arith

  earlier_list : (k j : ℕ) (starts : List Placement) → k ≤ j → IsStartList s t j starts → IsStartList s t k starts
  earlier_list k j starts h list = record {
    possible = list.possible;
    same_telescope = list.same_telescope;
    later = All-weaker (λ q. j ≤ q.slice.0) (λ q. k ≤ q.slice.0) (λ q l. omega arith) starts list.later;
    disjoint = list.disjoint;
  }

  module _ (table : ℕ → ℤ) (is_table : IsTable s prices t table) where
    -- the list reaches the number at slice k
    abbrev Reaches : ℕ → Type 0
    Reaches k = (starts : List Placement) × IsStartList s t k starts × (surplus s prices starts ≡ table k)

    -- no list from slice k on passes the number there
    abbrev IsAbove : ℕ → Type 0
    IsAbove k = (starts : List Placement) → IsStartList s t k starts → surplus s prices starts ≤ℤ table k

    empty_list : (k : ℕ) → IsStartList s t k []
    empty_list k = record {
      possible = All-nil (IsPossibleStart s);
      same_telescope = All-nil (λ p. p.telescope.0 ≡ t);
      later = All-nil (λ p. k ≤ p.slice.0);
      disjoint = λ i j d l m. absurd (omega arith);
    }

    reaches_end : (k : ℕ) → k ≡ horizon_end s → Reaches k
    reaches_end k e = ([], empty_list k, sym (ap table e ∙ is_table.at_end))

    end_or_below : (k : ℕ) → k ≤ horizon_end s → (k ≡ horizon_end s) ⊎ (k < horizon_end s)
    end_or_below k l = grind arith

    after_within : (p : Placement) → IsStartOn s t p → (slice_after s p ≤ horizon_end s) × (p.slice.0 < slice_after s p) × (s.first.0 ≤ slice_after s p)
    after_within p h =
        let ends : slice_after s p ≤ horizon_end s = h.possible.ends in
        let begins : s.first.0 ≤ p.slice.0 = h.possible.begins in
        let size : 1 ≤ size_of s p.request.0 = start_size p h.possible in
        (ends, omega arith, omega arith)

    reaches : (n k : ℕ) → s.first.0 ≤ k → k ≤ horizon_end s → horizon_end s ≤ k + n → Reaches k
    reaches zero k from to near = reaches_end k (omega arith)
    reaches (suc n) k from to near = elim (end_or_below k to) [
      | inl e ↦ reaches_end k e
      | inr below ↦ elim (is_table.reached k from below) [
        | inl same ↦ let rest = reaches n (suc k) (omega arith) (omega arith) (omega arith) in
            (rest.0, earlier_list k (suc k) rest.0 (omega arith) rest.1, rest.2 ∙ sym same)
        | inr (p, hp, at, e) ↦
            let within = after_within p hp in
            let rest = reaches n (slice_after s p) within.2 within.0 (omega (arith, within.1)) in
            let sum : surplus s prices rest.0 ≡ table (slice_after s p) = rest.2 in (
              p ∷ rest.0,
              subst (λ (j : ℕ). IsStartList s t j (p ∷ rest.0)) at (longer_list p rest.0 hp rest.1),
              ap (λ (b : ℤ). weight s prices p +ℤ b) sum ∙ sym e,
            )
      ]
    ]

    none_at_end : (k : ℕ) (starts : List Placement) → k ≡ horizon_end s → IsStartList s t k starts → surplus s prices starts ≤ℤ table k
    none_at_end k [] e list = let none : table k ≡ pos 0 = ap table e ∙ is_table.at_end in omega (arith, ints)
    none_at_end k (p ∷ starts) e list =
        let first : IsStartOn s t p = record {
          possible = All-head (IsPossibleStart s) p starts list.possible;
          same_telescope = All-head (λ q. q.telescope.0 ≡ t) p starts list.same_telescope;
        } in
        let within = after_within p first in
        let later : k ≤ p.slice.0 = All-head (λ q. k ≤ q.slice.0) p starts list.later in
        absurd (omega (arith, within.0, within.1))

    -- with what begins at slice k apart from the rest
    by_first : (k : ℕ) (starts here : List Placement) → s.first.0 ≤ k → k < horizon_end s → IsStartList s t k starts
        → here ≡ filter (λ p. p.slice.0 == k) starts
        → ((j : ℕ) → k < j → j ≤ horizon_end s → IsAbove j) → surplus s prices starts ≤ℤ table k
    by_first k starts [] from below list e rest =
        let others : List Placement = filter (λ p. not (p.slice.0 == k)) starts in
        let split : surplus s prices starts ≡ surplus s prices [] +ℤ surplus s prices others =
        subst (λ (xs : List Placement). surplus s prices starts ≡ surplus s prices xs +ℤ surplus s prices others) (sym e)
        (total_split (weight s prices) (λ p. p.slice.0 == k) starts) in
        let later : All (λ p. suc k ≤ p.slice.0) others = λ i d l.
        let kept : k ≤ (slice_index_or others i d).slice.0 = All-filter (λ p. not (p.slice.0 == k)) (λ p. k ≤ p.slice.0) starts list.later i d l in
        let differs : (slice_index_or others i d).slice.0 ≢ k = differ_from_test _ k (filter_passes (λ p. not (p.slice.0 == k)) starts i d l) in
        above_not_same k _ kept differs in
        let most : surplus s prices others ≤ℤ table (suc k) =
        rest (suc k) (omega arith) (omega arith) others (filtered_list k (suc k) (λ p. not (p.slice.0 == k)) starts list later) in
        let falls : table (suc k) ≤ℤ table k = is_table.falling k from below in
        omega (arith, ints)
      where
        above_not_same : (a b : ℕ) → a ≤ b → b ≢ a → suc a ≤ b
        above_not_same a b h n = grind arith
    by_first k starts (p ∷ []) from below list e rest =
        let others : List Placement = filter (λ q. not (q.slice.0 == k)) starts in
        let split : surplus s prices starts ≡ surplus s prices (p ∷ []) +ℤ surplus s prices others =
        subst (λ (xs : List Placement). surplus s prices starts ≡ surplus s prices xs +ℤ surplus s prices others) (sym e)
        (total_split (weight s prices) (λ q. q.slice.0 == k) starts) in
        let all_here : All (λ q. q.slice.0 ≡ k) (p ∷ []) =
        subst (All (λ q. q.slice.0 ≡ k)) (sym e) (λ i d l. equal_from_test _ k (filter_passes (λ q. q.slice.0 == k) starts i d l)) in
        let all_in : All (Contains starts) (p ∷ []) =
        subst (All (Contains starts)) (sym e) (All-filter (λ q. q.slice.0 == k) (Contains starts) starts (All-contains_itself starts)) in
        let at : p.slice.0 ≡ k = All-head (λ q. q.slice.0 ≡ k) p [] all_here in
        let in_list : Contains starts p = All-head (Contains starts) p [] all_in in
        let hp : IsStartOn s t p = (start_in k starts p list in_list).0 in
        let within = after_within p hp in
        let later : All (λ q. slice_after s p ≤ q.slice.0) others = λ i d l.
        let kept : Contains starts (slice_index_or others i d) =
        All-filter (λ q. not (q.slice.0 == k)) (Contains starts) starts (All-contains_itself starts) i d l in
        let differs : (slice_index_or others i d).slice.0 ≢ k = differ_from_test _ k (filter_passes (λ q. not (q.slice.0 == k)) starts i d l) in
        let hq = start_in k starts _ list kept in
        begins_after p _ hp hq.0 (subst (λ (j : ℕ). j ≤ (slice_index_or others i d).slice.0) (sym at) hq.1)
        (apart_in s starts p _ list.disjoint in_list kept (λ same. differs (sym same ∙ at))) in
        let most : surplus s prices others ≤ℤ table (slice_after s p) =
        rest (slice_after s p) (omega (arith, at, within.1)) within.0 others
        (filtered_list k (slice_after s p) (λ q. not (q.slice.0 == k)) starts list later) in
        let here : (weight s prices p +ℤ table (slice_after s p)) ≤ℤ table k =
        subst (λ (j : ℕ). (weight s prices p +ℤ table (slice_after s p)) ≤ℤ table j) at (is_table.above p hp) in
        omega (arith, ints)
    by_first k starts (p ∷ q ∷ more) from below list e rest =
        let all_here : All (λ x. x.slice.0 ≡ k) (p ∷ q ∷ more) =
        subst (All (λ x. x.slice.0 ≡ k)) (sym e) (λ i d l. equal_from_test _ k (filter_passes (λ x. x.slice.0 == k) starts i d l)) in
        let all_on : All (λ x. x.telescope.0 ≡ t) (p ∷ q ∷ more) =
        subst (All (λ x. x.telescope.0 ≡ t)) (sym e) (All-filter (λ x. x.slice.0 == k) (λ x. x.telescope.0 ≡ t) starts list.same_telescope) in
        let all_possible : All (IsPossibleStart s) (p ∷ q ∷ more) =
        subst (All (IsPossibleStart s)) (sym e) (All-filter (λ x. x.slice.0 == k) (IsPossibleStart s) starts list.possible) in
        let apart : AllPairs (λ a b. ¬ (ShareSlice s a b)) (p ∷ q ∷ more) =
        subst (AllPairs (λ a b. ¬ (ShareSlice s a b))) (sym e)
        (AllPairs-filter (λ a b. ¬ (ShareSlice s a b)) (λ x. x.slice.0 == k) starts list.disjoint) in
        let p_at : p.slice.0 ≡ k = all_here 0 p (omega arith) in
        let q_at : q.slice.0 ≡ k = all_here 1 p (omega arith) in
        let p_size : 1 ≤ size_of s p.request.0 = start_size p (all_possible 0 p (omega arith)) in
        let q_size : 1 ≤ size_of s q.request.0 = start_size q (all_possible 1 p (omega arith)) in
        let telescopes : p.telescope.0 ≡ q.telescope.0 = all_on 0 p (omega arith) ∙ sym (all_on 1 p (omega arith)) in
        absurd (apart 0 1 p (omega arith) (omega arith) (same_number p q telescopes, k, (omega arith, omega arith), (omega arith, omega arith)))

    is_above : (n k : ℕ) → s.first.0 ≤ k → k ≤ horizon_end s → horizon_end s ≤ k + n → IsAbove k
    is_above zero k from to near starts list = none_at_end k starts (omega arith) list
    is_above (suc n) k from to near starts list = elim (end_or_below k to) [
      | inl e ↦ none_at_end k starts e list
      | inr below ↦ by_first k starts (filter (λ p. p.slice.0 == k) starts) from below list refl
          (λ j later within. is_above n j (omega arith) within (omega arith))
    ]

    -- the table has the bests
    pub table_best : (k : ℕ) → s.first.0 ≤ k → k ≤ horizon_end s → IsBest s prices t k (table k)
    table_best k from to = record { reached = reaches (horizon_end s) k from to (omega arith); bound = is_above (horizon_end s) k from to (omega arith) }

    -- a slice is idle exactly where the table doesn't change
    pub idle_from_table : (k : ℕ) → s.first.0 ≤ k → k < horizon_end s → table k ≡ table (suc k) → IsIdle s prices t k
    idle_from_table k from below e =
        (table k, table_best k from (omega arith), subst (IsBest s prices t (suc k)) (sym e) (table_best (suc k) (omega arith) (omega arith)))

    pub table_from_idle : (k : ℕ) → s.first.0 ≤ k → k < horizon_end s → IsIdle s prices t k → table k ≡ table (suc k)
    table_from_idle k from below (b, here, next) = one_best s prices t k (table k) b (table_best k from (omega arith)) here
        ∙ one_best s prices t (suc k) b (table (suc k)) next (table_best (suc k) (omega arith) (omega arith))

    -- a start is tight exactly where its weight and the table after it are the table at its slice
    pub tight_from_table : (p : Placement) → IsStartOn s t p → table p.slice.0 ≡ weight s prices p +ℤ table (slice_after s p) → IsTight s prices t p
    tight_from_table p h e =
        let within = after_within p h in (
          table (slice_after s p),
          table_best (slice_after s p) within.2 within.0,
          subst (IsBest s prices t p.slice.0) e (table_best p.slice.0 h.possible.begins (omega (arith, within.0, within.1))),
        )

    pub table_from_tight : (p : Placement) → IsStartOn s t p → IsTight s prices t p → table p.slice.0 ≡ weight s prices p +ℤ table (slice_after s p)
    table_from_tight p h (after, next, here) =
        let within = after_within p h in
        one_best s prices t p.slice.0 (table p.slice.0) (weight s prices p +ℤ after)
        (table_best p.slice.0 h.possible.begins (omega (arith, within.0, within.1))) here
        ∙ ap (λ (b : ℤ). weight s prices p +ℤ b)
        (one_best s prices t (slice_after s p) after (table (slice_after s p)) next (table_best (slice_after s p) within.2 within.0))
