-- A table of numbers, one a slice, that meets the recursion from the first slice on has the bests of what ends by each slice.
use Rattle.std.proofs.Common.{◌≡◌, ◌≢◌, ℕ, zero, suc, ◌+◌, ◌<◌, ◌≤◌, ◌⊎◌, inl, inr, Bool, not, ◌==◌, ℤ, pos, ◌+ℤ◌, ◌≤ℤ◌, List, [], ◌∷◌, slice_index_or}
use Rattle.std.proofs.Common.{filter, All, AllPairs, Contains, refl, sym, ◌∙◌, ap, subst, arith}
use Rattle.std.proofs.lemmas.Int.{ints}
use Rattle.std.proofs.lemmas.List.Elements.{All-nil, All-head, All-cons, All-filter, All-contains, All-weaker, All-contains_itself, filter_passes}
use Rattle.std.proofs.lemmas.List.Kept.{AllPairs-cons, AllPairs-filter}
use Rattle.plan_base.specs.declared.parts.Parts.{Parts}
use Rattle.plan_base.specs.declared.claim.Placement.{Placement}
use Rattle.plan_base.specs.Snapshot.{IsOrderly}
use Rattle.plan_base.specs.Starts.{IsPossibleStart, ShareSlice, size_of}
use Rattle.plan_base.specs.Bound.{weight, surplus}
use Rattle.plan_base.specs.Tables.{IsStartOn, slice_after, horizon_end}
use Rattle.plan_base.proofs.Sizes.{start_size_above}
use Rattle.plan_base.proofs.Split.{total_split}
use Rattle.plan_base.proofs.Tables.{share_symmetric}
use Rattle.explain.specs.Through.{IsListUntil, IsBestUntil, IsTableUntil}
use Rattle.explain.proofs.Pieces.{same_from_test, differ_from_test, one_or_apart, ends_first, apart_by, no_two_at}

module _ (s : Parts) (prices : List ℤ) (t : ℕ) (orderly : IsOrderly s) where
  -- a start of a list, and where it ends
  start_in : (k : ℕ) (starts : List Placement) (p : Placement) → IsListUntil s t k starts → Contains starts p → IsStartOn s t p × (slice_after s p ≤ k)
  start_in k starts p list has = (
    record {
      possible = All-contains (IsPossibleStart s) starts p list.possible has;
      same_telescope = All-contains (λ q. q.telescope.0 ≡ t) starts p list.same_telescope has;
    },
    All-contains (λ q. slice_after s q ≤ k) starts p list.ended has,
  )

  within : (p : Placement) → IsStartOn s t p → (s.first.0 ≤ p.slice.0) × (p.slice.0 < slice_after s p) × (slice_after s p ≤ horizon_end s)
  within p h =
      let begins : s.first.0 ≤ p.slice.0 = h.possible.begins in
      let ends : slice_after s p ≤ horizon_end s = h.possible.ends in
      let size : 0 < size_of s p.request.0 = start_size_above s orderly p h.possible in
      (begins, omega arith, ends)

  filtered : (k j : ℕ) (test : Placement → Bool) (starts : List Placement) → IsListUntil s t k starts
      → All (λ p. slice_after s p ≤ j) (filter test starts) → IsListUntil s t j (filter test starts)
  filtered k j test starts list ended = record {
    possible = All-filter test (IsPossibleStart s) starts list.possible;
    same_telescope = All-filter test (λ p. p.telescope.0 ≡ t) starts list.same_telescope;
    ended = ended;
    disjoint = AllPairs-filter (λ a b. ¬ (ShareSlice s a b)) test starts list.disjoint;
  }

  -- with a start before it that begins where a list has ended, the list is one until the start's end
  pub longer : (p : Placement) (starts : List Placement) → IsStartOn s t p → IsListUntil s t p.slice.0 starts → IsListUntil s t (slice_after s p) (p ∷ starts)
  longer p starts hp list =
      let inside = within p hp in
      record {
        possible = All-cons (IsPossibleStart s) p starts hp.possible list.possible;
        same_telescope = All-cons (λ q. q.telescope.0 ≡ t) p starts hp.same_telescope list.same_telescope;
        ended = All-cons (λ q. slice_after s q ≤ slice_after s p) p starts (omega arith)
            (All-weaker (λ q. slice_after s q ≤ p.slice.0) (λ q. slice_after s q ≤ slice_after s p)
            (λ q h. no_later _ _ _ h inside.1) starts list.ended);
        disjoint = AllPairs-cons (λ a b. ¬ (ShareSlice s a b)) p starts
            (All-weaker (λ q. slice_after s q ≤ p.slice.0) (λ q. ¬ (ShareSlice s p q))
            (λ q h share. apart_by s t orderly q p h (share_symmetric s p q share)) starts list.ended) list.disjoint;
      }
    where
      no_later : (a b c : ℕ) → a ≤ b → b < c → a ≤ c
      no_later a b c h l = omega arith

  later_list : (k j : ℕ) (starts : List Placement) → k ≤ j → IsListUntil s t k starts → IsListUntil s t j starts
  later_list k j starts h list = record {
    possible = list.possible;
    same_telescope = list.same_telescope;
    ended = All-weaker (λ q. slice_after s q ≤ k) (λ q. slice_after s q ≤ j) (λ q l. no_later _ _ _ l h) starts list.ended;
    disjoint = list.disjoint;
  }
    where
      no_later : (a b c : ℕ) → a ≤ b → b ≤ c → a ≤ c
      no_later a b c h l = omega arith

  pub empty_until : (k : ℕ) → IsListUntil s t k []
  empty_until k = record {
    possible = All-nil (IsPossibleStart s);
    same_telescope = All-nil (λ p. p.telescope.0 ≡ t);
    ended = All-nil (λ p. slice_after s p ≤ k);
    disjoint = λ i j d l m. absurd (omega arith);
  }

  module _ (table : ℕ → ℤ) (is_table : IsTableUntil s prices t table) where
    -- a list reaches the number at slice k
    abbrev Reaches : ℕ → Type 0
    Reaches k = (starts : List Placement) × IsListUntil s t k starts × (surplus s prices starts ≡ table k)

    -- no list until slice k passes the number there
    abbrev IsAbove : ℕ → Type 0
    IsAbove k = (starts : List Placement) → IsListUntil s t k starts → surplus s prices starts ≤ℤ table k

    reaches_first : (k : ℕ) → k ≡ s.first.0 → Reaches k
    reaches_first k e = ([], empty_until k, sym (ap table e ∙ is_table.at_first))

    first_or_next : (k : ℕ) → s.first.0 ≤ k → (k ≡ s.first.0) ⊎ ((j : ℕ) × (k ≡ suc j) × (s.first.0 ≤ j))
    first_or_next zero h = inl (omega arith)
    first_or_next (suc j) h = elim (below_or_same s.first.0 (suc j) h) [ inl e ↦ inl e | inr l ↦ inr (j, refl, omega arith) ]
      where
        below_or_same : (a b : ℕ) → a ≤ b → (b ≡ a) ⊎ (a < b)
        below_or_same a b h = grind arith

    reaches : (n k : ℕ) → s.first.0 ≤ k → k ≤ horizon_end s → k ≤ s.first.0 + n → Reaches k
    reaches zero k from to near = reaches_first k (omega arith)
    reaches (suc n) k from to near = elim (first_or_next k from) [
      | inl e ↦ reaches_first k e
      | inr (j, e, later) ↦ elim (is_table.reached j later (omega arith)) [
        | inl same ↦ let rest = reaches n j later (omega arith) (omega arith) in
            (rest.0, later_list j k rest.0 (omega arith) rest.1, rest.2 ∙ sym same ∙ ap table (sym e))
        | inr (p, hp, at, gives) ↦
            let inside = within p hp in
            let rest = reaches n p.slice.0 inside.0 (omega (arith, inside.1)) (omega (arith, inside.1)) in
            let sum : surplus s prices rest.0 ≡ table p.slice.0 = rest.2 in
            let all : table k ≡ table p.slice.0 +ℤ weight s prices p = ap table e ∙ gives in (
              p ∷ rest.0,
              subst (λ (i : ℕ). IsListUntil s t i (p ∷ rest.0)) (at ∙ sym e) (longer p rest.0 hp rest.1),
              omega (arith, ints),
            )
      ]
    ]

    none_at_first : (k : ℕ) (starts : List Placement) → k ≡ s.first.0 → IsListUntil s t k starts → surplus s prices starts ≤ℤ table k
    none_at_first k [] e list = let none : table k ≡ pos 0 = ap table e ∙ is_table.at_first in omega (arith, ints)
    none_at_first k (p ∷ starts) e list =
        let first = start_in k (p ∷ starts) p list (0, omega arith, refl) in
        let inside = within p first.0 in
        absurd (omega (arith, inside.0, inside.1, first.1))

    -- with what ends at slice suc k apart from the rest
    by_last : (k : ℕ) (starts here : List Placement) → s.first.0 ≤ k → k < horizon_end s → IsListUntil s t (suc k) starts
        → here ≡ filter (λ p. slice_after s p == suc k) starts
        → ((j : ℕ) → s.first.0 ≤ j → j ≤ k → IsAbove j) → surplus s prices starts ≤ℤ table (suc k)
    by_last k starts [] from below list e rest =
        let others : List Placement = filter (λ p. not (slice_after s p == suc k)) starts in
        let split : surplus s prices starts ≡ surplus s prices [] +ℤ surplus s prices others =
        subst (λ (xs : List Placement). surplus s prices starts ≡ surplus s prices xs +ℤ surplus s prices others) (sym e)
        (total_split (weight s prices) (λ p. slice_after s p == suc k) starts) in
        let ended : All (λ p. slice_after s p ≤ k) others = λ i d l.
        let kept : slice_after s (slice_index_or others i d) ≤ suc k =
        All-filter (λ p. not (slice_after s p == suc k)) (λ p. slice_after s p ≤ suc k) starts list.ended i d l in
        let differs : slice_after s (slice_index_or others i d) ≢ suc k =
        differ_from_test _ (suc k) (filter_passes (λ p. not (slice_after s p == suc k)) starts i d l) in
        below_not_same _ k kept differs in
        let most : surplus s prices others ≤ℤ table k =
        rest k from (omega arith) others (filtered (suc k) k (λ p. not (slice_after s p == suc k)) starts list ended) in
        let rises : table k ≤ℤ table (suc k) = is_table.rising k from below in
        omega (arith, ints)
      where
        below_not_same : (a b : ℕ) → a ≤ suc b → a ≢ suc b → a ≤ b
        below_not_same a b h n = grind arith
    by_last k starts (p ∷ []) from below list e rest =
        let others : List Placement = filter (λ q. not (slice_after s q == suc k)) starts in
        let split : surplus s prices starts ≡ surplus s prices (p ∷ []) +ℤ surplus s prices others =
        subst (λ (xs : List Placement). surplus s prices starts ≡ surplus s prices xs +ℤ surplus s prices others) (sym e)
        (total_split (weight s prices) (λ q. slice_after s q == suc k) starts) in
        let all_here : All (λ q. slice_after s q ≡ suc k) (p ∷ []) =
        subst (All (λ q. slice_after s q ≡ suc k)) (sym e)
        (λ i d l. same_from_test _ (suc k) (filter_passes (λ q. slice_after s q == suc k) starts i d l)) in
        let all_in : All (Contains starts) (p ∷ []) =
        subst (All (Contains starts)) (sym e)
        (All-filter (λ q. slice_after s q == suc k) (Contains starts) starts (All-contains_itself starts)) in
        let at : slice_after s p ≡ suc k = All-head (λ q. slice_after s q ≡ suc k) p [] all_here in
        let in_list : Contains starts p = All-head (Contains starts) p [] all_in in
        let hp : IsStartOn s t p = (start_in (suc k) starts p list in_list).0 in
        let inside = within p hp in
        let ended : All (λ q. slice_after s q ≤ p.slice.0) others = λ i d l.
        let kept : Contains starts (slice_index_or others i d) =
        All-filter (λ q. not (slice_after s q == suc k)) (Contains starts) starts (All-contains_itself starts) i d l in
        let differs : slice_after s (slice_index_or others i d) ≢ suc k =
        differ_from_test _ (suc k) (filter_passes (λ q. not (slice_after s q == suc k)) starts i d l) in
        let hq = start_in (suc k) starts _ list kept in
        elim (one_or_apart s starts (slice_index_or others i d) p list.disjoint kept in_list) [
          | inl same ↦ absurd (differs (ap (slice_after s) same ∙ at))
          | inr apart ↦ ends_first s t orderly _ p hq.0 hp (subst (λ (j : ℕ). slice_after s (slice_index_or others i d) ≤ j) (sym at) hq.1) apart
        ] in
        let most : surplus s prices others ≤ℤ table p.slice.0 =
        rest p.slice.0 inside.0 (omega (arith, at, inside.1)) others
        (filtered (suc k) p.slice.0 (λ q. not (slice_after s q == suc k)) starts list ended) in
        let here : (table p.slice.0 +ℤ weight s prices p) ≤ℤ table (suc k) =
        subst (λ (j : ℕ). (table p.slice.0 +ℤ weight s prices p) ≤ℤ table j) at (is_table.above p hp) in
        omega (arith, ints)
    by_last k starts (p ∷ q ∷ more) from below list e rest =
        let all_here : All (λ x. slice_after s x ≡ suc k) (p ∷ q ∷ more) =
        subst (All (λ x. slice_after s x ≡ suc k)) (sym e)
        (λ i d l. same_from_test _ (suc k) (filter_passes (λ x. slice_after s x == suc k) starts i d l)) in
        let all_in : All (Contains starts) (p ∷ q ∷ more) =
        subst (All (Contains starts)) (sym e)
        (All-filter (λ x. slice_after s x == suc k) (Contains starts) starts (All-contains_itself starts)) in
        let apart : AllPairs (λ a b. ¬ (ShareSlice s a b)) (p ∷ q ∷ more) =
        subst (AllPairs (λ a b. ¬ (ShareSlice s a b))) (sym e)
        (AllPairs-filter (λ a b. ¬ (ShareSlice s a b)) (λ x. slice_after s x == suc k) starts list.disjoint) in
        let p_at : slice_after s p ≡ suc k = all_here 0 p (omega arith) in
        let q_at : slice_after s q ≡ suc k = all_here 1 p (omega arith) in
        let hp : IsStartOn s t p = (start_in (suc k) starts p list (all_in 0 p (omega arith))).0 in
        let hq : IsStartOn s t q = (start_in (suc k) starts q list (all_in 1 p (omega arith))).0 in
        let p_in = within p hp in
        let q_in = within q hq in
        absurd (apart 0 1 p (omega arith) (omega arith)
        (no_two_at s t orderly k p q hp hq (omega (arith, p_in.1), omega arith) (omega (arith, q_in.1), omega arith)))

    is_above : (n k : ℕ) → s.first.0 ≤ k → k ≤ horizon_end s → k ≤ s.first.0 + n → IsAbove k
    is_above zero k from to near starts list = none_at_first k starts (omega arith) list
    is_above (suc n) k from to near starts list = elim (first_or_next k from) [
      | inl e ↦ none_at_first k starts e list
      | inr (j, e, later) ↦
          subst (λ (i : ℕ). surplus s prices starts ≤ℤ table i) (sym e)
          (by_last j starts (filter (λ p. slice_after s p == suc j) starts) later (omega arith)
          (subst (λ (i : ℕ). IsListUntil s t i starts) e list) refl (λ i from_first up. is_above n i from_first (omega arith) (omega arith)))
    ]

    -- the table has the bests of what ends by each slice
    pub table_until : (k : ℕ) → s.first.0 ≤ k → k ≤ horizon_end s → IsBestUntil s prices t k (table k)
    table_until k from to = record { reached = reaches (horizon_end s) k from to (omega arith); bound = is_above (horizon_end s) k from to (omega arith) }
