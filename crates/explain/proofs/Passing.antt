-- What a telescope gives where it takes a start: the best until it, its weight, and the best after it.
use Rattle.std.proofs.Common.{◌≡◌, ◌≢◌, ℕ, ◌<◌, ◌≤◌, inl, inr, true, not, ◌==◌, nat_lt, ℤ, ◌+ℤ◌, ◌≤ℤ◌, List, [], ◌∷◌, ◌++◌, slice_index_or, filter}
use Rattle.std.proofs.Common.{All, AllPairs, Contains, refl, sym, ap, subst, arith}
use Rattle.std.proofs.lemmas.Int.{ints}
use Rattle.std.proofs.lemmas.List.Elements.{All-cons, All-append, All-filter, All-contains, All-contains_itself, Contains-append_right, filter_passes}
use Rattle.std.proofs.lemmas.List.Kept.{AllPairs-cons, AllPairs-filter}
use Rattle.std.proofs.lemmas.Bool.Decides.{nat_tests}
use Rattle.plan_base.specs.declared.parts.Parts.{Parts}
use Rattle.plan_base.specs.declared.claim.Placement.{Placement}
use Rattle.plan_base.specs.Snapshot.{IsOrderly}
use Rattle.plan_base.specs.Starts.{IsPossibleStart, ShareSlice, size_of}
use Rattle.plan_base.specs.Bound.{IsStartList, weight, surplus, IsBest}
use Rattle.plan_base.specs.Tables.{IsStartOn, slice_after}
use Rattle.plan_base.proofs.Lists.{contains_filter}
use Rattle.plan_base.proofs.Orders.{contains_cases, contains_first}
use Rattle.plan_base.proofs.Sizes.{start_size_above}
use Rattle.plan_base.proofs.Split.{total_split}
use Rattle.plan_base.proofs.Totals.{total_append}
use Rattle.explain.specs.Through.{IsListUntil, IsBestUntil, IsThrough, IsGain}
use Rattle.explain.proofs.Pieces.{same_from_test, test_from_same, differ_from_test, one_or_apart, pairs_append, ends_before, apart_by, no_two_at}

below_from_test : (a b : ℕ) → nat_lt a b ≡ true → a < b
below_from_test a b h = grind (arith, nat_tests)

not_below_from_test : (a b : ℕ) → not (nat_lt a b) ≡ true → b ≤ a
not_below_from_test a b h = grind (arith, nat_tests)

module _ (s : Parts) (prices : List ℤ) (t : ℕ) (orderly : IsOrderly s) where
  start_in : (k : ℕ) (starts : List Placement) (p : Placement) → IsStartList s t k starts → Contains starts p → IsStartOn s t p
  start_in k starts p list has = record {
    possible = All-contains (IsPossibleStart s) starts p list.possible has;
    same_telescope = All-contains (λ q. q.telescope.0 ≡ t) starts p list.same_telescope has;
  }

  some_slices : (p : Placement) → IsStartOn s t p → p.slice.0 < slice_after s p
  some_slices p h = let size : 0 < size_of s p.request.0 = start_size_above s orderly p h.possible in omega arith

  -- a list until a start, the start, and a list after it
  joined : (p : Placement) (before after : List Placement) → IsStartOn s t p → IsListUntil s t p.slice.0 before → IsStartList s t (slice_after s p) after
      → IsStartList s t s.first.0 (before ++ p ∷ after)
  joined p before after hp until list =
      let some : p.slice.0 < slice_after s p = some_slices p hp in
      let begins : s.first.0 ≤ p.slice.0 = hp.possible.begins in
      record {
        possible = All-append (IsPossibleStart s) before (p ∷ after) until.possible (All-cons (IsPossibleStart s) p after hp.possible list.possible);
        same_telescope = All-append (λ q. q.telescope.0 ≡ t) before (p ∷ after) until.same_telescope
            (All-cons (λ q. q.telescope.0 ≡ t) p after hp.same_telescope list.same_telescope);
        later = All-append (λ q. s.first.0 ≤ q.slice.0) before (p ∷ after) (λ i d l. (until.possible i d l).begins)
            (All-cons (λ q. s.first.0 ≤ q.slice.0) p after begins (λ i d l. (list.possible i d l).begins));
        disjoint = pairs_append (λ a b. ¬ (ShareSlice s a b)) before (p ∷ after) until.disjoint
            (AllPairs-cons (λ a b. ¬ (ShareSlice s a b)) p after (λ i d l. apart_by s t orderly p _ (list.later i d l)) list.disjoint)
            (λ i d l. All-cons (λ b. ¬ (ShareSlice s (slice_index_or before i d) b)) p after (apart_by s t orderly _ p (until.ended i d l))
            (λ j e m. apart_by s t orderly _ _ (across _ _ _ _ (until.ended i d l) some (list.later j e m))));
      }
    where
      across : (a b c d : ℕ) → a ≤ b → b < c → c ≤ d → a ≤ d
      across a b c d h l m = omega arith

  joined_surplus : (p : Placement) (before after : List Placement)
      → surplus s prices (before ++ p ∷ after) ≡ surplus s prices before +ℤ weight s prices p +ℤ surplus s prices after
  joined_surplus p before after =
      let sum : surplus s prices (before ++ p ∷ after) ≡ surplus s prices before +ℤ surplus s prices (p ∷ after) =
      total_append (weight s prices) before (p ∷ after) in
      omega (arith, ints)

  -- of the starts of a list at the slice of one of them there is no other
  alone : (k : ℕ) (starts here : List Placement) (p : Placement) → IsStartList s t k starts → Contains starts p
      → here ≡ filter (λ q. q.slice.0 == p.slice.0) starts → here ≡ p ∷ []
  alone k starts [] p list has e = let bad : Contains [] p =
      subst (λ (xs : List Placement). Contains xs p) (sym e)
      (contains_filter (λ q. q.slice.0 == p.slice.0) starts p has (test_from_same p.slice.0 p.slice.0 refl)) in absurd (omega (arith, bad.1))
  alone k starts (q ∷ []) p list has e =
      let kept : Contains (q ∷ []) p =
      subst (λ (xs : List Placement). Contains xs p) (sym e)
      (contains_filter (λ x. x.slice.0 == p.slice.0) starts p has (test_from_same p.slice.0 p.slice.0 refl)) in
      elim (contains_cases q p [] kept) [ inl same ↦ ap (λ (x : Placement). x ∷ []) same | inr none ↦ absurd (omega (arith, none.1)) ]
  alone k starts (q ∷ x ∷ more) p list has e =
      let all_here : All (λ y. y.slice.0 ≡ p.slice.0) (q ∷ x ∷ more) =
      subst (All (λ y. y.slice.0 ≡ p.slice.0)) (sym e)
      (λ i d l. same_from_test _ p.slice.0 (filter_passes (λ y. y.slice.0 == p.slice.0) starts i d l)) in
      let all_in : All (Contains starts) (q ∷ x ∷ more) =
      subst (All (Contains starts)) (sym e) (All-filter (λ y. y.slice.0 == p.slice.0) (Contains starts) starts (All-contains_itself starts)) in
      let apart : AllPairs (λ a b. ¬ (ShareSlice s a b)) (q ∷ x ∷ more) =
      subst (AllPairs (λ a b. ¬ (ShareSlice s a b))) (sym e)
      (AllPairs-filter (λ a b. ¬ (ShareSlice s a b)) (λ y. y.slice.0 == p.slice.0) starts list.disjoint) in
      let q_at : q.slice.0 ≡ p.slice.0 = all_here 0 p (omega arith) in
      let x_at : x.slice.0 ≡ p.slice.0 = all_here 1 p (omega arith) in
      let hq : IsStartOn s t q = start_in k starts q list (all_in 0 p (omega arith)) in
      let hx : IsStartOn s t x = start_in k starts x list (all_in 1 p (omega arith)) in
      let some_q = some_slices q hq in
      let some_x = some_slices x hx in
      absurd (apart 0 1 p (omega arith) (omega arith)
      (no_two_at s t orderly p.slice.0 q x hq hx (omega arith, omega (arith, q_at, some_q)) (omega arith, omega (arith, x_at, some_x))))

  -- no list with a start gives more than the best until it, its weight, and the best after it
  pub no_more_through : (starts : List Placement) (p : Placement) (until after : ℤ) → IsStartList s t s.first.0 starts → Contains starts p
      → IsBestUntil s prices t p.slice.0 until → IsBest s prices t (slice_after s p) after
      → surplus s prices starts ≤ℤ (until +ℤ weight s prices p +ℤ after)
  no_more_through starts p until after list has best_until best_after =
      let others : List Placement = filter (λ q. not (q.slice.0 == p.slice.0)) starts in
      let before : List Placement = filter (λ q. nat_lt q.slice.0 p.slice.0) others in
      let later : List Placement = filter (λ q. not (nat_lt q.slice.0 p.slice.0)) others in
      let one : filter (λ q. q.slice.0 == p.slice.0) starts ≡ p ∷ [] = alone s.first.0 starts (filter (λ q. q.slice.0 == p.slice.0) starts) p list has refl in
      let split_here : surplus s prices starts ≡ surplus s prices (p ∷ []) +ℤ surplus s prices others =
      subst (λ (xs : List Placement). surplus s prices starts ≡ surplus s prices xs +ℤ surplus s prices others) one
      (total_split (weight s prices) (λ q. q.slice.0 == p.slice.0) starts) in
      let split_others : surplus s prices others ≡ surplus s prices before +ℤ surplus s prices later =
      total_split (weight s prices) (λ q. nat_lt q.slice.0 p.slice.0) others in
      let hp : IsStartOn s t p = start_in s.first.0 starts p list has in
      let in_others : All (Contains starts) others = All-filter (λ q. not (q.slice.0 == p.slice.0)) (Contains starts) starts (All-contains_itself starts) in
      let differs : All (λ q. q.slice.0 ≢ p.slice.0) others =
      λ i d l. differ_from_test _ p.slice.0 (filter_passes (λ q. not (q.slice.0 == p.slice.0)) starts i d l) in
      let apart : All (λ q. ¬ (ShareSlice s p q)) others = λ i d l. apart_of p _ starts list.disjoint has (in_others i d l) (differs i d l) in
      let turned : All (λ q. ¬ (ShareSlice s q p)) others =
      λ i d l. apart_of _ p starts list.disjoint (in_others i d l) has (λ same. differs i d l (sym same)) in
      let in_before : All (Contains starts) before = All-filter (λ q. nat_lt q.slice.0 p.slice.0) (Contains starts) others in_others in
      let in_later : All (Contains starts) later = All-filter (λ q. not (nat_lt q.slice.0 p.slice.0)) (Contains starts) others in_others in
      let first : surplus s prices before ≤ℤ until = best_until.bound before (record {
        possible = λ i d l. All-contains (IsPossibleStart s) starts _ list.possible (in_before i d l);
        same_telescope = λ i d l. All-contains (λ q. q.telescope.0 ≡ t) starts _ list.same_telescope (in_before i d l);
        ended = λ i d l. ends_before s t orderly _ p (start_in s.first.0 starts _ list (in_before i d l)) hp
            (no_later _ _ (below_from_test _ _ (filter_passes (λ q. nat_lt q.slice.0 p.slice.0) others i d l)))
            (All-filter (λ q. nat_lt q.slice.0 p.slice.0) (λ q. ¬ (ShareSlice s q p)) others turned i d l);
        disjoint = AllPairs-filter (λ a b. ¬ (ShareSlice s a b)) (λ q. nat_lt q.slice.0 p.slice.0) others
            (AllPairs-filter (λ a b. ¬ (ShareSlice s a b)) (λ q. not (q.slice.0 == p.slice.0)) starts list.disjoint);
      }) in
      let last : surplus s prices later ≤ℤ after = best_after.bound later (record {
        possible = λ i d l. All-contains (IsPossibleStart s) starts _ list.possible (in_later i d l);
        same_telescope = λ i d l. All-contains (λ q. q.telescope.0 ≡ t) starts _ list.same_telescope (in_later i d l);
        later = λ i d l. ends_before s t orderly p _ hp (start_in s.first.0 starts _ list (in_later i d l))
            (not_below_from_test _ _ (filter_passes (λ q. not (nat_lt q.slice.0 p.slice.0)) others i d l))
            (All-filter (λ q. not (nat_lt q.slice.0 p.slice.0)) (λ q. ¬ (ShareSlice s p q)) others apart i d l);
        disjoint = AllPairs-filter (λ a b. ¬ (ShareSlice s a b)) (λ q. not (nat_lt q.slice.0 p.slice.0)) others
            (AllPairs-filter (λ a b. ¬ (ShareSlice s a b)) (λ q. not (q.slice.0 == p.slice.0)) starts list.disjoint);
      }) in
      omega (arith, ints)
    where
      no_later : (a b : ℕ) → a < b → a ≤ b
      no_later a b h = omega arith

      apart_of : (x y : Placement) (xs : List Placement) → AllPairs (λ a b. ¬ (ShareSlice s a b)) xs → Contains xs x → Contains xs y
          → y.slice.0 ≢ x.slice.0 → ¬ (ShareSlice s x y)
      apart_of x y xs disjoint has_x has_y differ =
          elim (one_or_apart s xs x y disjoint has_x has_y)
          [ inl same ↦ λ share. differ (ap (λ (z : Placement). z.slice.0) (sym same)) | inr apart ↦ apart ]

  -- the greatest of what the starts of a request give is the greatest of a list through it
  pub through_is : (r : ℕ) (b : ℤ) → (p : Placement) × IsStartOn s t p × (p.request.0 ≡ r) × IsGain s prices t p b
      → ((p : Placement) → IsStartOn s t p → p.request.0 ≡ r → (d : ℤ) × IsGain s prices t p d × (d ≤ℤ b)) → IsThrough s prices t r b
  through_is r b (p, hp, is_r, gain) most = record {
    reached =
        let before = gain.is_until.reached in
        let after = gain.is_after.reached in
        let sum : surplus s prices (before.0 ++ p ∷ after.0) ≡ surplus s prices before.0 +ℤ weight s prices p +ℤ surplus s prices after.0 =
        joined_surplus p before.0 after.0 in
        let first : surplus s prices before.0 ≡ gain.until = before.2 in
        let last : surplus s prices after.0 ≡ gain.after = after.2 in
        let whole : b ≡ gain.until +ℤ weight s prices p +ℤ gain.after = gain.sum in
        let at = Contains-append_right before.0 (p ∷ after.0) p (contains_first p after.0) in
        (before.0 ++ p ∷ after.0, record { list = joined p before.0 after.0 hp before.1 after.1; has = (at.0, p, at.1, at.2, is_r) }, omega (arith, ints));
    bound = λ starts list.
        let q : Placement = list.has.1 in
        let has : Contains starts q = (list.has.0, list.has.2, list.has.3) in
        let hq : IsStartOn s t q = start_in s.first.0 starts q list.list has in
        let d = most q hq list.has.4 in
        let most_of : surplus s prices starts ≤ℤ (d.1.until +ℤ weight s prices q +ℤ d.1.after) =
        no_more_through starts q d.1.until d.1.after list.list has d.1.is_until d.1.is_after in
        let is : d.0 ≡ d.1.until +ℤ weight s prices q +ℤ d.1.after = d.1.sum in
        let within : d.0 ≤ℤ b = d.2 in
        omega (arith, ints);
  }
