-- What a plan says whatever the order of its placements: what may be added to it, and whether it is saturated.
use Rattle.std.proofs.Common.{◌≡◌, ℕ, ◌+◌, inl, inr, Bool, true, false, cond, List, [], ◌∷◌, ◌++◌, Contains, IsPermutation, sum_by, refl, sym, ◌∙◌, arith}
use Rattle.std.specs.Prelude.{filter}
use Rattle.std.proofs.lemmas.List.Elements.{All-weaker}
use Rattle.std.proofs.lemmas.List.Sorted.{All-permutation, Contains-permutation, IsPermutation-map, IsPermutation-sym, IsPermutation-append_left}
use Rattle.std.proofs.lemmas.List.Sorted.{sum_by-IsPermutation}
use Rattle.std.proofs.lemmas.List.Sums.{sum_by-cons}
use Rattle.plan_base.specs.declared.parts.Parts.{Parts}
use Rattle.plan_base.specs.declared.claim.Placement.{Placement}
use Rattle.plan_base.specs.Requests.{seconds_of, quota_of, members}
use Rattle.plan_base.specs.Starts.{ShareSlice}
use Rattle.plan_base.specs.Feasible.{requests_of, is_quota, quota_seconds}
use Rattle.plan_base.specs.Saturated.{IsFree, HasNonePlaced, IsEarliestFree, TakesEach, IsSaturated}

-- what f gives of those that pass
chosen : {X : Type 0} (p : X → Bool) (f : X → ℕ) (xs : List X) → sum_by f (filter p xs) ≡ sum_by (λ x. cond (p x) (f x) 0) xs
chosen p f [] = refl
chosen p f (x ∷ xs) =
    let rest : sum_by f (filter p xs) ≡ sum_by (λ y. cond (p y) (f y) 0) xs = chosen p f xs in
    let more : sum_by f (x ∷ filter p xs) ≡ f x + sum_by f (filter p xs) = sum_by-cons f x (filter p xs) in
    let here : sum_by (λ y. cond (p y) (f y) 0) (x ∷ xs) ≡ cond (p x) (f x) 0 + sum_by (λ y. cond (p y) (f y) 0) xs =
    sum_by-cons (λ y. cond (p y) (f y) 0) x xs in
    (elim (p x) as (λ b. sum_by f (cond b (x ∷ filter p xs) (filter p xs)) ≡ cond b (f x) 0 + sum_by (λ y. cond (p y) (f y) 0) xs)
    [ true ↦ omega arith | false ↦ omega arith ]) ∙ sym here

pub requests_permuted : (xs ys : List Placement) → IsPermutation xs ys → IsPermutation (requests_of xs) (requests_of ys)
requests_permuted xs ys same = IsPermutation-map (λ p. p.request.0) xs ys same

pub quota_seconds_permuted : (s : Parts) (q : ℕ) (xs ys : List Placement) → IsPermutation xs ys
    → quota_seconds s q (requests_of ys) ≡ quota_seconds s q (requests_of xs)
quota_seconds_permuted s q xs ys same =
    let p : ℕ → Bool = λ r. is_quota q (quota_of s r) in
    chosen p (seconds_of s) (requests_of ys)
    ∙ sum_by-IsPermutation (λ r. cond (p r) (seconds_of s r) 0) (requests_of xs) (requests_of ys) (requests_permuted xs ys same)
    ∙ sym (chosen p (seconds_of s) (requests_of xs))

module _ (s : Parts) where
  free_permuted : (xs ys : List Placement) (p : Placement) → IsPermutation xs ys → IsFree s xs p → IsFree s ys p
  free_permuted xs ys p same free = record {
    possible = free.possible;
    apart = All-permutation (λ q. ¬ (ShareSlice s p q)) xs ys same free.apart;
    within_quota = λ q names. (let within = free.within_quota q names in let e = quota_seconds_permuted s q xs ys same in omega arith);
  }

  none_permuted : (xs ys : List Placement) (g : ℕ) → IsPermutation xs ys → HasNonePlaced s xs g → HasNonePlaced s ys g
  none_permuted xs ys g same none =
      All-weaker (λ r. ¬ (Contains (requests_of xs) r)) (λ r. ¬ (Contains (requests_of ys) r))
      (λ r absent c. absent (Contains-permutation (requests_of ys) (requests_of xs) r
      (IsPermutation-sym (requests_of xs) (requests_of ys) (requests_permuted xs ys same)) c)) (members s g) none

  earliest_permuted : (xs ys : List Placement) (r : ℕ) (p : Placement) → IsPermutation xs ys → IsEarliestFree s xs r p → IsEarliestFree s ys r p
  earliest_permuted xs ys r p same is = record {
    same_request = is.same_request;
    free = free_permuted xs ys p same is.free;
    earliest = λ q of free. is.earliest q of (free_permuted ys xs q (IsPermutation-sym xs ys same) free);
  }

  takes_permuted : (xs ys : List Placement) (rs : List ℕ) (after : List Placement) → IsPermutation xs ys → TakesEach s xs rs after
      → (other : List Placement) × TakesEach s ys rs other
  takes_permuted xs ys [] after same is = (ys, refl)
  takes_permuted xs ys (r ∷ rs) after same (p, is, rest) =
      let more : IsPermutation (xs ++ p ∷ []) (ys ++ p ∷ []) = IsPermutation-append_left (p ∷ []) xs ys same in
      let later = takes_permuted (xs ++ p ∷ []) (ys ++ p ∷ []) rs after more rest in
      (later.0, (p, earliest_permuted xs ys r p same is, later.1))

  pub saturated_permuted : (xs ys : List Placement) → IsPermutation xs ys → IsSaturated s xs → IsSaturated s ys
  saturated_permuted xs ys same is =
      let back : IsPermutation ys xs = IsPermutation-sym xs ys same in
      let requests : IsPermutation (requests_of xs) (requests_of ys) = requests_permuted xs ys same in
      record {
        alone = λ g p kind of unplaced free.
            is.alone g p (elim kind [ inl placed ↦ inl placed | inr untouched ↦ inr (untouched.0, none_permuted ys xs g back untouched.1) ]) of
            (λ c. unplaced (Contains-permutation (requests_of xs) (requests_of ys) p.request.0 requests c))
            (free_permuted ys xs p back free);
        whole = λ g after absent takes.
            let taken = takes_permuted ys xs (members s g) after back takes in
            is.whole g taken.0 (absent.0, none_permuted ys xs g back absent.1) taken.1;
      }
