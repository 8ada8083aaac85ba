-- Lists that rise by a total order.
use Rattle.std.proofs.Common.{◌≡◌, ℕ, zero, suc, ◌+◌, ◌<◌, ◌≤◌, List, [], ◌∷◌, length, get_or, take, drop, set, refl, sym, ap, ◌∙◌, subst, inl, inr}
use Rattle.std.proofs.Common.{⊎_elim, arith}
use Rattle.std.specs.List.{insert, All, Contains, slice_get}
use Rattle.std.specs.List.Sorted.{IsNonDecreasingBy, IsSearchInRange, IsBinarySearchResult}
use Rattle.std.specs.Ordering.{ordering_index}
use Rattle.std.specs.Prelude.{Result, Ok, Err, Some, option_map, map}
use Rattle.std.proofs.lemmas.Bool.{cases_lt}
use Rattle.std.proofs.lemmas.Cmp.{tied_itself}
use Rattle.std.proofs.lemmas.Option.{get_or_from_slice_get, slice_get_within, slice_get_cases, slice_get-map}
use Rattle.std.proofs.lemmas.List.Elements.{All-nil, All-cons, All-append, All-take, All-drop}
use Rattle.std.proofs.lemmas.List.Kept.{AllPairs-cons}
use Rattle.std.proofs.lemmas.List.Sorted.{searchable_from_sorted}
use Rattle.std.proofs.Math.ListN.{get_or-map}
use Rattle.std.proofs.lemmas.List.{length-map, get_or-map as get_or_map}
use Rattle.std.specs.declared.cmp.Ordering.{Ordering}
use Rattle.std.specs.declared.cmp.Ordering.TheVariants.{Less, Equal, Greater}
use Rattle.std.specs.Cmp.{IsTotalOrder}
use Rattle.std.specs.BTreeSet.{insert_key, replace_key}
use Rattle.allocations.specs.Rising.{Rises, IsGap, IsFoundAt}

module _ {K : Type 0} (cmp : K → K → Ordering) (o : IsTotalOrder cmp) where
  pub above : (x k : K) → cmp x k ≡ Less → cmp k x ≡ Greater
  above x k h = rw (o.antisymm k x, h) refl

  pub below : (x k : K) → cmp x k ≡ Greater → cmp k x ≡ Less
  below x k h = rw (o.antisymm k x, h) refl

  pub tied : (x k : K) → cmp x k ≡ Equal → cmp k x ≡ Equal
  tied x k h = rw (o.antisymm k x, h) refl

  -- k goes between those below it and those above it
  pub insert_key-at : (ks : List K) (k : K) (p : ℕ) → p ≤ length ks → ((i : ℕ) (d : K) → i < p → cmp (get_or ks i d) k ≡ Less)
      → ((i : ℕ) (d : K) → p ≤ i → i < length ks → cmp (get_or ks i d) k ≡ Greater) → insert_key cmp ks k ≡ insert ks p k
  insert_key-at [] k zero h b a = refl
  insert_key-at [] k (suc p) h b a = absurd (omega arith)
  insert_key-at (x ∷ xs) k zero h b a =
      let e = below x k (a 0 x (omega arith) (omega arith)) in
      rw e refl
  insert_key-at (x ∷ xs) k (suc p) h b a =
      let e = above x k (b 0 x (omega arith)) in
      rw e (ap (λ (l : List K). x ∷ l)
      (insert_key-at xs k p (omega arith) (λ i d l. b (suc i) d (omega arith)) (λ i d l m. a (suc i) d (omega arith) (omega arith))))

  pub replace_key-at : (ks : List K) (k : K) (p : ℕ) → p ≤ length ks → ((i : ℕ) (d : K) → i < p → cmp (get_or ks i d) k ≡ Less)
      → ((i : ℕ) (d : K) → p ≤ i → i < length ks → cmp (get_or ks i d) k ≡ Greater) → replace_key cmp ks k ≡ insert ks p k
  replace_key-at [] k zero h b a = refl
  replace_key-at [] k (suc p) h b a = absurd (omega arith)
  replace_key-at (x ∷ xs) k zero h b a =
      let e = below x k (a 0 x (omega arith) (omega arith)) in
      rw e refl
  replace_key-at (x ∷ xs) k (suc p) h b a =
      let e = above x k (b 0 x (omega arith)) in
      rw e (ap (λ (l : List K). x ∷ l)
      (replace_key-at xs k p (omega arith) (λ i d l. b (suc i) d (omega arith)) (λ i d l m. a (suc i) d (omega arith) (omega arith))))

  -- k takes the place of what ties with it
  pub replace_key-there : (ks : List K) (k : K) (p : ℕ) → p < length ks → ((i : ℕ) (d : K) → i < p → cmp (get_or ks i d) k ≡ Less)
      → ((d : K) → cmp (get_or ks p d) k ≡ Equal) → replace_key cmp ks k ≡ set ks p k
  replace_key-there [] k p h b a = absurd (omega arith)
  replace_key-there (x ∷ xs) k zero h b a =
      let e = tied x k (a x) in
      rw e refl
  replace_key-there (x ∷ xs) k (suc p) h b a =
      let e = above x k (b 0 x (omega arith)) in
      rw e (ap (λ (l : List K). x ∷ l) (replace_key-there xs k p (omega arith) (λ i d l. b (suc i) d (omega arith)) (λ d. a d)))

  -- a key that is there changes nothing
  pub insert_key-there : (ks : List K) (k : K) (p : ℕ) → p < length ks → ((i : ℕ) (d : K) → i < p → cmp (get_or ks i d) k ≡ Less)
      → ((d : K) → cmp (get_or ks p d) k ≡ Equal) → insert_key cmp ks k ≡ ks
  insert_key-there [] k p h b a = absurd (omega arith)
  insert_key-there (x ∷ xs) k zero h b a =
      let e = tied x k (a x) in
      rw e refl
  insert_key-there (x ∷ xs) k (suc p) h b a =
      let e = above x k (b 0 x (omega arith)) in
      rw e (ap (λ (l : List K). x ∷ l) (insert_key-there xs k p (omega arith) (λ i d l. b (suc i) d (omega arith)) (λ d. a d)))

  All-insert : (P : K → Type 0) (ks : List K) (p : ℕ) (k : K) → All P ks → P k → All P (insert ks p k)
  All-insert P ks p k all one = All-append P (take p ks) (k ∷ drop p ks) (All-take P p ks all) (All-cons P k (drop p ks) one (All-drop P p ks all))

  -- a list that rises goes on rising when k goes into its gap
  pub Rises-insert : (ks : List K) (k : K) (p : ℕ) → Rises cmp ks → IsGap cmp ks k p → Rises cmp (insert ks p k)
  Rises-insert [] k zero r g = AllPairs-cons (λ x y. cmp x y ≡ Less) k [] (All-nil (λ y. cmp k y ≡ Less)) r
  Rises-insert [] k (suc p) r g = absurd (omega (arith, g.within))
  Rises-insert (x ∷ xs) k zero r g = AllPairs-cons (λ x y. cmp x y ≡ Less) k (x ∷ xs) (λ i d l. below (get_or (x ∷ xs) i d) k (g.above i d (omega arith) l)) r
  Rises-insert (x ∷ xs) k (suc p) r g =
      AllPairs-cons (λ x y. cmp x y ≡ Less) x (insert xs p k)
      (All-insert (λ y. cmp x y ≡ Less) xs p k (λ j d l. r 0 (suc j) d (omega arith) (omega arith)) (g.below 0 x (omega arith)))
      (Rises-insert xs k p (λ i j d l m. r (suc i) (suc j) d (omega arith) (omega arith)) record {
        within = omega (arith, g.within);
        below = λ j d l. g.below (suc j) d (omega arith);
        above = λ j d l m. g.above (suc j) d (omega arith) (omega arith);
      })

  -- a key with a gap isn't there
  pub gap-absent : (ks : List K) (k : K) (p : ℕ) → IsGap cmp ks k p → Contains ks k → ⊥
  gap-absent ks k p g there =
      let same : cmp (get_or ks there.0 k) k ≡ Equal = rw there.2 (tied_itself o k) in
      ⊎_elim (λ (l : there.0 < p). let less = g.below there.0 k l in
      cc) (λ (l : p ≤ there.0). let greater = g.above there.0 k l there.1 in cc) (cases_lt there.0 p)

  pub insert_key-gap : (ks : List K) (k : K) (p : ℕ) → IsGap cmp ks k p → insert_key cmp ks k ≡ insert ks p k
  insert_key-gap ks k p g = insert_key-at ks k p g.within g.below g.above

  pub replace_key-gap : (ks : List K) (k : K) (p : ℕ) → IsGap cmp ks k p → replace_key cmp ks k ≡ insert ks p k
  replace_key-gap ks k p g = replace_key-at ks k p g.within g.below g.above

  -- the keys before one in a list that rises are below it
  pub Rises-before : (ks : List K) (k : K) (p : ℕ) → Rises cmp ks → slice_get ks p ≡ Some k → (i : ℕ) (d : K) → i < p → cmp (get_or ks i d) k ≡ Less
  Rises-before ks k p r s i d l = subst (λ (y : K). cmp (get_or ks i d) y ≡ Less) (get_or_from_slice_get ks p k d s) (r i p d l (slice_get_within ks p k s))

  pub insert_key-known : (ks : List K) (k : K) (p : ℕ) → Rises cmp ks → slice_get ks p ≡ Some k → insert_key cmp ks k ≡ ks
  insert_key-known ks k p r s = insert_key-there ks k p (slice_get_within ks p k s) (Rises-before ks k p r s)
      (λ d. rw (get_or_from_slice_get ks p k d s) (tied_itself o k))

  module _ {X : Type 0} (key : X → K) (exact : (x y : K) → cmp x y ≡ Equal → x ≡ y) where
    IsNonDecreasingBy-Rises : (xs : List X) (k : K) → Rises cmp (map key xs) → IsNonDecreasingBy (λ y. ordering_index (cmp (key y) k)) xs
    IsNonDecreasingBy-Rises xs k r = searchable_from_sorted o key xs k (λ i d _ l.
        let less : cmp (key (get_or xs i d)) (key (get_or xs (i + 1) d)) ≡ Less =
        rw (get_or-map key xs i d, get_or-map key xs (i + 1) d) at (r i (i + 1) (key d) (omega arith) (rw length-map (omega arith))) in
        rw (above (key (get_or xs i d)) (key (get_or xs (i + 1) d)) less) refl)

    at_key : (P : K → Type 0) (xs : List X) (j : ℕ) (d : K) → j < length xs → ((x : X) → P (key (get_or xs j x))) → P (get_or (map key xs) j d)
    at_key P xs j d l h =
        elim (slice_get_cases xs j).1 [
          | inl w ↦ subst P (sym (get_or_map key xs j w.0 d l)) (h w.0)
          | inr w ↦ absurd (omega (arith, l, w.0))
        ]

    -- what a binary search in a list that rises finds
    pub found_at : (xs : List X) (k : K) (r : Result ℕ ℕ) → IsSearchInRange r (length xs) → IsBinarySearchResult (λ x. cmp (key x) k) xs r
        → Rises cmp (map key xs) → IsFoundAt cmp (map key xs) k r
    found_at xs k (Ok i) b h r =
        elim (slice_get_cases xs i).1 [
          | inl w ↦ slice_get-map key xs i ∙ ap (option_map key) w.2 ∙ ap Some (exact (key w.0) k (rw w.3 at (h w.0)))
          | inr w ↦ absurd (omega (arith, b, w.0))
        ]
    found_at xs k (Err i) b h r =
        let parted = h (IsNonDecreasingBy-Rises xs k r) in
        record {
          within = rw length-map b;
          below = λ j d l. at_key (λ y. cmp y k ≡ Less) xs j d (omega (arith, b)) (λ x. parted.0 j x (omega arith) l);
          above = λ j d l m. at_key (λ y. cmp y k ≡ Greater) xs j d (rw length-map at m) (λ x. parted.1 j x l (rw length-map at m));
        }
