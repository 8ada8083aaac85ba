-- What is told of leaves while they are counted, and what it comes to.
use Rattle.std.proofs.Common.{◌≡◌, ◌≢◌, ℕ, zero, suc, ◌+◌, ◌≤◌, ◌<◌, ◌⊎◌, inl, inr, Bool, true, false, cond, nat_lt, List, [], ◌∷◌, ◌++◌, length}
use Rattle.std.proofs.Common.{replicate, slice_set, slice_get, slice_index_or, Option, Some, None, MatchOption, All, Contains, refl, sym, ◌∙◌, ap}
use Rattle.std.proofs.Common.{subst, arith, get_or-set_other, get_or-set_same}
use Rattle.std.proofs.lemmas.Bool.Decides.{nat_tests}
use Rattle.std.proofs.lemmas.List.{length-set, length-replicate, get_or_default}
use Rattle.std.proofs.lemmas.List.Elements.{Contains-append_left, Contains-push, Contains-push_cases}
use Rattle.std.proofs.lemmas.Option.{slice_get-get_or, slice_get_within, get_or_from_slice_get}
use Rattle.plan_base.specs.declared.parts.Parts.{Parts}
use Rattle.plan_base.specs.declared.number.RequestNo.{RequestNo}
use Rattle.plan_base.specs.Requests.{Listed, listed, place_of, IsKnown}
use Rattle.plan_base.specs.Snapshot.{IsOrderly}
use Rattle.plan_base.specs.Verdict.{IsFirst}
use Rattle.plan_base.proofs.Known.{known_as}
use Rattle.bound_checker.proofs.Marks.{one_at_place, none_set}
use Rattle.group_trees.specs.declared.leaves.Tally.{Tally}
use Rattle.group_trees.specs.Forests.{times, IsWrongLeaf, IsAt}
use Rattle.group_trees.specs.Plans.{is_placed}
use Rattle.group_trees.specs.Standings.{is_flagged, AreFlags}
use Rattle.group_trees.specs.Tallies.{lesser, IsWrongSoFar, IsTally}
use Rattle.group_trees.proofs.Shares.{contains_placed, placed_contained, times_append, times_first, times_contained, contained_times}
use Rattle.group_trees.proofs.Stable.{Decided, decide_lt, decide_same}

-- ---- the least number of which P holds, if there is one

abbrev IsLeastOf : (ℕ → Type 0) → Option RequestNo → Type 0
IsLeastOf P o = MatchOption o ((r : ℕ) → ¬ (P r)) (λ r. IsFirst P r.0)

least_same : (P Q : ℕ → Type 0) (o : Option RequestNo) → ((r : ℕ) → P r → Q r) → ((r : ℕ) → Q r → P r) → IsLeastOf P o → IsLeastOf Q o
least_same P Q None f g h = λ r q. h r (g r q)
least_same P Q (Some x) f g (p, h) = (f x.0 p, λ j l q. h j l (g j q))

lesser_case : (P Q R : ℕ → Type 0) (a b : RequestNo) (t : Bool) → nat_lt a.0 b.0 ≡ t → ((r : ℕ) → P r → R r) → ((r : ℕ) → Q r → R r)
    → ((r : ℕ) → R r → P r ⊎ Q r) → IsFirst P a.0 → IsFirst Q b.0 → IsFirst R (cond t a b).0
lesser_case P Q R a b true e f g split (p, h) (q, k) = (
  f a.0 p,
  λ j l r. elim (split j r) [
    | inl hp ↦ h j l hp
    | inr hq ↦ k j (let below : a.0 < b.0 = less a.0 b.0 e in omega arith) hq
  ],
)
  where
    less : (a b : ℕ) → nat_lt a b ≡ true → a < b
    less a b e = grind (arith, nat_tests)
lesser_case P Q R a b false e f g split (p, h) (q, k) = (
  g b.0 q,
  λ j l r. elim (split j r) [
    | inl hp ↦ h j (let above : b.0 ≤ a.0 = not_less a.0 b.0 e in omega arith) hp
    | inr hq ↦ k j l hq
  ],
)
  where
    not_less : (a b : ℕ) → nat_lt a b ≡ false → b ≤ a
    not_less a b e = grind (arith, nat_tests)

-- the lesser of two least numbers
least_lesser : (P Q R : ℕ → Type 0) (o : Option RequestNo) (b : RequestNo) → ((r : ℕ) → P r → R r) → ((r : ℕ) → Q r → R r)
    → ((r : ℕ) → R r → P r ⊎ Q r) → IsLeastOf P o → IsFirst Q b.0 → IsFirst R (lesser o b).0
least_lesser P Q R None b f g split h (q, k) = (g b.0 q, λ j l r. elim (split j r) [ inl hp ↦ h j hp | inr hq ↦ k j l hq ])
least_lesser P Q R (Some a) b f g split h k = lesser_case P Q R a b (nat_lt a.0 b.0) refl f g split h k

-- ---- one more leaf

times_alone : (q r : ℕ) → q ≢ r → times q (r ∷ []) ≡ 0
times_alone q r other = elim (decide_same (times q (r ∷ [])) 0) [
  | inl e ↦ e
  | inr some ↦ absurd (other (only (contained_times q (r ∷ []) (omega arith))))
]
  where
    only : Contains (r ∷ []) q → q ≡ r
    only (zero, l, e) = sym e
    only (suc k, l, e) = absurd (omega arith)

times_more : (q r : ℕ) (rs : List ℕ) → q ≢ r → times q (rs ++ r ∷ []) ≡ times q rs
times_more q r rs other = let both : times q (rs ++ r ∷ []) ≡ times q rs + times q (r ∷ []) = times_append q rs (r ∷ []) in
    let alone : times q (r ∷ []) ≡ 0 = times_alone q r other in omega arith

times_again : (r : ℕ) (rs : List ℕ) → times r (rs ++ r ∷ []) ≡ times r rs + 1
times_again r rs = let both : times r (rs ++ r ∷ []) ≡ times r rs + times r (r ∷ []) = times_append r rs (r ∷ []) in
    let one : times r (r ∷ []) ≡ 1 + times r [] = times_first r [] in omega arith

not_placed : (rs : List ℕ) (r : ℕ) → is_placed rs r ≡ false → ¬ (Contains rs r)
not_placed rs r e c = let bad : false ≡ true = sym e ∙ placed_contained rs r c in cc

same_tests : (a b : Bool) → (a ≡ true → b ≡ true) → (b ≡ true → a ≡ true) → a ≡ b
same_tests true true f g = refl
same_tests true false f g = sym (f refl)
same_tests false true f g = g refl
same_tests false false f g = refl

placed_other : (rs : List ℕ) (r q : ℕ) → q ≢ r → is_placed (rs ++ r ∷ []) q ≡ is_placed rs q
placed_other rs r q other =
    same_tests (is_placed (rs ++ r ∷ []) q) (is_placed rs q)
    (λ e. elim (Contains-push_cases rs r q (contains_placed (rs ++ r ∷ []) q e))
    [ inl here ↦ placed_contained rs q here | inr same ↦ absurd (other (sym same)) ])
    (λ e. placed_contained (rs ++ r ∷ []) q (Contains-append_left rs (r ∷ []) q (contains_placed rs q e)))

placed_last : (rs : List ℕ) (r : ℕ) → is_placed (rs ++ r ∷ []) r ≡ true
placed_last rs r = placed_contained (rs ++ r ∷ []) r (Contains-push rs r)

pub tally_none : (s : Parts) (tally : Tally) → tally.flags.items ≡ replicate (length (listed s)) false → tally.wrong ≡ None → IsTally s [] tally
tally_none s tally e w = record {
  flags = record {
    count = ap (λ (xs : List Bool). length xs) e ∙ length-replicate (length (listed s)) false;
    each = λ r known. ap (λ (xs : List Bool). slice_index_or xs (place_of s r) false) e ∙ none_set (length (listed s)) (place_of s r);
  };
  wrong = subst (IsLeastOf (IsWrongSoFar s [])) (sym w) (λ r h. omega (arith, h.0.1));
}

module _ (s : Parts) (rs : List ℕ) (r : ℕ) where
  -- a request that wasn't a leaf before
  wrong_to : IsKnown s r → ¬ (Contains rs r) → (q : ℕ) → IsWrongSoFar s rs q → IsWrongSoFar s (rs ++ r ∷ []) q
  wrong_to known new q (has, why) = (
    Contains-append_left rs (r ∷ []) q has,
    elim why [
      | inl unknown ↦ inl unknown
      | inr twice ↦ inr (let both : times q (rs ++ r ∷ []) ≡ times q rs + times q (r ∷ []) = times_append q rs (r ∷ []) in omega arith)
    ],
  )

  wrong_from : IsKnown s r → ¬ (Contains rs r) → (q : ℕ) → IsWrongSoFar s (rs ++ r ∷ []) q → IsWrongSoFar s rs q
  wrong_from known new q (has, why) = by (decide_same q r)
    where
      once : q ≡ r → ¬ (2 ≤ times q (rs ++ r ∷ []))
      once e twice = new (contained_times r rs (let again : times r (rs ++ r ∷ []) ≡ times r rs + 1 = times_again r rs in
          let here : 2 ≤ times r (rs ++ r ∷ []) = subst (λ (n : ℕ). 2 ≤ times n (rs ++ r ∷ [])) e twice in omega arith))

      by : Decided (q ≡ r) → IsWrongSoFar s rs q
      by (inl e) = elim why [ inl unknown ↦ absurd (unknown (subst (IsKnown s) (sym e) known)) | inr twice ↦ absurd (once e twice) ]
      by (inr other) = (
        elim (Contains-push_cases rs r q has) [ inl here ↦ here | inr e ↦ absurd (other (sym e)) ],
        elim why [ inl unknown ↦ inl unknown | inr twice ↦ inr (subst (λ (n : ℕ). 2 ≤ n) (times_more q r rs other) twice) ],
      )

  pub tally_set : (place : ℕ) (old new : Tally) → IsKnown s r → place ≡ place_of s r → slice_index_or old.flags.items place false ≡ false
      → new.flags.items ≡ slice_set old.flags.items place true → new.wrong ≡ old.wrong
      → IsTally s rs old → IsTally s (rs ++ r ∷ []) new
  tally_set place old new known at clear flags wrong h =
      let here : slice_index_or old.flags.items (place_of s r) false ≡ false = subst (λ (k : ℕ). slice_index_or old.flags.items k false ≡ false) at clear in
      let is_new : ¬ (Contains rs r) = not_placed rs r (sym (h.flags.each r known) ∙ here) in
      let count : length old.flags.items ≡ length (listed s) = h.flags.count in
      let set : new.flags.items ≡ slice_set old.flags.items (place_of s r) true = flags ∙ ap (λ (k : ℕ). slice_set old.flags.items k true) at in
      record {
        flags = record {
          count = ap (λ (xs : List Bool). length xs) set ∙ length-set old.flags.items (place_of s r) true ∙ count;
          each = λ q k. elim (decide_same q r) [
            | inl e ↦
                ap (λ (xs : List Bool). slice_index_or xs (place_of s q) false) set
                ∙ ap (λ (n : ℕ). slice_index_or (slice_set old.flags.items (place_of s r) true) (place_of s n) false) e
                ∙ get_or-set_same old.flags.items (place_of s r) true false (omega arith) ∙ sym (placed_last rs r) ∙ ap (is_placed (rs ++ r ∷ [])) (sym e)
            | inr other ↦
                ap (λ (xs : List Bool). slice_index_or xs (place_of s q) false) set
                ∙ get_or-set_other old.flags.items (place_of s r) (place_of s q) true false (λ e. other (one_at_place s q r k known e))
                ∙ h.flags.each q k ∙ sym (placed_other rs r q other)
          ];
        };
        wrong = subst (IsLeastOf (IsWrongSoFar s (rs ++ r ∷ []))) (sym wrong)
            (least_same (IsWrongSoFar s rs) (IsWrongSoFar s (rs ++ r ∷ [])) old.wrong (wrong_to known is_new) (wrong_from known is_new) h.wrong);
      }

  -- a leaf that is no request, or was one before
  abbrev pub IsBad : List Bool → Type 0
  IsBad flags = ¬ (IsKnown s r) ⊎ (is_flagged s flags r ≡ true)

  bad_to : (q : ℕ) → IsWrongSoFar s rs q → IsWrongSoFar s (rs ++ r ∷ []) q
  bad_to q (has, why) = (
    Contains-append_left rs (r ∷ []) q has,
    elim why [
      | inl unknown ↦ inl unknown
      | inr twice ↦ inr (let both : times q (rs ++ r ∷ []) ≡ times q rs + times q (r ∷ []) = times_append q rs (r ∷ []) in omega arith)
    ],
  )

  bad_from : (q : ℕ) → IsWrongSoFar s (rs ++ r ∷ []) q → IsWrongSoFar s rs q ⊎ (q ≡ r)
  bad_from q (has, why) = by (decide_same q r)
    where
      by : Decided (q ≡ r) → IsWrongSoFar s rs q ⊎ (q ≡ r)
      by (inl e) = inr e
      by (inr other) = inl (
        elim (Contains-push_cases rs r q has) [ inl here ↦ here | inr e ↦ absurd (other (sym e)) ],
        elim why [ inl unknown ↦ inl unknown | inr twice ↦ inr (subst (λ (n : ℕ). 2 ≤ n) (times_more q r rs other) twice) ],
      )

  bad_here : (flags : List Bool) → AreFlags s rs flags → IsBad flags → IsWrongSoFar s (rs ++ r ∷ []) r
  bad_here flags are (inl unknown) = (Contains-push rs r, inl unknown)
  bad_here flags are (inr set) = by (decide_lt (place_of s r) (length (listed s)))
    where
      by : Decided (IsKnown s r) → IsWrongSoFar s (rs ++ r ∷ []) r
      by (inl known) =
          let before : 1 ≤ times r rs = times_contained r rs (contains_placed rs r (sym (are.each r known) ∙ set)) in
          let again : times r (rs ++ r ∷ []) ≡ times r rs + 1 = times_again r rs in
          (Contains-push rs r, inr (omega arith))
      by (inr unknown) = (Contains-push rs r, inl unknown)

  bad_flag : (flags : List Bool) → AreFlags s rs flags → IsBad flags → IsKnown s r → is_flagged s flags r ≡ true
  bad_flag flags are (inl unknown) known = absurd (unknown known)
  bad_flag flags are (inr set) known = set

  pub tally_wrong : (old new : Tally) (number : RequestNo) → number.0 ≡ r → IsBad old.flags.items → new.flags.items ≡ old.flags.items
      → new.wrong ≡ Some (lesser old.wrong number) → IsTally s rs old → IsTally s (rs ++ r ∷ []) new
  tally_wrong old new number is bad flags wrong h = record {
    flags = record {
      count = ap (λ (xs : List Bool). length xs) flags ∙ h.flags.count;
      each = λ q k. ap (λ (xs : List Bool). slice_index_or xs (place_of s q) false) flags ∙ elim (decide_same q r) [
        | inl e ↦ ap (is_flagged s old.flags.items) e ∙ bad_flag old.flags.items h.flags bad (subst (IsKnown s) e k) ∙ sym (placed_last rs r)
            ∙ ap (is_placed (rs ++ r ∷ [])) (sym e)
        | inr other ↦ h.flags.each q k ∙ sym (placed_other rs r q other)
      ];
    };
    wrong = subst (IsLeastOf (IsWrongSoFar s (rs ++ r ∷ []))) (sym wrong)
        (least_lesser (IsWrongSoFar s rs) (λ q. q ≡ r) (IsWrongSoFar s (rs ++ r ∷ [])) old.wrong number bad_to
        (λ q e. subst (IsWrongSoFar s (rs ++ r ∷ [])) (sym e) (bad_here old.flags.items h.flags bad)) bad_from h.wrong
        (is, λ j l e. omega arith));
  }

-- ---- once all were counted

holds_at_read : {X : Type 0} (P : X → Type 0) (xs : List X) (i : ℕ) (x : X) → All P xs → slice_get xs i ≡ Some x → P x
holds_at_read P xs i x a e = subst P (get_or_from_slice_get xs i x x e) (a i x (slice_get_within xs i x e))

-- requests of lesser numbers stand before
place_below : (s : Parts) (q r : ℕ) → IsOrderly s → IsKnown s q → IsKnown s r → q < r → place_of s q < place_of s r
place_below s q r o kq kr l =
    let x = known_as s q kq in
    let y = known_as s r kr in
    let qx : x.0.request.request.0 ≡ q = x.1.number in
    let ry : y.0.request.request.0 ≡ r = y.1.number in
    let at_q : (slice_index_or (listed s) (place_of s q) x.0).request.request.0 ≡ q = ap (λ (z : Listed). z.request.request.0) x.1.at_place ∙ qx in
    let at_r : (slice_index_or (listed s) (place_of s r) x.0).request.request.0 ≡ r =
    ap (λ (z : Listed). z.request.request.0) (get_or_default (listed s) (place_of s r) x.0 y.0 kr ∙ y.1.at_place) ∙ ry in
    elim (three (place_of s q) (place_of s r)) [
      | inl (inl below) ↦ below
      | inl (inr above) ↦ let rise : (slice_index_or (listed s) (place_of s r) x.0).request.request.0
          < (slice_index_or (listed s) (place_of s q) x.0).request.request.0 = o.requests_rise (place_of s r) (place_of s q) x.0 above kq in
          absurd (omega arith)
      | inr same ↦ let one : q ≡ r = one_at_place s q r kq kr same in absurd (omega arith)
    ]
  where
    three : (a b : ℕ) → ((a < b) ⊎ (b < a)) ⊎ (a ≡ b)
    three a b = grind arith

module _ (s : Parts) (rs : List ℕ) (tally : Tally) (h : IsTally s rs tally) where
  -- a request that is no leaf
  abbrev IsMissing : ℕ → Type 0
  IsMissing q = IsKnown s q × ¬ (Contains rs q)

  wrong_leaf_from : (q : ℕ) → IsWrongSoFar s rs q → IsWrongLeaf s rs q
  wrong_leaf_from q (has, inl unknown) = inl (has, unknown)
  wrong_leaf_from q (has, inr twice) = elim (decide_lt (place_of s q) (length (listed s))) [
    | inl known ↦ inr (known, λ e. omega arith)
    | inr unknown ↦ inl (has, unknown)
  ]

  missing_wrong : (q : ℕ) → IsMissing q → IsWrongLeaf s rs q
  missing_wrong q (known, out) = inr (known, λ e. out (contained_times q rs (omega arith)))

  wrong_leaf_split : (q : ℕ) → IsWrongLeaf s rs q → IsWrongSoFar s rs q ⊎ IsMissing q
  wrong_leaf_split q (inl (has, unknown)) = inl (has, inl unknown)
  wrong_leaf_split q (inr (known, other)) = by (decide_same (times q rs) 0)
    where
      by : Decided (times q rs ≡ 0) → IsWrongSoFar s rs q ⊎ IsMissing q
      by (inl e) = inr (known, λ has. let some : 1 ≤ times q rs = times_contained q rs has in omega arith)
      by (inr some) = inl (contained_times q rs (omega arith), inr (omega arith))

  missing_flag : (q : ℕ) → IsMissing q → is_flagged s tally.flags.items q ≡ false
  missing_flag q (known, out) = h.flags.each q known ∙ same_tests (is_placed rs q) false (λ e. absurd (out (contains_placed rs q e))) (λ e. cc)

  -- all requests are leaves
  pub least_set : All (λ flag. flag ≡ true) tally.flags.items → IsLeastOf (IsWrongLeaf s rs) tally.wrong
  least_set all =
      least_same (IsWrongSoFar s rs) (IsWrongLeaf s rs) tally.wrong wrong_leaf_from
      (λ q w. elim (wrong_leaf_split q w) [
        | inl so_far ↦ so_far
        | inr missing ↦
            let count : length tally.flags.items ≡ length (listed s) = h.flags.count in
            let known : place_of s q < length (listed s) = missing.0 in
            let bad : false ≡ true = sym (missing_flag q missing) ∙ all (place_of s q) false (omega arith) in
            cc
      ])
      h.wrong

  -- the request at a place is no leaf, and each before it is
  pub least_clear : (place : ℕ) (number : RequestNo) → IsOrderly s → IsKnown s number.0 → place_of s number.0 ≡ place
      → IsFirst (IsAt (λ flag. flag ≡ false) tally.flags.items) place → IsFirst (IsWrongLeaf s rs) (lesser tally.wrong number).0
  least_clear place number o known at ((flag, read, clear), first) =
      least_lesser (IsWrongSoFar s rs) IsMissing (IsWrongLeaf s rs) tally.wrong number wrong_leaf_from missing_wrong wrong_leaf_split h.wrong (
        (
          known,
          not_placed rs number.0 (sym (h.flags.each number.0 known) ∙ ap (λ (k : ℕ). slice_index_or tally.flags.items k false) at
              ∙ get_or_default tally.flags.items place false flag (slice_get_within tally.flags.items place flag read)
              ∙ get_or_from_slice_get tally.flags.items place flag flag read ∙ clear),
        ),
        λ j l missing.
            let below : place_of s j < place_of s number.0 = place_below s j number.0 o missing.0 known l in
            let count : length tally.flags.items ≡ length (listed s) = h.flags.count in
            let there : place_of s j < length (listed s) = missing.0 in
            first (place_of s j) (omega arith) (
              slice_index_or tally.flags.items (place_of s j) false,
              slice_get-get_or tally.flags.items (place_of s j) false (omega arith),
              missing_flag j missing,
            ),
      )
