-- What is told of a tree node by node is what its choices are.
use Rattle.std.proofs.Common.{◌≡◌, ◌≢◌, ℕ, suc, ◌+◌, ◌≤◌, ◌⊎◌, inl, inr, Bool, true, false, cond, ◌&&◌, ◌||◌, ◌==◌, nat_le, nat_lt, List, [], ◌∷◌}
use Rattle.std.proofs.Common.{◌++◌, filter, All, AllPairs, Contains, refl, sym, ap, ◌∙◌, subst, arith}
use Rattle.std.proofs.lemmas.Bool.Decides.{nat_tests}
use Rattle.std.proofs.lemmas.List.{append-nil}
use Rattle.std.proofs.lemmas.List.Elements.{All-head, All-tail, All-contains, Contains-append_left, Contains-append_right, filter-append}
use Rattle.plan_base.specs.declared.parts.Parts.{Parts}
use Rattle.plan_base.specs.declared.claim.Placement.{Placement}
use Rattle.plan_base.specs.Requests.{IsKnown}
use Rattle.plan_base.specs.Feasible.{requests_of}
use Rattle.group_trees.specs.Trees.{Node, leaf, many, one_of, all_of, Nodes, none, and_then}
use Rattle.group_trees.specs.Choices.{leaves, all_leaves, IsTreeChoice, IsUnion, IsOfOne, IsWhole}
use Rattle.group_trees.specs.Plans.{is_placed, IsAllowed}
use Rattle.group_trees.specs.Standings.{node_count, is_touched, touched_count, keeps, all_keep, is_flagged, AreFlags}
use Rattle.group_trees.proofs.Shares.{filter_contained}
use Rattle.group_trees.proofs.Apart.{pairs_left, pairs_right, apart, parts_same, no_elements, append_empty_left, append_empty_right}
use Rattle.group_trees.proofs.Choices.{no_choice, choice_among, union_among, one_among, whole_among}

-- ---- booleans and counts

and_left : (a b : Bool) → (a && b) ≡ true → a ≡ true
and_left true b h = refl
and_left false b h = h

and_right : (a b : Bool) → (a && b) ≡ true → b ≡ true
and_right true b h = h
and_right false b h = cc

and_both : (a b : Bool) → a ≡ true → b ≡ true → (a && b) ≡ true
and_both true b h g = g
and_both false b h g = h

or_cases : (a b : Bool) → (a || b) ≡ true → (a ≡ true) ⊎ (b ≡ true)
or_cases true b h = inl refl
or_cases false b h = inr h

or_left : (a b : Bool) → a ≡ true → (a || b) ≡ true
or_left true b h = refl
or_left false b h = cc

or_right : (a b : Bool) → b ≡ true → (a || b) ≡ true
or_right true b h = refl
or_right false b h = h

true_or_false : (b : Bool) → (b ≡ true) ⊎ (b ≡ false)
true_or_false true = inl refl
true_or_false false = inr refl

none_from_test : (n : ℕ) → nat_lt 0 n ≡ false → n ≡ 0
none_from_test n h = grind (arith, nat_tests)

some_from_test : (n : ℕ) → nat_lt 0 n ≡ true → 1 ≤ n
some_from_test n h = grind (arith, nat_tests)

few_from_test : (n : ℕ) → nat_le n 1 ≡ true → (n ≡ 0) ⊎ (n ≡ 1)
few_from_test n h = few n (most n h)
  where
    most : (n : ℕ) → nat_le n 1 ≡ true → n ≤ 1
    most n h = grind (arith, nat_tests)

    few : (n : ℕ) → n ≤ 1 → (n ≡ 0) ⊎ (n ≡ 1)
    few n l = grind arith

test_from_few : (n : ℕ) → n ≤ 1 → nat_le n 1 ≡ true
test_from_few n l = grind (arith, nat_tests)

same_from_test : (a b : ℕ) → (a == b) ≡ true → a ≡ b
same_from_test a b h = grind (arith, nat_tests)

test_from_same : (a b : ℕ) → a ≡ b → (a == b) ≡ true
test_from_same a b h = grind (arith, nat_tests)

first_none : (b : Bool) (n : ℕ) → cond b 1 0 + n ≡ 0 → b ≡ false
first_none true n e = absurd (omega arith)
first_none false n e = refl

rest_none : (b : Bool) (n : ℕ) → cond b 1 0 + n ≡ 0 → n ≡ 0
rest_none true n e = absurd (omega arith)
rest_none false n e = omega arith

one_of_two : (b : Bool) (n : ℕ) → cond b 1 0 + n ≡ 1 → ((b ≡ true) × (n ≡ 0)) ⊎ ((b ≡ false) × (n ≡ 1))
one_of_two true n e = inl (refl, omega arith)
one_of_two false n e = inr (refl, omega arith)

all_of_them : (b : Bool) (n m : ℕ) → n ≤ m → cond b 1 0 + n ≡ suc m → (b ≡ true) × (n ≡ m)
all_of_them true n m l e = (refl, omega arith)
all_of_them false n m l e = absurd (omega arith)

one_more : (b : Bool) (n m : ℕ) → n ≤ m → cond b 1 0 + n ≤ suc m
one_more true n m l = omega arith
one_more false n m l = omega arith

pub touched_most : (p : ℕ → Bool) (ts : Nodes) → touched_count p ts ≤ node_count ts
touched_most p none = omega arith
touched_most p (and_then t ts) = one_more (is_touched p t) (touched_count p ts) (node_count ts) (touched_most p ts)

-- ---- what is touched

leaf_out : (b : Bool) (r : ℕ) → b ≡ false → cond b (r ∷ []) [] ≡ []
leaf_out true r e = cc
leaf_out false r e = refl

leaf_in : (b : Bool) (r : ℕ) → b ≡ true → cond b (r ∷ []) [] ≢ []
leaf_in true r e = λ f. cc
leaf_in false r e = cc

empty_both : (zs xs ys : List ℕ) → zs ≡ xs ++ ys → xs ≡ [] → ys ≡ [] → zs ≡ []
empty_both zs xs ys e f g = e ∙ ap (λ (us : List ℕ). us ++ ys) f ∙ g

-- where nothing of it is touched, none of its leaves passes
mutual
  pub untouched : (p : ℕ → Bool) (t : Node) → is_touched p t ≡ false → filter p (leaves t) ≡ []
  untouched p (leaf r) e = leaf_out (p r) r e
  untouched p (many ts) e = none_touched p ts (none_from_test (touched_count p ts) e)
  untouched p (one_of ts) e = none_touched p ts (none_from_test (touched_count p ts) e)
  untouched p (all_of ts) e = none_touched p ts (none_from_test (touched_count p ts) e)

  pub none_touched : (p : ℕ → Bool) (ts : Nodes) → touched_count p ts ≡ 0 → filter p (all_leaves ts) ≡ []
  none_touched p none e = refl
  none_touched p (and_then t ts) e =
      empty_both (filter p (leaves t ++ all_leaves ts)) (filter p (leaves t)) (filter p (all_leaves ts)) (filter-append p (leaves t) (all_leaves ts))
      (untouched p t (first_none (is_touched p t) (touched_count p ts) e)) (none_touched p ts (rest_none (is_touched p t) (touched_count p ts) e))

some_of_two : (b : Bool) (n : ℕ) (zs xs ys : List ℕ) → zs ≡ xs ++ ys → 1 ≤ cond b 1 0 + n → (b ≡ true → xs ≢ []) → (1 ≤ n → ys ≢ []) → zs ≢ []
some_of_two true n zs xs ys e l f g = λ empty. f refl (append_empty_left xs ys (sym e ∙ empty))
some_of_two false n zs xs ys e l f g = λ empty. g (omega arith) (append_empty_right xs ys (sym e ∙ empty))

mutual
  pub touched : (p : ℕ → Bool) (t : Node) → is_touched p t ≡ true → filter p (leaves t) ≢ []
  touched p (leaf r) e = leaf_in (p r) r e
  touched p (many ts) e = some_touched p ts (some_from_test (touched_count p ts) e)
  touched p (one_of ts) e = some_touched p ts (some_from_test (touched_count p ts) e)
  touched p (all_of ts) e = some_touched p ts (some_from_test (touched_count p ts) e)

  pub some_touched : (p : ℕ → Bool) (ts : Nodes) → 1 ≤ touched_count p ts → filter p (all_leaves ts) ≢ []
  some_touched p none l = absurd (omega arith)
  some_touched p (and_then t ts) l =
      some_of_two (is_touched p t) (touched_count p ts) (filter p (leaves t ++ all_leaves ts)) (filter p (leaves t)) (filter p (all_leaves ts))
      (filter-append p (leaves t) (all_leaves ts)) l
      (touched p t) (some_touched p ts)

not_touched : (p : ℕ → Bool) (t : Node) → filter p (leaves t) ≡ [] → is_touched p t ≡ false
not_touched p t e = elim (true_or_false (is_touched p t)) [ inl is ↦ absurd (touched p t is e) | inr not ↦ not ]

is_touched_when : (p : ℕ → Bool) (t : Node) → filter p (leaves t) ≢ [] → is_touched p t ≡ true
is_touched_when p t some = elim (true_or_false (is_touched p t)) [ inl is ↦ is | inr not ↦ absurd (some (untouched p t not)) ]

zero_or_some : (n : ℕ) → (n ≡ 0) ⊎ (1 ≤ n)
zero_or_some n = grind arith

count_none : (p : ℕ → Bool) (ts : Nodes) → filter p (all_leaves ts) ≡ [] → touched_count p ts ≡ 0
count_none p ts e = elim (zero_or_some (touched_count p ts)) [ inl not ↦ not | inr is ↦ absurd (some_touched p ts is e) ]

-- ---- what is kept is a choice

leaf_choice : (b : Bool) (r : ℕ) → (cond b (r ∷ []) [] ≡ []) ⊎ (cond b (r ∷ []) [] ≡ r ∷ [])
leaf_choice true r = inr refl
leaf_choice false r = inl refl

left_alone : (P : List ℕ → Type 0) (zs xs ys : List ℕ) → zs ≡ xs ++ ys → ys ≡ [] → P xs → P zs
left_alone P zs xs ys e f h = subst P (sym (e ∙ ap (λ (us : List ℕ). xs ++ us) f ∙ append-nil xs)) h

right_alone : (P : List ℕ → Type 0) (zs xs ys : List ℕ) → zs ≡ xs ++ ys → xs ≡ [] → P ys → P zs
right_alone P zs xs ys e f h = subst P (sym (e ∙ ap (λ (us : List ℕ). us ++ ys) f)) h

one_choice : (t : Node) (ts : Nodes) (b : Bool) (n : ℕ) (zs xs ys : List ℕ) → zs ≡ xs ++ ys → cond b 1 0 + n ≡ 1 → (b ≡ false → xs ≡ [])
    → (n ≡ 0 → ys ≡ []) → IsTreeChoice t xs → (n ≡ 1 → IsOfOne ts ys) → IsOfOne (and_then t ts) zs
one_choice t ts b n zs xs ys e count out rest_out here there = elim (one_of_two b n count) [
  | inl first ↦ inl (left_alone (IsTreeChoice t) zs xs ys e (rest_out first.1) here)
  | inr rest ↦ inr (right_alone (IsOfOne ts) zs xs ys e (out rest.0) (there rest.1))
]

some_or_none : (ts : Nodes) (n : ℕ) (zs : List ℕ) (Q : Type 0) → nat_le n 1 ≡ true → (n ≡ 0 → zs ≡ []) → (n ≡ 1 → Q) → (zs ≡ []) ⊎ Q
some_or_none ts n zs Q test empty one = elim (few_from_test n test) [ inl e ↦ inl (empty e) | inr e ↦ inr (one e) ]

all_or_none : (n m : ℕ) (zs : List ℕ) (Q : Type 0) → ((n == 0) || (n == m)) ≡ true → (n ≡ 0 → zs ≡ []) → (n ≡ m → Q) → (zs ≡ []) ⊎ Q
all_or_none n m zs Q test empty all =
    elim (or_cases (n == 0) (n == m) test) [ inl e ↦ inl (empty (same_from_test n 0 e)) | inr e ↦ inr (all (same_from_test n m e)) ]

mutual
  pub kept_choice : (p : ℕ → Bool) (t : Node) → keeps p t ≡ true → IsTreeChoice t (filter p (leaves t))
  kept_choice p (leaf r) e = leaf_choice (p r) r
  kept_choice p (many ts) e = kept_union p ts e
  kept_choice p (one_of ts) e =
      some_or_none ts (touched_count p ts) (filter p (all_leaves ts)) (IsOfOne ts (filter p (all_leaves ts)))
      (and_right (all_keep p ts) (nat_le (touched_count p ts) 1) e)
      (none_touched p ts) (kept_one p ts (and_left (all_keep p ts) (nat_le (touched_count p ts) 1) e))
  kept_choice p (all_of ts) e =
      all_or_none (touched_count p ts) (node_count ts) (filter p (all_leaves ts)) (IsWhole ts (filter p (all_leaves ts)))
      (and_right (all_keep p ts) ((touched_count p ts == 0) || (touched_count p ts == node_count ts)) e)
      (none_touched p ts) (kept_whole p ts (and_left (all_keep p ts) ((touched_count p ts == 0) || (touched_count p ts == node_count ts)) e))

  kept_union : (p : ℕ → Bool) (ts : Nodes) → all_keep p ts ≡ true → IsUnion ts (filter p (all_leaves ts))
  kept_union p none e = refl
  kept_union p (and_then t ts) e = (
    filter p (leaves t),
    filter p (all_leaves ts),
    filter-append p (leaves t) (all_leaves ts),
    kept_choice p t (and_left (keeps p t) (all_keep p ts) e),
    kept_union p ts (and_right (keeps p t) (all_keep p ts) e),
  )

  kept_one : (p : ℕ → Bool) (ts : Nodes) → all_keep p ts ≡ true → touched_count p ts ≡ 1 → IsOfOne ts (filter p (all_leaves ts))
  kept_one p none e count = omega arith
  kept_one p (and_then t ts) e count =
      one_choice t ts (is_touched p t) (touched_count p ts) (filter p (leaves t ++ all_leaves ts)) (filter p (leaves t)) (filter p (all_leaves ts))
      (filter-append p (leaves t) (all_leaves ts)) count
      (untouched p t) (none_touched p ts) (kept_choice p t (and_left (keeps p t) (all_keep p ts) e)) (kept_one p ts (and_right (keeps p t) (all_keep p ts) e))

  kept_whole : (p : ℕ → Bool) (ts : Nodes) → all_keep p ts ≡ true → touched_count p ts ≡ node_count ts → IsWhole ts (filter p (all_leaves ts))
  kept_whole p none e count = refl
  kept_whole p (and_then t ts) e count = (
    filter p (leaves t),
    filter p (all_leaves ts),
    filter-append p (leaves t) (all_leaves ts),
    touched p t (all_of_them (is_touched p t) (touched_count p ts) (node_count ts) (touched_most p ts) count).0,
    kept_choice p t (and_left (keeps p t) (all_keep p ts) e),
    kept_whole p ts (and_right (keeps p t) (all_keep p ts) e) (all_of_them (is_touched p t) (touched_count p ts) (node_count ts) (touched_most p ts) count).1,
  )

-- ---- a choice is kept

abbrev Apart : List ℕ → Type 0
Apart xs = AllPairs (λ a b. a ≢ b) xs

kept_within : (p : ℕ → Bool) (xs : List ℕ) (r : ℕ) → Contains (filter p xs) r → Contains xs r
kept_within p xs r c = (filter_contained p xs r c).1

same_parts : (p : ℕ → Bool) (xs ys first rest : List ℕ) → Apart (xs ++ ys) → filter p (xs ++ ys) ≡ first ++ rest → All (Contains xs) first
    → All (Contains ys) rest → (filter p xs ≡ first) × (filter p ys ≡ rest)
same_parts p xs ys first rest d e a b =
    parts_same (filter p xs) (filter p ys) first rest (sym (filter-append p xs ys) ∙ e)
    (λ r here there. apart xs ys r d (kept_within p xs r here) (All-contains (Contains ys) rest r b there))
    (λ r here there. apart xs ys r d (All-contains (Contains xs) first r a here) (kept_within p ys r there))

-- what is all in one part has nothing of the other
only_left : (p : ℕ → Bool) (xs ys : List ℕ) → Apart (xs ++ ys) → All (Contains xs) (filter p (xs ++ ys)) → filter p ys ≡ []
only_left p xs ys d a =
    no_elements (filter p ys)
    (λ r c. apart xs ys r d (All-contains (Contains xs) (filter p (xs ++ ys)) r a
    (subst (λ (zs : List ℕ). Contains zs r) (sym (filter-append p xs ys)) (Contains-append_right (filter p xs) (filter p ys) r c)))
    (kept_within p ys r c))

only_right : (p : ℕ → Bool) (xs ys : List ℕ) → Apart (xs ++ ys) → All (Contains ys) (filter p (xs ++ ys)) → filter p xs ≡ []
only_right p xs ys d a =
    no_elements (filter p xs)
    (λ r c. apart xs ys r d (kept_within p xs r c)
    (All-contains (Contains ys) (filter p (xs ++ ys)) r a
    (subst (λ (zs : List ℕ). Contains zs r) (sym (filter-append p xs ys)) (Contains-append_left (filter p xs) (filter p ys) r c))))

empty_left : (p : ℕ → Bool) (xs ys : List ℕ) → filter p (xs ++ ys) ≡ [] → filter p xs ≡ []
empty_left p xs ys e = append_empty_left (filter p xs) (filter p ys) (sym (filter-append p xs ys) ∙ e)

empty_right : (p : ℕ → Bool) (xs ys : List ℕ) → filter p (xs ++ ys) ≡ [] → filter p ys ≡ []
empty_right p xs ys e = append_empty_right (filter p xs) (filter p ys) (sym (filter-append p xs ys) ∙ e)

without_right : (p : ℕ → Bool) (xs ys : List ℕ) → filter p ys ≡ [] → filter p (xs ++ ys) ≡ filter p xs
without_right p xs ys e = filter-append p xs ys ∙ ap (λ (us : List ℕ). filter p xs ++ us) e ∙ append-nil (filter p xs)

without_left : (p : ℕ → Bool) (xs ys : List ℕ) → filter p xs ≡ [] → filter p (xs ++ ys) ≡ filter p ys
without_left p xs ys e = filter-append p xs ys ∙ ap (λ (us : List ℕ). us ++ filter p ys) e

few_first : (b : Bool) (n : ℕ) → n ≡ 0 → cond b 1 0 + n ≤ 1
few_first true n e = omega arith
few_first false n e = omega arith

few_rest : (b : Bool) (n : ℕ) → b ≡ false → n ≤ 1 → cond b 1 0 + n ≤ 1
few_rest true n e l = cc
few_rest false n e l = omega arith

all_more : (b : Bool) (n m : ℕ) → b ≡ true → n ≡ m → cond b 1 0 + n ≡ suc m
all_more true n m e f = omega arith
all_more false n m e f = cc

-- what is kept of nodes, and how many are touched
mutual
  pub choice_kept : (p : ℕ → Bool) (t : Node) → Apart (leaves t) → IsTreeChoice t (filter p (leaves t)) → keeps p t ≡ true
  choice_kept p (leaf r) d h = refl
  choice_kept p (many ts) d h = union_kept p ts d h
  choice_kept p (one_of ts) d (inl e) = and_both (all_keep p ts) (nat_le (touched_count p ts) 1) (empty_kept p ts d e)
      (test_from_few (touched_count p ts) (let untouched_all : touched_count p ts ≡ 0 = count_none p ts e in omega arith))
  choice_kept p (one_of ts) d (inr h) = let one = one_kept p ts d h in
      and_both (all_keep p ts) (nat_le (touched_count p ts) 1) one.0 (test_from_few (touched_count p ts) one.1)
  choice_kept p (all_of ts) d (inl e) =
      and_both (all_keep p ts) ((touched_count p ts == 0) || (touched_count p ts == node_count ts)) (empty_kept p ts d e)
      (or_left (touched_count p ts == 0) (touched_count p ts == node_count ts) (test_from_same (touched_count p ts) 0 (count_none p ts e)))
  choice_kept p (all_of ts) d (inr h) =
      let whole = whole_kept p ts d h in
      and_both (all_keep p ts) ((touched_count p ts == 0) || (touched_count p ts == node_count ts)) whole.0
      (or_right (touched_count p ts == 0) (touched_count p ts == node_count ts) (test_from_same (touched_count p ts) (node_count ts) whole.1))

  empty_kept : (p : ℕ → Bool) (ts : Nodes) → Apart (all_leaves ts) → filter p (all_leaves ts) ≡ [] → all_keep p ts ≡ true
  empty_kept p none d e = refl
  empty_kept p (and_then t ts) d e =
      and_both (keeps p t) (all_keep p ts)
      (choice_kept p t (pairs_left (leaves t) (all_leaves ts) d) (subst (IsTreeChoice t) (sym (empty_left p (leaves t) (all_leaves ts) e)) (no_choice t)))
      (empty_kept p ts (pairs_right (leaves t) (all_leaves ts) d) (empty_right p (leaves t) (all_leaves ts) e))

  union_kept : (p : ℕ → Bool) (ts : Nodes) → Apart (all_leaves ts) → IsUnion ts (filter p (all_leaves ts)) → all_keep p ts ≡ true
  union_kept p none d h = refl
  union_kept p (and_then t ts) d (first, rest, e, a, b) =
      let same = same_parts p (leaves t) (all_leaves ts) first rest d e (choice_among t first a) (union_among ts rest b) in
      and_both (keeps p t) (all_keep p ts)
      (choice_kept p t (pairs_left (leaves t) (all_leaves ts) d) (subst (IsTreeChoice t) (sym same.0) a))
      (union_kept p ts (pairs_right (leaves t) (all_leaves ts) d) (subst (IsUnion ts) (sym same.1) b))

  one_kept : (p : ℕ → Bool) (ts : Nodes) → Apart (all_leaves ts) → IsOfOne ts (filter p (all_leaves ts)) → (all_keep p ts ≡ true) × (touched_count p ts ≤ 1)
  one_kept p none d h = absurd h
  one_kept p (and_then t ts) d (inl a) =
      let out : filter p (all_leaves ts) ≡ [] = only_left p (leaves t) (all_leaves ts) d (choice_among t (filter p (leaves t ++ all_leaves ts)) a) in (
        and_both (keeps p t) (all_keep p ts)
            (choice_kept p t (pairs_left (leaves t) (all_leaves ts) d) (subst (IsTreeChoice t) (without_right p (leaves t) (all_leaves ts) out) a))
            (empty_kept p ts (pairs_right (leaves t) (all_leaves ts) d) out),
        few_first (is_touched p t) (touched_count p ts) (count_none p ts out),
      )
  one_kept p (and_then t ts) d (inr b) =
      let out : filter p (leaves t) ≡ [] = only_right p (leaves t) (all_leaves ts) d (one_among ts (filter p (leaves t ++ all_leaves ts)) b) in
      let rest = one_kept p ts (pairs_right (leaves t) (all_leaves ts) d) (subst (IsOfOne ts) (without_left p (leaves t) (all_leaves ts) out) b) in (
        and_both (keeps p t) (all_keep p ts)
            (choice_kept p t (pairs_left (leaves t) (all_leaves ts) d) (subst (IsTreeChoice t) (sym out) (no_choice t))) rest.0,
        few_rest (is_touched p t) (touched_count p ts) (not_touched p t out) rest.1,
      )

  whole_kept : (p : ℕ → Bool) (ts : Nodes) → Apart (all_leaves ts) → IsWhole ts (filter p (all_leaves ts)) → (all_keep p ts ≡ true)
      × (touched_count p ts ≡ node_count ts)
  whole_kept p none d h = (refl, refl)
  whole_kept p (and_then t ts) d (first, rest, e, some, a, b) =
      let same = same_parts p (leaves t) (all_leaves ts) first rest d e (choice_among t first a) (whole_among ts rest b) in
      let more = whole_kept p ts (pairs_right (leaves t) (all_leaves ts) d) (subst (IsWhole ts) (sym same.1) b) in (
        and_both (keeps p t) (all_keep p ts) (choice_kept p t (pairs_left (leaves t) (all_leaves ts) d) (subst (IsTreeChoice t) (sym same.0) a)) more.0,
        all_more (is_touched p t) (touched_count p ts) (node_count ts) (is_touched_when p t (λ empty. some (sym same.0 ∙ empty))) more.1,
      )

-- ---- flags tell what is placed

cond_same : (a b : Bool) (x : ℕ) (xs ys : List ℕ) → a ≡ b → xs ≡ ys → cond a (x ∷ xs) xs ≡ cond b (x ∷ ys) ys
cond_same a b x xs ys e f = ap (λ (t : Bool). cond t (x ∷ xs) xs) e ∙ ap (λ (l : List ℕ). cond b (x ∷ l) l) f

filter_same : (p q : ℕ → Bool) (xs : List ℕ) → All (λ r. p r ≡ q r) xs → filter p xs ≡ filter q xs
filter_same p q [] h = refl
filter_same p q (x ∷ xs) h = cond_same (p x) (q x) x (filter p xs) (filter q xs) (All-head (λ r. p r ≡ q r) x xs h)
    (filter_same p q xs (All-tail (λ r. p r ≡ q r) x xs h))

flags_agree : (s : Parts) (rs : List ℕ) (flags : List Bool) (t : Node) → AreFlags s rs flags → All (IsKnown s) (leaves t)
    → filter (is_flagged s flags) (leaves t) ≡ filter (is_placed rs) (leaves t)
flags_agree s rs flags t are known = filter_same (is_flagged s flags) (is_placed rs) (leaves t) (λ i d l. are.each _ (known i d l))

pub allowed_when : (s : Parts) (plan : List Placement) (flags : List Bool) (t : Node) → AreFlags s (requests_of plan) flags
    → All (IsKnown s) (leaves t) → keeps (is_flagged s flags) t ≡ true → IsAllowed plan t
allowed_when s plan flags t are known e = subst (IsTreeChoice t) (flags_agree s (requests_of plan) flags t are known) (kept_choice (is_flagged s flags) t e)

pub refused_when : (s : Parts) (plan : List Placement) (flags : List Bool) (t : Node) → AreFlags s (requests_of plan) flags
    → All (IsKnown s) (leaves t) → AllPairs (λ a b. a ≢ b) (leaves t) → keeps (is_flagged s flags) t ≡ false → ¬ (IsAllowed plan t)
refused_when s plan flags t are known once e allowed =
    let kept : keeps (is_flagged s flags) t ≡ true =
    choice_kept (is_flagged s flags) t once (subst (IsTreeChoice t) (sym (flags_agree s (requests_of plan) flags t are known)) allowed) in
    let bad : false ≡ true = sym e ∙ kept in
    cc
