-- When an AND is placed whole, in part or not at all, by how many of its requests are placed.
use Rattle.std.proofs.Common.{◌≡◌, ◌≢◌, ℕ, ◌+◌, ◌<◌, ◌≤◌, ◌⊎◌, inl, inr, Bool, true, false, cond, ◌==◌, List, [], ◌∷◌, length, map, filter, slice_get}
use Rattle.std.proofs.Common.{slice_index_or, Some, count_by, All, AllPairs, Contains, refl, sym, ◌∙◌, ap, subst, arith}
use Rattle.std.proofs.lemmas.Bool.{eqb-true, eq-eqb}
use Rattle.std.proofs.lemmas.Bool.Decides.{eqb_tells}
use Rattle.std.proofs.lemmas.Option.{slice_get-get_or, get_or_from_slice_get, slice_get_within}
use Rattle.std.proofs.lemmas.List.{length-map, get_or-map}
use Rattle.std.proofs.lemmas.List.Sums.{sum_by-cons, length-filter}
use Rattle.std.proofs.lemmas.List.Elements.{All-nil, All-cons, All-map, All-filter, All-contains, Contains-get_or, filter_passes}
use Rattle.std.proofs.lemmas.List.Kept.{AllPairs-cons, AllPairs-filter}
use Rattle.plan_base.specs.declared.parts.Parts.{Parts}
use Rattle.plan_base.specs.declared.parts.GroupPart.{GroupPart}
use Rattle.plan_base.specs.declared.parts.Op.TheVariants.{And}
use Rattle.plan_base.specs.declared.claim.Placement.{Placement}
use Rattle.plan_base.specs.Requests.{IsKnown, group_of, IsOf, IsKind, members, members_of, AllOrNone}
use Rattle.plan_base.specs.Snapshot.{IsOrderly}
use Rattle.plan_base.specs.Feasible.{requests_of, IsEachOnce, IsAndWhole}
use Rattle.plan_base.specs.Verdict.{IsPartialAt}
use Rattle.plan_base.proofs.Members.{are_members}
use Rattle.plan_base.proofs.Lists.{contains_filter, length_among}
use Rattle.plan_base.proofs.Orders.{contains_cases, contains_first, contains_rest}
use Rattle.bound_checker.specs.Claims.{IsEachKnown, placed_in, AreGroupCounts, IsPartial, HoldsOfGroup}
use Rattle.bound_checker.proofs.GroupCounts.{some_group, kind_within, kind_of}

is_in_or_not : (r : ℕ) (xs : List ℕ) → Contains xs r ⊎ (¬ (Contains xs r))
is_in_or_not r [] = inr (λ c. omega (arith, c.1))
is_in_or_not r (x ∷ xs) = elim (eqb_tells x r) [
  | inl same ↦ inl (subst (λ (n : ℕ). Contains (x ∷ xs) n) same.1 (contains_first x xs))
  | inr other ↦ elim (is_in_or_not r xs) [
    | inl has ↦ inl (contains_rest x r xs has)
    | inr absent ↦ inr (λ c. elim (contains_cases x r xs c) [ inl e ↦ other.1 e | inr rest ↦ absent rest ])
  ]
]

-- all numbers of a list are in another, or one isn't
all_in_or_one_missing : (xs ms : List ℕ) → All (Contains xs) ms ⊎ ((r : ℕ) × Contains ms r × ¬ (Contains xs r))
all_in_or_one_missing xs [] = inl (All-nil (Contains xs))
all_in_or_one_missing xs (m ∷ ms) = elim (is_in_or_not m xs) [
  | inl has ↦ elim (all_in_or_one_missing xs ms) [
    | inl all ↦ inl (All-cons (Contains xs) m ms has all)
    | inr one ↦ inr (one.0, contains_rest m one.0 ms one.1, one.2)
  ]
  | inr absent ↦ inr (m, contains_first m ms, absent)
]

-- a list that isn't empty has a first element
first_in : (xs : List ℕ) → 0 < length xs → (r : ℕ) × Contains xs r
first_in [] l = absurd (omega arith)
first_in (x ∷ xs) l = (x, contains_first x xs)

some_in : (xs : List ℕ) (r : ℕ) → Contains xs r → 0 < length xs
some_in xs r c = omega (arith, c.1)

count_map : {X Y : Type 0} (p : Y → Bool) (f : X → Y) (xs : List X) → count_by p (map f xs) ≡ count_by (λ x. p (f x)) xs
count_map p f [] = refl
count_map p f (x ∷ xs) =
    sum_by-cons (λ y. cond (p y) 1 0) (f x) (map f xs) ∙ ap (λ (n : ℕ). cond {A = ℕ} (p (f x)) 1 0 + n) (count_map p f xs)
    ∙ sym (sum_by-cons (λ y. cond (p (f y)) 1 0) x xs)

three : (n m : ℕ) → ((n ≡ 0) ⊎ (m ≤ n)) ⊎ ((0 < n) × (n < m))
three n m = grind arith

module _ (s : Parts) (plan : List Placement) (counts : List ℕ) (o : IsOrderly s) (known : IsEachKnown s plan) (once : IsEachOnce plan)
    (are : AreGroupCounts s plan counts) where
  -- the requests of the group at place g that the plan places
  abbrev of_group : ℕ → List ℕ
  of_group g = filter (λ r. group_of s r == g) (requests_of plan)

  counted : (g : ℕ) → length (of_group g) ≡ slice_index_or counts g 0
  counted g = length-filter (λ r. group_of s r == g) (requests_of plan) ∙ count_map (λ r. group_of s r == g) (λ p. p.request.0) plan ∙ sym (are.each g)

  distinct : (g : ℕ) → AllPairs (λ a b. a ≢ b) (of_group g)
  distinct g = AllPairs-filter (λ a b. a ≢ b) (λ r. group_of s r == g) (requests_of plan) once

  placed_of : (g r : ℕ) → IsOf s g r → Contains (requests_of plan) r → Contains (of_group g) r
  placed_of g r of has = contains_filter (λ x. group_of s x == g) (requests_of plan) r has (eq-eqb (group_of s r) g of.1)

  of_placed : (g : ℕ) → All (λ r. IsOf s g r × Contains (requests_of plan) r) (of_group g)
  of_placed g i d l =
      let r : ℕ = slice_index_or (of_group g) i d in
      let each : All (λ x. IsKnown s x) (requests_of plan) = All-map (λ x. IsKnown s x) (λ p. p.request.0) plan known in
      let mine : IsKnown s r = All-filter (λ x. group_of s x == g) (λ x. IsKnown s x) (requests_of plan) each i d l in
      let has : Contains (requests_of plan) r = All-filter (λ x. group_of s x == g) (Contains (requests_of plan)) (requests_of plan)
      (λ j f k. Contains-get_or (requests_of plan) j f k) i d l in
      ((mine, eqb-true _ g (filter_passes (λ x. group_of s x == g) (requests_of plan) i d l)), has)

  is_member : (g : ℕ) → All (Contains (members s g)) (of_group g)
  is_member g i d l = (are_members s g o).complete _ (of_placed g i d l).0

  -- with a request that isn't placed the group has more than are placed
  one_more : (g r : ℕ) → IsOf s g r → ¬ (Contains (requests_of plan) r) → length (of_group g) < length (members s g)
  one_more g r of absent =
      let fresh : All (λ x. r ≢ x) (of_group g) = λ i d l e. absent (subst (λ (n : ℕ). Contains (requests_of plan) n) (sym e) (of_placed g i d l).1) in
      let among : length (r ∷ of_group g) ≤ length (members s g) =
      length_among (r ∷ of_group g) (members s g) (AllPairs-cons (λ a b. a ≢ b) r (of_group g) fresh (distinct g))
      (All-cons (Contains (members s g)) r (of_group g) ((are_members s g o).complete r of) (is_member g)) in
      omega arith

  count_members : (g : ℕ) (d : GroupPart) → g < length s.groups → length (members s g) ≡ length (slice_index_or s.groups g d).requests
  count_members g d l = ap (λ (rs : List ℕ). length rs) (get_or-map members_of s.groups g d [] l)
      ∙ length-map (slice_index_or s.groups g d).requests (λ q. q.request.0)

  partial_between : (g : ℕ) → IsKind s And g → 0 < slice_index_or counts g 0 → slice_index_or counts g 0 < length (members s g)
      → IsPartialAt s (requests_of plan) g
  partial_between g kind some less =
      let count : length (of_group g) ≡ slice_index_or counts g 0 = counted g in
      let one : (r : ℕ) × Contains (of_group g) r = first_in (of_group g) (omega arith) in
      let placed : IsOf s g one.0 × Contains (requests_of plan) one.0 =
      All-contains (λ r. IsOf s g r × Contains (requests_of plan) r) (of_group g) one.0 (of_placed g) one.1 in
      elim (all_in_or_one_missing (of_group g) (members s g)) [
        | inl all ↦
            let among : length (members s g) ≤ length (of_group g) = length_among (members s g) (of_group g) (are_members s g o).once all in
            absurd (omega arith)
        | inr missing ↦
            let of : IsOf s g missing.0 = All-contains (IsOf s g) (members s g) missing.0 (are_members s g o).members missing.1 in
            (kind, one.0, missing.0, placed.0, of, placed.1, λ has. missing.2 (placed_of g missing.0 of has))
      ]

  pub partial_at : (g : ℕ) → HoldsOfGroup IsPartial s.groups counts g → IsPartialAt s (requests_of plan) g
  partial_at g (x, here, (is_and, some, less)) =
      let within : g < length s.groups = slice_get_within s.groups g x here in
      let same : slice_index_or s.groups g x ≡ x = get_or_from_slice_get s.groups g x x here in
      let count : length (members s g) ≡ length x.requests = count_members g x within ∙ ap (λ (y : GroupPart). length y.requests) same in
      partial_between g (kind_of s And g x here is_and) some (omega arith)

  pub at_partial : (g : ℕ) → IsPartialAt s (requests_of plan) g → HoldsOfGroup IsPartial s.groups counts g
  at_partial g (kind, a, b, of_a, of_b, placed, absent) =
      let within : g < length s.groups = kind_within s And g (λ bad. cc) kind in
      let count : length (of_group g) ≡ slice_index_or counts g 0 = counted g in
      let some : 0 < length (of_group g) = some_in (of_group g) a (placed_of g a of_a placed) in
      let less : length (of_group g) < length (members s g) = one_more g b of_b absent in
      let all : length (members s g) ≡ length (slice_index_or s.groups g some_group).requests = count_members g some_group within in
      (slice_index_or s.groups g some_group, slice_get-get_or s.groups g some_group within, (kind some_group, omega arith, omega arith))

  -- where no AND is placed in part, each is placed whole or not at all
  pub and_whole : ((g : ℕ) → ¬ (HoldsOfGroup IsPartial s.groups counts g)) → IsAndWhole s plan
  and_whole none g kind =
      let count : length (of_group g) ≡ slice_index_or counts g 0 = counted g in
      elim (three (length (of_group g)) (length (members s g))) [
        | inl (inl nothing) ↦ inr (λ r of has. let some : 0 < length (of_group g) = some_in (of_group g) r (placed_of g r of has) in omega arith)
        | inl (inr all) ↦ inl (λ r of. elim (is_in_or_not r (requests_of plan)) [
          | inl has ↦ has
          | inr absent ↦ let less : length (of_group g) < length (members s g) = one_more g r of absent in absurd (omega arith)
        ])
        | inr between ↦ absurd (none g (at_partial g (partial_between g kind (omega (arith, between.0)) (omega (arith, between.1)))))
      ]
