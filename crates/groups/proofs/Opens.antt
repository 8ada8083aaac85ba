-- When an AND is placed in part, by how many of its requests are placed.
use Rattle.std.proofs.Common.{◌≡◌, ◌≢◌, ℕ, ◌+◌, ◌<◌, ◌≤◌, ◌⊎◌, inl, inr, Bool, true, false, cond, ◌==◌, List, [], ◌∷◌, length, map, slice_index_or}
use Rattle.std.proofs.Common.{filter, sum_by, Some, None, All, AllPairs, Contains, refl, sym, ◌∙◌, ap, subst, arith}
use Rattle.std.proofs.lemmas.Bool.{eqb-true, eq-eqb}
use Rattle.std.proofs.lemmas.Bool.Decides.{eqb_tells}
use Rattle.std.proofs.lemmas.List.{length-map, get_or-map, get_or_past}
use Rattle.std.proofs.lemmas.List.Elements.{All-nil, All-cons, All-filter, All-map, All-contains, Contains-get_or, filter_passes}
use Rattle.std.proofs.lemmas.List.Kept.{AllPairs-cons, AllPairs-filter}
use Rattle.std.proofs.lemmas.List.Sums.{sum_by-cons}
use Rattle.std.specs.Prelude.{HoldsAt}
use Rattle.plan_base.specs.declared.parts.Parts.{Parts}
use Rattle.plan_base.specs.declared.parts.GroupPart.{GroupPart}
use Rattle.plan_base.specs.declared.parts.Op.TheVariants.{Single, And}
use Rattle.plan_base.specs.declared.claim.Placement.{Placement}
use Rattle.plan_base.specs.Requests.{IsKnown, group_of, IsOf, IsKind, members_of, members, AllOrNone}
use Rattle.plan_base.specs.Snapshot.{IsOrderly}
use Rattle.plan_base.specs.Feasible.{requests_of, IsFeasible}
use Rattle.plan_base.specs.FeasibleSoFar.{IsFeasibleSoFar}
use Rattle.plan_base.proofs.Members.{are_members}
use Rattle.plan_base.proofs.Lists.{contains_filter, contains_map, length_among}
use Rattle.plan_base.proofs.Orders.{contains_cases, contains_first, contains_rest}
use Rattle.plan_base.proofs.Adding.{feasible_from_whole}
use Rattle.groups.specs.declared.tables.Tables.{Tables}
use Rattle.groups.specs.Building.{IsPartly, IsFirstPartly, IsPartlyPlaced, IsOpenAnd}
use Rattle.groups.specs.Tables.{same, AreTables}
use Rattle.groups.proofs.Shares.{sum_above}
use Rattle.groups.proofs.Told.{same_above}

-- the requests of the group at place g that a plan places
abbrev of_group : Parts → ℕ → List Placement → List ℕ
of_group s g plan = filter (λ r. group_of s r == g) (requests_of plan)

count_map : {X Y : Type 0} (p : Y → Bool) (f : X → Y) (xs : List X) → length (filter p (map f xs)) ≡ sum_by (λ x. cond (p (f x)) 1 0) xs
count_map p f [] = refl
count_map p f (x ∷ xs) =
    let more : sum_by (λ y. cond (p (f y)) 1 0) (x ∷ xs) ≡ cond (p (f x)) 1 0 + sum_by (λ y. cond (p (f y)) 1 0) xs =
    sum_by-cons (λ y. cond (p (f y)) 1 0) x xs in
    by_test (p (f x)) (filter p (map f xs)) ∙ ap (λ (n : ℕ). cond (p (f x)) 1 0 + n) (count_map p f xs) ∙ sym more
  where
    by_test : (b : Bool) (ys : List _) → length (cond b (f x ∷ ys) ys) ≡ cond b 1 0 + length ys
    by_test true ys = omega arith
    by_test false ys = omega arith

is_in_or_not : (r : ℕ) (xs : List ℕ) → Contains xs r ⊎ (¬ (Contains xs r))
is_in_or_not r [] = inr (λ c. omega (arith, c.1))
is_in_or_not r (x ∷ xs) = elim (eqb_tells x r) [
  | inl same ↦ inl (subst (λ (n : ℕ). Contains (x ∷ xs) n) same.1 (contains_first x xs))
  | inr other ↦ elim (is_in_or_not r xs) [
    | inl has ↦ inl (contains_rest x r xs has)
    | inr absent ↦ inr (λ c. elim (contains_cases x r xs c) [ inl e ↦ other.1 e | inr rest ↦ absent rest ])
  ]
]

-- all numbers of a list are in another, or one isn't
all_in_or_one_missing : (xs ms : List ℕ) → All (Contains xs) ms ⊎ ((r : ℕ) × Contains ms r × ¬ (Contains xs r))
all_in_or_one_missing xs [] = inl (All-nil (Contains xs))
all_in_or_one_missing xs (m ∷ ms) = elim (is_in_or_not m xs) [
  | inl has ↦ elim (all_in_or_one_missing xs ms) [
    | inl all ↦ inl (All-cons (Contains xs) m ms has all)
    | inr one ↦ inr (one.0, contains_rest m one.0 ms one.1, one.2)
  ]
  | inr absent ↦ inr (m, contains_first m ms, absent)
]

-- the members of the plan's group, and how many
module _ (s : Parts) (g : ℕ) (plan : List Placement) (o : IsOrderly s) (so_far : IsFeasibleSoFar s plan) where
  counted : length (of_group s g plan) ≡ sum_by (λ p. same (group_of s p.request.0) g) plan
  counted = count_map (λ r. group_of s r == g) (λ p. p.request.0) plan

  distinct : AllPairs (λ a b. a ≢ b) (of_group s g plan)
  distinct = AllPairs-filter (λ a b. a ≢ b) (λ r. group_of s r == g) (requests_of plan) so_far.once

  of_it : (r : ℕ) → IsOf s g r → Contains (requests_of plan) r → Contains (of_group s g plan) r
  of_it r of has = contains_filter (λ x. group_of s x == g) (requests_of plan) r has (eq-eqb (group_of s r) g of.1)

  is_member : All (Contains (members s g)) (of_group s g plan)
  is_member i d l =
      let r : ℕ = slice_index_or (of_group s g plan) i d in
      let known : All (λ x. IsKnown s x) (requests_of plan) = All-map (λ x. IsKnown s x) (λ p. p.request.0) plan (λ j e k. (so_far.possible j e k).known) in
      let mine : IsKnown s r = All-filter (λ x. group_of s x == g) (λ x. IsKnown s x) (requests_of plan) known i d l in
      let group : group_of s r ≡ g = eqb-true _ g (filter_passes (λ x. group_of s x == g) (requests_of plan) i d l) in
      (are_members s g o).complete r (mine, group)

  -- as many as the group has are all of them
  pub whole_when_all : length (members s g) ≤ sum_by (λ p. same (group_of s p.request.0) g) plan → (r : ℕ) → IsOf s g r → Contains (requests_of plan) r
  whole_when_all all r of = elim (is_in_or_not r (requests_of plan)) [
    | inl has ↦ has
    | inr absent ↦
        let fresh : All (λ x. r ≢ x) (of_group s g plan) =
        λ i d l e. absent (subst (λ (n : ℕ). Contains (requests_of plan) n) (sym e)
        (All-filter (λ x. group_of s x == g) (Contains (requests_of plan)) (requests_of plan)
        (λ j f k. Contains-get_or (requests_of plan) j f k) i d l)) in
        let among : length (r ∷ of_group s g plan) ≤ length (members s g) =
        length_among (r ∷ of_group s g plan) (members s g) (AllPairs-cons (λ a b. a ≢ b) r (of_group s g plan) fresh distinct)
        (All-cons (Contains (members s g)) r (of_group s g plan) ((are_members s g o).complete r of) is_member) in
        let count = counted in
        absurd (omega arith)
  ]

  -- none of the group is placed where so many are
  pub none_when_none : sum_by (λ p. same (group_of s p.request.0) g) plan ≡ 0 → (r : ℕ) → IsOf s g r → ¬ (Contains (requests_of plan) r)
  none_when_none none r of has =
      let there : Contains (of_group s g plan) r = of_it r of has in
      let count = counted in
      omega (arith, there.1)

  -- where some are placed and not all, one is and another isn't
  pub partly_when_between : IsKind s And g → 0 < sum_by (λ p. same (group_of s p.request.0) g) plan
      → sum_by (λ p. same (group_of s p.request.0) g) plan < length (members s g) → IsPartlyPlaced s plan g
  partly_when_between kind some less = record {
    kind = kind;
    placed =
        let one = sum_above (λ p. same (group_of s p.request.0) g) plan some in
        let known : IsKnown s one.0.request.0 = All-contains (λ p. IsKnown s p.request.0) plan one.0 (λ i d l. (so_far.possible i d l).known) one.1 in
        (one.0.request.0, (known, same_above _ g one.2), contains_map (λ p. p.request.0) plan one.0 one.1);
    missing = elim (all_in_or_one_missing (of_group s g plan) (members s g)) [
      | inl all ↦
          let among : length (members s g) ≤ length (of_group s g plan) = length_among (members s g) (of_group s g plan) (are_members s g o).once all in
          let count = counted in
          absurd (omega arith)
      | inr one ↦
          let of : IsOf s g one.0 = All-contains (IsOf s g) (members s g) one.0 (are_members s g o).members one.1 in
          (one.0, of, λ has. one.2 (of_it one.0 of has))
    ];
  }

-- how many requests the group at place g has
count_members : (s : Parts) (g : ℕ) (d : GroupPart) → g < length s.groups → length (members s g) ≡ length (slice_index_or s.groups g d).requests
count_members s g d l = ap (λ (rs : List ℕ). length rs) (get_or-map members_of s.groups g d [] l)
    ∙ length-map (slice_index_or s.groups g d).requests (λ q. q.request.0)

abbrev some_group : GroupPart
some_group = record { group = record { 0 = 0 }; op = Single; requests = []; quota = None }

-- a group that isn't placed in part by count is placed whole or not at all
whole_by_count : (s : Parts) (g : ℕ) (plan : List Placement) (t : Tables) → IsOrderly s → IsFeasibleSoFar s plan → AreTables s plan t → g < length s.groups
    → IsKind s And g → ¬ (HoldsAt (λ x. IsPartly x (slice_index_or t.members.items g 0)) s.groups g) → AllOrNone s g (requests_of plan)
whole_by_count s g plan t o so_far are l kind not_partly =
    let told : slice_index_or t.members.items g 0 ≡ sum_by (λ p. same (group_of s p.request.0) g) plan = are.members g in
    elim (three (slice_index_or t.members.items g 0) (length (members s g))) [
      | inl (inl nothing) ↦ inr (none_when_none s g plan o so_far (sym told ∙ nothing))
      | inl (inr all) ↦ inl (whole_when_all s g plan o so_far (omega arith))
      | inr between ↦ absurd (not_partly
          (λ d. record {
            kind = kind d;
            some = between.0;
            missing = let count : length (members s g) ≡ length (slice_index_or s.groups g d).requests = count_members s g d l in
                let less : slice_index_or t.members.items g 0 < length (members s g) = between.1 in omega arith;
          }))
    ]
  where
    three : (n m : ℕ) → ((n ≡ 0) ⊎ (m ≤ n)) ⊎ ((0 < n) × (n < m))
    three n m = grind arith

not_partly_when_whole : (s : Parts) (g : ℕ) (plan : List Placement) → AllOrNone s g (requests_of plan) → ¬ (IsPartlyPlaced s plan g)
not_partly_when_whole s g plan whole partly = elim whole [
  | inl all ↦ partly.missing.2 (all partly.missing.0 partly.missing.1)
  | inr none ↦ none partly.placed.0 partly.placed.1 partly.placed.2
]

kind_of_past : (s : Parts) (g : ℕ) → IsKind s And g → g < length s.groups
kind_of_past s g kind = elim (below_or_from g (length s.groups)) [
  | inl l ↦ l
  | inr past ↦ let bad : Single ≡ And = ap (λ (x : GroupPart). x.op) (sym (get_or_past s.groups g some_group past)) ∙ kind some_group in cc
]
  where
    below_or_from : (j k : ℕ) → (j < k) ⊎ (k ≤ j)
    below_or_from j k = grind arith

-- where no group is placed in part, the plan is feasible
pub feasible_when_none : (s : Parts) (plan : List Placement) (t : Tables) → IsOrderly s → IsFeasibleSoFar s plan → AreTables s plan t
    → IsFirstPartly s.groups t.members.items None → IsFeasible s plan
feasible_when_none s plan t o so_far are none =
    feasible_from_whole s plan so_far (λ g kind. let l : g < length s.groups = kind_of_past s g kind in
    whole_by_count s g plan t o so_far are l kind (none g l))

-- and else the first of them is the lowest AND that is placed in part
pub open_when_some : (s : Parts) (plan : List Placement) (t : Tables) (place number : ℕ) → IsOrderly s → IsFeasibleSoFar s plan → AreTables s plan t
    → IsFirstPartly s.groups t.members.items (Some place)
    → HoldsAt (λ x. x.group.0 ≡ number) s.groups place → IsOpenAnd s plan number
open_when_some s plan t place number o so_far are (within, partly, lowest) has_number =
    let told : slice_index_or t.members.items place 0 ≡ sum_by (λ p. same (group_of s p.request.0) place) plan = are.members place in
    let count : length (members s place) ≡ length (slice_index_or s.groups place some_group).requests = count_members s place some_group within in
    let some : 0 < slice_index_or t.members.items place 0 = (partly some_group).some in
    let missing : slice_index_or t.members.items place 0 < length (slice_index_or s.groups place some_group).requests = (partly some_group).missing in
    record {
      place = place;
      within = within;
      has_number = has_number;
      partly = partly_when_between s place plan o so_far (λ d. (partly d).kind) (omega arith) (omega arith);
      lowest = λ g less found. not_partly_when_whole s g plan (whole_by_count s g plan t o so_far are (omega arith) found.kind (lowest g less)) found;
    }
