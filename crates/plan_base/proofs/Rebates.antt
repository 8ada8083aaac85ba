-- What the rebate of a group of each kind is.
use Rattle.std.proofs.Common.{◌≡◌, ◌≢◌, ℕ, ◌≤◌, ◌⊎◌, inl, inr, Bool, true, false, cond, not, ◌==◌, ℤ, pos, ◌+ℤ◌, ◌≤ℤ◌, int_lt, List, [], ◌∷◌, length}
use Rattle.std.proofs.Common.{slice_index_or, filter, None, All, AllPairs, Contains, refl, sym, ◌∙◌, ap, subst, arith}
use Rattle.std.proofs.lemmas.Int.{ints}
use Rattle.std.proofs.lemmas.List.Elements.{All-head, All-tail, All-filter, All-contains, All-nil, All-cons, filter_passes}
use Rattle.std.proofs.lemmas.List.Kept.{AllPairs-filter}
use Rattle.std.proofs.lemmas.Bool.Decides.{nat_tests}
use Rattle.plan_base.specs.declared.parts.Parts.{Parts}
use Rattle.plan_base.specs.declared.parts.GroupPart.{GroupPart}
use Rattle.plan_base.specs.declared.parts.Op.{Op}
use Rattle.plan_base.specs.declared.parts.Op.TheVariants.{Single, Many, OneOf, And}
use Rattle.plan_base.specs.Sums.{total}
use Rattle.plan_base.specs.Requests.{IsOf, IsKind}
use Rattle.plan_base.specs.Bound.{IsAllowedChoice, IsRebate}
use Rattle.plan_base.proofs.Lists.{contains_filter}
use Rattle.plan_base.proofs.Orders.{contains_cases, contains_first, contains_rest, pairs_head, pairs_tail}
use Rattle.plan_base.proofs.Split.{total_split}

-- the number where it is above 0, else 0
abbrev pub positive : ℤ → ℤ
positive x = cond (int_lt (pos 0) x) x (pos 0)

positive_bounds : (x : ℤ) → (pos 0 ≤ℤ positive x) × (x ≤ℤ positive x)
positive_bounds x = by_test (int_lt (pos 0) x) refl
  where
    by_test : (t : Bool) → int_lt (pos 0) x ≡ t → (pos 0 ≤ℤ cond t x (pos 0)) × (x ≤ℤ cond t x (pos 0))
    by_test true e = (omega (arith, ints), omega (arith, ints))
    by_test false e = (omega (arith, ints), omega (arith, ints))

-- these are the requests of the group at place g, each once
pub record AreMembers (s : Parts) (g : ℕ) (ms : List ℕ) : Type 0 where
  pub once : AllPairs (λ a b. a ≢ b) ms
  pub members : All (IsOf s g) ms
  pub complete : (r : ℕ) → IsOf s g r → Contains ms r

equal_from_test : (a b : ℕ) → (a == b) ≡ true → a ≡ b
equal_from_test a b h = grind (arith, nat_tests)

differ_from_test : (a b : ℕ) → not (a == b) ≡ true → a ≢ b
differ_from_test a b h = grind (arith, nat_tests)

test_from_differ : (a b : ℕ) → a ≢ b → not (a == b) ≡ true
test_from_differ a b h = grind (arith, nat_tests)

at_most_once : (c : ℕ → ℤ) (m : ℕ) (xs : List ℕ) → All (λ x. x ≡ m) xs → AllPairs (λ a b. a ≢ b) xs → total c xs ≤ℤ positive (c m)
at_most_once c m [] a once = (positive_bounds (c m)).0
at_most_once c m (x ∷ []) a once =
    let same : c x ≡ c m = ap c (All-head (λ y. y ≡ m) x [] a) in
    let most : c m ≤ℤ positive (c m) = (positive_bounds (c m)).1 in
    omega (arith, ints)
at_most_once c m (x ∷ y ∷ xs) a once =
    let first : x ≡ m = All-head (λ z. z ≡ m) x (y ∷ xs) a in
    let second : y ≡ m = All-head (λ z. z ≡ m) y xs (All-tail (λ z. z ≡ m) x (y ∷ xs) a) in
    absurd (once 0 1 x (omega arith) (omega arith) (first ∙ sym second))

others_within : (m : ℕ) (ms xs : List ℕ) → All (Contains (m ∷ ms)) xs → All (Contains ms) (filter (λ x. not (x == m)) xs)
others_within m ms xs a = λ i d l.
    let kept : Contains (m ∷ ms) (slice_index_or (filter (λ x. not (x == m)) xs) i d) = All-filter (λ x. not (x == m)) (Contains (m ∷ ms)) xs a i d l in
    let differs : slice_index_or (filter (λ x. not (x == m)) xs) i d ≢ m = differ_from_test _ m (filter_passes (λ x. not (x == m)) xs i d l) in
    elim (contains_cases m _ ms kept) [ inl e ↦ absurd (differs (sym e)) | inr c ↦ c ]

-- no set of the members sums up to more than their positive parts
any_choice : (c : ℕ → ℤ) (ms xs : List ℕ) → All (Contains ms) xs → AllPairs (λ a b. a ≢ b) xs → total c xs ≤ℤ total (λ r. positive (c r)) ms
any_choice c [] [] a once = omega (arith, ints)
any_choice c [] (x ∷ xs) a once = absurd (omega (arith, (All-head (Contains []) x xs a).1))
any_choice c (m ∷ ms) xs a once =
    let same : List ℕ = filter (λ x. x == m) xs in
    let others : List ℕ = filter (λ x. not (x == m)) xs in
    let split : total c xs ≡ total c same +ℤ total c others = total_split c (λ x. x == m) xs in
    let all_same : All (λ x. x ≡ m) same = λ i d l. equal_from_test _ m (filter_passes (λ x. x == m) xs i d l) in
    let here : total c same ≤ℤ positive (c m) = at_most_once c m same all_same (AllPairs-filter (λ a b. a ≢ b) (λ x. x == m) xs once) in
    let rest : total c others ≤ℤ total (λ r. positive (c r)) ms =
    any_choice c ms others (others_within m ms xs a) (AllPairs-filter (λ a b. a ≢ b) (λ x. not (x == m)) xs once) in
    omega (arith, ints)

takes_step : (c : ℕ → ℤ) (b : Bool) (m : ℕ) (xs : List ℕ) (t : ℤ) → total c xs ≡ t → total c (cond b (m ∷ xs) xs) ≡ cond b (c m) (pos 0) +ℤ t
takes_step c true m xs t e = omega (arith, ints)
takes_step c false m xs t e = omega (arith, ints)

takes_positive : (c : ℕ → ℤ) (ms : List ℕ) → total c (filter (λ r. int_lt (pos 0) (c r)) ms) ≡ total (λ r. positive (c r)) ms
takes_positive c [] = refl
takes_positive c (m ∷ ms) = takes_step c (int_lt (pos 0) (c m)) m _ _ (takes_positive c ms)

-- a group has one kind
pub one_kind : (s : Parts) (g : ℕ) (j k : Op) → IsKind s j g → IsKind s k g → j ≡ k
one_kind s g j k h e =
    let some : GroupPart = record { group = record { 0 = 0 }; op = Single; requests = []; quota = None } in
    sym (h some) ∙ e some

-- for a SINGLE or a MANY: the sum of the positive prices
pub rebate_of_any : (s : Parts) (c : ℕ → ℤ) (g : ℕ) (ms : List ℕ) → AreMembers s g ms → IsKind s Single g ⊎ IsKind s Many g
    → IsRebate s c g (total (λ r. positive (c r)) ms)
rebate_of_any s c g ms are kind = record {
  reached = (
    filter (λ r. int_lt (pos 0) (c r)) ms,
    record {
      members = All-filter (λ r. int_lt (pos 0) (c r)) (IsOf s g) ms are.members;
      once = AllPairs-filter (λ a b. a ≢ b) (λ r. int_lt (pos 0) (c r)) ms are.once;
      one_of = λ k. absurd (other k);
      whole = λ k. absurd (another k);
    },
    takes_positive c ms,
  );
  bound = λ choice allowed. any_choice c ms choice (λ i d l. are.complete _ (allowed.members i d l)) allowed.once;
}
  where
    other : IsKind s OneOf g → ⊥
    other k = elim kind [
      | inl h ↦ let bad : OneOf ≡ Single = one_kind s g OneOf Single k h in cc
      | inr h ↦ let bad : OneOf ≡ Many = one_kind s g OneOf Many k h in cc
    ]

    another : IsKind s And g → ⊥
    another k = elim kind [
      | inl h ↦ let bad : And ≡ Single = one_kind s g And Single k h in cc
      | inr h ↦ let bad : And ≡ Many = one_kind s g And Many k h in cc
    ]

-- the greatest of a list's prices, or 0 where none is above 0
pub record IsGreatestOrZero (c : ℕ → ℤ) (ms : List ℕ) (b : ℤ) : Type 0 where
  pub least : pos 0 ≤ℤ b
  pub above : All (λ r. c r ≤ℤ b) ms
  pub reached : (b ≡ pos 0) ⊎ ((r : ℕ) × Contains ms r × (b ≡ c r))

at_most_greatest : (c : ℕ → ℤ) (ms xs : List ℕ) (b : ℤ) → IsGreatestOrZero c ms b → All (Contains ms) xs → length xs ≤ 1 → total c xs ≤ℤ b
at_most_greatest c ms [] b greatest a l = greatest.least
at_most_greatest c ms (x ∷ []) b greatest a l =
    let most : c x ≤ℤ b = All-contains (λ r. c r ≤ℤ b) ms x greatest.above (All-head (Contains ms) x [] a) in
    omega (arith, ints)
at_most_greatest c ms (x ∷ y ∷ xs) b greatest a l = absurd (omega arith)

-- for a ONEOF: the greatest price, or 0
pub rebate_of_one : (s : Parts) (c : ℕ → ℤ) (g : ℕ) (ms : List ℕ) (b : ℤ) → AreMembers s g ms → IsKind s OneOf g → IsGreatestOrZero c ms b → IsRebate s c g b
rebate_of_one s c g ms b are kind greatest = record {
  reached = by_case greatest.reached;
  bound = λ choice allowed. at_most_greatest c ms choice b greatest (λ i d l. are.complete _ (allowed.members i d l)) (allowed.one_of kind);
}
  where
    other : IsKind s And g → ⊥
    other k = let bad : And ≡ OneOf = one_kind s g And OneOf k kind in cc

    by_case : (b ≡ pos 0) ⊎ ((r : ℕ) × Contains ms r × (b ≡ c r)) → (choice : List ℕ) × IsAllowedChoice s g choice × (total c choice ≡ b)
    by_case (inl e) = (
      [],
      record {
        members = All-nil (IsOf s g);
        once = λ i j d l m. absurd (omega arith);
        one_of = λ k. omega arith;
        whole = λ k. absurd (other k);
      },
      sym e,
    )
    by_case (inr (r, has, e)) = (
      r ∷ [],
      record {
        members = All-cons (IsOf s g) r [] (All-contains (IsOf s g) ms r are.members has) (All-nil (IsOf s g));
        once = λ i j d l m. absurd (omega arith);
        one_of = λ k. omega arith;
        whole = λ k. absurd (other k);
      },
      omega (arith, ints),
    )

no_element : (P : ℕ → Type 0) (xs : List ℕ) → All P xs → ((r : ℕ) → P r → ¬ (Contains xs r)) → xs ≡ []
no_element P [] a none = refl
no_element P (x ∷ xs) a none = absurd (none x (All-head P x xs a) (contains_first x xs))

exactly_once : (c : ℕ → ℤ) (m : ℕ) (xs : List ℕ) → All (λ x. x ≡ m) xs → AllPairs (λ a b. a ≢ b) xs → Contains xs m → total c xs ≡ c m
exactly_once c m [] a once has = absurd (omega (arith, has.1))
exactly_once c m (x ∷ []) a once has =
    let same : c x ≡ c m = ap c (All-head (λ y. y ≡ m) x [] a) in
    omega (arith, ints)
exactly_once c m (x ∷ y ∷ xs) a once has =
    let first : x ≡ m = All-head (λ z. z ≡ m) x (y ∷ xs) a in
    let second : y ≡ m = All-head (λ z. z ≡ m) y xs (All-tail (λ z. z ≡ m) x (y ∷ xs) a) in
    absurd (once 0 1 x (omega arith) (omega arith) (first ∙ sym second))

-- lists of the same numbers, each once, have the same sum
whole_choice : (c : ℕ → ℤ) (ms xs : List ℕ) → AllPairs (λ a b. a ≢ b) ms → All (Contains ms) xs → AllPairs (λ a b. a ≢ b) xs
    → ((r : ℕ) → Contains ms r → Contains xs r) → total c xs ≡ total c ms
whole_choice c [] [] distinct a once has = refl
whole_choice c [] (x ∷ xs) distinct a once has = absurd (omega (arith, (All-head (Contains []) x xs a).1))
whole_choice c (m ∷ ms) xs distinct a once has =
    let same : List ℕ = filter (λ x. x == m) xs in
    let others : List ℕ = filter (λ x. not (x == m)) xs in
    let split : total c xs ≡ total c same +ℤ total c others = total_split c (λ x. x == m) xs in
    let all_same : All (λ x. x ≡ m) same = λ i d l. equal_from_test _ m (filter_passes (λ x. x == m) xs i d l) in
    let itself : (m == m) ≡ true = grind (arith, nat_tests) in
    let here : total c same ≡ c m = exactly_once c m same all_same (AllPairs-filter (λ a b. a ≢ b) (λ x. x == m) xs once)
    (contains_filter (λ x. x == m) xs m (has m (contains_first m ms)) itself) in
    let rest : total c others ≡ total c ms = whole_choice c ms others (pairs_tail (λ a b. a ≢ b) m ms distinct) (others_within m ms xs a)
    (AllPairs-filter (λ a b. a ≢ b) (λ x. not (x == m)) xs once)
    (λ r in_rest.
    let differs : r ≢ m = λ e. All-contains (λ y. m ≢ y) ms r (pairs_head (λ a b. a ≢ b) m ms distinct) in_rest (sym e) in
    contains_filter (λ x. not (x == m)) xs r (has r (contains_rest m r ms in_rest)) (test_from_differ r m differs)) in
    omega (arith, ints)

-- for an AND: the sum of all prices, or 0 where it isn't above 0
pub rebate_of_and : (s : Parts) (c : ℕ → ℤ) (g : ℕ) (ms : List ℕ) → AreMembers s g ms → IsKind s And g → IsRebate s c g (positive (total c ms))
rebate_of_and s c g ms are kind = record {
  reached = by_test (int_lt (pos 0) (total c ms)) refl;
  bound = λ choice allowed. elim (allowed.whole kind) [
    | inl all ↦
        let same : total c choice ≡ total c ms = whole_choice c ms choice are.once (λ i d l. are.complete _ (allowed.members i d l)) allowed.once
        (λ r has. all r (All-contains (IsOf s g) ms r are.members has)) in
        let most : total c ms ≤ℤ positive (total c ms) = (positive_bounds (total c ms)).1 in
        omega (arith, ints)
    | inr none ↦
        let empty : choice ≡ [] = no_element (IsOf s g) choice allowed.members none in
        subst (λ (xs : List ℕ). total c xs ≤ℤ positive (total c ms)) (sym empty) (positive_bounds (total c ms)).0
  ];
}
  where
    other : IsKind s OneOf g → ⊥
    other k = let bad : OneOf ≡ And = one_kind s g OneOf And k kind in cc

    all_of_it : IsAllowedChoice s g ms
    all_of_it = record { members = are.members; once = are.once; one_of = λ k. absurd (other k); whole = λ k. inl are.complete }

    none_of_it : IsAllowedChoice s g []
    none_of_it = record {
      members = All-nil (IsOf s g);
      once = λ i j d l m. absurd (omega arith);
      one_of = λ k. omega arith;
      whole = λ k. inr (λ r o has. omega (arith, has.1));
    }

    by_test : (b : Bool) → int_lt (pos 0) (total c ms) ≡ b → (choice : List ℕ) × IsAllowedChoice s g choice × (total c choice ≡ positive (total c ms))
    by_test true e = (ms, all_of_it, ap (λ (t : Bool). cond t (total c ms) (pos 0)) (sym e))
    by_test false e = ([], none_of_it, ap (λ (t : Bool). cond t (total c ms) (pos 0)) (sym e))
