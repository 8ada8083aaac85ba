-- The leaves of all trees, and the requests of a plan among them.
use Rattle.std.proofs.Common.{◌≡◌, ◌≢◌, ℕ, ◌+◌, ◌≤◌, ◌⊎◌, inl, inr, Bool, true, false, cond, slice_index_or, ◌||◌, not, ◌==◌, ℤ, ◌+ℤ◌, List, [], ◌∷◌}
use Rattle.std.proofs.Common.{◌++◌, filter, All, AllPairs, Contains, refl, sym, ap, ◌∙◌, subst, arith}
use Rattle.std.proofs.lemmas.Int.{ints}
use Rattle.std.proofs.lemmas.Bool.Decides.{nat_tests}
use Rattle.std.proofs.lemmas.List.Elements.{All-head, All-tail, All-filter, All-contains, All-contains_itself, Contains-get_or, filter_passes}
use Rattle.std.proofs.lemmas.List.{get_or_default}
use Rattle.std.proofs.lemmas.List.Kept.{AllPairs-filter, AllPairs-cons}
use Rattle.std.proofs.lemmas.List.Sums.{sum_by-cons, sum_by-append}
use Rattle.plan_base.specs.Sums.{total}
use Rattle.plan_base.proofs.Lists.{contains_filter}
use Rattle.plan_base.proofs.Orders.{contains_cases, contains_first, contains_rest, pairs_head, pairs_tail}
use Rattle.plan_base.proofs.Split.{total_split}
use Rattle.group_trees.specs.Forests.{times}
use Rattle.group_trees.specs.Plans.{is_placed}

pub same_from_test : (a b : ℕ) → (a == b) ≡ true → a ≡ b
same_from_test a b h = grind (arith, nat_tests)

pub test_itself : (a : ℕ) → (a == a) ≡ true
test_itself a = grind (arith, nat_tests)

pub test_differs : (a b : ℕ) → a ≢ b → (a == b) ≡ false
test_differs a b h = grind (arith, nat_tests)

or_true : (a b : Bool) → (a || b) ≡ true → (a ≡ true) ⊎ (b ≡ true)
or_true true b h = inl refl
or_true false b h = inr h

or_right : (a b : Bool) → b ≡ true → (a || b) ≡ true
or_right true b h = refl
or_right false b h = h

-- a request that passes the test is in the list, and the other way round
pub contains_placed : (rs : List ℕ) (r : ℕ) → is_placed rs r ≡ true → Contains rs r
contains_placed [] r h = cc
contains_placed (x ∷ rs) r h = elim (or_true (x == r) (is_placed rs r) h) [
  | inl e ↦ (0, omega arith, same_from_test x r e)
  | inr rest ↦ contains_rest x r rs (contains_placed rs r rest)
]

pub placed_contained : (rs : List ℕ) (r : ℕ) → Contains rs r → is_placed rs r ≡ true
placed_contained [] r (k, l, e) = absurd (omega arith)
placed_contained (x ∷ rs) r c = elim (contains_cases x r rs c) [
  | inl e ↦ ap (λ (b : Bool). b || is_placed rs r) (subst (λ (y : ℕ). (x == y) ≡ true) e (test_itself x))
  | inr rest ↦ or_right (x == r) (is_placed rs r) (placed_contained rs r rest)
]

-- ---- how often

test_sum : (b : Bool) (n : ℕ) → cond b 1 0 + n ≤ 1 + n
test_sum true n = omega arith
test_sum false n = omega arith

pub times_cons : (r x : ℕ) (xs : List ℕ) → times r (x ∷ xs) ≡ cond (x == r) 1 0 + times r xs
times_cons r x xs = sum_by-cons (λ y. cond (y == r) 1 0) x xs

pub times_append : (r : ℕ) (xs ys : List ℕ) → times r (xs ++ ys) ≡ times r xs + times r ys
times_append r xs ys = sum_by-append (λ y. cond (y == r) 1 0) xs ys

times_step : (b : Bool) (n m : ℕ) → b ≡ true → m ≡ cond b 1 0 + n → m ≡ 1 + n
times_step true n m e h = h
times_step false n m e h = cc

pub times_first : (x : ℕ) (xs : List ℕ) → times x (x ∷ xs) ≡ 1 + times x xs
times_first x xs = times_step (x == x) (times x xs) (times x (x ∷ xs)) (test_itself x) (times_cons x x xs)

some_times : (b : Bool) (n m : ℕ) → 1 ≤ n → m ≡ cond b 1 0 + n → 1 ≤ m
some_times true n m l h = omega arith
some_times false n m l h = omega arith

pub times_contained : (r : ℕ) (xs : List ℕ) → Contains xs r → 1 ≤ times r xs
times_contained r [] (k, l, e) = absurd (omega arith)
times_contained r (x ∷ xs) c = elim (contains_cases x r xs c) [
  | inl e ↦ subst (λ (y : ℕ). 1 ≤ times y (x ∷ xs)) e (let n : times x (x ∷ xs) ≡ 1 + times x xs = times_first x xs in omega arith)
  | inr rest ↦ some_times (x == r) (times r xs) (times r (x ∷ xs)) (times_contained r xs rest) (times_cons r x xs)
]

times_case : (b : Bool) (n : ℕ) → 1 ≤ cond b 1 0 + n → (b ≡ true) ⊎ (1 ≤ n)
times_case true n l = inl refl
times_case false n l = inr (omega arith)

pub contained_times : (r : ℕ) (xs : List ℕ) → 1 ≤ times r xs → Contains xs r
contained_times r [] l = absurd (omega arith)
contained_times r (x ∷ xs) l = elim (times_case (x == r) (times r xs) (subst (λ (n : ℕ). 1 ≤ n) (times_cons r x xs) l)) [
  | inl e ↦ subst (λ (y : ℕ). Contains (x ∷ xs) y) (same_from_test x r e) (contains_first x xs)
  | inr rest ↦ contains_rest x r xs (contained_times r xs rest)
]

fewer : (b : Bool) (n m : ℕ) → m ≡ cond b 1 0 + n → m ≤ 1 → n ≤ 1
fewer true n m e l = omega arith
fewer false n m e l = omega arith

-- what stands at most once each stands once each
pub once_from_times : (xs : List ℕ) → ((r : ℕ) → Contains xs r → times r xs ≤ 1) → AllPairs (λ a b. a ≢ b) xs
once_from_times [] h = λ i j d l m. absurd (omega arith)
once_from_times (x ∷ xs) h =
    AllPairs-cons (λ a b. a ≢ b) x xs
    (λ k d l same.
    let here : Contains xs x = (k, l, subst (λ (y : ℕ). slice_index_or xs k y ≡ y) (sym same) (get_or_default xs k _ d l)) in
    let most : times x (x ∷ xs) ≤ 1 = h x (contains_first x xs) in
    let first : times x (x ∷ xs) ≡ 1 + times x xs = times_first x xs in
    let again : 1 ≤ times x xs = times_contained x xs here in
    omega arith)
    (once_from_times xs (λ r c. fewer (x == r) (times r xs) (times r (x ∷ xs)) (times_cons r x xs) (h r (contains_rest x r xs c))))

-- ---- lists of the same numbers

differ_from_test : (a b : ℕ) → not (a == b) ≡ true → a ≢ b
differ_from_test a b h = grind (arith, nat_tests)

test_from_differ : (a b : ℕ) → a ≢ b → not (a == b) ≡ true
test_from_differ a b h = grind (arith, nat_tests)

exactly_once : (c : ℕ → ℤ) (m : ℕ) (xs : List ℕ) → All (λ x. x ≡ m) xs → AllPairs (λ a b. a ≢ b) xs → Contains xs m → total c xs ≡ c m
exactly_once c m [] a once has = absurd (omega (arith, has.1))
exactly_once c m (x ∷ []) a once has =
    let same : c x ≡ c m = ap c (All-head (λ y. y ≡ m) x [] a) in
    omega (arith, ints)
exactly_once c m (x ∷ y ∷ xs) a once has =
    let first : x ≡ m = All-head (λ z. z ≡ m) x (y ∷ xs) a in
    let second : y ≡ m = All-head (λ z. z ≡ m) y xs (All-tail (λ z. z ≡ m) x (y ∷ xs) a) in
    absurd (once 0 1 x (omega arith) (omega arith) (first ∙ sym second))

others_within : (m : ℕ) (ms xs : List ℕ) → All (Contains (m ∷ ms)) xs → All (Contains ms) (filter (λ x. not (x == m)) xs)
others_within m ms xs a = λ i d l.
    let kept : Contains (m ∷ ms) (slice_index_or (filter (λ x. not (x == m)) xs) i d) = All-filter (λ x. not (x == m)) (Contains (m ∷ ms)) xs a i d l in
    let differs : slice_index_or (filter (λ x. not (x == m)) xs) i d ≢ m = differ_from_test _ m (filter_passes (λ x. not (x == m)) xs i d l) in
    elim (contains_cases m _ ms kept) [ inl e ↦ absurd (differs (sym e)) | inr c ↦ c ]

-- lists of the same numbers, each once, have the same sum
pub same_total : (c : ℕ → ℤ) (ms xs : List ℕ) → AllPairs (λ a b. a ≢ b) ms → All (Contains ms) xs → AllPairs (λ a b. a ≢ b) xs
    → ((r : ℕ) → Contains ms r → Contains xs r) → total c xs ≡ total c ms
same_total c [] [] distinct a once has = refl
same_total c [] (x ∷ xs) distinct a once has = absurd (omega (arith, (All-head (Contains []) x xs a).1))
same_total c (m ∷ ms) xs distinct a once has =
    let same : List ℕ = filter (λ x. x == m) xs in
    let others : List ℕ = filter (λ x. not (x == m)) xs in
    let split : total c xs ≡ total c same +ℤ total c others = total_split c (λ x. x == m) xs in
    let all_same : All (λ x. x ≡ m) same = λ i d l. same_from_test _ m (filter_passes (λ x. x == m) xs i d l) in
    let here : total c same ≡ c m = exactly_once c m same all_same (AllPairs-filter (λ a b. a ≢ b) (λ x. x == m) xs once)
    (contains_filter (λ x. x == m) xs m (has m (contains_first m ms)) (test_itself m)) in
    let rest : total c others ≡ total c ms = same_total c ms others (pairs_tail (λ a b. a ≢ b) m ms distinct) (others_within m ms xs a)
    (AllPairs-filter (λ a b. a ≢ b) (λ x. not (x == m)) xs once)
    (λ r in_rest.
    let differs : r ≢ m = λ e. All-contains (λ y. m ≢ y) ms r (pairs_head (λ a b. a ≢ b) m ms distinct) in_rest (sym e) in
    contains_filter (λ x. not (x == m)) xs r (has r (contains_rest m r ms in_rest)) (test_from_differ r m differs)) in
    omega (arith, ints)

-- what a filter keeps passes, and was there
pub filter_contained : (p : ℕ → Bool) (xs : List ℕ) (r : ℕ) → Contains (filter p xs) r → (p r ≡ true) × Contains xs r
filter_contained p xs r c = (
  All-contains (λ x. p x ≡ true) (filter p xs) r (filter_passes p xs) c,
  All-contains (Contains xs) (filter p xs) r (All-filter p (Contains xs) xs (All-contains_itself xs)) c,
)

-- the requests of a plan are those of its leaves that it places
pub placed_total : (c : ℕ → ℤ) (rs leaves : List ℕ) → AllPairs (λ a b. a ≢ b) rs → AllPairs (λ a b. a ≢ b) leaves → All (Contains leaves) rs
    → total c rs ≡ total c (filter (is_placed rs) leaves)
placed_total c rs leaves once distinct among =
    same_total c (filter (is_placed rs) leaves) rs (AllPairs-filter (λ a b. a ≢ b) (is_placed rs) leaves distinct)
    (λ i d l.
    let here : Contains rs (slice_index_or rs i d) = Contains-get_or rs i d l in
    contains_filter (is_placed rs) leaves _ (among i d l) (placed_contained rs _ here))
    once
    (λ r has. contains_placed rs r (filter_contained (is_placed rs) leaves r has).0)
