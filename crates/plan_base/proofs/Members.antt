-- A group's requests, as they are listed and as the group has them.
use Rattle.std.proofs.Common.{◌≡◌, ◌≢◌, ℕ, zero, suc, ◌+◌, ◌<◌, ◌⊎◌, inl, inr, Bool, true, false, cond, not, ◌==◌, List, [], ◌∷◌, ◌++◌, length, map}
use Rattle.std.proofs.Common.{slice_index_or, AllPairs, Contains, refl, sym, ◌∙◌, ap, subst, arith}
use Rattle.std.specs.List.{position_or_len}
use Rattle.std.proofs.lemmas.List.{get_or_default}
use Rattle.std.proofs.lemmas.List.Elements.{All-contains, Contains-append_left, Contains-append_right, Contains-append_cases, Contains-get_or}
use Rattle.std.proofs.lemmas.List.Kept.{AllPairs-cons}
use Rattle.std.proofs.lemmas.Bool.Decides.{nat_tests}
use Rattle.plan_base.specs.declared.parts.Parts.{Parts}
use Rattle.plan_base.specs.declared.parts.GroupPart.{GroupPart}
use Rattle.plan_base.specs.Requests.{Listed, listed_from, listed, IsKnown, group_of, IsOf, members_of, members}
use Rattle.plan_base.specs.Snapshot.{IsOrderly}
use Rattle.plan_base.proofs.Lists.{contains_map, AllPairs-map}
use Rattle.plan_base.proofs.Orders.{contains_cases, contains_first, contains_rest, pairs_head, pairs_tail}
use Rattle.plan_base.proofs.Known.{IsListedAs, known_as, known_or_is}
use Rattle.plan_base.proofs.Rebates.{AreMembers}

pub contains_from_map : {X Y : Type 0} (f : X → Y) (xs : List X) (y : Y) → Contains (map f xs) y → (x : X) × Contains xs x × (f x ≡ y)
contains_from_map f [] y c = absurd (omega (arith, c.1))
contains_from_map f (x ∷ xs) y c = elim (contains_cases (f x) y (map f xs) c) [
  | inl e ↦ (x, contains_first x xs, e)
  | inr d ↦ let rest = contains_from_map f xs y d in (rest.0, contains_rest x rest.0 xs rest.1, rest.2)
]

found_step : (b : Bool) (n m : ℕ) → (b ≡ false → n < m) → cond (not b) (1 + n) 0 < suc m
found_step true n m h = omega arith
found_step false n m h = let rest : n < m = h refl in omega arith

-- where one element passes a test, the first that passes has a place in the list
pub found_below : {X : Type 0} (p : X → Bool) (xs : List X) (x : X) → Contains xs x → p x ≡ true → position_or_len p xs < length xs
found_below p [] x c h = absurd (omega (arith, c.1))
found_below p (y ∷ xs) x c h = elim (contains_cases y x xs c) [
  | inl same ↦ found_step (p y) (position_or_len p xs) (length xs) (λ e. let bad : false ≡ true = sym e ∙ ap p same ∙ h in cc)
  | inr d ↦ found_step (p y) (position_or_len p xs) (length xs) (λ e. found_below p xs x d h)
]

-- what a group has is listed with the group's place
member_listed : (g : ℕ) (xs : List GroupPart) (i r : ℕ) → Contains (slice_index_or (map members_of xs) i []) r
    → (x : Listed) × Contains (listed_from g xs) x × (x.group ≡ g + i) × (x.request.request.0 ≡ r)
member_listed g [] i r c = absurd (omega (arith, c.1))
member_listed g (y ∷ ys) zero r c =
    let found = contains_from_map (λ q. q.request.0) y.requests r c in
    let x : Listed = record { group = g; quota = y.quota; request = found.0 } in (
      x,
      Contains-append_left _ (listed_from (suc g) ys) x (contains_map (λ q. record { group = g; quota = y.quota; request = q }) y.requests found.0 found.1),
      omega arith,
      found.2,
    )
member_listed g (y ∷ ys) (suc i) r c =
    let rest = member_listed (suc g) ys i r c in
    let place : rest.0.group ≡ suc g + i = rest.2 in
    (rest.0, Contains-append_right (map (λ q. record { group = g; quota = y.quota; request = q }) y.requests) _ rest.0 rest.1, omega arith, rest.3)

-- what is listed is one of its group's requests
listed_member : (g : ℕ) (xs : List GroupPart) (x : Listed) → Contains (listed_from g xs) x → (i : ℕ) × (x.group ≡ g + i)
    × Contains (slice_index_or (map members_of xs) i []) x.request.request.0
listed_member g [] x c = absurd (omega (arith, c.1))
listed_member g (y ∷ ys) x c = elim (Contains-append_cases (map (λ q. record { group = g; quota = y.quota; request = q }) y.requests)
    (listed_from (suc g) ys) x c) [
      | inl here ↦
          let found = contains_from_map (λ q. record { group = g; quota = y.quota; request = q }) y.requests x here in (
            0,
            ap (λ z. z.group) (sym found.2) ∙ at_zero g,
            subst (λ (r : ℕ). Contains (members_of y) r) (ap (λ z. z.request.request.0) found.2) (contains_map (λ q. q.request.0) y.requests found.0 found.1),
          )
      | inr later ↦ let rest = listed_member (suc g) ys x later in let place : x.group ≡ suc g + rest.0 = rest.1 in (suc rest.0, omega arith, rest.2)
    ]
  where
    at_zero : (n : ℕ) → n ≡ n + 0
    at_zero n = omega arith

below_same_above : (a b : ℕ) → ((a < b) ⊎ (b < a)) ⊎ (a ≡ b)
below_same_above a b = grind arith

-- in rising order a number stands once
pub one_of_number : {X : Type 0} (f : X → ℕ) (xs : List X) (x y : X) → AllPairs (λ a b. f a < f b) xs → Contains xs x → Contains xs y → f x ≡ f y → x ≡ y
one_of_number f xs x y rise (i, l, e) (j, m, d) same = elim (below_same_above i j) [
  | inl (inl below) ↦
      let less : f (slice_index_or xs i x) < f (slice_index_or xs j x) = rise i j x below m in
      let left : f (slice_index_or xs i x) ≡ f x = ap f e in
      let right : f (slice_index_or xs j x) ≡ f y = ap f (get_or_default xs j x y m ∙ d) in
      absurd (omega arith)
  | inl (inr above) ↦
      let less : f (slice_index_or xs j x) < f (slice_index_or xs i x) = rise j i x above l in
      let left : f (slice_index_or xs i x) ≡ f x = ap f e in
      let right : f (slice_index_or xs j x) ≡ f y = ap f (get_or_default xs j x y m ∙ d) in
      absurd (omega arith)
  | inr at ↦ sym e ∙ ap (λ (k : ℕ). slice_index_or xs k x) at ∙ get_or_default xs j x y m ∙ d
]

abbrev number_of : Listed → ℕ
number_of x = x.request.request.0

same_test : (a b : ℕ) → a ≡ b → (a == b) ≡ true
same_test a b e = grind (arith, nat_tests)

-- what is listed is known by its number
pub listed_known : (s : Parts) (x : Listed) → Contains (listed s) x → IsKnown s (number_of x)
listed_known s x c = found_below (λ y. y.request.request.0 == number_of x) (listed s) x c (same_test (number_of x) (number_of x) refl)

-- what is listed is what is known of its number
pub listed_as : (s : Parts) (x : Listed) → IsOrderly s → Contains (listed s) x → IsListedAs s (number_of x) x
listed_as s x o c =
    let found = known_as s (number_of x) (listed_known s x c) in
    let same : found.0 ≡ x = one_of_number number_of (listed s) found.0 x o.requests_rise found.1.in_list c found.1.number in
    subst (λ (y : Listed). IsListedAs s (number_of x) y) same found.1

pub is_of_member : (s : Parts) (g r : ℕ) → IsOrderly s → Contains (members s g) r → IsOf s g r
is_of_member s g r o c =
    let found = member_listed 0 s.groups g r c in
    let known : IsKnown s (number_of found.0) = listed_known s found.0 found.1 in
    let group : group_of s (number_of found.0) ≡ found.0.group =
    known_or_is (λ x. x.group) 0 s (number_of found.0) found.0 known (listed_as s found.0 o found.1) in
    let place : found.0.group ≡ 0 + g = found.2 in
    subst (λ (n : ℕ). IsOf s g n) found.3 (known, omega arith)

pub member_is_of : (s : Parts) (g r : ℕ) → IsOf s g r → Contains (members s g) r
member_is_of s g r (known, group) =
    let found = known_as s r known in
    let here = listed_member 0 s.groups found.0 found.1.in_list in
    let place : found.0.group ≡ 0 + here.0 = here.1 in
    let same : group_of s r ≡ found.0.group = known_or_is (λ x. x.group) 0 s r found.0 known found.1 in
    let at : here.0 ≡ g = omega arith in
    subst (λ (n : ℕ). Contains (members s g) n) found.1.number (subst (λ (k : ℕ). Contains (members s k) (number_of found.0)) at here.2)

pub pairs_left : {X : Type 0} (R : X → X → Type 0) (xs ys : List X) → AllPairs R (xs ++ ys) → AllPairs R xs
pairs_left R [] ys a = λ i j d l m. absurd (omega arith)
pairs_left R (x ∷ xs) ys a =
    AllPairs-cons R x xs (λ i d l. All-contains (R x) (xs ++ ys) _ (pairs_head R x (xs ++ ys) a)
    (Contains-append_left xs ys _ (Contains-get_or xs i d l))) (pairs_left R xs ys (pairs_tail R x (xs ++ ys) a))

pub pairs_right : {X : Type 0} (R : X → X → Type 0) (xs ys : List X) → AllPairs R (xs ++ ys) → AllPairs R ys
pairs_right R [] ys a = a
pairs_right R (x ∷ xs) ys a = pairs_right R xs ys (pairs_tail R x (xs ++ ys) a)

pub pairs_from_map : {X Y : Type 0} (R : Y → Y → Type 0) (f : X → Y) (xs : List X) → AllPairs R (map f xs) → AllPairs (λ a b. R (f a) (f b)) xs
pairs_from_map R f [] a = λ i j d l m. absurd (omega arith)
pairs_from_map R f (x ∷ xs) a =
    AllPairs-cons (λ p q. R (f p) (f q)) x xs
    (λ i d l. All-contains (R (f x)) (map f xs) _ (pairs_head R (f x) (map f xs) a) (contains_map f xs _ (Contains-get_or xs i d l)))
    (pairs_from_map R f xs (pairs_tail R (f x) (map f xs) a))

-- a group's numbers rise
rising_members : (g : ℕ) (xs : List GroupPart) (i : ℕ) → AllPairs (λ a b. number_of a < number_of b) (listed_from g xs)
    → AllPairs (λ a b. a < b) (slice_index_or (map members_of xs) i [])
rising_members g [] i a = λ k j d l m. absurd (omega arith)
rising_members g (y ∷ ys) zero a =
    AllPairs-map (λ a b. a < b) (λ q. q.request.0) y.requests
    (pairs_from_map (λ a b. number_of a < number_of b) (λ q. record { group = g; quota = y.quota; request = q }) y.requests
    (pairs_left (λ a b. number_of a < number_of b) _ (listed_from (suc g) ys) a))
rising_members g (y ∷ ys) (suc i) a =
    rising_members (suc g) ys i (pairs_right (λ a b. number_of a < number_of b)
    (map (λ q. record { group = g; quota = y.quota; request = q }) y.requests) (listed_from (suc g) ys) a)

pub members_rise : (s : Parts) (g : ℕ) → IsOrderly s → AllPairs (λ a b. a < b) (members s g)
members_rise s g o = rising_members 0 s.groups g o.requests_rise

below_differs : (a b : ℕ) → a < b → a ≢ b
below_differs a b l e = omega arith

-- the requests of a snapshot's group, each once
pub are_members : (s : Parts) (g : ℕ) → IsOrderly s → AreMembers s g (members s g)
are_members s g o = record {
  once = λ i j d l m. below_differs _ _ (members_rise s g o i j d l m);
  members = λ i d l. is_of_member s g _ o (Contains-get_or (members s g) i d l);
  complete = λ r of. member_is_of s g r of;
}
