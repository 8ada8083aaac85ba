-- What the number of a name says, and what tells whether it has one.
use Rattle.std.proofs.Common.{◌≡◌, ℕ, ◌+◌, ◌<◌, ◌||◌, Bool, true, false, cond, if◌then◌else◌, List, [], ◌∷◌, ◌++◌, Option, Some, None, refl, sym, ap}
use Rattle.std.proofs.Common.{subst, ◌∙◌, length, get_or, nat_eq, nat_lt, is_some, inl, inr, true≢false, arith}
use Rattle.std.specs.List.{list_any, position, position_from, IsDistinct}
use Rattle.std.specs.Cmp.Lexicographic.{same_text}
use Rattle.std.proofs.lemmas.Bool.{cases_order, eq-eqb, eqb-true, le-ltb, lt-ltb}
use Rattle.std.proofs.lemmas.Iterator.Adapters.{position_from-zero}
use Rattle.std.proofs.lemmas.List.Quantifiers.{position-Some}
use Rattle.std.proofs.lemmas.List.Sums.{position_or_len_is}
use Rattle.std.proofs.lemmas.Map.Keys.{apart_from_distinct}
use Rattle.site_model.specs.Names.{is_name, is_named, number_of, numbered}

-- tests that are true in the same cases
pub same_truth : (s t : Bool) → (s ≡ true → t ≡ true) → (t ≡ true → s ≡ true) → s ≡ t
same_truth true t f g = sym (f refl)
same_truth false true f g = g refl
same_truth false false f g = refl

from_any : {X : Type 0} (p : X → Bool) (i : ℕ) (xs : List X) → is_some (position_from p i xs) ≡ list_any p xs
from_any p i [] = refl
from_any p i (x ∷ xs) = by (p x) (from_any p (i + 1) xs)
  where
    by : (b : Bool) → is_some (position_from p (i + 1) xs) ≡ list_any p xs → is_some (cond b (Some i) (position_from p (i + 1) xs)) ≡ (b || list_any p xs)
    by true e = refl
    by false e = e

-- there is a first place where the test passes somewhere
pub is_some-position : {X : Type 0} (p : X → Bool) (xs : List X) → is_some (position p xs) ≡ list_any p xs
is_some-position p xs = ap is_some (position_from-zero p xs) ∙ from_any p 0 xs

pub list_any-none : {X : Type 0} (p : X → Bool) (xs : List X) → position p xs ≡ None → list_any p xs ≡ false
list_any-none p xs e = sym (is_some-position p xs) ∙ ap is_some e

pub list_any-some : {X : Type 0} (p : X → Bool) (xs : List X) (i : ℕ) → position p xs ≡ Some i → list_any p xs ≡ true
list_any-some p xs i e = sym (is_some-position p xs) ∙ ap is_some e

from_kept : {X : Type 0} (p : X → Bool) (n i : ℕ) (xs ys : List X) → position_from p n xs ≡ Some i → position_from p n (xs ++ ys) ≡ Some i
from_kept p n i [] ys e = grind arith
from_kept p n i (x ∷ xs) ys e = by (p x) e (from_kept p (n + 1) i xs ys)
  where
    by : (b : Bool) → cond b (Some n) (position_from p (n + 1) xs) ≡ Some i
        → (position_from p (n + 1) xs ≡ Some i → position_from p (n + 1) (xs ++ ys) ≡ Some i)
        → cond b (Some n) (position_from p (n + 1) (xs ++ ys)) ≡ Some i
    by true h k = h
    by false h k = k h

-- what follows doesn't change the first place
pub position_kept : {X : Type 0} (p : X → Bool) (xs ys : List X) (i : ℕ) → position p xs ≡ Some i → position p (xs ++ ys) ≡ Some i
position_kept p xs ys i e = position_from-zero p (xs ++ ys) ∙ from_kept p 0 i xs ys (sym (position_from-zero p xs) ∙ e)

pub none_from_is_some : {X : Type 0} (o : Option X) → is_some o ≡ false → o ≡ None
none_from_is_some None h = refl
none_from_is_some (Some x) h = absurd (true≢false h)

-- texts that pass the test are the same
pub name_same : (a b : List ℕ) → is_name a b ≡ true → a ≡ b
name_same a b h = same_text a b (sym h)

-- a number belongs to one name
pub same_number : (names : List (List ℕ)) (a b : List ℕ) (n : ℕ) → number_of names a ≡ Some n → number_of names b ≡ Some n → a ≡ b
same_number names a b n p q =
    name_same a (get_or names n []) (position-Some (is_name a) names n [] p).1
    ∙ sym (name_same b (get_or names n []) (position-Some (is_name b) names n [] q).1)

-- a number is below the count of the names
pub number_within : (names : List (List ℕ)) (name : List ℕ) (n : ℕ) → number_of names name ≡ Some n → n < length names
number_within names name n at = (position-Some (is_name name) names n [] at).0

-- a name that is numbered changes no other's number
pub number_kept : (names : List (List ℕ)) (new other : List ℕ) (n : ℕ) → number_of names other ≡ Some n → number_of (numbered names new) other ≡ Some n
number_kept names new other n at = by (is_named names new)
  where
    by : (b : Bool) → number_of (if b then names else names ++ new ∷ []) other ≡ Some n
    by true = at
    by false = position_kept (is_name other) names (new ∷ []) n at

-- no place passes
pub position_none : {X : Type 0} (p : X → Bool) (xs : List X) (d : X) → ((k : ℕ) → k < length xs → p (get_or xs k d) ≡ false) → position p xs ≡ None
position_none p xs d fails =
    ap (λ n. cond (nat_lt n (length xs)) (Some n) None) (position_or_len_is p xs (length xs) d (omega arith) fails (λ l. absurd (omega (arith, l))))
    ∙ ap (λ b. cond b (Some (length xs)) None) (le-ltb (length xs) (length xs) (omega arith))

-- the first place that passes
pub position_some : {X : Type 0} (p : X → Bool) (xs : List X) (i : ℕ) (d : X) → i < length xs → ((k : ℕ) → k < i → p (get_or xs k d) ≡ false)
    → p (get_or xs i d) ≡ true → position p xs ≡ Some i
position_some p xs i d l fails passes =
    ap (λ n. cond (nat_lt n (length xs)) (Some n) None) (position_or_len_is p xs i d (omega (arith, l)) fails (λ _. passes))
    ∙ ap (λ b. cond b (Some i) None) (lt-ltb i (length xs) l)

-- where no name is given twice, a name's number is its only place
pub only_number : (names : List (List ℕ)) (name : List ℕ) (n i : ℕ) → IsDistinct is_name names → number_of names name ≡ Some n → i < length names
    → is_name name (get_or names i []) ≡ nat_eq n i
only_number names name n i distinct at l = same_truth (is_name name (get_or names i [])) (nat_eq n i) there back
  where
    first : (n < length names) × (is_name name (get_or names n []) ≡ true) × ((k : ℕ) → k < n → is_name name (get_or names k []) ≡ false)
    first = position-Some (is_name name) names n [] at

    at_least : is_name name (get_or names i []) ≡ true → i < n → ⊥
    at_least h below = true≢false (sym h ∙ first.2 i below)

    at_most : is_name name (get_or names i []) ≡ true → n < i → ⊥
    at_most h above = true≢false (sym (subst (λ x. is_name x (get_or names i []) ≡ true) (name_same name (get_or names n []) first.1) h)
        ∙ apart_from_distinct is_name names n i [] distinct above l)

    there : is_name name (get_or names i []) ≡ true → nat_eq n i ≡ true
    there h = elim (cases_order n i) [
      | inl e ↦ eq-eqb n i e
      | inr o ↦ absurd (elim o [ inl above ↦ at_most h above | inr below ↦ at_least h below ])
    ]

    back : nat_eq n i ≡ true → is_name name (get_or names i []) ≡ true
    back e = subst (λ k. is_name name (get_or names k []) ≡ true) (eqb-true n i e) first.1
