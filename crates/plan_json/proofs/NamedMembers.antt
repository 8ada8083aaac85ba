-- What an object has by a name, where its members are named in any order, and which numbers two objects of one text have by one name.
use Rattle.std.proofs.Common.{◌≡◌, ℕ, List, [], ◌∷◌, Option, Some, None, Ordering, Less, Equal, Greater, refl, sym, ap, ◌∙◌, subst}
use Rattle.std.specs.Ordering.{nat_cmp, match_ordering, ordering_reverse}
use Rattle.std.specs.Cmp.Lexicographic.{slice_cmp}
use Rattle.std.proofs.lemmas.Cmp.{nat_list_cmp_total}
use Rattle.serde_json.specs.Data.{Data, null, boolean, number, string, array, object, Members, no_members, member}
use Rattle.serde_json.specs.Find.{get, get_member}
use Rattle.serde_json.specs.Written.{compact_text}
use Rattle.plan_json.specs.Exact.{IsExact, AreExactMembers}
use Rattle.plan_json.specs.Values.{Named, has, whole, those_there, with_named}
use Rattle.plan_json.proofs.Decimals.{same_number}
use Rattle.plan_json.proofs.Cuts.{same_at_name}

-- ---- members that are named in any order

self_by : (o : Ordering) → o ≡ ordering_reverse o → o ≡ Equal
self_by Less h = cc
self_by Equal h = refl
self_by Greater h = cc

same_name : (k : List ℕ) → slice_cmp nat_cmp k k ≡ Equal
same_name k = self_by (slice_cmp nat_cmp k k) (nat_list_cmp_total.antisymm k k)

first_there : (k : List ℕ) (d : Data) (ms : Members) → get_member k (member k d ms) ≡ Some d
first_there k d ms = rw (same_name k) refl

there_by : (o : Ordering) (k : List ℕ) (d : Data) (l : Named) (ls : List Named) → slice_cmp nat_cmp k l.0 ≡ o
    → get_member k (those_there (with_named (has k d) ls)) ≡ Some d
    → get_member k (those_there (match_ordering o (has k d ∷ l ∷ ls) (has k d ∷ ls) (l ∷ with_named (has k d) ls))) ≡ Some d
there_by Less k d l ls is rest = first_there k d (those_there (l ∷ ls))
there_by Equal k d l ls is rest = first_there k d (those_there ls)
there_by Greater k d (name, None) ls is rest = rest
there_by Greater k d (name, Some e) ls is rest = rw is rest

-- the member that is named is there
pub is_there : (k : List ℕ) (d : Data) (ls : List Named) → get_member k (those_there (with_named (has k d) ls)) ≡ Some d
is_there k d [] = first_there k d no_members
is_there k d (l ∷ ls) = there_by (slice_cmp nat_cmp k l.0) k d l ls refl (is_there k d ls)

-- a name after m is after each name that is the same as m
after_same : (k m l : List ℕ) → slice_cmp nat_cmp k m ≡ Greater → slice_cmp nat_cmp m l ≡ Equal → slice_cmp nat_cmp k l ≡ Greater
after_same k m l after same =
    nat_list_cmp_total.antisymm k l ∙ ap ordering_reverse (sym (nat_list_cmp_total.congr m l k same)) ∙ sym (nat_list_cmp_total.antisymm k m) ∙ after

past_by : (o : Ordering) (k m : List ℕ) (d : Data) (l : Named) (ls : List Named) → slice_cmp nat_cmp k m ≡ Greater → slice_cmp nat_cmp m l.0 ≡ o
    → get_member k (those_there (with_named (has m d) ls)) ≡ get_member k (those_there ls)
    → get_member k (those_there (match_ordering o (has m d ∷ l ∷ ls) (has m d ∷ ls) (l ∷ with_named (has m d) ls)))
    ≡ get_member k (those_there (l ∷ ls))
past_by Less k m d l ls after is rest = rw after refl
past_by Equal k m d (name, None) ls after is rest = rw after refl
past_by Equal k m d (name, Some e) ls after is rest = rw (after, after_same k m name after is) refl
past_by Greater k m d (name, None) ls after is rest = rest
past_by Greater k m d (name, Some e) ls after is rest = ap (λ (o : Option Data). match_ordering (slice_cmp nat_cmp k name) o (Some e) o) rest

-- and another member changes nothing of it
pub is_past : (k m : List ℕ) (d : Data) (ls : List Named) → slice_cmp nat_cmp k m ≡ Greater
    → get_member k (those_there (with_named (has m d) ls)) ≡ get_member k (those_there ls)
is_past k m d [] after = rw after refl
is_past k m d (l ∷ ls) after = past_by (slice_cmp nat_cmp m l.0) k m d l ls after refl (is_past k m d ls after)

-- ---- what is exact

exact_by : (o : Ordering) (d e : Data) (x : Option Data) → match_ordering o x (Some d) x ≡ Some e → IsExact d → (x ≡ Some e → IsExact e) → IsExact e
exact_by Less d e x h exact later = later h
exact_by Equal d e x h exact later = let same : d ≡ e = cc in subst IsExact same exact
exact_by Greater d e x h exact later = later h

exact_in : (name : List ℕ) (ms : Members) (d : Data) → AreExactMembers ms → get_member name ms ≡ Some d → IsExact d
exact_in name no_members d exact h = cc
exact_in name (member k e ms) d exact h = exact_by (slice_cmp nat_cmp name k) e d (get_member name ms) h exact.1 (λ g. exact_in name ms d exact.2 g)

pub exact_at : (name : List ℕ) (c d : Data) → IsExact c → get name c ≡ Some d → IsExact d
exact_at name null d exact h = cc
exact_at name (boolean x) d exact h = cc
exact_at name (number x) d exact h = cc
exact_at name (string x) d exact h = cc
exact_at name (array x) d exact h = cc
exact_at name (object ms) d exact h = exact_in name ms d exact h

-- objects of one text, of which nothing of one is lost, have one number by a name
pub one_number : (name : List ℕ) (c d : Data) (m n : ℕ) → IsExact c → compact_text c ≡ compact_text d → get name c ≡ Some (whole m)
    → get name d ≡ Some (whole n) → m ≡ n
one_number name c d m n exact same h g = same_number m n (exact_at name c (whole m) exact h) (same_at_name name c d (whole m) (whole n) same h g)
