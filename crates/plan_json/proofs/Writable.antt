-- What can be written: whole numbers of 64 bits, texts in UTF-8, and lists and objects of what can be written.
use Rattle.std.proofs.Common.{◌≡◌, ℕ, suc, ◌^◌, ◌<◌, ◌≤◌, List, [], ◌∷◌, true, Option, Some, None, IfSome, IsUtf8, Ordering, Less, Equal, Greater, refl}
use Rattle.std.proofs.Common.{ap, ◌∙◌, arith}
use Rattle.std.specs.Prelude.{⊤}
use Rattle.std.specs.List.{All, AllByRecursion}
use Rattle.std.specs.Ordering.{nat_cmp, match_ordering, ordering_reverse}
use Rattle.std.specs.Cmp.Lexicographic.{slice_cmp}
use Rattle.std.proofs.lemmas.Cmp.{nat_list_cmp_total}
use Rattle.std.proofs.lemmas.List.Elements.{All-weaker}
use Rattle.json.proofs.Printed.Utf8.{are_ascii, IsUtf8-are_ascii}
use Rattle.serde_json.specs.Data.{Data, string, object}
use Rattle.plan_json.specs.Exact.{IsWritten}
use Rattle.plan_json.specs.Order.{IsBefore}
use Rattle.plan_json.specs.Values.{whole, list_of, Named, may_have, with_named, in_byte_order, those_there, object_of}
use Rattle.plan_json.proofs.Items.{all_written}

pub deeper_written : (n m : ℕ) (d : Data) → n ≤ m → IsWritten n d → IsWritten m d
deeper_written n m d most w = record { exact = w.exact; in_order = w.in_order; flat = omega (arith, most, w.flat) }

pub whole_written : (n k : ℕ) → k < 2 ^ 64 → IsWritten n (whole k)
whole_written n k few = record { exact = few; in_order = tt; flat = omega arith }

pub text_written : (n : ℕ) (s : List ℕ) → IsUtf8 s → IsWritten n (string s)
text_written n s utf8 = record { exact = utf8; in_order = tt; flat = omega arith }

-- ---- lists

pub list_written : {T : Type 0} (n : ℕ) (f : T → Data) (xs : List T) → All (λ x. IsWritten n (f x)) xs → IsWritten (suc n) (list_of f xs)
list_written n f xs h =
    let items = all_written n f xs h in
    record { exact = items.exact; in_order = items.in_order; flat = omega (arith, items.flat) }

pub numbers_written : (n : ℕ) (ks : List ℕ) → All (λ k. k < 2 ^ 64) ks → IsWritten (suc n) (list_of whole ks)
numbers_written n ks few = list_written n whole ks (All-weaker (λ k. k < 2 ^ 64) (λ k. IsWritten n (whole k)) (whole_written n) ks few)

-- ---- objects

-- the member's name is UTF-8, and its value, where it is there, can be written
pub record IsWritable (n : ℕ) (m : Named) : Type 0 where
  pub name : IsUtf8 m.0
  pub value : IfSome m.1 (IsWritten n)

-- each of the members can be written
pub record AreWritable (n : ℕ) (ms : List Named) : Type 0 where
  pub each : AllByRecursion (IsWritable n) ms

pub none_writable : (n : ℕ) → AreWritable n []
none_writable n = record { each = tt }

-- with a member before the others
pub more_writable : (n : ℕ) (name : List ℕ) (o : Option Data) (ms : List Named) → are_ascii name ≡ true → IfSome o (IsWritten n) → AreWritable n ms
    → AreWritable n (may_have name o ∷ ms)
more_writable n name o ms ascii value rest = record { each = (record { name = IsUtf8-are_ascii name ascii; value = value }, rest.each) }

-- the name comes before those of all these members
abbrev IsFirst : List ℕ → List Named → Type 0
IsFirst k ms = AllByRecursion (λ m. slice_cmp nat_cmp k m.0 ≡ Less) ms

-- each member can be written, and its name comes before those of the members after it
abbrev AreInOrder : ℕ → List Named → Type 0
AreInOrder n [] = ⊤
AreInOrder n (m ∷ ms) = IsWritable n m × IsFirst m.0 ms × AreInOrder n ms

first_before : (k l : List ℕ) (ms : List Named) → slice_cmp nat_cmp k l ≡ Less → IsFirst l ms → IsFirst k ms
first_before k l [] less h = tt
first_before k l (m ∷ ms) less h = (nat_list_cmp_total.trans k l m.0 less h.0, first_before k l ms less h.1)

first_same : (k l : List ℕ) (ms : List Named) → slice_cmp nat_cmp k l ≡ Equal → IsFirst l ms → IsFirst k ms
first_same k l [] same h = tt
first_same k l (m ∷ ms) same h = (nat_list_cmp_total.congr k l m.0 same ∙ h.0, first_same k l ms same h.1)

first_with_at : (o : Ordering) (k : List ℕ) (m l : Named) (ls rest : List Named) → slice_cmp nat_cmp k m.0 ≡ Less → IsFirst k (l ∷ ls)
    → IsFirst k rest → IsFirst k (match_ordering o (m ∷ l ∷ ls) (m ∷ ls) (l ∷ rest))
first_with_at Less k m l ls rest less h later = (less, h)
first_with_at Equal k m l ls rest less h later = (less, h.1)
first_with_at Greater k m l ls rest less h later = (h.0, later)

-- a name that comes before the new one and before the others comes before all
first_with : (k : List ℕ) (m : Named) (ms : List Named) → slice_cmp nat_cmp k m.0 ≡ Less → IsFirst k ms → IsFirst k (with_named m ms)
first_with k m [] less h = (less, tt)
first_with k m (l ∷ ls) less h = first_with_at (slice_cmp nat_cmp m.0 l.0) k m l ls (with_named m ls) less h (first_with k m ls less h.1)

with_at : (o : Ordering) (n : ℕ) (m l : Named) (ls : List Named) → slice_cmp nat_cmp m.0 l.0 ≡ o → IsWritable n m → AreInOrder n (l ∷ ls)
    → AreInOrder n (with_named m ls) → AreInOrder n (match_ordering o (m ∷ l ∷ ls) (m ∷ ls) (l ∷ with_named m ls))
with_at Less n m l ls is one all later = (one, (is, first_before m.0 l.0 ls is all.1), all)
with_at Equal n m l ls is one all later = (one, first_same m.0 l.0 ls is all.1, all.2)
with_at Greater n m l ls is one all later =
    (all.0, first_with l.0 m ls (nat_list_cmp_total.antisymm l.0 m.0 ∙ ap ordering_reverse is) all.1, later)

-- a member that goes in keeps the order
with_in_order : (n : ℕ) (m : Named) (ms : List Named) → IsWritable n m → AreInOrder n ms → AreInOrder n (with_named m ms)
with_in_order n m [] one all = (one, tt, tt)
with_in_order n m (l ∷ ls) one all = with_at (slice_cmp nat_cmp m.0 l.0) n m l ls refl one all (with_in_order n m ls one all.2)

are_in_order : (n : ℕ) (ms : List Named) → AllByRecursion (IsWritable n) ms → AreInOrder n (in_byte_order ms)
are_in_order n [] h = tt
are_in_order n (m ∷ ms) h = with_in_order n m (in_byte_order ms) h.0 (are_in_order n ms h.1)

before_there : (k : List ℕ) (ms : List Named) → IsFirst k ms → IsBefore k (those_there ms)
before_there k [] h = tt
before_there k ((l, None) ∷ ms) h = before_there k ms h.1
before_there k ((l, Some d) ∷ ms) h = h.0

there_written : (n : ℕ) (ms : List Named) → AreInOrder n ms → IsWritten (suc n) (object (those_there ms))
there_written n [] h = record { exact = tt; in_order = tt; flat = omega arith }
there_written n ((k, None) ∷ ms) h = there_written n ms h.2
there_written n ((k, Some d) ∷ ms) h =
    let value : IsWritten n d = h.0.value in
    let rest = there_written n ms h.2 in
    record {
      exact = (h.0.name, value.exact, rest.exact);
      in_order = (before_there k ms h.1, value.in_order, rest.in_order);
      flat = omega (arith, value.flat, rest.flat);
    }

-- an object of members that can be written, in whatever order they are named
pub object_written : (n : ℕ) (ms : List Named) → AreWritable n ms → IsWritten (suc n) (object_of ms)
object_written n ms h = there_written n (in_byte_order ms) (are_in_order n ms h.each)
