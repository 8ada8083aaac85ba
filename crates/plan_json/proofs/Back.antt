-- What is written is read again.
use Rattle.std.proofs.Common.{◌≡◌, ℕ, suc, ◌+◌, ◌≤◌, List, [], ◌∷◌, map, length, All, Some, Result, Ok, refl, ap, arith}
use Rattle.std.proofs.lemmas.Bool.{le-leb}
use Rattle.std.proofs.lemmas.List.Elements.{All-head, All-tail}
use Rattle.serde_json.specs.Data.{Data, string, Members}
use Rattle.plan_base.specs.declared.number.Sec.{Sec}
use Rattle.plan_json.specs.declared.member.Member.{Member}
use Rattle.plan_json.specs.declared.fault.JsonFault.{JsonFault}
use Rattle.plan_json.specs.Object.{value_of}
use Rattle.plan_json.specs.Reading.{read_each, read_from}
use Rattle.plan_json.specs.Text.{text_in}
use Rattle.plan_json.specs.Whole.{number_in}
use Rattle.plan_json.specs.Moment.{moment_in, last_moment}
use Rattle.plan_json.specs.List.{list_in}
use Rattle.plan_json.specs.Elements.{each_of}
use Rattle.plan_json.specs.Values.{whole, list_of}
use Rattle.plan_json.specs.Ranges.{IsBetween, IsText}
use Rattle.plan_json.proofs.Values.{elements_of_items}

pub number_back : (least most : ℕ) (m : Member) (n : ℕ) → IsBetween least most n → number_in least most m (whole n) ≡ Ok n
number_back least most m n h = rw (le-leb least n h.low, le-leb n most h.high) refl

pub text_back : (m : Member) (s : List ℕ) → IsText s → text_in m (string s) ≡ Ok s
text_back m s h = rw (le-leb 1 (length s) h.low, le-leb (length s) 128 h.high) refl

pub moment_back : (m : Member) (s : Sec) → s.0 ≤ last_moment → moment_in m (whole s.0) ≡ Ok s
moment_back m s h = rw (le-leb 0 s.0 (omega arith), le-leb s.0 last_moment h) refl

-- elements that are each read again
pub each_back : {X E : Type 0} (P : X → Type 0) (f : X → Data) (reading : Data → Result X E) → ((x : X) → P x → reading (f x) ≡ Ok x) → (xs : List X) → All P xs
    → read_each reading (map f xs) ≡ Ok xs
each_back P f reading h [] all = refl
each_back P f reading h (x ∷ xs) all =
    rw (h x (All-head P x xs all), each_back P f reading h xs (All-tail P x xs all)) refl

pub each_back_from : {X E : Type 0} (P : X → Type 0) (f : X → Data) (reading : ℕ → Data → Result X E)
    → ((i : ℕ) (x : X) → P x → reading i (f x) ≡ Ok x) → (i : ℕ) (xs : List X)
    → All P xs → read_from reading i (map f xs) ≡ Ok xs
each_back_from P f reading h i [] all = refl
each_back_from P f reading h i (x ∷ xs) all =
    rw (h i x (All-head P x xs all), each_back_from P f reading h (i + 1) xs (All-tail P x xs all)) refl

pub as_long : {X Y : Type 0} (f : X → Y) (xs : List X) → length (map f xs) ≡ length xs
as_long f [] = refl
as_long f (x ∷ xs) = ap suc (as_long f xs)

-- a list with a count in the range
pub list_back : {X : Type 0} (f : X → Data) (m : Member) (least most : ℕ) (xs : List X) → IsBetween least most (length xs)
    → list_in m least most (list_of f xs) ≡ Ok (map f xs)
list_back f m least most xs h = rw (elements_of_items (map f xs), as_long f xs, le-leb least (length xs) h.low, le-leb (length xs) most h.high) refl

-- a list of elements that are each read again
pub each_member_back : {T : Type 0} (P : T → Type 0) (f : T → Data) (element_in : Member → Data → Result T JsonFault)
    → ((m : Member) (x : T) → P x → element_in m (f x) ≡ Ok x) → (least most : ℕ) (ms : Members) (m : Member) (xs : List T)
    → value_of ms m ≡ Some (list_of f xs) → IsBetween least most (length xs) → All P xs → each_of element_in least most ms m ≡ Ok xs
each_member_back P f element_in h least most ms m xs found count each =
    rw (found, list_back f m least most xs count, each_back P f (element_in m) (h m) xs each) refl
