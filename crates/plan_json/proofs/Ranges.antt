-- What was read lies in the range in which it is read.
use Rattle.std.proofs.Common.{◌≡◌, ℕ, suc, ◌+◌, ◌≤◌, ℤ, pos, negsuc, unsigned_abs, List, [], ◌∷◌, length, Bool, true, false, ◌&&◌, cond, nat_le}
use Rattle.std.proofs.Common.{is_some, Option, Some, None, option_map, ok_or, IfSome, Result, Ok, Err, IfOk, refl, sym, ap, subst}
use Rattle.std.specs.Prelude.{⊤}
use Rattle.std.specs.List.{All}
use Rattle.std.proofs.lemmas.Bool.{leb-true, and_parts}
use Rattle.std.proofs.lemmas.List.Elements.{All-nil, All-cons}
use Rattle.serde_json.specs.Data.{Num, unsigned, negative, float, Data, null, boolean, number, string, array, object, Members}
use Rattle.plan_base.specs.declared.number.Sec.{Sec}
use Rattle.plan_json.specs.declared.member.Member.{Member}
use Rattle.plan_json.specs.declared.fault.JsonFault.{JsonFault}
use Rattle.plan_json.specs.declared.fault.JsonFault.TheVariants.{Missing, OutOfRange, BadMoment}
use Rattle.plan_json.specs.Reading.{result_map, ◌>>=◌, read_each, read_from}
use Rattle.plan_json.specs.Object.{value_of, member_of, if_there, or_default}
use Rattle.plan_json.specs.Whole.{whole_number, within, number_in}
use Rattle.plan_json.specs.Text.{text_in}
use Rattle.plan_json.specs.Moment.{moment_in, moment_at, last_moment, second_of}
use Rattle.plan_json.specs.List.{counted, elements_in, list_in}
use Rattle.plan_json.specs.Elements.{each_of}
use Rattle.plan_json.specs.Ranges.{IsBetween, IsText}
use Rattle.plan_json.proofs.Calendar.{second_early}

-- what was read has the property, where it was read
pub record Gives {A E : Type 0} (r : Result A E) (P : A → Type 0) : Type 0 where
  pub ok : IfOk r P

-- ---- one reading after another

pub any : {A E : Type 0} (r : Result A E) → Gives r (λ _. ⊤)
any (Ok x) = record { ok = tt }
any (Err e) = record { ok = tt }

pub weaker : {A E : Type 0} {P Q : A → Type 0} {r : Result A E} → Gives r P → ((x : A) → P x → Q x) → Gives r Q
weaker {r = Ok x} h f = record { ok = f x h.ok }
weaker {r = Err e} h f = record { ok = tt }

pub either : {A E : Type 0} {P : A → Type 0} {r s : Result A E} (b : Bool) → Gives r P → Gives s P → Gives (cond b r s) P
either true p q = p
either false p q = q

-- a value that was tested
pub if_test : {A E : Type 0} (P : A → Type 0) (b : Bool) (x : A) (e : E) → (b ≡ true → P x) → Gives (cond b (Ok x) (Err e)) P
if_test P true x e h = record { ok = h refl }
if_test P false x e h = record { ok = tt }

-- a reading of what was read
pub after : {A B E : Type 0} {P : A → Type 0} {Q : B → Type 0} {r : Result A E} (f : A → Result B E) → Gives r P
    → ((x : A) → P x → Gives (f x) Q) → Gives (r >>= f) Q
after {r = Ok x} f p h = h x p.ok
after {r = Err e} f p h = record { ok = tt }

-- what is made of what was read
pub made : {A B E : Type 0} {P : A → Type 0} (Q : B → Type 0) {r : Result A E} (f : A → B) → Gives r P → ((x : A) → P x → Q (f x)) → Gives (result_map f r) Q
made Q {r = Ok x} f p h = record { ok = h x p.ok }
made Q {r = Err e} f p h = record { ok = tt }

found : {A E : Type 0} (P : A → Type 0) (o : Option A) (e : E) → IfSome o P → Gives (ok_or o e) P
found P None e h = record { ok = tt }
found P (Some x) e h = record { ok = h }

-- ---- values

within_between : (least most : ℕ) (m : Member) (z : ℤ) → Gives (within m (pos least) (pos most) z) (λ y. IsBetween least most (unsigned_abs y))
within_between least most m (pos n) =
    if_test (λ y. IsBetween least most (unsigned_abs y)) (nat_le least n && nat_le n most) (pos n) (OutOfRange m)
    (λ h. let both = and_parts _ _ h in record { low = leb-true least n both.0; high = leb-true n most both.1 })
within_between least most m (negsuc n) = record { ok = tt }

num_between : (least most : ℕ) (m : Member) (n : Num) → Gives (whole_number m (pos least) (pos most) n) (λ y. IsBetween least most (unsigned_abs y))
num_between least most m (unsigned n) = within_between least most m (pos n)
num_between least most m (negative z) = within_between least most m z
num_between least most m (float x) = record { ok = tt }

pub number_between : (least most : ℕ) (m : Member) (d : Data) → Gives (number_in least most m d) (IsBetween least most)
number_between least most m null = record { ok = tt }
number_between least most m (boolean b) = record { ok = tt }
number_between least most m (number n) = made (IsBetween least most) unsigned_abs (num_between least most m n) (λ z p. p)
number_between least most m (string s) = record { ok = tt }
number_between least most m (array ds) = record { ok = tt }
number_between least most m (object ms) = record { ok = tt }

pub text_short : (m : Member) (d : Data) → Gives (text_in m d) IsText
text_short m null = record { ok = tt }
text_short m (boolean b) = record { ok = tt }
text_short m (number n) = record { ok = tt }
text_short m (string s) =
    if_test IsText (nat_le 1 (length s) && nat_le (length s) 128) s (OutOfRange m)
    (λ h. let both = and_parts _ _ h in record { low = leb-true 1 (length s) both.0; high = leb-true (length s) 128 both.1 })
text_short m (array ds) = record { ok = tt }
text_short m (object ms) = record { ok = tt }

-- the moment isn't after the last
abbrev pub IsEarly : Sec → Type 0
IsEarly s = s.0 ≤ last_moment

early : (o : Option ℕ) → IfSome o (λ n. n ≤ last_moment) → IfSome (option_map moment_at o) IsEarly
early None h = tt
early (Some n) h = h

pub moment_early : (m : Member) (d : Data) → Gives (moment_in m d) IsEarly
moment_early m null = record { ok = tt }
moment_early m (boolean b) = record { ok = tt }
moment_early m (number n) = made IsEarly (λ z. moment_at (unsigned_abs z)) (num_between 0 last_moment m n) (λ z p. p.high)
moment_early m (string s) = found IsEarly (option_map moment_at (second_of s)) (BadMoment m) (early (second_of s) (second_early s))
moment_early m (array ds) = record { ok = tt }
moment_early m (object ms) = record { ok = tt }

list_between : (least most : ℕ) (m : Member) (d : Data) → Gives (list_in m least most d) (λ ds. IsBetween least most (length ds))
list_between least most m d =
    after (counted m least most) (any (elements_in m d))
    (λ ds _. if_test (λ es. IsBetween least most (length es)) (nat_le least (length ds) && nat_le (length ds) most) ds (OutOfRange m)
    (λ h. let both = and_parts _ _ h in record { low = leb-true least (length ds) both.0; high = leb-true (length ds) most both.1 }))

-- ---- members

of_member : {T : Type 0} (P : T → Type 0) (reading : Member → Data → Result T JsonFault) (ms : Members) (m : Member) → ((d : Data) → Gives (reading m d) P)
    → Gives (member_of reading ms m) P
of_member P reading ms m h = after (reading m) (any (ok_or (value_of ms m) (Missing m))) (λ d _. h d)

pub number_member : (least most : ℕ) (ms : Members) (m : Member) → Gives (member_of (number_in least most) ms m) (IsBetween least most)
number_member least most ms m = of_member (IsBetween least most) (number_in least most) ms m (number_between least most m)

pub number_member_or : (least most n : ℕ) (ms : Members) (m : Member) → IsBetween least most n
    → Gives (or_default n (number_in least most) ms m) (IsBetween least most)
number_member_or least most n ms m h = either (is_some (value_of ms m)) (number_member least most ms m) (record { ok = h })

pub text_member : (ms : Members) (m : Member) → Gives (member_of text_in ms m) IsText
text_member ms m = of_member IsText text_in ms m (text_short m)

pub text_member_if : (ms : Members) (m : Member) → Gives (if_there text_in ms m) (λ o. IfSome o IsText)
text_member_if ms m =
    either (is_some (value_of ms m)) (made (λ o. IfSome o IsText) Some (text_member ms m) (λ s p. p)) (record { ok = tt })

pub moment_member : (ms : Members) (m : Member) → Gives (member_of moment_in ms m) IsEarly
moment_member ms m = of_member IsEarly moment_in ms m (moment_early m)

pub list_member : (least most : ℕ) (ms : Members) (m : Member) → Gives (member_of (λ n. list_in n least most) ms m) (λ ds. IsBetween least most (length ds))
list_member least most ms m = of_member (λ ds. IsBetween least most (length ds)) (λ n. list_in n least most) ms m (list_between least most m)

-- ---- elements

-- as many as there were, each with the property
pub record AreEach {A B : Type 0} (P : B → Type 0) (xs : List A) (ys : List B) : Type 0 where
  pub count : length ys ≡ length xs
  pub all : All P ys

pub each : {A B E : Type 0} (P : B → Type 0) (f : A → Result B E) → ((x : A) → Gives (f x) P) → (xs : List A) → Gives (read_each f xs) (AreEach P xs)
each P f h [] = record { ok = record { count = refl; all = All-nil P } }
each P f h (x ∷ xs) =
    after (λ y. result_map (λ ys. y ∷ ys) (read_each f xs)) (h x)
    (λ y p. made (AreEach P (x ∷ xs)) (λ ys. y ∷ ys) (each P f h xs) (λ ys q. record { count = ap suc q.count; all = All-cons P y ys p q.all }))

pub each_from : {A B E : Type 0} (P : B → Type 0) (f : ℕ → A → Result B E) → ((i : ℕ) (x : A) → Gives (f i x) P) → (i : ℕ) (xs : List A)
    → Gives (read_from f i xs) (AreEach P xs)
each_from P f h i [] = record { ok = record { count = refl; all = All-nil P } }
each_from P f h i (x ∷ xs) =
    after (λ y. result_map (λ ys. y ∷ ys) (read_from f (i + 1) xs)) (h i x)
    (λ y p. made (AreEach P (x ∷ xs)) (λ ys. y ∷ ys) (each_from P f h (i + 1) xs) (λ ys q. record { count = ap suc q.count; all = All-cons P y ys p q.all }))

-- ---- lists of elements that are read alike

-- `least` to `most` of them, each with the property
pub record AreBetween {T : Type 0} (least most : ℕ) (P : T → Type 0) (xs : List T) : Type 0 where
  pub count : IsBetween least most (length xs)
  pub each : All P xs

pub each_member : {T : Type 0} (P : T → Type 0) (element_in : Member → Data → Result T JsonFault) → ((m : Member) (d : Data) → Gives (element_in m d) P)
    → (least most : ℕ) (ms : Members) (m : Member) → Gives (each_of element_in least most ms m) (AreBetween least most P)
each_member P element_in h least most ms m =
    after (read_each (element_in m)) (list_member least most ms m) (λ ds few.
    weaker (each P (element_in m) (h m) ds) (λ xs are. record { count = subst (IsBetween least most) (sym are.count) few; each = are.all }))
