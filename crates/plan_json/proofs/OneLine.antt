-- The text of exact data has no newline, so it ends where its line ends.
use Rattle.std.proofs.Common.{◌≡◌, ℕ, suc, ◌^◌, ◌<◌, ◌≤◌, pos, negsuc, List, [], ◌∷◌, ◌++◌, drop, Bool, true, false, decimal, refl, ap, ap₂, arith, rules}
use Rattle.std.specs.List.{AllByRecursion}
use Rattle.std.specs.Char.{digit_char}
use Rattle.std.specs.Str.Parse.{AllDigits}
use Rattle.std.proofs.lemmas.Bool.Decides.{nat_tests}
use Rattle.std.proofs.lemmas.Fmt.{decimal_is_IsNumeral}
use Rattle.std.proofs.lemmas.Str.Parse.{digit_from_value}
use Rattle.json.specs.Print.{escape_byte, escape, quoted}
use Rattle.serde_json.specs.Data.{Num, unsigned, negative, float, Data, null, boolean, number, string, array, object, Items, no_items, item, Members}
use Rattle.serde_json.specs.Data.{no_members, member}
use Rattle.serde_json.specs.Written.{number_text, comma_if, compact_text, items_text, members_text}
use Rattle.plan_json.specs.Adds.{text_of}
use Rattle.plan_json.specs.Exact.{IsExactNumber, IsExact, AreExactItems, AreExactMembers}
use Rattle.plan_json.specs.TextLaws.{LinesAreDistinct}
use Rattle.plan_json.proofs.TextsBack.{texts_are_distinct}

-- no byte is a control
abbrev IsPlain : List ℕ → Type 0
IsPlain xs = AllByRecursion (λ x. 32 ≤ x) xs

both : (xs ys : List ℕ) → IsPlain xs → IsPlain ys → IsPlain (xs ++ ys)
both [] ys p q = q
both (x ∷ xs) ys p q = (p.0, both xs ys p.1 q)

one : (x : ℕ) (xs : List ℕ) → 32 ≤ x → IsPlain xs → IsPlain (x ∷ xs)
one x xs p q = (p, q)

-- ---- texts

digit_char_plain : (n : ℕ) → 32 ≤ digit_char n
digit_char_plain n = grind (arith, nat_tests)

escape_byte_plain : (x : ℕ) → IsPlain (escape_byte x)
unfolding escape_byte
escape_byte_plain x = grind (arith, nat_tests, digit_char_plain)

escape_plain : (s : List ℕ) → IsPlain (escape s)
escape_plain [] = tt
escape_plain (x ∷ s) = both (escape_byte x) (escape s) (escape_byte_plain x) (escape_plain s)

quoted_plain : (s : List ℕ) → IsPlain (quoted s)
quoted_plain s = (omega arith, both (escape s) (34 ∷ []) (escape_plain s) (omega arith, tt))

-- ---- numbers

digits_plain : (ds : List ℕ) → AllDigits 10 ds → IsPlain ds
digits_plain [] h = tt
digits_plain (d ∷ ds) h = let range = digit_from_value d h.0 in (omega (arith, range.0), digits_plain ds h.1)

decimal_plain : (n : ℕ) → n < 2 ^ 64 → IsPlain (decimal n)
decimal_plain n h = digits_plain (decimal n) (decimal_is_IsNumeral n h).0.1

number_plain : (n : Num) → IsExactNumber n → IsPlain (number_text n)
number_plain (unsigned n) h = decimal_plain n h
number_plain (negative (pos n)) h = absurd h
number_plain (negative (negsuc n)) h = (omega arith, decimal_plain (suc n) (omega arith))
number_plain (float x) h = absurd h

-- ---- values

comma_plain : (later : Bool) → IsPlain (comma_if later)
comma_plain true = (omega arith, tt)
comma_plain false = tt

mutual
  text_plain : (d : Data) → IsExact d → IsPlain (compact_text d)
  text_plain null h = search rules
  text_plain (boolean true) h = search rules
  text_plain (boolean false) h = search rules
  text_plain (number n) h = number_plain n h
  text_plain (string s) h = quoted_plain s
  text_plain (array ds) h = (omega arith, items_plain false ds h)
  text_plain (object ms) h = (omega arith, members_plain false ms h)

  items_plain : (later : Bool) (ds : Items) → AreExactItems ds → IsPlain (items_text later ds)
  items_plain later no_items h = (omega arith, tt)
  items_plain later (item d ds) h =
      both (comma_if later) (compact_text d ++ items_text true ds) (comma_plain later)
      (both (compact_text d) (items_text true ds) (text_plain d h.0) (items_plain true ds h.1))

  members_plain : (later : Bool) (ms : Members) → AreExactMembers ms → IsPlain (members_text later ms)
  members_plain later no_members h = (omega arith, tt)
  members_plain later (member k d ms) h =
      let rest = compact_text d ++ members_text true ms in
      let value = one 58 rest (omega arith) (both (compact_text d) (members_text true ms) (text_plain d h.1) (members_plain true ms h.2)) in
      both (comma_if later) (quoted k ++ 58 ∷ rest) (comma_plain later) (both (quoted k) (58 ∷ rest) (quoted_plain k) value)

-- ---- lines

-- a line ends where a newline stands
one_line : (xs ys s t : List ℕ) → IsPlain xs → IsPlain ys → xs ++ 10 ∷ s ≡ ys ++ 10 ∷ t → (xs ≡ ys) × (s ≡ t)
one_line [] [] s t p q e = (refl, ap (drop 1) e)
one_line [] (y ∷ ys) s t p q e = let same : y ≡ 10 = cc in absurd (omega (arith, q.0))
one_line (x ∷ xs) [] s t p q e = let same : x ≡ 10 = cc in absurd (omega (arith, p.0))
one_line (x ∷ xs) (y ∷ ys) s t p q e =
    let same : x ≡ y = cc in
    let rest = one_line xs ys s t p.1 q.1 (ap (drop 1) e) in
    (ap₂ (λ (z : ℕ) (zs : List ℕ). z ∷ zs) same rest.0, rest.1)

pub lines_are_distinct : LinesAreDistinct
unfolding text_of
lines_are_distinct c d s t p q e =
    let split = one_line (compact_text c) (compact_text d) s t (text_plain c p) (text_plain d q) e in
    (texts_are_distinct c d p q split.0, split.1)
