-- Words that are numbers, and words that are too many.
use Rattle.std.proofs.Common.{◌≡◌, ℕ, ◌<◌, ◌≤◌, ◌^◌, ◌&&◌, ◌==◌, nat_lt, nat_le, Bool, true, false, cond, List, [], ◌∷◌, length, drop, bytes_eq, codes}
use Rattle.std.proofs.Common.{refl, sym, ◌∙◌, ap, subst, arith, Some, None, Result, Err, map, String, Global, string_bytes}
use Rattle.std.specs.List.{list_all}
use Rattle.std.specs.Char.{digit_value, is_ascii_digit}
use Rattle.std.specs.Result.{OkIff}
use Rattle.std.specs.Str.Parse.{AllDigits, IsNumeral, digits_value, without_leading_plus, ParsesUnsigned}
use Rattle.std.proofs.lemmas.Bool.{ne_eqb}
use Rattle.std.proofs.lemmas.List.{length-map}
use Rattle.std.proofs.lemmas.Bool.Decides.{nat_tests}
use Rattle.session.specs.Words.{is_numeral, number_of, without_dashes, mode_named, mode_of}

-- ---- numbers

both : (a b : Bool) → a && b ≡ true → (a ≡ true) × (b ≡ true)
both true true h = (refl, refl)
both true false h = cc
both false b h = cc

digit : (c : ℕ) → is_ascii_digit c ≡ true → digit_value c < 10
digit c h = grind (arith, nat_tests, h)

all_digits : (word : List ℕ) → list_all (is_ascii_digit) word ≡ true → AllDigits 10 word
all_digits [] h = tt
all_digits (c ∷ cs) h =
    let parts = both (is_ascii_digit c) (list_all (is_ascii_digit) cs) h in
    (digit c parts.0, all_digits cs parts.1)

no_plus : (word : List ℕ) → 1 ≤ length word → list_all (is_ascii_digit) word ≡ true → without_leading_plus word ≡ word
no_plus [] some h = absurd (omega (arith, some))
no_plus (c ∷ cs) some h =
    let first : digit_value c < 10 = digit c (both (is_ascii_digit c) (list_all (is_ascii_digit) cs) h).0 in
    let other : (c == 43) ≡ false = ne_eqb c 43 (λ e. let plus : 36 < 10 = subst (λ (d : ℕ). digit_value d < 10) e first in absurd (omega (arith, plus))) in
    ap (λ (b : Bool). drop (cond b 1 0) (c ∷ cs)) other

numeral : (word : List ℕ) → is_numeral word ≡ true → (without_leading_plus word ≡ word) × IsNumeral 10 word
numeral word h =
    let one = both (nat_le 1 (length word)) (nat_le (length word) 10 && list_all (is_ascii_digit) word) h in
    let digits : list_all (is_ascii_digit) word ≡ true = (both (nat_le (length word) 10) (list_all (is_ascii_digit) word) one.1).1 in
    let some : 1 ≤ length word = grind (arith, nat_tests, one.0) in
    (no_plus word some digits, (omega (arith, some), all_digits word digits))

-- what `parse` answers, where no plus stands first
abbrev Parses : {E : Type 0} → List ℕ → Result ℕ E → Type 0
Parses ds r = OkIff r (IsNumeral 10 ds × (digits_value 10 ds < 2 ^ 32)) (digits_value 10 ds)

too_big : (word : List ℕ) (b : Bool) → is_numeral word ≡ true → nat_lt (digits_value 10 word) (2 ^ 32) ≡ b
    → ¬ (IsNumeral 10 word × (digits_value 10 word < 2 ^ 32)) → b ≡ false
too_big word false h is none = refl
too_big word true h is none = absurd (none ((numeral word h).1, grind (arith, nat_tests, is)))

pub number_unread : (E : Type 0) (word : List ℕ) (e : E) → is_numeral word ≡ true → ParsesUnsigned 32 10 word (Err e) → None ≡ number_of word
number_unread E word e h parsed =
    let known : Parses {E = E} word (Err e) = subst (λ (ds : List ℕ). Parses {E = E} ds (Err e)) (numeral word h).0 parsed in
    let big : nat_lt (digits_value 10 word) (2 ^ 32) ≡ false = too_big word (nat_lt (digits_value 10 word) (2 ^ 32)) h refl known in
    sym (ap (λ (b : Bool). cond (b && nat_lt (digits_value 10 word) (2 ^ 32)) (Some (digits_value 10 word)) None) h
    ∙ ap (λ (b : Bool). cond (true && b) (Some (digits_value 10 word)) None) big)

-- ---- too many words

left_over : (p q r : Bool) (a b c d : List ℕ) (rest tail : List (List ℕ))
    → None ≡ mode_named (cond p (b ∷ c ∷ d ∷ rest) (a ∷ cond q (c ∷ d ∷ rest) (b ∷ cond r (d ∷ rest) (c ∷ tail))))
left_over true q r a b c d rest tail = refl
left_over false true r a b c d rest tail = refl
left_over false false true a b c d [] tail = refl
left_over false false true a b c d (e ∷ rest) tail = refl
left_over false false false a b c d rest [] = refl
left_over false false false a b c d rest (e ∷ tail) = refl

too_many_of : (words : List (List ℕ)) → 4 ≤ length words → None ≡ mode_of words
too_many_of [] h = absurd (omega (arith, h))
too_many_of (a ∷ []) h = absurd (omega (arith, h))
too_many_of (a ∷ b ∷ []) h = absurd (omega (arith, h))
too_many_of (a ∷ b ∷ c ∷ []) h = absurd (omega (arith, h))
too_many_of (a ∷ b ∷ c ∷ d ∷ rest) h =
    left_over (bytes_eq a (codes "--")) (bytes_eq b (codes "--")) (bytes_eq c (codes "--")) a b c d rest (without_dashes (d ∷ rest))

pub too_many : (words : List (String Global)) → 4 ≤ length words → None ≡ mode_of (map string_bytes words)
too_many words h =
    let same : length (map (string_bytes {Z = Global}) words) ≡ length words = length-map words string_bytes in
    too_many_of (map string_bytes words) (omega (arith, same, h))
