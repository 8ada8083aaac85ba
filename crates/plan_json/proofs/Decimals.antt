-- What the digits of a number tell: a number of 64 bits is told by them, among all numbers.
use Rattle.std.proofs.Common.{◌≡◌, ◌≢◌, ℕ, zero, suc, ◌+◌, ◌*◌, ◌/◌, ◌%◌, ◌^◌, ◌<◌, ◌≤◌, List, [], ◌∷◌, length, Bool, true, false, cond, ◌==◌}
use Rattle.std.proofs.Common.{inl, inr, ◌⊎◌, sym, ap, ◌∙◌, arith, decimal}
use Rattle.std.specs.Fmt.{digits, digits_onto, digit_glyph}
use Rattle.std.specs.List.{AllByRecursion}
use Rattle.std.specs.Str.Parse.{digits_value}
use Rattle.std.proofs.lemmas.Bool.{ne_eqb, lt-ltb, cases_lt}
use Rattle.std.proofs.lemmas.Fmt.{decimal_is_IsNumeral_wide, length-decimal-le}

abbrev pub IsDigit : ℕ → Type 0
IsDigit x = (48 ≤ x) × (x ≤ 57)

glyph_digit : (d : ℕ) → d < 10 → IsDigit (digit_glyph false d)
glyph_digit d h = rw (lt-ltb d 10 h) (omega arith, omega arith)

onto_by : (b : Bool) (xs ys : List ℕ) → AllByRecursion IsDigit xs → AllByRecursion IsDigit ys → AllByRecursion IsDigit (cond b xs ys)
onto_by true xs ys h g = h
onto_by false xs ys h g = g

onto_digits : (k n : ℕ) (xs : List ℕ) → AllByRecursion IsDigit xs → AllByRecursion IsDigit (digits_onto k 10 false n xs)
onto_digits zero n xs h = h
onto_digits (suc k) n xs h =
    let more : AllByRecursion IsDigit (digit_glyph false (n % 10) ∷ xs) = (glyph_digit (n % 10) (omega arith), h) in
    onto_by (n / 10 == 0) (digit_glyph false (n % 10) ∷ xs) (digits_onto k 10 false (n / 10) (digit_glyph false (n % 10) ∷ xs)) more
    (onto_digits k (n / 10) (digit_glyph false (n % 10) ∷ xs) more)

pub decimal_digits : (n : ℕ) → AllByRecursion IsDigit (decimal n)
unfolding digits
decimal_digits n = onto_digits 64 n [] tt

tens : ℕ → ℕ
tens zero = 1
tens (suc k) = 10 * tens k

tens_some : (k : ℕ) → 1 ≤ tens k
unfolding tens
tens_some zero = omega arith
tens_some (suc k) = omega (arith, tens_some k)

-- a number that has more digits than are written has as many as may be
long_digits : (k n : ℕ) (xs : List ℕ) → tens k ≤ n → length (digits_onto k 10 false n xs) ≡ k + length xs
unfolding tens
long_digits zero n xs h = omega arith
long_digits (suc k) n xs h =
    let front : tens k ≤ n / 10 = omega arith in
    rw (ne_eqb (n / 10) 0 (λ e. omega (arith, front, tens_some k))) (long_digits k (n / 10) (digit_glyph false (n % 10) ∷ xs) front ∙ omega arith)

long_decimal : (n : ℕ) → 10 ^ 64 ≤ n → length (decimal n) ≡ 64
unfolding digits tens
long_decimal n h = long_digits 64 n [] h

number_by : (m n : ℕ) → m < 2 ^ 64 → decimal m ≡ decimal n → (n < 10 ^ 64) ⊎ (10 ^ 64 ≤ n) → m ≡ n
number_by m n small same (inl low) =
    let wide : m < 10 ^ 64 = omega arith in
    sym (decimal_is_IsNumeral_wide m wide).1 ∙ ap (digits_value 10) same ∙ (decimal_is_IsNumeral_wide n low).1
number_by m n small same (inr high) =
    let few : length (decimal m) ≤ 20 = length-decimal-le 20 m (omega arith) (omega arith) small in
    absurd (omega (arith, few, ap (λ (xs : List ℕ). length xs) same, long_decimal n high))

-- a number of 64 bits is told by its digits, among all numbers
pub same_number : (m n : ℕ) → m < 2 ^ 64 → decimal m ≡ decimal n → m ≡ n
same_number m n small same = number_by m n small same (cases_lt n (10 ^ 64))

onto_more : (k n : ℕ) (xs : List ℕ) → length xs ≤ length (digits_onto k 10 false n xs)
onto_more zero n xs = omega arith
onto_more (suc k) n xs =
    let rest : length (digit_glyph false (n % 10) ∷ xs) ≤ length (digits_onto k 10 false (n / 10) (digit_glyph false (n % 10) ∷ xs)) =
    onto_more k (n / 10) (digit_glyph false (n % 10) ∷ xs) in
    elim (n / 10 == 0) as (λ b. length xs
    ≤ length (cond b (digit_glyph false (n % 10) ∷ xs) (digits_onto k 10 false (n / 10) (digit_glyph false (n % 10) ∷ xs)))) [
      | true ↦ omega arith
      | false ↦ omega (arith, rest)
    ]

-- a number has a digit
pub decimal_some : (n : ℕ) → decimal n ≢ []
unfolding digits
decimal_some n none =
    let rest : 1 ≤ length (digits_onto 63 10 false (n / 10) (digit_glyph false (n % 10) ∷ [])) =
    onto_more 63 (n / 10) (digit_glyph false (n % 10) ∷ []) in
    let some : 1 ≤ length (decimal n) =
    elim (n / 10 == 0) as (λ b. 1
    ≤ length (cond b (digit_glyph false (n % 10) ∷ []) (digits_onto 63 10 false (n / 10) (digit_glyph false (n % 10) ∷ [])))) [
      | true ↦ omega arith
      | false ↦ rest
    ] in
    omega (arith, some, ap (λ (xs : List ℕ). length xs) none)
