-- The decimal text of a number in pieces.
use Rattle.std.proofs.Common.{◌≡◌, ℕ, ◌+◌, ◌/◌, ◌%◌, ◌^◌, ◌<◌, ◌≤◌, [], ◌∷◌, ◌++◌, arith}
use Rattle.std.proofs.lemmas.Fmt.{decimal_digit}
use Rattle.std.specs.Fmt.{decimal}
use Rattle.itoa.proofs.Decimal as Itoa
use Rattle.plan_json.specs.Digits.{four_digits}

pub decimal_three : (n : ℕ) → 100 ≤ n → n < 1000 → decimal n ≡ (48 + n / 100) ∷ (48 + n / 10 % 10) ∷ (48 + n % 10) ∷ []
decimal_three n least most =
    let tens : n % 100 / 10 ≡ n / 10 % 10 = omega arith in
    let ones : n % 100 % 10 ≡ n % 10 = omega arith in
    rw (Itoa.decimal_pair n least (omega arith), decimal_digit (n / 100) (omega arith), tens, ones)

pub decimal_four : (n : ℕ) → 1000 ≤ n → n < 10000 → decimal n ≡ four_digits n
decimal_four n least most =
    let first : n / 100 / 10 ≡ n / 1000 = omega arith in
    let tens : n % 100 / 10 ≡ n / 10 % 10 = omega arith in
    let ones : n % 100 % 10 ≡ n % 10 = omega arith in
    rw (Itoa.decimal_pair n (omega arith) (omega arith), Itoa.decimal_two (n / 100) (omega arith) (omega arith), first, tens, ones)

pub decimal_with_four : (n : ℕ) → 10000 ≤ n → n < 2 ^ 64 → decimal n ≡ decimal (n / 10000) ++ four_digits (n % 10000)
decimal_with_four n least most =
    let first : n % 10000 / 100 / 10 ≡ n % 10000 / 1000 = omega arith in
    let tens : n % 10000 % 100 / 10 ≡ n % 10000 / 10 % 10 = omega arith in
    let ones : n % 10000 % 100 % 10 ≡ n % 10000 % 10 = omega arith in
    rw (Itoa.decimal_four n least most, first, tens, ones)
