-- The days from 1970-01-01 on.
use Rattle.std.proofs.Common.{◌≡◌, ℕ, ◌+◌, ◌*◌, ◌≤◌, ◌<◌, inl, inr, refl, ◌∙◌, arith, List, Bool, true, false, ◌&&◌, cond, nat_le, nat_lt}
use Rattle.std.proofs.Common.{Option, Some, None, option_map, option_and_then, IfSome, ℤ, pos, negsuc, ◌≤ℤ◌, unsigned_abs, to_z, of_z, w32}
use Rattle.std.specs.Int.{is_in_range}
use Rattle.std.proofs.lemmas.Bool.{cases_lt, leb-true, ltb-true, and_parts}
use Rattle.std.proofs.lemmas.Int.{by_lt_z}
use Rattle.jiff_core.specs.declared.civil.date.Date.{Date}
use Rattle.jiff_core.specs.Date.{epoch_day}
use Rattle.jiff_core.specs.Calendar.{day_count, days_in_month, days_from_civil, IsYear, IsCivilDate}
use Rattle.jiff_core.proofs.SignedLemmas.{signed_arith, back_small}
use Rattle.jiff_core.proofs.CalendarLemmas.{days_from_civil-day_count, day_count-epoch, day_count-lt_year, day_count-lt_month, day_count-day, day_count_bounds}
use Rattle.jiff_core.proofs.DateLemmas.{civil}
use Rattle.plan_json.specs.Moment.{last_moment, is_day, has_form, two_digits, day_number, second_of_day, second_of}
use borrow.Author.Differences.{up, down}

not_negative : (z : ℤ) → down z ≤ up z → (z ≡ pos (unsigned_abs z)) × (unsigned_abs z + down z ≡ up z)
not_negative (pos n) h = (refl, omega arith)
not_negative (negsuc n) h = absurd (omega arith)

epoch_is_civil : IsCivilDate (pos 1970) 1 1
epoch_is_civil = omega (arith, signed_arith)

-- no day of the year 1970 comes before its first
count_1970 : (m d : ℕ) → 1 ≤ m → 1 ≤ d → 4_371_953 ≤ day_count (pos 1970) m d
count_1970 m d month day =
    elim (cases_lt 1 m) [
      | inl later ↦ omega (arith, day_count-epoch, day_count-lt_month (pos 1970) 1 1 m d epoch_is_civil day later)
      | inr first ↦
          let is_first : m ≡ 1 = omega arith in
          rw is_first (omega (arith, day_count-epoch, day_count-day (pos 1970) 1 1 d (omega arith) day))
    ]

-- no day of the years from 1970 on comes before 1970-01-01
count_later : (y : ℤ) (m d : ℕ) → pos 1970 ≤ℤ y → IsCivilDate y m d → 4_371_953 ≤ day_count y m d
count_later y m d h civil =
    by_lt_z (pos 1970) y
    (λ later. omega (arith, day_count-epoch, day_count-lt_year (pos 1970) 1 1 y m d epoch_is_civil civil.2.0 later))
    (λ low. let same : y ≡ pos 1970 = omega (arith, signed_arith) in rw same (count_1970 m d civil.1.0 civil.2.0))

-- and so its number is the distance from there
civil-later : (y : ℤ) (m d : ℕ) → pos 1970 ≤ℤ y → IsCivilDate y m d
    → (days_from_civil y m d ≡ pos (unsigned_abs (days_from_civil y m d))) × (unsigned_abs (days_from_civil y m d) ≤ 2_932_896)
civil-later y m d h is_civil =
    let after = count_later y m d h is_civil in
    let count = days_from_civil-day_count y m d in
    let bounds = day_count_bounds y m d is_civil in
    let is = not_negative (days_from_civil y m d) (omega (arith, after, count)) in
    (is.0, omega (arith, after, count, bounds, is.1))

pub epoch_day-later : (d : Date) → pos 1970 ≤ℤ d.year → (epoch_day d ≡ pos (unsigned_abs (epoch_day d))) × (unsigned_abs (epoch_day d) ≤ 2_932_896)
epoch_day-later d h = civil-later d.year d.month d.day h (civil d)

-- it keeps its value in a word of 32 bits
pub day_in_word : (d : Date) (z : ℤ) → z ≡ epoch_day d → pos 1970 ≤ℤ d.year → to_z w32 (of_z w32 z) ≡ pos (unsigned_abs (epoch_day d))
day_in_word d z e h =
    let later = epoch_day-later d h in
    rw e (back_small w32 (epoch_day d) (omega (arith, later.1)) ∙ later.0)

-- ---- what a text names is a moment

some_if : (P : ℕ → Type 0) (b : Bool) (n : ℕ) → (b ≡ true → P n) → IfSome (cond b (Some n) None) P
some_if P true n h = h refl
some_if P false n h = tt

day_is_civil : (year month day : ℕ) → is_day year month day ≡ true → (pos 1970 ≤ℤ pos year) × IsCivilDate (pos year) month day
day_is_civil year month day h =
    let outer = and_parts (is_in_range 1970 9999 year && is_in_range 1 12 month) (is_in_range 1 (days_in_month (pos year) month) day) h in
    let inner = and_parts (is_in_range 1970 9999 year) (is_in_range 1 12 month) outer.0 in
    let years = and_parts (nat_le 1970 year) (nat_le year 9999) inner.0 in
    let months = and_parts (nat_le 1 month) (nat_le month 12) inner.1 in
    let days = and_parts (nat_le 1 day) (nat_le day (days_in_month (pos year) month)) outer.1 in
    let low = leb-true 1970 year years.0 in
    let high = leb-true year 9999 years.1 in
    let is_year : IsYear (pos year) = omega (arith, signed_arith, low, high) in (
      omega (arith, signed_arith, low),
      (
        is_year,
        (leb-true 1 month months.0, leb-true month 12 months.1),
        (leb-true 1 day days.0, leb-true day (days_in_month (pos year) month) days.1),
      ),
    )

day_early : (year month day : ℕ) → IfSome (day_number year month day) (λ n. n ≤ 2_932_896)
day_early year month day =
    some_if (λ n. n ≤ 2_932_896) (is_day year month day) (unsigned_abs (days_from_civil (pos year) month day))
    (λ h. let is = day_is_civil year month day h in (civil-later (pos year) month day is.0 is.1).1)

time_early : (hour minute second : ℕ) → IfSome (second_of_day hour minute second) (λ n. n < 86_400)
time_early hour minute second =
    some_if (λ n. n < 86_400) (nat_lt hour 24 && nat_lt minute 60 && nat_lt second 60) (3600 * hour + 60 * minute + second)
    (λ h. let outer = and_parts (nat_lt hour 24 && nat_lt minute 60) (nat_lt second 60) h in
    let inner = and_parts (nat_lt hour 24) (nat_lt minute 60) outer.0 in
    omega (arith, ltb-true hour 24 inner.0, ltb-true minute 60 inner.1, ltb-true second 60 outer.1))

moment_by : (form : Bool) (day time : Option ℕ) → IfSome day (λ n. n ≤ 2_932_896) → IfSome time (λ n. n < 86_400)
    → IfSome (cond form (option_and_then (λ n. option_map (λ t. 86_400 * n + t) time) day) None) (λ n. n ≤ last_moment)
moment_by false day time is_day is_time = tt
moment_by true None time is_day is_time = tt
moment_by true (Some n) None is_day is_time = tt
moment_by true (Some n) (Some t) is_day is_time = omega (arith, is_day, is_time)

-- no text names a moment after the last
pub second_early : (s : List ℕ) → IfSome (second_of s) (λ n. n ≤ last_moment)
second_early s =
    moment_by (has_form s) (day_number (100 * two_digits s 0 + two_digits s 2) (two_digits s 5) (two_digits s 8))
    (second_of_day (two_digits s 11) (two_digits s 14) (two_digits s 17))
    (day_early (100 * two_digits s 0 + two_digits s 2) (two_digits s 5) (two_digits s 8)) (time_early (two_digits s 11) (two_digits s 14) (two_digits s 17))
