-- Texts of moments are read as the moments.
use Rattle.std.proofs.Common.{◌≡◌, ℕ, ◌+◌, ◌-◌, ◌*◌, ◌/◌, ◌%◌, ◌<◌, ◌≤◌, ◌⊎◌, inl, inr, List, length, Bool, true, ◌&&◌, ◌||◌, cond, Option, Some, None}
use Rattle.std.proofs.Common.{option_map, option_and_then, nat_le, nat_eq, pos, unsigned_abs, refl, arith}
use Rattle.std.proofs.lemmas.Bool.{lt-ltb, le-leb, leb-true, and_parts}
use Rattle.std.specs.Char.{is_ascii_digit}
use Rattle.std.specs.Int.{is_in_range}
use Rattle.jiff_core.specs.Calendar.{days_in_month, days_from_civil}
use Rattle.jiff_core.proofs.CalendarLemmas.{days_in_month_bounds}
use Rattle.plan_json.specs.Moment.{is_day, has_digits, has_marks, has_form, two_digits, day_number, second_of_day}
use Rattle.plan_json.specs.MomentText.{tens, units, moment_text, IsMoment, MomentsAreRead}

tens_is_digit : (n : ℕ) → n < 100 → is_ascii_digit (tens n) ≡ true
tens_is_digit n h = grind arith

units_is_digit : (n : ℕ) → is_ascii_digit (units n) ≡ true
units_is_digit n = grind arith

digits_of_two : (n : ℕ) → 10 * (tens n - 48) + (units n - 48) ≡ n
digits_of_two n = grind arith

century_and_year : (n : ℕ) → 100 * (n / 100) + n % 100 ≡ n
century_and_year n = grind arith

at_most : (least most n : ℕ) → is_in_range least most n ≡ true → n ≤ most
at_most least most n h = leb-true n most (and_parts (nat_le least n) (nat_le n most) h).1

day_bounds : (year month day : ℕ) → is_day year month day ≡ true → (year < 10000) × (month < 100) × (day < 100)
day_bounds year month day h =
    let outer = and_parts (is_in_range 1970 9999 year && is_in_range 1 12 month) (is_in_range 1 (days_in_month (pos year) month) day) h in
    let inner = and_parts (is_in_range 1970 9999 year) (is_in_range 1 12 month) outer.0 in
    let longest = (days_in_month_bounds (pos year) month).0 in (
      omega (arith, at_most 1970 9999 year inner.0),
      omega (arith, at_most 1 12 month inner.1),
      omega (arith, at_most 1 (days_in_month (pos year) month) day outer.1, longest),
    )

digits_there : (year month day separator hour minute second : ℕ) (ending : List ℕ) → IsMoment year month day separator hour minute second ending
    → has_digits (moment_text year month day separator hour minute second ending) ≡ true
unfolding has_digits
digits_there year month day separator hour minute second ending m =
    let bounds = day_bounds year month day m.is_day in
    rw (
      tens_is_digit (year / 100) (omega (arith, bounds.0)),
      units_is_digit (year / 100),
      tens_is_digit (year % 100) (omega arith),
      units_is_digit (year % 100),
      tens_is_digit month bounds.1,
      units_is_digit month,
      tens_is_digit day bounds.2,
      units_is_digit day,
      tens_is_digit hour (omega (arith, m.has_hour)),
      units_is_digit hour,
      tens_is_digit minute (omega (arith, m.has_minute)),
      units_is_digit minute,
      tens_is_digit second (omega (arith, m.has_second)),
      units_is_digit second,
    ) refl

separator_there : (separator : ℕ) → (separator ≡ 84) ⊎ (separator ≡ 32) → (nat_eq separator 84 || nat_eq separator 32) ≡ true
separator_there separator (inl e) = rw e refl
separator_there separator (inr e) = rw e refl

marks_there : (year month day separator hour minute second : ℕ) (ending : List ℕ) → IsMoment year month day separator hour minute second ending
    → has_marks (moment_text year month day separator hour minute second ending) ≡ true
unfolding has_marks
marks_there year month day separator hour minute second ending m = rw (separator_there separator m.is_separator) refl

form_there : (year month day separator hour minute second : ℕ) (ending : List ℕ) → IsMoment year month day separator hour minute second ending
    → has_form (moment_text year month day separator hour minute second ending) ≡ true
form_there year month day separator hour minute second ending m =
    let text = moment_text year month day separator hour minute second ending in
    rw (
      le-leb 19 (length text) (omega arith),
      digits_there year month day separator hour minute second ending m,
      marks_there year month day separator hour minute second ending m,
      m.is_ending,
    ) refl

day_there : (year month day : ℕ) → is_day year month day ≡ true → day_number year month day ≡ Some (unsigned_abs (days_from_civil (pos year) month day))
day_there year month day h = rw h refl

time_there : (hour minute second : ℕ) → hour < 24 → minute < 60 → second < 60 → second_of_day hour minute second ≡ Some (3600 * hour + 60 * minute + second)
time_there hour minute second h k l = rw (lt-ltb hour 24 h, lt-ltb minute 60 k, lt-ltb second 60 l) refl

read_by : (form : Bool) (day time : Option ℕ) (d s : ℕ) → form ≡ true → day ≡ Some d → time ≡ Some s
    → cond form (option_and_then (λ n. option_map (λ t. 86_400 * n + t) time) day) None ≡ Some (86_400 * d + s)
read_by form day time d s is_form is_day is_time = rw (is_form, is_day, is_time) refl

-- each moment is read from each of its texts
pub moments_are_read : MomentsAreRead
moments_are_read year month day separator hour minute second ending m =
    let text = moment_text year month day separator hour minute second ending in
    let year_is : 100 * two_digits text 0 + two_digits text 2 ≡ year =
    rw (digits_of_two (year / 100), digits_of_two (year % 100)) (century_and_year year) in
    read_by (has_form text) _ _ _ _ (form_there year month day separator hour minute second ending m)
    (rw (year_is, digits_of_two month, digits_of_two day) (day_there year month day m.is_day))
    (rw (digits_of_two hour, digits_of_two minute, digits_of_two second) (time_there hour minute second m.has_hour m.has_minute m.has_second))
