-- Which texts are moments, and which second each names.
use Rattle.std.specs.Prelude.{ℕ, ◌+◌, ◌-◌, ◌*◌, ◌==◌, List, [], ◌∷◌, Bool, ◌&&◌, ◌||◌, nat_le, nat_lt, if◌then◌else◌, length, drop, slice_index}
use Rattle.std.specs.Prelude.{take_while, bytes_eq, codes, pos, unsigned_abs, Option, Some, None, option_map, option_and_then, ok_or, Result, Err}
use Rattle.std.specs.Char.{is_ascii_digit}
use Rattle.std.specs.Int.{is_in_range}
use Rattle.std.specs.List.{list_all}
use Rattle.jiff_core.specs.Calendar.{days_in_month, days_from_civil}
use Rattle.serde_json.specs.Data.{Data, null, boolean, number, string, array, object}
use Rattle.plan_base.specs.declared.number.Sec.{Sec}
use Rattle.plan_json.specs.declared.member.Member.{Member}
use Rattle.plan_json.specs.declared.fault.JsonFault.{JsonFault}
use Rattle.plan_json.specs.declared.fault.JsonFault.TheVariants.{WrongKind, BadMoment}
use Rattle.plan_json.specs.Reading.{result_map}
use Rattle.plan_json.specs.Whole.{whole_number}

-- the last second of the year 9999
abbrev pub last_moment : ℕ
last_moment = 253_402_300_799

-- nothing, Z or +00:00
abbrev pub is_utc : List ℕ → Bool
is_utc s = (length s == 0) || bytes_eq s (codes "Z") || bytes_eq s (codes "+00:00")

-- how many zeros stand at the front
abbrev pub zeros_of : List ℕ → ℕ
zeros_of s = length (take_while (λ x. x == 48) s)

-- 1 to 9 zeros, and then nothing, Z or +00:00
abbrev pub is_fraction : List ℕ → Bool
is_fraction s = is_in_range 1 9 (zeros_of s) && is_utc (drop (zeros_of s) s)

-- a point with 1 to 9 zeros or no point, and then nothing, Z or +00:00
unfoldable pub is_ending : List ℕ → Bool
is_ending s = if slice_index s 0 == 46 then is_fraction (drop 1 s) else is_utc s

-- the digits of YYYY-MM-DDTHH:MM:SS are digits
unfoldable pub has_digits : List ℕ → Bool
has_digits s =
    list_all (λ at. is_ascii_digit (slice_index s at)) (0 ∷ 1 ∷ 2 ∷ 3 ∷ 5 ∷ 6 ∷ 8 ∷ 9 ∷ 11 ∷ 12 ∷ 14 ∷ 15 ∷ 17 ∷ 18 ∷ [])

-- its hyphens are hyphens and its colons colons, and T or a space stands between the day and the time
unfoldable pub has_marks : List ℕ → Bool
has_marks s =
    (slice_index s 4 == 45) && (slice_index s 7 == 45)
    && ((slice_index s 10 == 84) || (slice_index s 10 == 32))
    && (slice_index s 13 == 58) && (slice_index s 16 == 58)

-- YYYY-MM-DD, one T or space, HH:MM:SS, and an ending
abbrev pub has_form : List ℕ → Bool
has_form s = nat_le 19 (length s) && has_digits s && has_marks s && is_ending (drop 19 s)

-- the number that two digits write
abbrev pub two_digits : List ℕ → ℕ → ℕ
two_digits s i = 10 * (slice_index s i - 48) + (slice_index s (i + 1) - 48)

-- a day of the calendar, in the years 1970 to 9999
abbrev pub is_day : ℕ → ℕ → ℕ → Bool
is_day year month day =
    is_in_range 1970 9999 year && is_in_range 1 12 month && is_in_range 1 (days_in_month (pos year) month) day

-- the day's number, 0 for 1970-01-01
abbrev pub day_number : ℕ → ℕ → ℕ → Option ℕ
day_number year month day =
    if is_day year month day then Some (unsigned_abs (days_from_civil (pos year) month day)) else None

-- the second's number in its day
abbrev pub second_of_day : ℕ → ℕ → ℕ → Option ℕ
second_of_day hour minute second =
    if nat_lt hour 24 && nat_lt minute 60 && nat_lt second 60 then Some (3600 * hour + 60 * minute + second) else None

-- the second that the text names, if it is a moment
abbrev pub second_of : List ℕ → Option ℕ
second_of s =
    if has_form s
    then option_and_then
    (λ day. option_map (λ second. 86_400 * day + second) (second_of_day (two_digits s 11) (two_digits s 14) (two_digits s 17)))
    (day_number (100 * two_digits s 0 + two_digits s 2) (two_digits s 5) (two_digits s 8))
    else None

-- the moment that is that many seconds after 1970-01-01T00:00:00Z
abbrev pub moment_at : ℕ → Sec
moment_at second = record { 0 = second }

-- the moment that a value is: a whole number of seconds up to the last one of the year 9999, or a text that names one
abbrev pub moment_in : Member → Data → Result Sec JsonFault
moment_in m null = Err (WrongKind m)
moment_in m (boolean b) = Err (WrongKind m)
moment_in m (number n) = result_map (λ z. moment_at (unsigned_abs z)) (whole_number m (pos 0) (pos last_moment) n)
moment_in m (string s) = ok_or (option_map moment_at (second_of s)) (BadMoment m)
moment_in m (array ds) = Err (WrongKind m)
moment_in m (object ms) = Err (WrongKind m)
