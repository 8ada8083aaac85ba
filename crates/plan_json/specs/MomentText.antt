-- How a moment is written, and what is claimed of reading it.
use Rattle.std.specs.Prelude.{◌≡◌, ℕ, ◌+◌, ◌*◌, ◌/◌, ◌%◌, ◌<◌, ◌⊎◌, List, ◌∷◌, true, pos, unsigned_abs, Some}
use Rattle.jiff_core.specs.Calendar.{days_from_civil}
use Rattle.plan_json.specs.Moment.{is_day, is_ending, second_of}

-- the first of the two digits of a number below 100
abbrev pub tens : ℕ → ℕ
tens n = 48 + n / 10

-- the second of them
abbrev pub units : ℕ → ℕ
units n = 48 + n % 10

-- YYYY-MM-DD, a separator, HH:MM:SS, and an ending
abbrev pub moment_text : ℕ → ℕ → ℕ → ℕ → ℕ → ℕ → ℕ → List ℕ → List ℕ
moment_text year month day separator hour minute second ending =
    tens (year / 100) ∷ units (year / 100) ∷ tens (year % 100) ∷ units (year % 100) ∷ 45 ∷ tens month ∷ units month ∷ 45
    ∷ tens day ∷ units day ∷ separator ∷ tens hour ∷ units hour ∷ 58 ∷ tens minute ∷ units minute ∷ 58 ∷ tens second ∷ units second ∷ ending

-- a day of the calendar from 1970 on and a time of it, with a T or a space between, and what may follow
pub record IsMoment (year month day separator hour minute second : ℕ) (ending : List ℕ) : Type 0 where
  pub is_day : is_day year month day ≡ true
  pub has_hour : hour < 24
  pub has_minute : minute < 60
  pub has_second : second < 60
  pub is_separator : (separator ≡ 84) ⊎ (separator ≡ 32)
  pub is_ending : is_ending ending ≡ true

-- each moment is read from each of its texts
abbrev pub MomentsAreRead : Type 0
MomentsAreRead =
    (year month day separator hour minute second : ℕ) (ending : List ℕ) → IsMoment year month day separator hour minute second ending
    → second_of (moment_text year month day separator hour minute second ending)
    ≡ Some (86_400 * unsigned_abs (days_from_civil (pos year) month day) + (3600 * hour + 60 * minute + second))
