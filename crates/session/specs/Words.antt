-- The words that a program is started with, and what they ask for.
use Rattle.std.specs.Prelude.{ℕ, ◌^◌, nat_le, nat_lt, ◌&&◌, if◌then◌else◌, Bool, List, [], ◌∷◌, length, bytes_eq, codes, Option, Some, None, option_map}
use Rattle.std.specs.Char.{is_ascii_digit}
use Rattle.std.specs.List.{list_all}
use Rattle.std.specs.Str.Parse.{digits_value}
use Rattle.session.specs.declared.words.Mode.{Mode}
use Rattle.session.specs.declared.words.Mode.TheVariants.{Session, Workload}

-- the words without the first that is `--`: it only says that no flags come after it
abbrev pub without_dashes : List (List ℕ) → List (List ℕ)
without_dashes [] = []
without_dashes (word ∷ words) = if bytes_eq word (codes "--") then words else word ∷ without_dashes words

-- one to ten digits `0` to `9`
abbrev pub is_numeral : List ℕ → Bool
is_numeral word = nat_le 1 (length word) && (nat_le (length word) 10 && list_all is_ascii_digit word)

-- the number of one to ten digits that a word is, at most 4,294,967,295
abbrev pub number_of : List ℕ → Option ℕ
number_of word = if is_numeral word && nat_lt (digits_value 10 word) (2 ^ 32) then Some (digits_value 10 word) else None

-- `session`, or `workload` and a number
abbrev pub mode_named : List (List ℕ) → Option Mode
mode_named (word ∷ []) = if bytes_eq word (codes "session") then Some Session else None
mode_named (word ∷ number ∷ []) = if bytes_eq word (codes "workload") then option_map Workload (number_of number) else None
mode_named _ = None

-- what the words ask for, none where they aren't a list that is defined
abbrev pub mode_of : List (List ℕ) → Option Mode
mode_of words = mode_named (without_dashes words)
