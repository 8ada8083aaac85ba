-- Where the first newline of some bytes is.
use Rattle.std.specs.Prelude.{◌≡◌, ◌≢◌, ℕ, ◌+◌, ◌<◌, List, [], ◌∷◌, length, take, drop, None, Some}
use Rattle.std.specs.declared.option.Option.{Option}

-- no byte is a newline
abbrev pub NoNewline : List ℕ → Type 0
NoNewline [] = Unit {0}
NoNewline (b ∷ bs) = (b ≢ 10) × NoNewline bs

-- the first newline stands after n bytes
pub record EndsAt (bytes : List ℕ) (n : ℕ) : Type 0 where
  pub within : n < length bytes
  pub clear : NoNewline (take n bytes)
  pub newline : drop n bytes ≡ 10 ∷ drop (n + 1) bytes

-- a newline stands somewhere
abbrev pub HasNewline : List ℕ → Type 0
HasNewline bytes = (n : ℕ) × EndsAt bytes n

-- the place of the first newline, or none where there is none
abbrev pub IsFirstNewline : List ℕ → Option ℕ → Type 0
IsFirstNewline bytes None = NoNewline bytes
IsFirstNewline bytes (Some n) = EndsAt bytes n
