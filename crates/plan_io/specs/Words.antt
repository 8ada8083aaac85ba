-- The words that a program is started with.
use Rattle.std.specs.Prelude.{◌≡◌, ℕ, List, [], ◌∷◌, map, String, string_bytes}
use Rattle.std.specs.declared.alloc.Global.{Global}

-- the words are that one word
abbrev pub IsOneWord : List ℕ → List (String Global) → Type 0
IsOneWord word words = map string_bytes words ≡ word ∷ []
