-- Names and words of the source, which stand there with their quotes.
use Rattle.std.specs.Prelude.{ℕ, ◌-◌, ◌==◌, List, [], ◌∷◌, ◌++◌, length, take, drop, Bool, true, false, not, ◌&&◌, bytes_eq}
use Rattle.std.specs.Int.{is_in_range}
use Rattle.std.specs.List.{list_all}
use Rattle.std.specs.Ordering.{nat_cmp, match_ordering}
use Rattle.std.specs.Cmp.Lexicographic.{slice_cmp}

-- the byte is printable ASCII that needs no escape
abbrev pub is_plain_byte : ℕ → Bool
is_plain_byte x = is_in_range 32 126 x && not (x == 34) && not (x == 92)

-- the text between the quotes
abbrev pub word_in : List ℕ → List ℕ
word_in text = take (length text - 2) (drop 1 text)

-- a word in quotes
abbrev pub is_word : List ℕ → Bool
is_word text = list_all is_plain_byte (word_in text) && bytes_eq text (34 ∷ (word_in text ++ 34 ∷ []))

-- the name in a comma, the name in quotes, and a colon
abbrev pub name_in : List ℕ → List ℕ
name_in text = take (length text - 4) (drop 2 text)

-- a comma, a name in quotes, and a colon
abbrev pub is_name : List ℕ → Bool
is_name text = list_all is_plain_byte (name_in text) && bytes_eq text (44 ∷ 34 ∷ (name_in text ++ 34 ∷ 58 ∷ []))

-- the name comes before another in byte order
abbrev pub is_before : List ℕ → List ℕ → Bool
is_before k l = match_ordering (slice_cmp nat_cmp k l) true false false

-- a member's name, which comes before those of the members after it
abbrev pub is_next : List ℕ → List (List ℕ) → Bool
is_next text names = is_name text && list_all (is_before (name_in text)) names
