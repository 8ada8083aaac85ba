-- Rows of starts, kept one after another in one list.
use Rattle.std.specs.Prelude.{◌≡◌, ℕ, ◌≤◌, List, [], ◌∷◌, length, slice_range}
use Rattle.interval_solver.specs.declared.start.Start.{Start}

-- the rows of which the first begins at a place, and each ends where the next begins
abbrev pub rows_from : List Start → ℕ → List ℕ → List (List Start)
rows_from starts begin [] = []
rows_from starts begin (end ∷ ends) = slice_range starts begin end ∷ rows_from starts end ends

-- the rows by the places where they begin, and where the last one ends
abbrev pub rows_of : List Start → List ℕ → List (List Start)
rows_of starts [] = []
rows_of starts (begin ∷ ends) = rows_from starts begin ends

-- the places rise up to the end of the list
abbrev pub AreEnds : List Start → ℕ → List ℕ → Type 0
AreEnds starts begin [] = begin ≡ length starts
AreEnds starts begin (end ∷ ends) = (begin ≤ end) × AreEnds starts end ends

-- where rows begin and end in the starts: the first number is where the first begins, and each later one where one ends
abbrev pub AreBounds : List Start → List ℕ → Type 0
AreBounds starts [] = ⊥
AreBounds starts (begin ∷ ends) = AreEnds starts begin ends
