-- What a text says of the data that it is of.
use Rattle.std.specs.Prelude.{◌≡◌, ℕ, List, [], ◌∷◌, ◌++◌, Ok}
use Rattle.serde_json.specs.Data.{Data}
use Rattle.serde_json.specs.Read.{max_depth}
use Rattle.plan_json.specs.Adds.{text_of}
use Rattle.plan_json.specs.Exact.{IsExact, IsWritten}
use Rattle.plan_json.specs.Object.{data_of}

-- the text of what is written is read as what was written
abbrev pub TextsAreReadBack : Type 0
TextsAreReadBack = (d : Data) → IsWritten max_depth d → data_of (text_of d) ≡ Ok d

-- and so it is where a newline follows it
abbrev pub LinesAreReadBack : Type 0
LinesAreReadBack = (d : Data) → IsWritten max_depth d → data_of (text_of d ++ 10 ∷ []) ≡ Ok d

-- exact data with one text are the same
abbrev pub TextsAreDistinct : Type 0
TextsAreDistinct = (c d : Data) → IsExact c → IsExact d → text_of c ≡ text_of d → c ≡ d

-- a text ends at the newline after it, so that lines say where each text ends
abbrev pub LinesAreDistinct : Type 0
LinesAreDistinct =
    (c d : Data) (s t : List ℕ) → IsExact c → IsExact d → text_of c ++ 10 ∷ s ≡ text_of d ++ 10 ∷ t → (c ≡ d) × (s ≡ t)
