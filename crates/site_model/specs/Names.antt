-- Names that are numbered as they are first given: a name's number is its place in the list.
use Rattle.std.specs.Prelude.{ℕ, Bool, ◌&&◌, not, nat_eq, List, ◌++◌, ◌∷◌, [], Option, if◌then◌else◌, position}
use Rattle.std.specs.List.{list_any}
use Rattle.std.specs.Option.{option_and_then}
use Rattle.std.specs.Cmp.Lexicographic.{pointwise}
use Rattle.site_model.specs.declared.code.Code.{Code}

infixr 1 ◌>>=◌
-- what is there, and what follows from it
abbrev pub ◌>>=◌ : {A B : Type 0} → Option A → (A → Option B) → Option B
o >>= f = option_and_then f o

-- whether two texts are the same
abbrev pub is_name : List ℕ → List ℕ → Bool
is_name a b = pointwise nat_eq a b

-- whether two codes are the same
abbrev pub is_code : Code → Code → Bool
is_code a b = is_name a.site b.site && (is_name a.enclosure b.enclosure && is_name a.telescope b.telescope)

-- whether a name has a number
abbrev pub is_named : List (List ℕ) → List ℕ → Bool
is_named names name = list_any (is_name name) names

-- the number of a name
abbrev pub number_of : List (List ℕ) → List ℕ → Option ℕ
number_of names name = position (is_name name) names

-- the names once a name has a number: a new one goes last
abbrev pub numbered : List (List ℕ) → List ℕ → List (List ℕ)
numbered names name = if is_named names name then names else names ++ name ∷ []

-- the first of the names that has no number, by its place among them
abbrev pub first_unnamed : List (List ℕ) → List (List ℕ) → Option ℕ
first_unnamed names given = position (λ name. not (is_named names name)) given
