-- How readings follow one another, the first fault being the answer.
use Rattle.std.specs.Prelude.{ℕ, ◌+◌, List, [], ◌∷◌, Result, Ok, Err}

-- what the function makes of a value that was read
abbrev pub result_map : {A B E : Type 0} → (A → B) → Result A E → Result B E
result_map f (Ok x) = Ok (f x)
result_map f (Err e) = Err e

-- the reading that follows a value that was read
abbrev pub result_and_then : {A B E : Type 0} → (A → Result B E) → Result A E → Result B E
result_and_then f (Ok x) = f x
result_and_then f (Err e) = Err e

infixr 1 ◌>>=◌
-- the reading, and the one that follows it
abbrev pub ◌>>=◌ : {A B E : Type 0} → Result A E → (A → Result B E) → Result B E
r >>= f = result_and_then f r

-- what each element is read as, or the first fault
abbrev pub read_each : {A B E : Type 0} → (A → Result B E) → List A → Result (List B) E
read_each f [] = Ok []
read_each f (x ∷ xs) = result_and_then (λ y. result_map (λ ys. y ∷ ys) (read_each f xs)) (f x)

-- what each element is read as at its place, the first one's place being i, or the first fault
abbrev pub read_from : {A B E : Type 0} → (ℕ → A → Result B E) → ℕ → List A → Result (List B) E
read_from f i [] = Ok []
read_from f i (x ∷ xs) = f i x >>= (λ y. result_map (λ ys. y ∷ ys) (read_from f (i + 1) xs))
