-- What a search of a list finds.
use Rattle.std.proofs.Common.{◌≡◌, ℕ, List, length}
use Rattle.std.specs.Prelude.{IsTrue, Contains, HoldsAt, Result, Ok, Err, IfOk, is_ok}
use Rattle.std.specs.declared.cmp.Ordering.{Ordering}
use Rattle.std.specs.List.Sorted.{IsSearchInRange}
use Rattle.std.proofs.lemmas.Bool.{false≢true}

-- what is equal to an item, and found, is the item
pub found_there : {X : Type 0} (compare : X → X → Ordering) (xs : List X) (x : X) (found : Result ℕ ℕ)
    → ((a b : X) → compare a b ≡ Ordering.Equal → a ≡ b)
    → IsSearchInRange found (length xs) → IfOk found (HoldsAt (λ y. compare y x ≡ Ordering.Equal) xs)
    → IsTrue (is_ok found) → Contains xs x
found_there compare xs x (Ok k) same within equal told = (k, within, same _ x (equal x))
found_there compare xs x (Err k) same within equal told = absurd (false≢true told)
