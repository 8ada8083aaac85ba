-- The first place of a list at which something doesn't hold.
use Rattle.std.proofs.Common.{◌≡◌, ℕ, ◌<◌, ◌≤◌, List, length, slice_get, slice_index_or, Some, sym, subst, refl, arith}
use Rattle.std.specs.List.{AllWithin}
use Rattle.std.proofs.lemmas.Option.{slice_get-get_or, get_or_from_slice_get}
use Rattle.plan_base.specs.Verdict.{IsFirst}

-- the first element of which Q doesn't hold, where Q holds of each before it
pub first_without : {X : Type 0} (Q : X → Type 0) (xs : List X) (i : ℕ) (d : X) → i < length xs → ¬ (Q (slice_index_or xs i d)) → AllWithin Q xs 0 i
    → IsFirst (λ k. (y : X) × (slice_get xs k ≡ Some y) × ¬ (Q y)) i
first_without Q xs i d l none before = (
  (slice_index_or xs i d, slice_get-get_or xs i d l, none),
  λ j less (y, read, not). not (subst Q (get_or_from_slice_get xs j y y read) (before j y (omega arith) less)),
)
