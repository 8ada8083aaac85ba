-- What is known of the passes of several callers.
use Rattle.std.specs.Prelude.{◌≡◌, ℕ, ◌<◌, List, [], length, slice_index_or, Some, None}
use Rattle.desk_passes.specs.declared.desk.SharedDesk.{SharedDesk}
use Rattle.desk_passes.specs.declared.holders.Pass.{Pass}
use Rattle.desk_passes.specs.declared.seen.PassPlace.TheVariants.{Out}
use Rattle.desk_passes.specs.declared.seen.PassView.{PassView}
use Rattle.desk_passes.specs.Calls.{IsPassOf, view}
use Rattle.desk_passes.specs.Rule.{place_of}

-- the pass is a caller's, and made no call yet
pub record IsFresh (desk : SharedDesk) (caller : ℕ) (pass : Pass) : Type 0 where
  pub of : IsPassOf desk pass
  pub mine : (view pass).caller ≡ Some caller
  pub shut : (view pass).take ≡ None
  pub none : (view pass).own ≡ []

-- the pass is a caller's
pub record IsOf (desk : SharedDesk) (caller : ℕ) (pass : Pass) : Type 0 where
  pub of : IsPassOf desk pass
  pub mine : (view pass).caller ≡ Some caller

-- the fact holds of each pass, with its place in the list
abbrev pub EachPass : (ℕ → Pass → Type 0) → List Pass → Type 0
EachPass P passes = (k : ℕ) (d : Pass) → k < length passes → P k (slice_index_or passes k d)

-- only passes of the first callers are out, so many
abbrev pub OnlyOut : PassView → ℕ → Type 0
OnlyOut root count = (caller : ℕ) → place_of root.passes caller ≡ Out → caller < count
