-- What tests know of the passes of a desk.
use Rattle.std.specs.Prelude.{◌≡◌, ℕ, ◌≤◌, [], ◌∷◌, Some, None}
use Rattle.desk_passes.specs.declared.desk.SharedDesk.{SharedDesk}
use Rattle.desk_passes.specs.declared.holders.Pass.{Pass}
use Rattle.desk_passes.specs.declared.holders.Root.{Root}
use Rattle.desk_passes.specs.declared.seen.PassPlace.TheVariants.{Out}
use Rattle.desk_passes.specs.Seen.{lines_done}
use Rattle.desk_passes.specs.Calls.{IsRootOf, IsPassOf, root_view, view}

-- the desk's pass of this caller
pub record IsCallers (shared : SharedDesk) (caller : ℕ) (pass : Pass) : Type 0 where
  pub desk : IsPassOf shared pass
  pub mine : (view pass).caller ≡ Some caller

-- a pass of the desk, which has no open Take, and did at most so many lines
pub record IsReady (shared : SharedDesk) (lines : ℕ) (pass : Pass) : Type 0 where
  pub desk : IsPassOf shared pass
  pub shut : (view pass).take ≡ None
  pub few : lines_done (view pass).own ≤ lines

-- the desk's root, which made two passes, and got none back
pub record MadeBoth (shared : SharedDesk) (root : Root) : Type 0 where
  pub desk : IsRootOf shared root
  pub passes : (root_view root).passes ≡ Out ∷ Out ∷ []
