-- The rule of a desk that callers share: what holds of its two words, of its slot and of all views between any two steps.
use Rattle.std.specs.Prelude.{◌≡◌, ◌≢◌, ℕ, ◌⊎◌, List, [], ◌∷◌, length, slice_index_or, Option, Some, None}
use Rattle.atomic_table.specs.Table.{State}
use mathlib.Core.Option.{Option as Home, some, none}
use lib.ListN.{get_elem?}
use Rattle.desk_book.specs.Seen.{BookSeen}
use Rattle.desk_passes.specs.declared.seen.PassPlace.{PassPlace}
use Rattle.desk_passes.specs.declared.seen.PassPlace.TheVariants.{NotMade, Out, Back}
use Rattle.desk_passes.specs.declared.seen.PassView.{PassView}
use Rattle.desk_passes.specs.Seen.{log_of, of_caller, open_take, BeginsWith}
use Rattle.desk_passes.specs.Knowing.{IsFull, IsOwn, IsAllOf}

-- the fact holds of each view
abbrev pub EachView : (ℕ → PassView → Type 0) → List PassView → Type 0
EachView P views = (seat : ℕ) (v : PassView) → get_elem? views seat ≡ some v → P seat v

-- ---- the book

-- so many callers have it
pub record IsShared (callers : ℕ) (b : BookSeen) : Type 0 where
  pub full : IsFull b
  pub count : length b.scripts ≡ callers

-- it is at home, and nobody has the turn
pub record IsHome (turn : ℕ) (homes : List (Home (Option BookSeen))) (views : List PassView) (b : BookSeen) : Type 0 where
  pub word : turn ≡ 0
  pub slot : homes ≡ some (Some b) ∷ []
  pub free : EachView (λ seat v. v.turn ≡ None) views

-- it is out with a view, which alone has the turn, and has seen all of it
pub record IsOut (turn : ℕ) (homes : List (Home (Option BookSeen))) (views : List PassView) (b : BookSeen) : Type 0 where
  pub word : turn ≡ 1
  pub slot : homes ≡ none ∷ []
  pub holder : ℕ
  pub view : PassView
  pub at : get_elem? views holder ≡ some view
  pub has : view.turn ≡ Some b
  pub seen : view.seen ≡ log_of b
  pub others : EachView (λ seat v. seat ≢ holder → v.turn ≡ None) views

-- ---- the views

-- the view has seen a prefix of the history; it is a caller's, or hasn't the turn
pub record IsWithin (b : BookSeen) (v : PassView) : Type 0 where
  pub seen : BeginsWith (log_of b) v.seen
  pub told : BeginsWith (log_of b) v.told
  pub mine : (caller : ℕ) → v.caller ≡ Some caller → IsOwn b caller v
  pub nobody : v.caller ≡ None → v.turn ≡ None

-- no two views are of the same caller
abbrev pub AreApart : List PassView → Type 0
AreApart views = EachView (λ i v. EachView (λ j w. (caller : ℕ) → v.caller ≡ Some caller → w.caller ≡ Some caller → i ≡ j) views) views

-- where the pass of a caller is
abbrev pub place_of : List PassPlace → ℕ → PassPlace
place_of passes caller = slice_index_or passes caller Back

-- every pass that was made was given back
abbrev pub EachIsBack : PassView → Type 0
EachIsBack v = (caller : ℕ) → place_of v.passes caller ≢ Out

-- the first view is the root's, which knows where the passes of all callers are, and has seen all once each that was made is back;
-- whose pass was not made has no entry, and of a caller whose pass isn't out the root knows all entries
pub record IsRoot (callers : ℕ) (b : BookSeen) (views : List PassView) : Type 0 where
  pub view : PassView
  pub at : get_elem? views 0 ≡ some view
  pub nobody : view.caller ≡ None
  pub count : length view.passes ≡ callers
  pub out : EachView (λ seat v. (caller : ℕ) → v.caller ≡ Some caller → place_of view.passes caller ≡ Out) views
  pub not_made : (caller : ℕ) → place_of view.passes caller ≡ NotMade → (of_caller caller (log_of b) ≡ []) × (open_take b caller ≡ None)
  pub known : (caller : ℕ) → place_of view.passes caller ≢ Out → IsAllOf view caller (of_caller caller (log_of b))
  pub all : view.back ≡ None → EachIsBack view → view.seen ≡ log_of b

-- ---- all of it

-- the rule, over the word of the turn, the slot, all views, and the book
pub record Rule (callers turn : ℕ) (homes : List (Home (Option BookSeen))) (views : List PassView) (b : BookSeen) : Type 0 where
  pub shared : IsShared callers b
  pub place : IsHome turn homes views b ⊎ IsOut turn homes views b
  pub within : EachView (λ seat v. IsWithin b v) views
  pub apart : AreApart views
  pub root : IsRoot callers b views

-- the rule holds of the state of a table of two words and one slot; the first word counts the entries
pub record RuleHolds (callers : ℕ) (s : State (Option BookSeen) PassView) : Type 0 where
  pub book : BookSeen
  pub turn : ℕ
  pub words : s.words ≡ length book.history ∷ turn ∷ []
  pub rule : Rule callers turn s.homes s.views book
