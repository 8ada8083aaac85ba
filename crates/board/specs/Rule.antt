-- The rule of a board: what holds of its words and of the views of its seats between any two steps.
use Rattle.std.specs.Prelude.{◌≡◌, ℕ, ◌*◌, ◌≤◌, List, [], ◌∷◌, length}
use mathlib.Core.Option.{some}
use lib.ListN.{get_elem?}
use Rattle.atomic_table.specs.Table.{State}
use Rattle.board.specs.declared.seat.SeatView.{SeatView}
use Rattle.board.specs.Views.{no_bound, all_seats, most_claims, EachOnce, least_of, greatest_of, all_times, all_claims, all_parts}

-- the view has given and claimed nothing, and no seat may be split off by it
pub record IsIdle (v : SeatView) : Type 0 where
  pub bound : v.least_given ≡ no_bound
  pub value : v.greatest_given ≡ 0
  pub tickets : v.tickets ≡ 0
  pub claims : v.claims ≡ []

-- the view is one of a board with this bound and this value
pub record IsWithin (bound value : ℕ) (v : SeatView) : Type 0 where
  pub lowest_seen : bound ≤ v.lowest_seen
  pub greatest_seen : v.greatest_seen ≤ value
  pub room : length v.claims ≤ most_claims * v.seats
  pub spent : v.seats ≡ 0 → IsIdle v
  pub limit : v.least_given ≤ no_bound

-- the fact holds of each view
abbrev pub EachView : (SeatView → Type 0) → List SeatView → Type 0
EachView P views = (seat : ℕ) (v : SeatView) → get_elem? views seat ≡ some v → P v

-- the rule, over the three words and all views
pub record Rule (bound value counter : ℕ) (views : List SeatView) : Type 0 where
  pub least : bound ≡ least_of views
  pub greatest : value ≡ greatest_of views
  pub claimed : EachOnce counter (λ number. all_times number views)
  pub counted : counter ≡ all_claims views
  pub parts : all_parts views ≡ all_seats
  pub within : EachView (IsWithin bound value) views

-- the rule holds of the state of a table of three words
pub record RuleHolds (s : State ℕ SeatView) : Type 0 where
  pub bound : ℕ
  pub value : ℕ
  pub counter : ℕ
  pub words : s.words ≡ bound ∷ value ∷ counter ∷ []
  pub rule : Rule bound value counter s.views
