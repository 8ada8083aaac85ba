-- What is taken is to be sought with settings in their ranges.
use Rattle.std.proofs.Common.{◌≡◌, ℕ, ◌∷◌, subst, sym, Option, Some, IfSome, Result, Ok, Err, IfOk}
use Rattle.plan_base.specs.declared.taken.Taken.{Taken}
use Rattle.desk_core.specs.declared.desk.Opening.{Opening}
use Rattle.desk_core.specs.Desk.{DeskSeen, StateSeen}
use Rattle.desk_core.specs.Kept.{IsOpenedWith, IsDesk}
use Rattle.desk_core.specs.History.{replay}
use Rattle.desk_accounts.proofs.Histories.{begun_told}
use Rattle.desk_book.specs.Seen.{BookSeen, take_of}
use Rattle.desk_book.specs.Doing.{IsTakenOf}
use Rattle.desk_book.specs.Kept.{IsBook, IsOpenTake}
use Rattle.lanes.specs.Solving.{IsInRange}

-- those that a desk is opened with are
opening_in_range : (o : Opening) → IsOpenedWith o → IsInRange o.settings
opening_in_range o h = record {
  some_lanes = h.lanes.low;
  few_lanes = h.lanes.high;
  some_rounds = h.rounds.low;
  few_rounds = h.rounds.high;
  some_workers = h.workers.low;
  few_workers = h.workers.high;
}

pub taken_in_range : (s : StateSeen) (t : Taken) → IfSome s.desk IsDesk → IsTakenOf s t → IsInRange t.settings
taken_in_range s t h of =
    let desk : IsDesk of.0 = subst (λ (o : Option DeskSeen). IfSome o IsDesk) of.1 h in
    subst IsInRange (sym of.3) (opening_in_range of.0.opening desk.opening)

-- what a caller has taken and not published was taken from a desk
pub open_in_range : (b : BookSeen) (caller : ℕ) (t : Taken) → IsBook b → take_of b.takes caller ≡ Some t → IsInRange t.settings
open_in_range b caller t k is =
    let it : IsOpenTake b.scripts b.history caller t = k.opens caller t is in
    let told = begun_told b.scripts b.history it.before (it.entry ∷ it.later) k.legal it.cut in
    taken_in_range (replay b.scripts it.before) t told.desk it.taken

-- it is the caller's
pub open_named : (b : BookSeen) (caller : ℕ) (t : Taken) → IsBook b → take_of b.takes caller ≡ Some t → t.caller ≡ caller
open_named b caller t k is =
    let it : IsOpenTake b.scripts b.history caller t = k.opens caller t is in it.named

-- what holds of a thing holds of its copy
pub on_copy : {A E : Type 0} (P : A → Type 0) (r : Result A E) (x : A) → IfOk r (λ copy. copy ≡ x) → P x → IfOk r P
on_copy P (Ok copy) x same holds = subst P (sym same) holds
on_copy P (Err error) x same holds = tt
