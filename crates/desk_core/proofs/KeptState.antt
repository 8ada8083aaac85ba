-- A change that keeps the desk keeps the state.
use Rattle.std.proofs.Common.{◌≡◌, ℕ, ◌+◌, ◌*◌, ◌<◌, ◌≤◌, refl, sym, subst, length, Option, Some, None, arith}
use Rattle.plan_base.specs.declared.number.Sec.{Sec}
use Rattle.plan_json.specs.Moment.{last_moment}
use Rattle.allocations.specs.Books.{total_seconds}
use Rattle.desk_events.specs.declared.refusal.Refusal.{Refusal}
use Rattle.desk_events.specs.declared.reply.Reply.{Reply}
use Rattle.desk_core.specs.declared.desk.Opening.{Opening}
use Rattle.desk_core.specs.Desk.{DeskSeen, start, decided}
use Rattle.desk_core.specs.Kept.{IsDesk, IsOpenedWith, IsState, IsRoomy, most_added, standing_seconds}
use Rattle.desk_core.specs.Step.{new_desk}
use Rattle.desk_core.proofs.Along.{all_seconds}
use Rattle.desk_core.proofs.KeptGrant.{new_is_desk}

-- what a change does to a desk: it stays one, its books get at most so many seconds more, and it gets at most a group more
pub record Keeps (d e : DeskSeen) : Type 0 where
  pub desk : IsDesk e
  pub seconds : all_seconds e.books ≤ all_seconds d.books + most_added
  pub groups : length e.progress.groups ≤ length d.progress.groups + 1

-- before the first line
pub start_is_state : IsState start
start_is_state = record { version = omega arith; desk = tt; books = tt; groups = tt }

-- there is room in the books of a state
pub is_roomy : (version : ℕ) (d : DeskSeen) → IsState record { version = version; desk = Some d } → IsRoomy d.books
is_roomy version d h =
    let few : total_seconds d.books + standing_seconds d.books.holds ≤ version * most_added = h.books in
    let least : version ≤ 524288 = h.version in
    omega (arith, few, least)

-- one change more
pub change_keeps : (version : ℕ) (d e : DeskSeen) → version < 524288 → IsState record { version = version; desk = Some d } → Keeps d e
    → IsState record { version = version + 1; desk = Some e }
change_keeps version d e lt h k =
    let few : total_seconds d.books + standing_seconds d.books.holds ≤ version * most_added = h.books in
    let seconds : all_seconds e.books ≤ all_seconds d.books + most_added = k.seconds in
    let groups : length d.progress.groups ≤ version = h.groups in
    let more : length e.progress.groups ≤ length d.progress.groups + 1 = k.groups in
    record { version = omega arith; desk = k.desk; books = omega (arith, few, seconds); groups = omega (arith, groups, more) }

-- what is decided keeps the state, where it keeps the desk unless it is refused
pub decided_keeps : (version : ℕ) (d : DeskSeen) (refusal : Option Refusal) (reply : Reply) (e : DeskSeen) → version < 524288
    → IsState record { version = version; desk = Some d }
    → (refusal ≡ None → Keeps d e) → IsState (decided record { version = version; desk = Some d } record { refusal = refusal; reply = reply; desk = e }).state
decided_keeps version d None reply e lt h k = change_keeps version d e lt h (k refl)
decided_keeps version d (Some r) reply e lt h k = h

-- a desk that is opened
pub open_keeps : (version : ℕ) (opening : Opening) (now : Sec) (e : DeskSeen) → version < 524288 → IsOpenedWith opening → now.0 ≤ last_moment
    → e ≡ new_desk opening now
    → IsState record { version = version + 1; desk = Some e }
open_keeps version opening now e lt h moment is = subst (λ (d : DeskSeen). IsState record { version = version + 1; desk = Some d }) (sym is) record {
  version = omega arith;
  desk = new_is_desk opening now h moment;
  books = omega arith;
  groups = omega arith;
}
