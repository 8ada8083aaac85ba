-- What becomes of what open groups hold, once they have gone on.
use Rattle.std.specs.Prelude.{◌≡◌, ◌+◌, ◌-◌, ◌^◌, ◌≤◌, List, [], ◌∷◌, length, map, filter, filter_map}
use Rattle.std.specs.Prelude.{slice_get, All, Option, Some, None, IfSome, if◌then◌else◌}
use Rattle.std.specs.Option.{option_map, is_some}
use Rattle.plan_base.specs.Limits.{most_seconds, most_members}
use Rattle.allocations.specs.Books.{Books, total_seconds}
use Rattle.allocations.specs.Changes.{ipp_of, released, refunded}
use Rattle.allocations.specs.Key.{key_cmp}
use Rattle.allocations.specs.Ledger.{IsAtMost}
use Rattle.allocations.specs.Rising.{Rises}
use Rattle.desk_events.specs.declared.reply.GroupRefund.{GroupRefund}
use Rattle.desk_runs.specs.declared.group.Group.{Group}
use Rattle.desk_runs.specs.States.{is_open}
use Rattle.desk_runs.specs.Progress.{Progress}
use Rattle.desk_runs.specs.Sound.{is_told}
use Rattle.desk_core.specs.declared.desk.Submitted.{Submitted}
use Rattle.desk_core.specs.declared.ending.Ending.{Ending}
use Rattle.desk_core.specs.Desk.{DeskSeen}
use Rattle.desk_core.specs.Holds.{held_by, is_refunded, groups_along}
use Rattle.desk_core.specs.Kept.{standing}

-- what a group holds then, and its ipp charge where it stops being pending with no member completed
abbrev pub ending_of : Submitted × (Group × Group) → Ending
ending_of p = record {
  group = p.1.1.number;
  holds = held_by p.0 p.1.1;
  refund = if is_refunded p.1.0 p.1.1 then standing p.0.document.proposal p.0.charged else None;
}

-- of those that were open
abbrev pub endings_of : List (Submitted × (Group × Group)) → List Ending
endings_of groups = map ending_of (filter (λ p. is_open p.1.0) groups)

-- the books then: the group holds this, and its charge is given back
abbrev pub ended : Books → Ending → Books
ended books e = if is_some e.refund then refunded e.group (released e.group e.holds books) else released e.group e.holds books

-- the groups that a change tells, as they were submitted, as they were, and as they are
abbrev pub told_along : List Group → DeskSeen → Progress → List (Submitted × (Group × Group))
told_along told d after = filter (λ p. is_told told p.1.1) (groups_along d after)

-- a group that is told, with what was submitted and what it was, which are found by its number; its requests are few, and
-- none takes more than a day
pub record IsToldAt (d : DeskSeen) (p : Submitted × (Group × Group)) (after : Group) : Type 0 where
  pub from : 1 ≤ after.number.0
  pub submitted : slice_get d.groups (after.number.0 - 1) ≡ Some p.0
  pub before : slice_get d.progress.groups (after.number.0 - 1) ≡ Some p.1.0
  pub is : p.1.1 ≡ after
  pub count : length p.0.requests ≡ length after.requests
  pub few : length after.requests ≤ most_members
  pub short : All (λ q. q.seconds ≤ most_seconds) after.requests

-- what has to be so of the books: the group held so much, and its charge stands
pub record CanEnd (books : Books) (e : Ending) : Type 0 where
  pub rising : Rises key_cmp (map (λ h. h.key) e.holds)
  pub at_most : IsAtMost e.group books.holds e.holds
  pub stands : IfSome e.refund (λ h. ipp_of e.group (released e.group e.holds books).holds ≡ Some h)
  pub bound : IfSome e.refund (λ h. total_seconds (released e.group e.holds books) + h.seconds ≤ 10 ^ 18)

-- of one group after another
abbrev pub CanEndAll : Books → List Ending → Type 0
CanEndAll books [] = Unit {0}
CanEndAll books (e ∷ endings) = CanEnd books e × CanEndAll (ended books e) endings

-- what is told of it
abbrev pub refund_in : Ending → Option GroupRefund
refund_in e = option_map (λ h. record { group = e.group; seconds = h.seconds }) e.refund

-- what is told of all endings, in their order: nothing of those that refund nothing
abbrev pub refunds_in : List Ending → List GroupRefund
refunds_in endings = filter_map refund_in endings
