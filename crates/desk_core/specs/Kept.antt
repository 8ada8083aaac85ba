-- What is always so of an opened desk, and so what each command may count on and leaves.
use Rattle.std.specs.Prelude.{◌≡◌, ℕ, ◌+◌, ◌*◌, ◌^◌, ◌<◌, ◌≤◌, true, IsTrue, List, ◌++◌, length, All, IfSome, Option, Some, None, sum_by, if◌then◌else◌, nat_lt}
use Rattle.std.specs.List.{AllZip, zip}
use Rattle.std.specs.Option.{option_map_or}
use Rattle.plan_base.specs.Limits.{most_version, least_len, most_len, most_slices, most_quota, most_value, most_seconds}
use Rattle.plan_base.specs.Limits.{most_lanes, most_rounds, most_workers, most_telescopes, most_pending, most_percent, most_fade, most_configurations}
use Rattle.plan_base.specs.Snapshot.{most_requests}
use Rattle.plan_base.specs.Verdict.{IsCertified}
use Rattle.plan_json.specs.Moment.{last_moment}
use Rattle.plan_json.specs.Ranges.{IsBetween, IsText}
use Rattle.interval_set.specs.Spans.{has}
use Rattle.request_model.specs.Ranges.{IsWindow, AreWindows, IsLocation, IsGroup}
use Rattle.plan_base.specs.declared.span.Span.{Span}
use Rattle.site_model.specs.Limits.{most_closures}
use Rattle.allocations.specs.declared.entry.Hold.{Hold}
use Rattle.allocations.specs.Books.{Books, GroupHolds, has_grant, total_seconds}
use Rattle.allocations.specs.Refusals.{ipp_key}
use Rattle.desk_runs.specs.declared.group.Group.{Group}
use Rattle.desk_runs.specs.declared.group.Request.{Request}
use Rattle.desk_runs.specs.States.{is_open}
use Rattle.desk_runs.specs.Owners.{pending_count}
use Rattle.desk_runs.specs.Sound.{IsSound, IsObservedAtMostOnce}
use Rattle.desk_core.specs.declared.desk.Opening.{Opening}
use Rattle.desk_core.specs.declared.desk.Submitted.{Submitted}
use Rattle.desk_core.specs.declared.desk.Wanted.{Wanted}
use Rattle.desk_core.specs.Desk.{DeskSeen, StateSeen}
use Rattle.desk_core.specs.Holds.{held_by}
use Rattle.desk_core.specs.Seconds.{end_of_time}

-- ---- what a desk is opened with

-- what a desk is opened with is in the ranges of its line
pub record IsOpenedWith (o : Opening) : Type 0 where
  pub slice : IsBetween least_len most_len o.slice
  pub horizon : IsBetween 1 most_slices o.horizon
  pub semester : IsWindow o.semester
  pub lanes : IsBetween 1 most_lanes o.settings.lanes
  pub rounds : IsBetween 1 most_rounds o.settings.rounds
  pub workers : IsBetween 1 most_workers o.settings.workers
  pub quota : IfSome o.quota (IsBetween 1 most_quota)

-- ---- groups

-- a request as it is wanted, where so many targets are numbered
pub record IsWanted (targets : ℕ) (q : Wanted) : Type 0 where
  pub place : IsLocation q.location
  pub type : IsText q.instrument
  pub least : q.threshold ≤ most_percent
  pub lost : q.fade ≤ most_fade
  pub worth : IsBetween 1 most_value q.value
  pub times : AreWindows q.windows
  pub few : length q.targets ≤ most_configurations
  pub known : All (λ t. t.0 < targets) q.targets

-- a request lasts a second to a day
abbrev pub LastsADay : Request → Type 0
LastsADay q = IsBetween 1 most_seconds q.seconds

-- a group as it was submitted, and how far it has come: the same requests, of as many as its kind may have
pub record IsAlong (targets : ℕ) (w : Submitted) (g : Group) : Type 0 where
  pub document : IsGroup w.document
  pub count : length w.requests ≡ length g.requests
  pub shape : IsBetween 1 (most_requests g.op) (length g.requests)
  pub wanted : All (IsWanted targets) w.requests
  pub asked : All LastsADay g.requests

-- ---- accounts

-- an ipp charge, where there is one
abbrev pub standing : List ℕ → ℕ → Option Hold
standing proposal charged = if nat_lt 0 charged then Some record { key = ipp_key proposal; seconds = charged } else None

-- what the books keep of a group as it was submitted, and as far as it has come: it holds what its pending requests need, and
-- while it is open its ipp charge stands
pub record IsHeldFor (p : Submitted × Group) (kept : GroupHolds) : Type 0 where
  pub group : kept.group ≡ p.1.number
  pub holds : kept.holds ≡ held_by p.0 p.1
  pub charge : is_open p.1 ≡ true → kept.ipp ≡ standing p.0.document.proposal p.0.charged

-- the seconds of all ipp charges that stand
abbrev pub standing_seconds : List GroupHolds → ℕ
standing_seconds groups = sum_by (λ g. option_map_or (λ h. h.seconds) g.ipp 0) groups

-- what a command adds to the books, at most
abbrev pub most_added : ℕ
most_added = 2 * 10 ^ 9

-- the seconds of the books, with those that may yet be refunded, after so many changes
abbrev pub AreFewSeconds : ℕ → Books → Type 0
AreFewSeconds version books = total_seconds books + standing_seconds books.holds ≤ version * most_added

-- there is room in the books for what two commands add
abbrev pub IsRoomy : Books → Type 0
IsRoomy books = total_seconds books + standing_seconds books.holds + 2 * most_added ≤ 10 ^ 18

-- ---- closures

-- the closures of so many telescopes: a list for each number that there may be, none with too many pieces, and each second of
-- them before the end of time
pub record AreClosures (count : ℕ) (closures : List (List Span)) : Type 0 where
  pub telescopes : count ≤ most_telescopes
  pub places : length closures ≡ most_telescopes
  pub few : All (λ spans. length spans ≤ most_closures) closures
  pub early : All (λ spans. (x : ℕ) → IsTrue (has spans x) → x < end_of_time) closures

-- ---- all of it

-- an opened desk: what it was opened with is in its ranges, its slices are those of its groups, and its moment is before the year 10000;
-- the groups are sound, and go along with what was submitted; at most 1,024 requests are pending, and none is observed twice;
-- the books hold for each group what it needs, and all that they hold or charge is of accounts that have a grant;
-- there is a list of closures for each telescope that there may be, and the last publication, if there is one, is certified
pub record IsDesk (d : DeskSeen) : Type 0 where
  pub opening : IsOpenedWith d.opening
  pub len : d.progress.len ≡ d.opening.slice
  pub moment : d.progress.moment.0 ≤ last_moment
  pub sound : IsSound d.progress
  pub along : AllZip (IsAlong (length d.network.registry.targets)) d.groups d.progress.groups
  pub pending : pending_count d.progress.groups ≤ most_pending
  pub once : IsObservedAtMostOnce (d.progress.kept ++ d.progress.running)
  pub held : AllZip IsHeldFor (zip d.groups d.progress.groups) d.books.holds
  pub granted : All (λ g. All (λ h. IsTrue (has_grant d.books.entries h.key)) g.holds) d.books.holds
  pub charged : All (λ g. IfSome g.ipp (λ h. IsTrue (has_grant d.books.entries h.key))) d.books.holds
  pub closures : AreClosures (length d.network.registry.telescopes) d.network.calendar.closures
  pub published : IfSome d.published (λ p. IsCertified p.snapshot p.claim)

-- a state: its desk is one, if it is opened, its books have few seconds, and each of its groups came with a change
pub record IsState (s : StateSeen) : Type 0 where
  pub version : s.version ≤ most_version
  pub desk : IfSome s.desk IsDesk
  pub books : IfSome s.desk (λ d. AreFewSeconds s.version d.books)
  pub groups : IfSome s.desk (λ d. length d.progress.groups ≤ s.version)
