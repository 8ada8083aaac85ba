-- What is so of the requests that a document makes, and of the group that they make.
use Rattle.std.specs.Prelude.{◌≡◌, ℕ, ◌≤◌, false, List, length, map, All}
use Rattle.std.specs.List.{zip}
use Rattle.plan_base.specs.Snapshot.{most_requests}
use Rattle.plan_base.specs.Limits.{most_seconds}
use Rattle.plan_base.specs.declared.number.Sec.{Sec}
use Rattle.plan_json.specs.Ranges.{IsBetween}
use Rattle.request_model.specs.Ranges.{IsRequest, AreWindows}
use Rattle.request_model.specs.declared.group.GroupDoc.{GroupDoc}
use Rattle.site_model.specs.Network.{HaveNoSky}
use Rattle.desk_runs.specs.Sound.{IsSound}
use Rattle.desk_runs.specs.declared.group.Group.{Group}
use Rattle.desk_runs.specs.Adding.{next_group, with_group}
use Rattle.desk_core.specs.declared.desk.Wanted.{Wanted}
use Rattle.desk_core.specs.declared.submitting.NewGroup.{NewGroup}
use Rattle.desk_core.specs.Holds.{needs_of, holds_of, ipp_charge}
use Rattle.desk_core.specs.Targets.{with_targets}
use Rattle.desk_core.specs.Asking.{MadeSeen, is_past}
use Rattle.desk_core.specs.Desk.{DeskSeen}
use Rattle.desk_core.specs.Submitting.{op_of, asks_of, targets_with, wanted_of}

-- a request that is made is in the ranges, and not all its windows are past
pub record IsMade (now : Sec) (m : MadeSeen) : Type 0 where
  pub asked : IsRequest m.asked
  pub seconds : IsBetween 1 most_seconds m.seconds
  pub windows : AreWindows m.windows
  pub late : is_past now m.windows ≡ false

-- they are as many as their group may have
pub record AreMade (now : Sec) (document : GroupDoc) (made : List MadeSeen) : Type 0 where
  pub shape : IsBetween 1 (most_requests (op_of document made)) (length made)
  pub each : All (IsMade now) made

-- a group of a document that is to be booked, with what it holds and is charged
abbrev pub new_group : GroupDoc → List Wanted → Group → NewGroup
new_group document wanted group =
    let holds = holds_of group.op (needs_of document (zip group.requests wanted)) in
    record {
      number = group.number;
      holds = holds;
      requests = map (λ q. q.number) group.requests;
      submitted = record { document = document; charged = ipp_charge document.ipp holds; requests = wanted };
    }

-- the new group of a document, once its targets have numbers
abbrev pub drafted : DeskSeen → GroupDoc → List MadeSeen → NewGroup
drafted d document made =
    new_group document (map (wanted_of d.network.registry.targets document) made) (next_group (op_of document made) (asks_of made) d.progress)

-- the desk once the group is added, before it is booked
abbrev pub with_draft : DeskSeen → GroupDoc → List MadeSeen → DeskSeen
with_draft d document made = record d { progress = with_group (op_of document made) (asks_of made) d.progress }

-- the desk once the targets of a document have numbers
abbrev pub with_numbers : DeskSeen → GroupDoc → DeskSeen
with_numbers d document = record d { network = with_targets (targets_with d document) d.network }

-- the desk once the group of a document is entered, before it is booked
abbrev pub with_entry : DeskSeen → GroupDoc → List MadeSeen → DeskSeen
with_entry d document made = with_draft (with_numbers d document) document made

-- a desk that knows so many targets, and the same with the group of a document
pub record IsEntered (known : ℕ) (before after : DeskSeen) : Type 0 where
  pub sound : IsSound before.progress
  pub document : GroupDoc
  pub made : List MadeSeen
  pub some : 1 ≤ length made
  pub count : known ≡ length before.network.registry.targets
  pub unseen : HaveNoSky known before.network.calendar
  pub entered : after ≡ with_entry before document made
