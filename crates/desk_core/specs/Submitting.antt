-- `submit`: a group is numbered, held for and charged.
use Rattle.std.specs.Prelude.{ℕ, ◌+◌, ◌*◌, nat_lt, ◌&&◌, List, [], ◌∷◌, ◌++◌, length, map, Result, Ok, Err, Option, Some, None, if◌then◌else◌, option_and_then}
use Rattle.std.specs.Int.{div_ceil}
use Rattle.std.specs.List.{zip}
use Rattle.std.specs.Option.{option_or}
use Rattle.plan_base.specs.Limits.{most_pending}
use Rattle.plan_base.specs.declared.number.RequestNo.{RequestNo}
use Rattle.plan_base.specs.declared.parts.Op.{Op}
use Rattle.plan_base.specs.declared.parts.Op.TheVariants.{Many}
use Rattle.request_model.specs.declared.group.GroupDoc.{GroupDoc}
use Rattle.site_model.specs.Limits.{most_targets}
use Rattle.allocations.specs.declared.entry.Hold.{Hold}
use Rattle.allocations.specs.Changes.{booked}
use Rattle.allocations.specs.Refusals.{refusal_of}
use Rattle.desk_runs.specs.declared.group.Ask.{Ask}
use Rattle.desk_runs.specs.declared.group.Group.{Group}
use Rattle.desk_runs.specs.Adding.{next_group, with_group}
use Rattle.desk_runs.specs.Owners.{pending_count}
use Rattle.desk_events.specs.declared.refusal.FullOf.TheVariants.{Requests, Targets}
use Rattle.desk_events.specs.declared.refusal.Refusal.{Refusal}
use Rattle.desk_events.specs.declared.refusal.Refusal.TheVariants.{Full}
use Rattle.desk_events.specs.declared.reply.Reply.{Reply}
use Rattle.desk_events.specs.declared.reply.Reply.TheVariants as reply
use Rattle.desk_core.specs.declared.desk.Submitted.{Submitted}
use Rattle.desk_core.specs.declared.desk.Wanted.{Wanted}
use Rattle.desk_core.specs.Desk.{DeskSeen, Decision}
use Rattle.desk_core.specs.Refusals.{refusal_of_ledger}
use Rattle.desk_core.specs.Holds.{needs_of, holds_of, ipp_charge}
use Rattle.desk_core.specs.Targets.{target_names, all_numbered, with_targets, targets_of}
use Rattle.plan_base.specs.Operators.{is_single}
use Rattle.desk_core.specs.Asking.{MadeSeen, made_of, last_of}

-- the targets of the desk once those of a document have numbers
abbrev pub targets_with : DeskSeen → GroupDoc → List (List ℕ)
targets_with d document = all_numbered d.network.registry.targets (target_names document.requests)

-- ---- what is wanted

-- the value of a request: priority times ipp times minutes, rounded up
abbrev pub value_of : GroupDoc → ℕ → ℕ
value_of document seconds = document.priority * document.ipp * div_ceil seconds 60

-- what is wanted of a request that is made: what its part of the document asks for, its value, its windows, and its targets by their numbers
abbrev pub wanted_of : List (List ℕ) → GroupDoc → MadeSeen → Wanted
wanted_of targets document m = record {
  location = m.asked.location;
  instrument = m.asked.instrument;
  threshold = m.asked.threshold;
  fade = m.asked.fade;
  value = value_of document m.seconds;
  windows = m.windows;
  targets = targets_of targets m.asked.configurations;
}

-- what is wanted of the requests that are made
abbrev pub wanted_for : DeskSeen → GroupDoc → List MadeSeen → List Wanted
wanted_for d document made = map (wanted_of (targets_with d document) document) made

-- ---- the new group

-- what is asked for: the seconds, and the greatest end of the windows
abbrev pub asks_of : List MadeSeen → List Ask
asks_of made = map (λ m. record { seconds = m.seconds; last = record { 0 = last_of m.windows } }) made

-- a cadence that makes more than one request makes a MANY
abbrev pub op_of : GroupDoc → List MadeSeen → Op
op_of document made = if is_single document.op && nat_lt 1 (length made) then Many else document.op

-- the group with the next number, and its requests with the next numbers, all pending
abbrev pub group_of : DeskSeen → GroupDoc → List MadeSeen → Group
group_of d document made = next_group (op_of document made) (asks_of made) d.progress

-- what it holds
abbrev pub holds_for : DeskSeen → GroupDoc → List MadeSeen → List Hold
holds_for d document made =
    let group = group_of d document made in
    holds_of group.op (needs_of document (zip group.requests (wanted_for d document made)))

-- what its proposal's ipp account is charged
abbrev pub charge_for : DeskSeen → GroupDoc → List MadeSeen → ℕ
charge_for d document made = ipp_charge document.ipp (holds_for d document made)

-- the group as it is submitted
abbrev pub submitted_of : DeskSeen → GroupDoc → List MadeSeen → Submitted
submitted_of d document made = record { document = document; charged = charge_for d document made; requests = wanted_for d document made }

-- ---- the line

-- full of pending requests, full of targets, and then what the ledger refuses
abbrev pub submission_refusal : DeskSeen → GroupDoc → List MadeSeen → Option Refusal
submission_refusal d document made =
    option_or (if nat_lt most_pending (pending_count d.progress.groups + length made) then Some (Full most_pending Requests) else None)
    (option_or (if nat_lt most_targets (length (targets_with d document)) then Some (Full most_targets Targets) else None)
    (option_and_then refusal_of_ledger (refusal_of d.books (holds_for d document made) (charge_for d document made))))

-- the desk with the new group, which is held for and charged, and with its targets numbered
abbrev pub with_submission : DeskSeen → GroupDoc → List MadeSeen → DeskSeen
with_submission d document made = record d {
  network = with_targets (targets_with d document) d.network;
  books = booked (group_of d document made).number (holds_for d document made) (charge_for d document made) d.books;
  groups = d.groups ++ submitted_of d document made ∷ [];
  progress = with_group (op_of document made) (asks_of made) d.progress;
}

-- the numbers of the new requests
abbrev pub numbers_for : DeskSeen → GroupDoc → List MadeSeen → List RequestNo
numbers_for d document made = map (λ q. q.number) (group_of d document made).requests

-- the reply to a submission
abbrev pub submitted_reply : DeskSeen → GroupDoc → List MadeSeen → Reply
submitted_reply d document made = reply.Submitted (group_of d document made).number (charge_for d document made) (numbers_for d document made)

-- what is decided on a document, with the requests that it makes
abbrev pub on_made : DeskSeen → GroupDoc → Result (List MadeSeen) Refusal → Decision
on_made d document (Err refusal) = record { refusal = Some refusal; reply = submitted_reply d document []; desk = d }
on_made d document (Ok made) = record {
  refusal = submission_refusal d document made;
  reply = submitted_reply d document made;
  desk = with_submission d document made;
}

-- `submit`: the refusals of its requests, one after another; then full, and those of the ledger; else the group is numbered,
-- held for and charged
abbrev pub on_submit : DeskSeen → GroupDoc → Decision
on_submit d document = on_made d document (made_of d document)
