-- What a command does: a reply, and the state that is left.
use Rattle.std.specs.Prelude.{◌≡◌, ◌≢◌, ℕ, ◌+◌, Bool, true, false, [], Option, Some, None, Result, IfOk, IfErr, OnErr, if◌then◌else◌}
use Rattle.plan_base.specs.declared.number.Sec.{Sec}
use Rattle.plan_base.specs.declared.parts.Parts.{Parts}
use Rattle.plan_base.specs.declared.verdict.Verdict.{Verdict}
use Rattle.plan_base.specs.Verdict.{IsVerdict}
use Rattle.site_model.specs.declared.changes.Change.TheVariants.{Close, Reopen}
use Rattle.site_model.specs.Network.{no_network}
use Rattle.allocations.specs.declared.key.Key.{Key}
use Rattle.allocations.specs.Books.{has_grant, balance_of}
use Rattle.desk_events.specs.declared.command.Command.{Command}
use Rattle.desk_events.specs.declared.command.Command.TheVariants as command
use Rattle.desk_events.specs.declared.fault.CommandFault.{CommandFault}
use Rattle.desk_events.specs.declared.fault.CommandFault.TheVariants.{NoMemory}
use Rattle.desk_events.specs.declared.refusal.Refusal.{Refusal}
use Rattle.desk_events.specs.declared.refusal.Refusal.TheVariants.{NotOpened, AlreadyOpened}
use Rattle.desk_events.specs.declared.reply.Reply.{Reply}
use Rattle.desk_events.specs.declared.reply.Reply.TheVariants as reply
use Rattle.desk_core.specs.declared.desk.Opening.{Opening}
use Rattle.desk_core.specs.Desk.{DeskSeen, StateSeen, Stepped, refused, accepted, decided, told}
use Rattle.desk_core.specs.Refusals.{refusal_in}
use Rattle.desk_core.specs.Registering.{times, on_instrument, on_telescope, on_night, on_visibility, on_closure, on_grant}
use Rattle.desk_core.specs.Submitting.{on_submit}
use Rattle.desk_core.specs.Closing.{on_withdraw, on_amend}
use Rattle.desk_core.specs.Timing.{on_clock, on_report}
use Rattle.desk_core.specs.Publishing.{on_publish}
use Rattle.desk_core.specs.Showing.{on_export, on_balances, on_show}
use Rattle.desk_core.specs.DeskSnapshot.{snapshot_of}

-- a desk that was opened with these settings at a moment: nothing is registered, granted, submitted or published
abbrev pub new_desk : Opening → Sec → DeskSeen
new_desk opening now = record {
  opening = opening;
  network = no_network;
  books = record { entries = []; holds = [] };
  groups = [];
  progress = record { len = opening.slice; moment = now; groups = []; kept = []; running = [] };
  published = None;
}

-- a command on an opened desk; a plan is no step, but a Take and a Publish. The verdict is used by `publish` alone, and only
-- for the current version
abbrev pub step_opened : Verdict → StateSeen → DeskSeen → Command → Option Stepped
step_opened v s d (command.Open now slice horizon semester lanes rounds workers quota) = Some (refused s AlreadyOpened)
step_opened v s d (command.Instrument name front config readout change) =
    Some (decided s (on_instrument d name (times front config readout change)))
step_opened v s d (command.Telescope site enclosure telescope class instruments) =
    Some (decided s (on_telescope d record { site = site; enclosure = enclosure; telescope = telescope } class instruments))
step_opened v s d (command.Night site spans) = Some (decided s (on_night d site spans))
step_opened v s d (command.Visibility target site spans) = Some (decided s (on_visibility d target site spans))
step_opened v s d (command.Close scope spans) = Some (decided s (on_closure d Close scope spans reply.Closed))
step_opened v s d (command.Reopen scope spans) = Some (decided s (on_closure d Reopen scope spans reply.Reopened))
step_opened v s d (command.Grant key seconds) = Some (decided s (on_grant d key seconds))
step_opened v s d (command.Submit document) = Some (decided s (on_submit d document))
step_opened v s d (command.Amend old document) = Some (decided s (on_amend d old document))
step_opened v s d (command.Withdraw group) = Some (decided s (on_withdraw d group))
step_opened v s d (command.Clock at) = Some (decided s (on_clock d at))
step_opened v s d (command.Report request percent used) = Some (decided s (on_report d request percent used))
step_opened v s d command.Plan = None
step_opened v s d (command.Publish version claim) = Some (decided s (on_publish v s.version d version claim))
step_opened v s d command.Export = Some (told s (on_export d.published))
step_opened v s d command.Balances = Some (told s (on_balances d.books))
step_opened v s d (command.Show group) = Some (told s (on_show d group))

-- a command on a desk that isn't opened
abbrev pub step_unopened : StateSeen → Command → Stepped
step_unopened s (command.Open now slice horizon semester lanes rounds workers quota) =
    accepted s reply.Opened
    (new_desk record {
      slice = slice;
      horizon = horizon;
      semester = semester;
      settings = record { lanes = lanes; rounds = rounds; workers = workers };
      quota = quota;
    } now)
step_unopened s _ = refused s NotOpened

-- a command, by whether the desk is opened
abbrev pub step_by : Verdict → StateSeen → Option DeskSeen → Command → Option Stepped
step_by v s None c = Some (step_unopened s c)
step_by v s (Some d) c = step_opened v s d c

-- what a command does, none for a plan on an opened desk
abbrev pub step : Verdict → StateSeen → Command → Option Stepped
step v s c = step_by v s s.desk c

-- the parts are the snapshot of the state's desk
abbrev pub IsSnapshotOf : StateSeen → Parts → Type 0
IsSnapshotOf s parts = (d : DeskSeen) × (s.desk ≡ Some d) × (parts ≡ snapshot_of s.version d)

-- the verdict is that on the claim of a `publish` line for the current version, for the state's snapshot; no other line asks
-- for one
abbrev pub IsAsked : StateSeen → Command → Verdict → Type 0
IsAsked s (command.Publish version claim) v = version ≡ s.version → (parts : Parts) → IsSnapshotOf s parts → IsVerdict parts claim v
IsAsked s _ v = Unit {0}

-- the command does this
abbrev pub IsStep : StateSeen → Command → Stepped → Type 0
IsStep s c stepped = (v : Verdict) × IsAsked s c v × (step v s c ≡ Some stepped)

-- ---- what a call does

-- a command that is accepted is a change, unless it only shows what there is
abbrev pub changes : Command → ℕ
changes command.Export = 0
changes command.Balances = 0
changes (command.Show group) = 0
changes _ = 1

-- an opened desk after so many changes
abbrev pub opened : ℕ → DeskSeen → StateSeen
opened version d = record { version = version; desk = Some d }

-- a call does what the command does on a desk after so many changes: it answers the reply and leaves that desk, or it answers
-- the refusal, or finds no memory, and changes nothing
pub record Does (version : ℕ) (before : DeskSeen) (c : Command) (after : DeskSeen) (result : Result Reply CommandFault) : Type 0 where
  pub ok : IfOk result (λ reply. IsStep (opened version before) c record { reply = reply; state = opened (version + changes c) after })
  pub refused : IfErr result (λ fault. fault ≢ NoMemory → (r : Refusal)
      × IsStep (opened version before) c (refused (opened version before) r) × (refusal_in fault ≡ Some r))
  pub unchanged : OnErr result (after ≡ before)

-- a call does what the command does on a state: it answers the reply and leaves that state, or it answers the refusal, or finds
-- no memory, and changes nothing
pub record Answers (before : StateSeen) (c : Command) (after : StateSeen) (result : Result Reply CommandFault) : Type 0 where
  pub ok : IfOk result (λ reply. IsStep before c record { reply = reply; state = after })
  pub refused : IfErr result (λ fault. fault ≢ NoMemory → (r : Refusal) × IsStep before c (refused before r) × (refusal_in fault ≡ Some r))
  pub unchanged : OnErr result (after ≡ before)

-- whether a command says what there is
abbrev pub is_registering : Command → Bool
is_registering (command.Instrument name front config readout change) = true
is_registering (command.Telescope site enclosure telescope class instruments) = true
is_registering (command.Night site spans) = true
is_registering (command.Visibility target site spans) = true
is_registering (command.Close scope spans) = true
is_registering (command.Reopen scope spans) = true
is_registering (command.Grant key seconds) = true
is_registering _ = false

-- whether a command only shows what there is
abbrev pub is_showing : Command → Bool
is_showing command.Export = true
is_showing command.Balances = true
is_showing (command.Show group) = true
is_showing _ = false

-- ---- what is asked of a state

-- what an account has, none where it has no grant
abbrev pub balance_in : DeskSeen → Key → Option ℕ
balance_in d key = if has_grant d.books.entries key then Some (balance_of d.books.entries key) else None
