-- A line leaves the state, or counts one change.
use Rattle.std.proofs.Common.{◌≡◌, ◌+◌, ◌⊎◌, inl, inr, refl, Option, Some, None, Result, Ok, Err}
use Rattle.plan_base.specs.declared.claim.Claim.{Claim}
use Rattle.plan_base.specs.declared.verdict.Verdict.{Verdict}
use Rattle.site_model.specs.declared.changes.Change.TheVariants.{Close, Reopen}
use Rattle.desk_events.specs.declared.command.Command.{Command}
use Rattle.desk_events.specs.declared.command.Command.TheVariants as command
use Rattle.desk_events.specs.declared.fault.CommandFault.{CommandFault}
use Rattle.desk_events.specs.declared.refusal.Refusal.{Refusal}
use Rattle.desk_events.specs.declared.reply.Reply.{Reply}
use Rattle.desk_events.specs.declared.reply.Reply.TheVariants as reply
use Rattle.desk_core.specs.Desk.{DeskSeen, StateSeen, Decision, decided, told}
use Rattle.desk_core.specs.Registering.{times, on_instrument, on_telescope, on_night, on_visibility, on_closure, on_grant}
use Rattle.desk_core.specs.Submitting.{on_submit}
use Rattle.desk_core.specs.Closing.{on_withdraw, on_amend}
use Rattle.desk_core.specs.Timing.{on_clock, on_report}
use Rattle.desk_core.specs.Publishing.{on_publish}
use Rattle.desk_core.specs.Showing.{on_export, on_balances, on_show}
use Rattle.desk_core.specs.Step.{step_by}
use Rattle.desk_core.specs.History.{verdict_told, left_by, after_line, with_published, after_publish}

-- the state t is s, or one change on
abbrev pub GoesOn : StateSeen → StateSeen → Type 0
GoesOn s t = (t ≡ s) ⊎ (t.version ≡ s.version + 1)

by_refusal : (s : StateSeen) (refusal : Option Refusal) (r : Reply) (e : DeskSeen)
    → GoesOn s (decided s record { refusal = refusal; reply = r; desk = e }).state
by_refusal s None r e = inr refl
by_refusal s (Some refusal) r e = inl refl

decision : (s : StateSeen) (x : Decision) → GoesOn s (decided s x).state
decision s x = by_refusal s x.refusal x.reply x.desk

showing : (s : StateSeen) (r : Result Reply Refusal) → GoesOn s (told s r).state
showing s (Ok r) = inl refl
showing s (Err refusal) = inl refl

step_goes : (v : Verdict) (s : StateSeen) (o : Option DeskSeen) (c : Command) → GoesOn s (left_by s (step_by v s o c))
step_goes v s None (command.Open now slice horizon semester lanes rounds workers quota) = inr refl
step_goes v s None (command.Instrument name front config readout change) = inl refl
step_goes v s None (command.Telescope site enclosure telescope class instruments) = inl refl
step_goes v s None (command.Night site spans) = inl refl
step_goes v s None (command.Visibility target site spans) = inl refl
step_goes v s None (command.Close scope spans) = inl refl
step_goes v s None (command.Reopen scope spans) = inl refl
step_goes v s None (command.Grant key seconds) = inl refl
step_goes v s None (command.Submit document) = inl refl
step_goes v s None (command.Amend old document) = inl refl
step_goes v s None (command.Withdraw group) = inl refl
step_goes v s None (command.Clock at) = inl refl
step_goes v s None (command.Report request percent used) = inl refl
step_goes v s None command.Plan = inl refl
step_goes v s None (command.Publish asked claim) = inl refl
step_goes v s None command.Export = inl refl
step_goes v s None command.Balances = inl refl
step_goes v s None (command.Show group) = inl refl
step_goes v s (Some d) (command.Open now slice horizon semester lanes rounds workers quota) = inl refl
step_goes v s (Some d) (command.Instrument name front config readout change) = decision s (on_instrument d name (times front config readout change))
step_goes v s (Some d) (command.Telescope site enclosure telescope class instruments) =
    decision s (on_telescope d record { site = site; enclosure = enclosure; telescope = telescope } class instruments)
step_goes v s (Some d) (command.Night site spans) = decision s (on_night d site spans)
step_goes v s (Some d) (command.Visibility target site spans) = decision s (on_visibility d target site spans)
step_goes v s (Some d) (command.Close scope spans) = decision s (on_closure d Close scope spans reply.Closed)
step_goes v s (Some d) (command.Reopen scope spans) = decision s (on_closure d Reopen scope spans reply.Reopened)
step_goes v s (Some d) (command.Grant key seconds) = decision s (on_grant d key seconds)
step_goes v s (Some d) (command.Submit document) = decision s (on_submit d document)
step_goes v s (Some d) (command.Amend old document) = decision s (on_amend d old document)
step_goes v s (Some d) (command.Withdraw group) = decision s (on_withdraw d group)
step_goes v s (Some d) (command.Clock at) = decision s (on_clock d at)
step_goes v s (Some d) (command.Report request percent used) = decision s (on_report d request percent used)
step_goes v s (Some d) command.Plan = inl refl
step_goes v s (Some d) (command.Publish asked claim) = decision s (on_publish v s.version d asked claim)
step_goes v s (Some d) command.Export = showing s (on_export d.published)
step_goes v s (Some d) command.Balances = showing s (on_balances d.books)
step_goes v s (Some d) (command.Show group) = showing s (on_show d group)

pub line_goes : (s : StateSeen) (read : Result Command CommandFault) (r : Reply) → GoesOn s (after_line s read r)
line_goes s (Err fault) r = inl refl
line_goes s (Ok c) r = step_goes (verdict_told r) s s.desk c

published_goes : (s : StateSeen) (o : Option DeskSeen) (claim : Claim) → GoesOn s (with_published s o claim)
published_goes s None claim = inl refl
published_goes s (Some d) claim = inr refl

pub publish_goes : (s : StateSeen) (r : Reply) → GoesOn s (after_publish s r)
publish_goes s reply.Opened = inl refl
publish_goes s reply.Instrument = inl refl
publish_goes s (reply.Telescope telescope) = inl refl
publish_goes s reply.Night = inl refl
publish_goes s reply.Visibility = inl refl
publish_goes s reply.Closed = inl refl
publish_goes s reply.Reopened = inl refl
publish_goes s (reply.Granted balance) = inl refl
publish_goes s (reply.Submitted group ipp_charged requests) = inl refl
publish_goes s (reply.Amended group ipp_charged refunded replaces requests) = inl refl
publish_goes s (reply.Withdrawn refunded) = inl refl
publish_goes s (reply.Clocked expired failed refunded started) = inl refl
publish_goes s (reply.Completed canceled charged) = inl refl
publish_goes s (reply.Failed expired refunded) = inl refl
publish_goes s reply.Taken = inl refl
publish_goes s (reply.Published claim) = published_goes s s.desk claim
publish_goes s (reply.Exported claim snapshot) = inl refl
publish_goes s (reply.Balances balances) = inl refl
publish_goes s (reply.Shown document group requests state) = inl refl
publish_goes s (reply.Refused refusal) = inl refl
