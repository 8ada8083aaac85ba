-- The text of what a line does tells it: a document that is shown is that of a group.
use Rattle.std.proofs.Common.{◌≡◌, ℕ, List, [], ◌∷◌, ◌++◌, Bool, true, false, not, cond, nat_lt, nat_le, length, drop, find, IfSome, sym, ◌∙◌, ap}
use Rattle.std.proofs.Common.{subst, Option, Some, None, Result, Ok, Err}
use Rattle.std.specs.List.{AllByRecursion, AllZip, zip}
use Rattle.plan_base.specs.declared.number.RequestNo.{RequestNo}
use Rattle.plan_base.specs.declared.verdict.Verdict.{Verdict}
use Rattle.request_model.specs.declared.group.GroupDoc.{GroupDoc}
use Rattle.site_model.specs.declared.changes.Change.TheVariants.{Close, Reopen}
use Rattle.desk_runs.specs.declared.group.Group.{Group}
use Rattle.desk_runs.specs.declared.group.Request.{Request}
use Rattle.desk_runs.specs.Numbers.{is_group, is_placed}
use Rattle.desk_events.specs.declared.command.Command.{Command}
use Rattle.desk_events.specs.declared.command.Command.TheVariants as command
use Rattle.desk_events.specs.declared.entry.EventEntry.{EventEntry}
use Rattle.desk_events.specs.declared.fault.CommandFault.{CommandFault}
use Rattle.desk_events.specs.declared.refusal.Refusal.{Refusal}
use Rattle.desk_events.specs.declared.refusal.Refusal.TheVariants.{NotRunning, UsedTooLong}
use Rattle.desk_events.specs.declared.reply.Reply.{Reply}
use Rattle.desk_events.specs.declared.reply.Reply.TheVariants as reply
use Rattle.desk_events.specs.Entry.{text_of_history}
use Rattle.desk_events.specs.Laws.{ShowsGroup, IsWritableEntry, IsTelling}
use Rattle.desk_core.specs.Publication.{PublicationSeen}
use Rattle.desk_core.specs.declared.desk.Submitted.{Submitted}
use Rattle.desk_core.specs.declared.desk.Wanted.{Wanted}
use Rattle.desk_core.specs.Asking.{MadeSeen, made_of}
use Rattle.desk_core.specs.Desk.{DeskSeen, StateSeen, Stepped, Decision, decided, told}
use Rattle.desk_core.specs.Registering.{times, on_instrument, on_telescope, on_night, on_visibility, on_closure, on_grant}
use Rattle.desk_core.specs.Submitting.{on_submit, on_made}
use Rattle.desk_core.specs.Closing.{on_withdraw, on_amend}
use Rattle.desk_core.specs.Timing.{on_clock, on_report, on_reported, on_refused, on_completed, on_failed, request_with}
use Rattle.desk_core.specs.Publishing.{on_publish}
use Rattle.desk_core.specs.Showing.{on_export, shown_group}
use Rattle.desk_core.specs.Step.{step_by}
use Rattle.desk_core.specs.Kept.{IsAlong, IsDesk, IsState}
use Rattle.desk_core.specs.History.{IsLineReply, IsPublication}
use Rattle.desk_book.proofs.Texts.{text_tells_history}
use Rattle.session.specs.Laws.{TextHasOneHistory}

-- ---- a step

-- a document that is shown is that of a group
abbrev Shows : Option Stepped → Type 0
Shows None = Unit {0}
Shows (Some stepped) = ShowsGroup stepped.reply

by_refusal : (s : StateSeen) (refusal : Option Refusal) (r : Reply) (e : DeskSeen) → ShowsGroup r
    → Shows (Some (decided s record { refusal = refusal; reply = r; desk = e }))
by_refusal s None r e h = h
by_refusal s (Some refusal) r e h = tt

decision : (s : StateSeen) (x : Decision) → ShowsGroup x.reply → Shows (Some (decided s x))
decision s x h = by_refusal s x.refusal x.reply x.desk h

made_shows : (d : DeskSeen) (document : GroupDoc) (r : Result (List MadeSeen) Refusal) → ShowsGroup (on_made d document r).reply
made_shows d document (Ok made) = tt
made_shows d document (Err refusal) = tt

reported_by : (d : DeskSeen) (request : RequestNo) (percent used : ℕ) (p : Submitted × (Request × Wanted)) (a b c : Bool)
    → ShowsGroup
    (cond (not a) (on_refused d request NotRunning)
    (cond b (on_refused d request (UsedTooLong p.1.0.seconds used)) (cond c (on_completed d request used p.0 p.1.1) (on_failed d request)))).reply
reported_by d request percent used p false b c = tt
reported_by d request percent used p true true c = tt
reported_by d request percent used p true false true = tt
reported_by d request percent used p true false false = tt

reported_shows : (d : DeskSeen) (request : RequestNo) (percent used : ℕ) (o : Option (Submitted × (Request × Wanted)))
    → ShowsGroup (on_reported d request percent used o).reply
reported_shows d request percent used None = tt
reported_shows d request percent used (Some p) = reported_by d request percent used p (is_placed d.progress.running request)
    (nat_lt p.1.0.seconds used) (nat_le p.1.1.threshold percent)

export_shows : (s : StateSeen) (o : Option PublicationSeen) → Shows (Some (told s (on_export o)))
export_shows s None = tt
export_shows s (Some p) = tt

-- a group that is found was submitted by a document of a group
found_shows : (targets : ℕ) (test : Submitted × Group → Bool) (ws : List Submitted) (gs : List Group) (s : StateSeen) → AllZip (IsAlong targets) ws gs
    → Shows (Some (told s (shown_group (find test (zip ws gs)))))
found_shows targets test [] gs s h = tt
found_shows targets test (w ∷ ws) [] s h = absurd h
found_shows targets test (w ∷ ws) (g ∷ gs) s h =
    let along : IsAlong targets w g = h.0 in
    elim (test (w, g)) as (λ t. Shows (Some (told s (shown_group (cond t (Some (w, g)) (find test (zip ws gs))))))) [
      | true ↦ along.document
      | false ↦ found_shows targets test ws gs s h.1
    ]

step_shows : (v : Verdict) (s : StateSeen) (o : Option DeskSeen) (c : Command) → IfSome o IsDesk → Shows (step_by v s o c)
step_shows v s None (command.Open now slice horizon semester lanes rounds workers quota) h = tt
step_shows v s None c h = tt
step_shows v s (Some d) (command.Open now slice horizon semester lanes rounds workers quota) h = tt
step_shows v s (Some d) (command.Instrument name front config readout change) h = decision s (on_instrument d name (times front config readout change)) tt
step_shows v s (Some d) (command.Telescope site enclosure telescope class instruments) h =
    decision s (on_telescope d record { site = site; enclosure = enclosure; telescope = telescope } class instruments) tt
step_shows v s (Some d) (command.Night site spans) h = decision s (on_night d site spans) tt
step_shows v s (Some d) (command.Visibility target site spans) h = decision s (on_visibility d target site spans) tt
step_shows v s (Some d) (command.Close scope spans) h = decision s (on_closure d Close scope spans reply.Closed) tt
step_shows v s (Some d) (command.Reopen scope spans) h = decision s (on_closure d Reopen scope spans reply.Reopened) tt
step_shows v s (Some d) (command.Grant key seconds) h = decision s (on_grant d key seconds) tt
step_shows v s (Some d) (command.Submit document) h = decision s (on_submit d document) (made_shows d document (made_of d document))
step_shows v s (Some d) (command.Amend old document) h = decision s (on_amend d old document) tt
step_shows v s (Some d) (command.Withdraw group) h = decision s (on_withdraw d group) tt
step_shows v s (Some d) (command.Clock at) h = decision s (on_clock d at) tt
step_shows v s (Some d) (command.Report request percent used) h =
    decision s (on_report d request percent used) (reported_shows d request percent used (request_with d request))
step_shows v s (Some d) command.Plan h = tt
step_shows v s (Some d) (command.Publish asked claim) h = decision s (on_publish v s.version d asked claim) tt
step_shows v s (Some d) command.Export h = export_shows s d.published
step_shows v s (Some d) command.Balances h = tt
step_shows v s (Some d) (command.Show group) h =
    let desk : IsDesk d = h in
    found_shows (length d.network.registry.targets) (λ p. is_group group p.1) d.groups d.progress.groups s desk.along

-- ---- an entry

pub line_shows : (s : StateSeen) (read : Result Command CommandFault) (r : Reply) → IsState s → IsLineReply s read r → ShowsGroup r
line_shows s (Err fault) r state h = subst ShowsGroup (sym h.2) tt
line_shows s (Ok c) r state h = subst ShowsGroup h.2 (subst Shows h.1.2 (step_shows h.1.0 s s.desk c state.desk))

pub publication_shows : (s : StateSeen) (v : ℕ) (r : Reply) → IsPublication s v r → ShowsGroup r
publication_shows s v (reply.Published claim) h = tt
publication_shows s v (reply.Refused refusal) h = tt
publication_shows s v r h = absurd h

-- ---- a history

pub telling_more : (xs ys : List EventEntry) → AllByRecursion IsTelling xs → AllByRecursion IsTelling ys → AllByRecursion IsTelling (xs ++ ys)
telling_more [] ys h g = g
telling_more (x ∷ xs) ys h g = (h.0, telling_more xs ys h.1 g)

same_after : (held xs ys : List ℕ) → held ++ xs ≡ held ++ ys → xs ≡ ys
same_after [] xs ys h = h
same_after (b ∷ held) xs ys h = same_after held xs ys (ap (drop 1) h)

writable_each : (es : List EventEntry) → AllByRecursion IsTelling es → AllByRecursion IsWritableEntry es
writable_each [] h = tt
writable_each (e ∷ es) h = (h.0.writable, writable_each es h.1)

-- of the same scripts, what is written tells what was done
pub text_has_one : TextHasOneHistory
text_has_one scripts held now answered other legal is =
    text_tells_history scripts answered.history other answered.sound.legal legal (writable_each answered.history answered.telling)
    (same_after held (text_of_history answered.history) (text_of_history other) (sym answered.written ∙ is))
