-- The step of a line.
use Rattle.std.proofs.Common.{◌≡◌, ◌∙◌, ap, sym, subst, refl, ℕ, ◌+◌, ◌≤◌, ◌==◌, Bool, true, false, cond, List, [], Option, Some, None, Result, Ok, Err}
use Rattle.std.specs.Option.{IfSome}
use Rattle.std.specs.Result.{IfOk}
use Rattle.std.proofs.lemmas.Option.{same_Some}
use Rattle.plan_base.specs.declared.claim.Claim.{Claim}
use Rattle.plan_base.specs.declared.number.Sec.{Sec}
use Rattle.plan_base.specs.declared.verdict.Verdict.{Verdict}
use Rattle.plan_base.specs.declared.verdict.Verdict.TheVariants.{Yes, No}
use Rattle.plan_json.specs.Moment.{last_moment}
use Rattle.site_model.specs.declared.changes.Change.TheVariants.{Close, Reopen}
use Rattle.site_model.specs.declared.code.Code.{Code}
use Rattle.desk_runs.specs.Clock.{at_moment, settle}
use Rattle.desk_runs.specs.declared.group.Group.{Group}
use Rattle.desk_runs.specs.Reports.{withdrawn}
use Rattle.desk_runs.proofs.GoingOn.{moment_goes_on, withdrawal_goes_on}
use Rattle.desk_events.specs.declared.command.Command.{Command}
use Rattle.desk_events.specs.declared.command.Command.TheVariants as command
use Rattle.desk_events.specs.declared.fault.CommandFault.{CommandFault}
use Rattle.desk_events.specs.declared.refusal.Refusal.{Refusal}
use Rattle.desk_events.specs.declared.refusal.Refusal.TheVariants.{AlreadyOpened, NotOpened, Stale, Rejected}
use Rattle.desk_events.specs.declared.reply.Reply.{Reply}
use Rattle.desk_events.specs.declared.reply.Reply.TheVariants as reply
use Rattle.desk_events.specs.Ranges.{IsCommand}
use Rattle.desk_core.specs.declared.desk.Opening.{Opening}
use Rattle.desk_core.specs.Publication.{PublicationSeen}
use Rattle.desk_core.specs.declared.desk.Submitted.{Submitted}
use Rattle.desk_core.specs.Closing.{on_withdraw, on_amend}
use Rattle.desk_core.specs.Desk.{DeskSeen, StateSeen, Stepped, refused, accepted, decided, told}
use Rattle.desk_core.specs.History.{verdict_told}
use Rattle.desk_core.specs.Kept.{IsOpenedWith, IsDesk}
use Rattle.desk_core.specs.Publishing.{with_publication, rejection, on_publish}
use Rattle.desk_core.specs.Registering.{times, on_instrument, on_telescope, on_night, on_visibility, on_closure, on_grant}
use Rattle.desk_core.specs.Showing.{on_export, on_balances, shown_group, on_show}
use Rattle.desk_core.specs.Step.{IsStep, opened, new_desk, step_by}
use Rattle.desk_core.specs.Submitting.{on_submit}
use Rattle.desk_core.specs.Timing.{on_clock, on_report}
use Rattle.desk_core.proofs.KeptGrant.{grant_keeps, new_is_desk}
use Rattle.desk_core.proofs.KeptNetwork.{instrument_keeps, telescope_keeps, night_keeps, visibility_keeps, closure_keeps}
use Rattle.desk_core.proofs.KeptTiming.{clock_keeps, withdraw_keeps}
use Rattle.desk_core.proofs.Publications.{publish_keeps}
use Rattle.desk_accounts.specs.Balance.{GroupTold}
use Rattle.desk_accounts.proofs.Known.{groups_in, AreKnown}
use Rattle.desk_accounts.proofs.Goes.{groups_of, Goes, told_at, IsQuiet, refused_quiet, quiet_goes, quiet_line, decided_goes, progress_line, grant_line}
use Rattle.desk_accounts.proofs.Reporting.{report_line}
use Rattle.desk_accounts.proofs.Submitting.{submit_line, amend_line}

-- ---- what is only told

-- a step that is quiet and leaves the state
same_goes : (known : List GroupTold) (s : StateSeen) (c : Command) (now stepped : Stepped) → IfSome s.desk IsDesk → AreKnown known (groups_of s)
    → IsQuiet (told_at c now.reply) → s ≡ now.state
    → Some now ≡ Some stepped → Goes known (told_at c stepped.reply) s stepped.state
same_goes known s c now stepped h k quiet same is =
    subst (λ (x : Stepped). Goes known (told_at c x.reply) s x.state) (same_Some now stepped is)
    (subst (Goes known (told_at c now.reply) s) same (quiet_goes known (told_at c now.reply) s s quiet h k refl refl refl))

told_goes : (known : List GroupTold) (version : ℕ) (d : DeskSeen) (c : Command) (answer : Result Reply Refusal) (stepped : Stepped) → IsDesk d
    → AreKnown known (groups_in d)
    → IfOk answer (λ r. IsQuiet (told_at c r)) → Some (told (opened version d) answer) ≡ Some stepped
    → Goes known (told_at c stepped.reply) (opened version d) stepped.state
told_goes known version d c (Ok r) stepped h k quiet is =
    same_goes known (opened version d) c (record { reply = r; state = opened version d }) stepped h k quiet refl is
told_goes known version d c (Err refusal) stepped h k quiet is = same_goes known (opened version d) c (refused (opened version d) refusal) stepped h k
    (refused_quiet (Ok c) refusal) refl is

export_quiet : (line : Result Command CommandFault) (o : Option PublicationSeen) → IfOk (on_export o) (λ r. IsQuiet (record { line = line; reply = r }))
export_quiet line None = tt
export_quiet line (Some p) = record { group = refl; tally = λ groups key. refl; back = refl; done = refl }

shown_quiet : (line : Result Command CommandFault) (o : Option (Submitted × Group)) → IfOk (shown_group o) (λ r. IsQuiet (record { line = line; reply = r }))
shown_quiet line None = tt
shown_quiet line (Some p) = record { group = refl; tally = λ groups key. refl; back = refl; done = refl }

-- ---- an opened desk

line_opened : (known : List GroupTold) (version : ℕ) (d : DeskSeen) (c : Command) (stepped : Stepped) → IsDesk d → AreKnown known (groups_in d)
    → IsCommand c → IsStep (opened version d) c stepped
    → Goes known (told_at c stepped.reply) (opened version d) stepped.state
line_opened known version d (command.Open now slice horizon semester lanes rounds workers quota) stepped h k ranges s =
    same_goes known (opened version d) (command.Open now slice horizon semester lanes rounds workers quota)
    (refused (opened version d) AlreadyOpened) stepped h k
    (refused_quiet (Ok (command.Open now slice horizon semester lanes rounds workers quota)) AlreadyOpened) refl s.2
line_opened known version d (command.Instrument name front config readout change) stepped h k ranges s =
    decided_goes known version d (command.Instrument name front config readout change)
    (on_instrument d name (times front config readout change)) stepped h k s.2
    (λ none.
    quiet_line known version d _ (command.Instrument name front config readout change) _
    (record { group = refl; tally = λ groups key. refl; back = refl; done = refl })
    (instrument_keeps d name (times front config readout change) h) k refl refl refl)
line_opened known version d (command.Telescope site enclosure telescope class instruments) stepped h k ranges s =
    let code : Code = record { site = site; enclosure = enclosure; telescope = telescope } in
    decided_goes known version d (command.Telescope site enclosure telescope class instruments) (on_telescope d code class instruments) stepped h k s.2
    (λ none.
    quiet_line known version d _ (command.Telescope site enclosure telescope class instruments) _
    (record { group = refl; tally = λ groups key. refl; back = refl; done = refl })
    (telescope_keeps d code class instruments h none) k refl refl refl)
line_opened known version d (command.Night site spans) stepped h k ranges s =
    decided_goes known version d (command.Night site spans) (on_night d site spans) stepped h k s.2
    (λ none. quiet_line known version d _ (command.Night site spans) _ (record { group = refl; tally = λ groups key. refl; back = refl; done = refl })
    (night_keeps d site spans h) k refl refl refl)
line_opened known version d (command.Visibility target site spans) stepped h k ranges s =
    decided_goes known version d (command.Visibility target site spans) (on_visibility d target site spans) stepped h k s.2
    (λ none. quiet_line known version d _ (command.Visibility target site spans) _
    (record { group = refl; tally = λ groups key. refl; back = refl; done = refl }) (visibility_keeps d target site spans h) k refl refl refl)
line_opened known version d (command.Close scope spans) stepped h k ranges s =
    decided_goes known version d (command.Close scope spans) (on_closure d Close scope spans reply.Closed) stepped h k s.2
    (λ none. quiet_line known version d _ (command.Close scope spans) _
    (record { group = refl; tally = λ groups key. refl; back = refl; done = refl })
    (closure_keeps d Close scope spans reply.Closed h none) k refl refl refl)
line_opened known version d (command.Reopen scope spans) stepped h k ranges s =
    decided_goes known version d (command.Reopen scope spans) (on_closure d Reopen scope spans reply.Reopened) stepped h k s.2
    (λ none. quiet_line known version d _ (command.Reopen scope spans) _
    (record { group = refl; tally = λ groups key. refl; back = refl; done = refl })
    (closure_keeps d Reopen scope spans reply.Reopened h none) k refl refl refl)
line_opened known version d (command.Grant key seconds) stepped h k ranges s =
    decided_goes known version d (command.Grant key seconds) (on_grant d key seconds) stepped h k s.2
    (λ none. grant_line known version d (on_grant d key seconds).desk key seconds _ (grant_keeps d key seconds h) k refl refl refl)
line_opened known version d (command.Submit document) stepped h k ranges s =
    decided_goes known version d (command.Submit document) (on_submit d document) stepped h k s.2 (submit_line known version d document h ranges k)
line_opened known version d (command.Amend old document) stepped h k ranges s =
    decided_goes known version d (command.Amend old document) (on_amend d old document) stepped h k s.2 (amend_line known version d old document h ranges k)
line_opened known version d (command.Withdraw group) stepped h k ranges s =
    decided_goes known version d (command.Withdraw group) (on_withdraw d group) stepped h k s.2
    (λ none.
    progress_line known version d (withdrawn group d.progress) (command.Withdraw group) (on_withdraw d group).reply h (withdraw_keeps d group h none)
    (withdrawal_goes_on d.progress group).later k refl (λ groups key. refl) refl refl)
line_opened known version d (command.Clock at) stepped h k ranges s =
    decided_goes known version d (command.Clock at) (on_clock d at) stepped h k s.2
    (λ none.
    progress_line known version d (settle (at_moment at d.progress)) (command.Clock at) (on_clock d at).reply h (clock_keeps d at h ranges)
    (moment_goes_on d.progress at).later k refl (λ groups key. refl) refl refl)
line_opened known version d (command.Report request percent used) stepped h k ranges s =
    decided_goes known version d (command.Report request percent used) (on_report d request percent used) stepped h k s.2
    (report_line known version d request percent used h k)
line_opened known version d command.Plan stepped h k ranges s = absurd (cc)
line_opened known version d (command.Publish asked claim) stepped h k ranges s =
    decided_goes known version d (command.Publish asked claim) (on_publish s.0 version d asked claim) stepped h k s.2
    (λ none.
    quiet_line known version d _ (command.Publish asked claim) _ (record { group = refl; tally = λ groups key. refl; back = refl; done = refl })
    (publish_keeps s.0 version d asked claim h (λ same. s.1 same _ (d, refl, refl)) none) k refl refl refl)
line_opened known version d command.Export stepped h k ranges s = told_goes known version d command.Export (on_export d.published) stepped h k
    (export_quiet (Ok command.Export) d.published) s.2
line_opened known version d command.Balances stepped h k ranges s =
    told_goes known version d command.Balances (on_balances d.books) stepped h k
    (record { group = refl; tally = λ groups key. refl; back = refl; done = refl }) s.2
line_opened known version d (command.Show group) stepped h k ranges s = told_goes known version d (command.Show group) (on_show d group) stepped h k
    (shown_quiet (Ok (command.Show group)) _) s.2

-- ---- before the desk is opened

-- `open` opens it
open_goes : (known : List GroupTold) (version : ℕ) (opening : Opening) (now : Sec) (line : Result Command CommandFault) (stepped : Stepped)
    → AreKnown known [] → IsOpenedWith opening
    → now.0 ≤ last_moment → Some (accepted (record { version = version; desk = None }) reply.Opened (new_desk opening now)) ≡ Some stepped
    → Goes known (record { line = line; reply = stepped.reply }) (record { version = version; desk = None }) stepped.state
open_goes known version opening now line stepped k ranges moment is =
    let before : StateSeen = record { version = version; desk = None } in
    subst (λ (x : Stepped). Goes known (record { line = line; reply = x.reply }) before x.state)
    (same_Some (accepted before reply.Opened (new_desk opening now)) stepped is)
    (quiet_goes known (record { line = line; reply = reply.Opened }) before (opened (version + 1) (new_desk opening now))
    (record { group = refl; tally = λ groups key. refl; back = refl; done = refl })
    (new_is_desk opening now ranges moment) k refl refl refl)

-- any other command is refused
line_unopened : (known : List GroupTold) (version : ℕ) (c : Command) (stepped : Stepped) → AreKnown known [] → IsCommand c
    → IsStep (record { version = version; desk = None }) c stepped
    → Goes known (record { line = Ok c; reply = stepped.reply }) (record { version = version; desk = None }) stepped.state
line_unopened known version (command.Open now slice horizon semester lanes rounds workers quota) stepped k ranges s =
    open_goes known version (record {
      slice = slice;
      horizon = horizon;
      semester = semester;
      settings = record { lanes = lanes; rounds = rounds; workers = workers };
      quota = quota;
    }) now
    (Ok (command.Open now slice horizon semester lanes rounds workers quota)) stepped k
    (record {
      slice = ranges.length_of_slice;
      horizon = ranges.slices;
      semester = ranges.season;
      lanes = ranges.sequences;
      rounds = ranges.turns;
      workers = ranges.threads;
      quota = ranges.share;
    })
    ranges.moment s.2
line_unopened known version c stepped k ranges s =
    same_goes known (record { version = version; desk = None }) c (refused (record { version = version; desk = None }) NotOpened) stepped tt k
    (refused_quiet (Ok c) NotOpened) refl s.2

-- a line's step adds to the ledger what its entry tells
pub line_goes : (known : List GroupTold) (version : ℕ) (o : Option DeskSeen) (c : Command) (stepped : Stepped) → IfSome o IsDesk
    → AreKnown known (groups_of (record { version = version; desk = o }))
    → IsCommand c → IsStep (record { version = version; desk = o }) c stepped
    → Goes known (record { line = Ok c; reply = stepped.reply }) (record { version = version; desk = o }) stepped.state
line_goes known version None c stepped h k ranges s = line_unopened known version c stepped k ranges s
line_goes known version (Some d) c stepped h k ranges s = line_opened known version d c stepped h k ranges s

-- ---- the verdict that is told

-- what `publish` leaves, by why it is refused
abbrev publication : StateSeen → DeskSeen → Claim → Option Refusal → Stepped
publication s d claim refusal = decided s (record { refusal = refusal; reply = reply.Published claim; desk = with_publication s.version claim d })

published : (v : Verdict) (s : StateSeen) (d : DeskSeen) (asked : ℕ) (claim : Claim) (stepped : Stepped)
    → Some (decided s (on_publish v s.version d asked claim)) ≡ Some stepped
    → Some (decided s (on_publish (verdict_told stepped.reply) s.version d asked claim)) ≡ Some stepped
published v s d asked claim stepped is = by v (asked == s.version) is
  where
    by : (w : Verdict) (b : Bool) → Some (publication s d claim (cond b (rejection w) (Some (Stale asked s.version)))) ≡ Some stepped
        → Some (publication s d claim (cond b (rejection (verdict_told stepped.reply)) (Some (Stale asked s.version)))) ≡ Some stepped
    by w false f = f
    by (Yes value bound) true f =
        let said : reply.Published claim ≡ stepped.reply = ap (λ (x : Stepped). x.reply) (same_Some (publication s d claim None) stepped f) in
        ap (λ (r : Reply). Some (publication s d claim (rejection (verdict_told r)))) (sym said) ∙ f
    by (No reason) true f =
        let said : reply.Refused (Rejected reason) ≡ stepped.reply =
        ap (λ (x : Stepped). x.reply) (same_Some (publication s d claim (Some (Rejected reason))) stepped f) in
        ap (λ (r : Reply). Some (publication s d claim (rejection (verdict_told r)))) (sym said) ∙ f

-- the verdict matters to `publish` alone, and there the reply tells it
pub told_step : (v : Verdict) (s : StateSeen) (o : Option DeskSeen) (c : Command) (stepped : Stepped) → step_by v s o c ≡ Some stepped
    → step_by (verdict_told stepped.reply) s o c ≡ Some stepped
told_step v s None c stepped is = is
told_step v s (Some d) (command.Publish asked claim) stepped is = published v s d asked claim stepped is
told_step v s (Some d) c stepped is = is
