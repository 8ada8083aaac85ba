-- What an entry does to the telescopes, the sites, the closures, the nights and the skies of the desk is what it tells.
use Rattle.std.proofs.Common.{◌≡◌, ◌∙◌, ap, sym, subst, refl, ℕ, Bool, true, false, nat_le, nat_lt, not, List, [], Option, Some, None, Result, Ok, Err}
use Rattle.std.specs.Prelude.{if◌then◌else◌}
use Rattle.std.proofs.lemmas.Option.{same_Some}
use Rattle.plan_base.specs.declared.claim.Claim.{Claim}
use Rattle.plan_base.specs.declared.number.GroupNo.{GroupNo}
use Rattle.plan_base.specs.declared.number.RequestNo.{RequestNo}
use Rattle.plan_base.specs.declared.verdict.Verdict.{Verdict}
use Rattle.plan_io.specs.declared.lines.ScriptLine.{ScriptLine}
use Rattle.request_model.specs.declared.group.GroupDoc.{GroupDoc}
use Rattle.site_model.specs.declared.changes.Change.TheVariants.{Close, Reopen}
use Rattle.site_model.specs.Network.{NetworkSeen, no_network}
use Rattle.desk_runs.specs.declared.group.Request.{Request}
use Rattle.desk_runs.specs.Numbers.{is_placed}
use Rattle.desk_events.specs.declared.command.Command.{Command}
use Rattle.desk_events.specs.declared.command.Command.TheVariants as command
use Rattle.desk_events.specs.declared.entry.EventEntry.{EventEntry}
use Rattle.desk_events.specs.declared.entry.What.{What}
use Rattle.desk_events.specs.declared.entry.What.TheVariants.{Line, Take, Publish}
use Rattle.desk_events.specs.declared.fault.CommandFault.{CommandFault}
use Rattle.desk_events.specs.declared.refusal.Refusal.{Refusal}
use Rattle.desk_events.specs.declared.refusal.Refusal.TheVariants.{NotOpened, NotRunning, UsedTooLong}
use Rattle.desk_events.specs.declared.reply.Reply.{Reply}
use Rattle.desk_events.specs.declared.reply.Reply.TheVariants as reply
use Rattle.desk_events.specs.Line.{command_of_line}
use Rattle.desk_events.specs.Ranges.{IsCommand}
use Rattle.desk_events.proofs.InRange.{in_range}
use Rattle.desk_core.specs.declared.desk.Submitted.{Submitted}
use Rattle.desk_core.specs.declared.desk.Wanted.{Wanted}
use Rattle.desk_core.specs.Closing.{without_group, on_freed, on_withdraw, on_amend}
use Rattle.desk_core.specs.Desk.{DeskSeen, StateSeen, Stepped, Decision, refused, decided, told}
use Rattle.desk_core.specs.History.{line_of, read_at, verdict_told, left_by, after_line, with_published, after_publish, after_what, replay, IsLineReply}
use Rattle.desk_core.specs.History.{IsPublication, IsReply}
use Rattle.desk_core.specs.Publishing.{on_publish}
use Rattle.desk_core.specs.Registering.{times, on_instrument, on_telescope, on_night, on_visibility, on_closure, on_grant}
use Rattle.desk_core.specs.Step.{opened, step_opened, step_unopened, step_by}
use Rattle.desk_core.specs.Asking.{MadeSeen, made_of}
use Rattle.desk_core.specs.Submitting.{on_made, on_submit}
use Rattle.desk_core.specs.Targets.{target_names}
use Rattle.desk_core.specs.Timing.{request_with, on_completed, on_failed, on_refused, on_reported, on_clock, on_report}
use Rattle.desk_core.specs.Showing.{on_export, on_balances, on_show}
use Rattle.desk_calendar.proofs.Goes.{network_in, network_of, Goes, Stays, stays, IsQuiet, quiet_goes, quiet_refused, quiet_published}
use Rattle.desk_calendar.proofs.Telling.{telescope_goes, closure_goes, night_goes, sky_goes}

-- ---- lines that tell nothing

-- a refusal leaves all
decided_stays : (version : ℕ) (d e : DeskSeen) (refusal : Option Refusal) (answer : Reply) → Stays d.network e.network
    → Stays d.network (network_of (decided (opened version d) (record { refusal = refusal; reply = answer; desk = e })).state)
decided_stays version d e None answer s = s
decided_stays version d e (Some r) answer s = stays d.network

told_stays : (version : ℕ) (d : DeskSeen) (answer : Result Reply Refusal) → Stays d.network (network_of (told (opened version d) answer).state)
told_stays version d (Ok r) = stays d.network
told_stays version d (Err r) = stays d.network

made_stays : (d : DeskSeen) (document : GroupDoc) (made : Result (List MadeSeen) Refusal) → Stays d.network (on_made d document made).desk.network
made_stays d document (Ok made) =
    record { telescopes = refl; sites = refl; closures = refl; nights = refl; targets = (target_names document.requests, refl); skies = refl }
made_stays d document (Err r) = stays d.network

report_stays : (d : DeskSeen) (request : RequestNo) (percent used : ℕ) → Stays d.network (on_report d request percent used).desk.network
report_stays d request percent used = by (request_with d request)
  where
    at_least : (b : Bool) (w : Submitted) (q : Wanted) → Stays d.network (if b then on_completed d request used w q else on_failed d request).desk.network
    at_least true w q = record { telescopes = refl; sites = refl; closures = refl; nights = refl; targets = ([], refl); skies = refl }
    at_least false w q = record { telescopes = refl; sites = refl; closures = refl; nights = refl; targets = ([], refl); skies = refl }

    not_long : (b : Bool) (p : Submitted × (Request × Wanted))
        → Stays d.network (if b then on_refused d request (UsedTooLong p.1.0.seconds used)
        else (if nat_le p.1.1.threshold percent then on_completed d request used p.0 p.1.1 else on_failed d request)).desk.network
    not_long true p = record { telescopes = refl; sites = refl; closures = refl; nights = refl; targets = ([], refl); skies = refl }
    not_long false p = at_least (nat_le p.1.1.threshold percent) p.0 p.1.1

    running : (b : Bool) (p : Submitted × (Request × Wanted))
        → Stays d.network (if b then on_refused d request NotRunning
        else (if nat_lt p.1.0.seconds used then on_refused d request (UsedTooLong p.1.0.seconds used)
        else (if nat_le p.1.1.threshold percent then on_completed d request used p.0 p.1.1 else on_failed d request))).desk.network
    running true p = record { telescopes = refl; sites = refl; closures = refl; nights = refl; targets = ([], refl); skies = refl }
    running false p = not_long (nat_lt p.1.0.seconds used) p

    by : (o : Option (Submitted × (Request × Wanted))) → Stays d.network (on_reported d request percent used o).desk.network
    by None = record { telescopes = refl; sites = refl; closures = refl; nights = refl; targets = ([], refl); skies = refl }
    by (Some p) = running (not (is_placed d.progress.running request)) p

amend_stays : (d : DeskSeen) (old : GroupNo) (document : GroupDoc) → Stays d.network (on_amend d old document).desk.network
amend_stays d old document = by (made_of (without_group old d) document)
  where
    by : (made : Result (List MadeSeen) Refusal) → Stays d.network (on_freed d old document made).desk.network
    by (Ok made) = record { telescopes = refl; sites = refl; closures = refl; nights = refl; targets = (target_names document.requests, refl); skies = refl }
    by (Err r) = record { telescopes = refl; sites = refl; closures = refl; nights = refl; targets = ([], refl); skies = refl }

-- ---- a line that an opened desk does

-- where it isn't refused
decided_goes : (version : ℕ) (d : DeskSeen) (c : Command) (decision : Decision) (stepped : Stepped)
    → Some (decided (opened version d) decision) ≡ Some stepped → (decision.refusal ≡ None → Goes (Ok c) decision.reply d.network decision.desk.network)
    → Goes (Ok c) stepped.reply d.network (network_of (decided (opened version d) decision).state)
decided_goes version d c decision stepped is goes =
    subst (λ (s : Stepped). Goes (Ok c) s.reply d.network (network_of (decided (opened version d) decision).state))
    (same_Some (decided (opened version d) decision) stepped is)
    (by decision.refusal goes)
  where
    by : (refusal : Option Refusal) → (refusal ≡ None → Goes (Ok c) decision.reply d.network decision.desk.network)
        → (let s : Stepped = decided (opened version d) (record { refusal = refusal; reply = decision.reply; desk = decision.desk }) in
        Goes (Ok c) s.reply d.network (network_of s.state))
    by None go = go refl
    by (Some r) go = quiet_goes (Ok c) (reply.Refused r) d.network d.network (quiet_refused (Ok c) r) (stays d.network)

line_opened : (version : ℕ) (d : DeskSeen) (v w : Verdict) (c : Command) (stepped : Stepped) → IsCommand c → step_opened v (opened version d) d c ≡ Some stepped
    → Goes (Ok c) stepped.reply d.network (network_of (left_by (opened version d) (step_opened w (opened version d) d c)))
line_opened version d v w (command.Open now slice horizon semester lanes rounds workers quota) stepped ranges is =
    quiet_goes (Ok (command.Open now slice horizon semester lanes rounds workers quota)) stepped.reply d.network d.network (refl, refl, refl, refl)
    (stays d.network)
line_opened version d v w (command.Instrument name front config readout change) stepped ranges is =
    let decision : Decision = on_instrument d name (times front config readout change) in
    quiet_goes (Ok (command.Instrument name front config readout change)) stepped.reply d.network _ (refl, refl, refl, refl)
    (decided_stays version d decision.desk decision.refusal decision.reply
    (record { telescopes = refl; sites = refl; closures = refl; nights = refl; targets = ([], refl); skies = refl }))
line_opened version d v w (command.Telescope site enclosure telescope class instruments) stepped ranges is =
    decided_goes version d (command.Telescope site enclosure telescope class instruments)
    (on_telescope d record { site = site; enclosure = enclosure; telescope = telescope } class instruments) stepped is
    (telescope_goes d site enclosure telescope class instruments)
line_opened version d v w (command.Night site spans) stepped ranges is =
    decided_goes version d (command.Night site spans) (on_night d site spans) stepped is (night_goes d site spans ranges.times)
line_opened version d v w (command.Visibility target site spans) stepped ranges is =
    decided_goes version d (command.Visibility target site spans) (on_visibility d target site spans) stepped is (sky_goes d target site spans ranges.times)
line_opened version d v w (command.Close scope spans) stepped ranges is =
    decided_goes version d (command.Close scope spans) (on_closure d Close scope spans reply.Closed) stepped is
    (λ none. closure_goes d (command.Close scope spans) Close scope spans reply.Closed ranges.times refl refl refl refl)
line_opened version d v w (command.Reopen scope spans) stepped ranges is =
    decided_goes version d (command.Reopen scope spans) (on_closure d Reopen scope spans reply.Reopened) stepped is
    (λ none. closure_goes d (command.Reopen scope spans) Reopen scope spans reply.Reopened ranges.times refl refl refl refl)
line_opened version d v w (command.Grant key seconds) stepped ranges is =
    let decision : Decision = on_grant d key seconds in
    quiet_goes (Ok (command.Grant key seconds)) stepped.reply d.network _ (refl, refl, refl, refl)
    (decided_stays version d decision.desk decision.refusal decision.reply (stays d.network))
line_opened version d v w (command.Submit document) stepped ranges is =
    let decision : Decision = on_submit d document in
    quiet_goes (Ok (command.Submit document)) stepped.reply d.network _ (refl, refl, refl, refl)
    (decided_stays version d decision.desk decision.refusal decision.reply (made_stays d document (made_of d document)))
line_opened version d v w (command.Amend old document) stepped ranges is =
    let decision : Decision = on_amend d old document in
    quiet_goes (Ok (command.Amend old document)) stepped.reply d.network _ (refl, refl, refl, refl)
    (decided_stays version d decision.desk decision.refusal decision.reply (amend_stays d old document))
line_opened version d v w (command.Withdraw group) stepped ranges is =
    let decision : Decision = on_withdraw d group in
    quiet_goes (Ok (command.Withdraw group)) stepped.reply d.network _ (refl, refl, refl, refl)
    (decided_stays version d decision.desk decision.refusal decision.reply (stays d.network))
line_opened version d v w (command.Clock at) stepped ranges is =
    let decision : Decision = on_clock d at in
    quiet_goes (Ok (command.Clock at)) stepped.reply d.network _ (refl, refl, refl, refl)
    (decided_stays version d decision.desk decision.refusal decision.reply (stays d.network))
line_opened version d v w (command.Report request percent used) stepped ranges is =
    let decision : Decision = on_report d request percent used in
    quiet_goes (Ok (command.Report request percent used)) stepped.reply d.network _ (refl, refl, refl, refl)
    (decided_stays version d decision.desk decision.refusal decision.reply (report_stays d request percent used))
line_opened version d v w command.Plan stepped ranges is = absurd (cc)
line_opened version d v w (command.Publish asked claim) stepped ranges is =
    let decision : Decision = on_publish w version d asked claim in
    quiet_goes (Ok (command.Publish asked claim)) stepped.reply d.network _ (refl, refl, refl, refl)
    (decided_stays version d decision.desk decision.refusal decision.reply (stays d.network))
line_opened version d v w command.Export stepped ranges is =
    quiet_goes (Ok command.Export) stepped.reply d.network _ (refl, refl, refl, refl) (told_stays version d (on_export d.published))
line_opened version d v w command.Balances stepped ranges is =
    quiet_goes (Ok command.Balances) stepped.reply d.network _ (refl, refl, refl, refl) (told_stays version d (on_balances d.books))
line_opened version d v w (command.Show group) stepped ranges is =
    quiet_goes (Ok (command.Show group)) stepped.reply d.network _ (refl, refl, refl, refl) (told_stays version d (on_show d group))

-- ---- before the desk is opened

-- a line that is refused tells nothing
refused_goes : (c : Command) (r : Refusal) (now stepped : Stepped) → now ≡ refused now.state r → Some now ≡ Some stepped
    → Goes (Ok c) stepped.reply (network_of now.state) (network_of now.state)
refused_goes c r now stepped refusing is =
    subst (λ (s : Stepped). Goes (Ok c) s.reply (network_of now.state) (network_of now.state)) (sym refusing ∙ same_Some now stepped is)
    (quiet_goes (Ok c) (reply.Refused r) (network_of now.state) (network_of now.state) (quiet_refused (Ok c) r) (stays (network_of now.state)))

line_unopened : (version : ℕ) (c : Command) (stepped : Stepped) → Some (step_unopened (record { version = version; desk = None }) c) ≡ Some stepped
    → Goes (Ok c) stepped.reply no_network (network_of (step_unopened (record { version = version; desk = None }) c).state)
line_unopened version (command.Open now slice horizon semester lanes rounds workers quota) stepped is =
    quiet_goes (Ok (command.Open now slice horizon semester lanes rounds workers quota)) stepped.reply no_network no_network (refl, refl, refl, refl)
    (stays no_network)
line_unopened version c stepped is =
    refused_goes c NotOpened (refused (record { version = version; desk = None }) NotOpened) stepped refl is

-- ---- entries

line_goes : (version : ℕ) (o : Option DeskSeen) (v w : Verdict) (c : Command) (stepped : Stepped) → IsCommand c
    → step_by v (record { version = version; desk = o }) o c ≡ Some stepped
    → Goes (Ok c) stepped.reply (network_in o)
    (network_of (left_by (record { version = version; desk = o }) (step_by w (record { version = version; desk = o }) o c)))
line_goes version None v w c stepped ranges is = line_unopened version c stepped is
line_goes version (Some d) v w c stepped ranges is = line_opened version d v w c stepped ranges is

line_entry : (s : StateSeen) (l : ScriptLine) (read : Result Command CommandFault) (answer : Reply) → command_of_line l ≡ read → IsLineReply s read answer
    → Goes read answer (network_of s) (network_of (after_line s read answer))
line_entry s l (Err fault) answer is r = quiet_goes (Err fault) answer (network_of s) (network_of s) (refl, refl, refl, refl) (stays (network_of s))
line_entry s l (Ok c) answer is r =
    subst (λ (a : Reply). Goes (Ok c) a (network_of s) (network_of (after_line s (Ok c) answer))) r.2
    (line_goes s.version s.desk r.1.0 (verdict_told answer) c r.0 (in_range l c is) r.1.2)

claim_stays : (s : StateSeen) (o : Option DeskSeen) (claim : Claim) → s.desk ≡ o → Stays (network_of s) (network_of (with_published s o claim))
claim_stays s None claim is = stays (network_of s)
claim_stays s (Some d) claim is = subst (Stays (network_of s)) (ap network_in is) (stays (network_of s))

published_entry : (s : StateSeen) (v : ℕ) (line : Result Command CommandFault) (answer : Reply) → IsPublication s v answer
    → Goes line answer (network_of s) (network_of (after_publish s answer))
published_entry s v line (reply.Published claim) p =
    quiet_goes line (reply.Published claim) (network_of s) (network_of (with_published s s.desk claim)) (quiet_published line claim)
    (claim_stays s s.desk claim refl)
published_entry s v line (reply.Refused r) p =
    quiet_goes line (reply.Refused r) (network_of s) (network_of s) (quiet_refused line r) (stays (network_of s))
published_entry s v line _ p = absurd p

-- an entry that is this much of its line
pub what_goes : (scripts : List (List ScriptLine)) (before : List EventEntry) (e : EventEntry) (what : What) → IsReply scripts before e what
    → Goes (read_at scripts e) e.reply (network_of (replay scripts before)) (network_of (after_what (replay scripts before) (read_at scripts e) what e.reply))
what_goes scripts before e Line r = line_entry (replay scripts before) (line_of scripts e) (read_at scripts e) e.reply refl r.1
what_goes scripts before e Take r =
    let n : NetworkSeen = network_of (replay scripts before) in
    quiet_goes (read_at scripts e) e.reply n n (subst (λ (l : Result Command CommandFault). IsQuiet l e.reply) (sym r.0.0) (refl, refl, refl, refl)) (stays n)
what_goes scripts before e Publish r = published_entry (replay scripts before) r.0 (read_at scripts e) e.reply r.2
