-- A step keeps the state.
use Rattle.std.proofs.Common.{◌≡◌, ℕ, ◌+◌, ◌*◌, ◌^◌, ◌<◌, ◌≤◌, refl, ap, sym, subst, Bool, true, false, not, length, Option, Some, None, Result, Ok, Err, arith}
use Rattle.std.specs.Prelude.{if◌then◌else◌, nat_lt, nat_le}
use Rattle.std.proofs.lemmas.Option.{same_Some}
use Rattle.plan_base.specs.declared.number.RequestNo.{RequestNo}
use Rattle.site_model.specs.declared.changes.Change.TheVariants.{Close, Reopen}
use Rattle.allocations.specs.Books.{total_seconds}
use Rattle.desk_runs.specs.declared.group.Request.{Request}
use Rattle.desk_runs.specs.Numbers.{is_placed}
use Rattle.desk_events.specs.declared.command.Command.{Command}
use Rattle.desk_events.specs.declared.command.Command.TheVariants as command
use Rattle.desk_events.specs.declared.refusal.Refusal.{Refusal}
use Rattle.desk_events.specs.declared.refusal.Refusal.TheVariants.{NotRunning, UsedTooLong}
use Rattle.desk_events.specs.declared.reply.Reply.{Reply}
use Rattle.desk_events.specs.declared.reply.Reply.TheVariants as reply
use Rattle.desk_events.specs.Ranges.{IsCommand}
use Rattle.desk_core.specs.declared.desk.Submitted.{Submitted}
use Rattle.desk_core.specs.declared.desk.Wanted.{Wanted}
use Rattle.desk_core.specs.Closing.{on_withdraw, on_amend}
use Rattle.desk_core.specs.Desk.{DeskSeen, Stepped, Decision, decided, told}
use Rattle.desk_core.specs.Kept.{IsDesk, IsState, most_added, standing_seconds}
use Rattle.desk_core.specs.Publishing.{IsJudged, on_publish}
use Rattle.desk_core.specs.Registering.{times, on_instrument, on_telescope, on_night, on_visibility, on_closure, on_grant}
use Rattle.desk_core.specs.Showing.{on_export, on_balances, on_show}
use Rattle.desk_core.specs.Step.{IsStep, opened}
use Rattle.desk_core.specs.Submitting.{on_submit}
use Rattle.desk_core.specs.Timing.{charged, on_refused, on_completed, on_failed, on_reported, on_report, request_with, on_clock}
use Rattle.desk_core.proofs.Along.{all_seconds}
use Rattle.desk_core.proofs.KeptAmending.{amend_keeps, amend_seconds, amend_groups}
use Rattle.desk_core.proofs.KeptGrant.{grant_keeps, grant_seconds}
use Rattle.desk_core.proofs.KeptNetwork.{instrument_keeps, telescope_keeps, night_keeps, visibility_keeps, closure_keeps}
use Rattle.desk_core.proofs.KeptReport.{report_keeps}
use Rattle.desk_core.proofs.KeptState.{Keeps, decided_keeps}
use Rattle.desk_core.proofs.KeptSubmitting.{submit_keeps, submit_seconds, submit_groups}
use Rattle.desk_core.proofs.KeptTiming.{clock_keeps, clock_seconds, withdraw_keeps, withdraw_seconds}
use Rattle.desk_core.proofs.Publications.{publish_keeps}
use Rattle.desk_core.proofs.WentOn.{as_submitted}

-- ---- what each change leaves

-- the books of a state have room for what is asked of them
bounded : (version : ℕ) (d : DeskSeen) → IsState (opened version d) → all_seconds d.books + 2 * most_added ≤ 10 ^ 18
bounded version d h =
    let few : total_seconds d.books + standing_seconds d.books.holds ≤ version * most_added = h.books in
    let least : version ≤ 524288 = h.version in
    omega (arith, few, least)

-- a change that leaves the books and the groups
leaves : (d e : DeskSeen) → IsDesk e → all_seconds e.books ≤ all_seconds d.books → length e.progress.groups ≤ length d.progress.groups → Keeps d e
leaves d e h seconds groups = record { desk = h; seconds = omega (arith, seconds); groups = omega (arith, groups) }

-- as many groups have come along where the same are submitted
same_count : (d e : DeskSeen) → IsDesk d → IsDesk e → e.groups ≡ d.groups → length e.progress.groups ≤ length d.progress.groups
same_count d e h k same =
    let now = as_submitted e k in
    let before = as_submitted d h in
    let equal : length e.groups ≡ length d.groups = ap length same in
    omega (arith, now, before, equal)

-- a report submits nothing
charged_same : (d : DeskSeen) (number : RequestNo) (used : ℕ) (w : Submitted) (v : Wanted) → (charged number used w v d).groups ≡ d.groups
charged_same d number used w v = refl

report_same : (d : DeskSeen) (number : RequestNo) (percent used : ℕ) → (on_report d number percent used).desk.groups ≡ d.groups
report_same d number percent used = found (request_with d number)
  where
    by : (p : Submitted × (Request × Wanted)) (a b c : Bool)
        → (let x : Decision = if not a then on_refused d number NotRunning
        else (if b then on_refused d number (UsedTooLong p.1.0.seconds used)
        else (if c then on_completed d number used p.0 p.1.1 else on_failed d number)) in x.desk.groups) ≡ d.groups
    by p false b c = refl
    by p true true c = refl
    by p true false true = charged_same d number used p.0 p.1.1
    by p true false false = refl

    found : (o : Option (Submitted × (Request × Wanted))) → (on_reported d number percent used o).desk.groups ≡ d.groups
    found None = refl
    found (Some p) = by p (is_placed d.progress.running number) (nat_lt p.1.0.seconds used) (nat_le p.1.1.threshold percent)

-- ---- a step

-- a decision that is the step
by_decision : (version : ℕ) (d : DeskSeen) (decision : Decision) (stepped : Stepped) → version < 524288 → IsState (opened version d)
    → Some (decided (opened version d) decision) ≡ Some stepped
    → (decision.refusal ≡ None → Keeps d decision.desk) → IsState stepped.state
by_decision version d decision stepped lt h is keeps =
    subst (λ (s : Stepped). IsState s.state) (same_Some (decided (opened version d) decision) stepped is)
    (decided_keeps version d decision.refusal decision.reply decision.desk lt h keeps)

-- a step that changes nothing
by_same : (version : ℕ) (d : DeskSeen) (now stepped : Stepped) → IsState (opened version d) → now.state ≡ opened version d
    → Some now ≡ Some stepped → IsState stepped.state
by_same version d now stepped h same is = subst (λ (s : Stepped). IsState s.state) (same_Some now stepped is) (subst IsState (sym same) h)

-- what is told changes nothing
by_told : (version : ℕ) (d : DeskSeen) (answer : Result Reply Refusal) (stepped : Stepped) → IsState (opened version d)
    → Some (told (opened version d) answer) ≡ Some stepped → IsState stepped.state
by_told version d (Ok reply) stepped h is = by_same version d _ stepped h refl is
by_told version d (Err refusal) stepped h is = by_same version d _ stepped h refl is

-- a step of an opened desk keeps the state
pub step_keeps : (version : ℕ) (d : DeskSeen) (c : Command) (stepped : Stepped) → version < 524288 → IsState (opened version d) → IsCommand c
    → IsStep (opened version d) c stepped → IsState stepped.state
step_keeps version d (command.Open now slice horizon semester lanes rounds workers quota) stepped lt h ranges s = by_same version d _ stepped h refl s.2
step_keeps version d (command.Instrument name front config readout change) stepped lt h ranges s =
    by_decision version d (on_instrument d name (times front config readout change)) stepped lt h s.2
    (λ none. leaves d _ (instrument_keeps d name (times front config readout change) h.desk) (omega arith) (omega arith))
step_keeps version d (command.Telescope site enclosure telescope class instruments) stepped lt h ranges s =
    by_decision version d (on_telescope d record { site = site; enclosure = enclosure; telescope = telescope } class instruments) stepped lt h s.2
    (λ none. leaves d _ (telescope_keeps d record { site = site; enclosure = enclosure; telescope = telescope } class instruments h.desk none)
    (omega arith) (omega arith))
step_keeps version d (command.Night site spans) stepped lt h ranges s =
    by_decision version d (on_night d site spans) stepped lt h s.2 (λ none. leaves d _ (night_keeps d site spans h.desk) (omega arith) (omega arith))
step_keeps version d (command.Visibility target site spans) stepped lt h ranges s =
    by_decision version d (on_visibility d target site spans) stepped lt h s.2
    (λ none. leaves d _ (visibility_keeps d target site spans h.desk) (omega arith) (omega arith))
step_keeps version d (command.Close scope spans) stepped lt h ranges s =
    by_decision version d (on_closure d Close scope spans reply.Closed) stepped lt h s.2
    (λ none. leaves d _ (closure_keeps d Close scope spans reply.Closed h.desk none) (omega arith) (omega arith))
step_keeps version d (command.Reopen scope spans) stepped lt h ranges s =
    by_decision version d (on_closure d Reopen scope spans reply.Reopened) stepped lt h s.2
    (λ none. leaves d _ (closure_keeps d Reopen scope spans reply.Reopened h.desk none) (omega arith) (omega arith))
step_keeps version d (command.Grant key seconds) stepped lt h ranges s =
    by_decision version d (on_grant d key seconds) stepped lt h s.2
    (λ none.
    let more = grant_seconds d key seconds in
    let most : seconds ≤ 1000000000 = ranges.amount.high in
    record { desk = grant_keeps d key seconds h.desk; seconds = omega (arith, more, most); groups = omega arith })
step_keeps version d (command.Submit document) stepped lt h ranges s =
    by_decision version d (on_submit d document) stepped lt h s.2
    (λ none. record { desk = submit_keeps d document h.desk ranges none; seconds = submit_seconds d document h.desk ranges; groups = submit_groups d document })
step_keeps version d (command.Amend old document) stepped lt h ranges s =
    by_decision version d (on_amend d old document) stepped lt h s.2
    (λ none.
    let room = bounded version d h in
    record {
      desk = amend_keeps d old document h.desk ranges none;
      seconds = amend_seconds d old document h.desk ranges (omega (arith, room)) none;
      groups = amend_groups d old document;
    })
step_keeps version d (command.Withdraw group) stepped lt h ranges s =
    by_decision version d (on_withdraw d group) stepped lt h s.2
    (λ none.
    let room = bounded version d h in
    let desk = withdraw_keeps d group h.desk none in
    leaves d _ desk (withdraw_seconds d group h.desk (omega (arith, room))) (same_count d (on_withdraw d group).desk h.desk desk refl))
step_keeps version d (command.Clock at) stepped lt h ranges s =
    by_decision version d (on_clock d at) stepped lt h s.2
    (λ none.
    let room = bounded version d h in
    let desk = clock_keeps d at h.desk ranges in
    leaves d _ desk (clock_seconds d at h.desk (omega (arith, room))) (same_count d (on_clock d at).desk h.desk desk refl))
step_keeps version d (command.Report request percent used) stepped lt h ranges s =
    by_decision version d (on_report d request percent used) stepped lt h s.2
    (λ none.
    let room = bounded version d h in
    let most : used ≤ 86400 = ranges.time in
    let kept = report_keeps d request percent used h.desk none in
    let seconds : all_seconds (on_report d request percent used).desk.books ≤ all_seconds d.books + used = kept.seconds (omega (arith, room, most)) in
    let groups = same_count d (on_report d request percent used).desk h.desk kept.desk (report_same d request percent used) in
    record { desk = kept.desk; seconds = omega (arith, seconds, most); groups = omega (arith, groups) })
step_keeps version d command.Plan stepped lt h ranges s = absurd (cc)
step_keeps version d (command.Publish asked claim) stepped lt h ranges s =
    let judged : IsJudged version d asked claim s.0 = λ same. s.1 same _ (d, refl, refl) in
    by_decision version d (on_publish s.0 version d asked claim) stepped lt h s.2
    (λ none.
    let desk = publish_keeps s.0 version d asked claim h.desk judged none in
    leaves d _ desk (omega arith) (omega arith))
step_keeps version d command.Export stepped lt h ranges s = by_told version d (on_export d.published) stepped h s.2
step_keeps version d command.Balances stepped lt h ranges s = by_told version d (on_balances d.books) stepped h s.2
step_keeps version d (command.Show group) stepped lt h ranges s = by_told version d (on_show d group) stepped h s.2
