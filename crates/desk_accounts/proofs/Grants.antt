-- A change grants at most the seconds of one grant.
use Rattle.std.proofs.Common.{◌≡◌, subst, refl, ℕ, ◌+◌, ◌*◌, ◌≤◌, Bool, true, false, cond, arith, Option, Some, None, Result, Ok, Err}
use Rattle.std.specs.Option.{option_map_or}
use Rattle.std.proofs.lemmas.Option.{same_Some}
use Rattle.plan_base.specs.Limits.{most_grant}
use Rattle.plan_base.specs.declared.claim.Claim.{Claim}
use Rattle.plan_base.specs.declared.verdict.Verdict.{Verdict}
use Rattle.site_model.specs.declared.changes.Change.TheVariants.{Close, Reopen}
use Rattle.desk_events.specs.declared.command.Command.{Command}
use Rattle.desk_events.specs.declared.command.Command.TheVariants as command
use Rattle.desk_events.specs.declared.fault.CommandFault.{CommandFault}
use Rattle.desk_events.specs.declared.refusal.Refusal.{Refusal}
use Rattle.desk_events.specs.declared.refusal.Refusal.TheVariants.{AlreadyOpened}
use Rattle.desk_events.specs.declared.reply.Reply.{Reply}
use Rattle.desk_events.specs.declared.reply.Reply.TheVariants as reply
use Rattle.desk_events.specs.Ranges.{IsCommand}
use Rattle.desk_core.specs.Closing.{on_withdraw, on_amend}
use Rattle.desk_core.specs.Desk.{DeskSeen, StateSeen, Stepped, Decision, decided, told}
use Rattle.desk_core.specs.History.{with_published, after_publish, IsPublication}
use Rattle.desk_core.specs.Publishing.{on_publish}
use Rattle.desk_core.specs.Registering.{times, on_instrument, on_telescope, on_night, on_visibility, on_closure, on_grant}
use Rattle.desk_core.specs.Showing.{on_export, on_balances, on_show}
use Rattle.desk_core.specs.Step.{step_unopened, step_by}
use Rattle.desk_core.specs.Submitting.{on_submit}
use Rattle.desk_core.specs.Timing.{on_clock, on_report}
use Rattle.desk_accounts.specs.Balance.{Told, GrantTold, grant_in, is_granted, seconds_granted}

-- what an entry grants isn't more than what the changes that it makes may grant
abbrev pub Grows : Told → StateSeen → StateSeen → Type 0
Grows t before after = seconds_granted t + most_grant * before.version ≤ most_grant * after.version

-- the seconds that a line asks for
abbrev asked_in : Result Command CommandFault → ℕ
asked_in line = option_map_or (λ g. g.seconds) (grant_in line) 0

-- an entry grants what its line asks for, or nothing
at_most_asked : (line : Result Command CommandFault) (answer : Reply) → seconds_granted (record { line = line; reply = answer }) ≤ asked_in line
at_most_asked line answer = by (is_granted answer)
  where
    by : (b : Bool) → option_map_or (λ (g : GrantTold). g.seconds) (cond b (grant_in line) None) 0 ≤ asked_in line
    by true = omega arith
    by false = omega arith

-- ---- lines

-- a decision makes a change, or is refused
by_refusal : (s : StateSeen) (line : Result Command CommandFault) (refusal : Option Refusal) (answer : Reply) (e : DeskSeen) → asked_in line ≤ most_grant
    → (let now : Stepped = decided s (record { refusal = refusal; reply = answer; desk = e }) in Grows (record { line = line; reply = now.reply }) s now.state)
by_refusal s line None answer e few = let most = at_most_asked line answer in omega (arith, few, most)
by_refusal s line (Some r) answer e few = omega arith

decided_grows : (s : StateSeen) (c : Command) (decision : Decision) (stepped : Stepped) → asked_in (Ok c) ≤ most_grant
    → Some (decided s decision) ≡ Some stepped
    → Grows (record { line = Ok c; reply = stepped.reply }) s stepped.state
decided_grows s c decision stepped few is =
    subst (λ (x : Stepped). Grows (record { line = Ok c; reply = x.reply }) s x.state) (same_Some (decided s decision) stepped is)
    (by_refusal s (Ok c) decision.refusal decision.reply decision.desk few)

-- what is only told makes none
by_answer : (s : StateSeen) (line : Result Command CommandFault) (answer : Result Reply Refusal) → asked_in line ≡ 0
    → (let now : Stepped = told s answer in Grows (record { line = line; reply = now.reply }) s now.state)
by_answer s line (Ok r) none = let most = at_most_asked line r in omega (arith, none, most)
by_answer s line (Err r) none = omega arith

told_grows : (s : StateSeen) (c : Command) (answer : Result Reply Refusal) (stepped : Stepped) → asked_in (Ok c) ≡ 0 → Some (told s answer) ≡ Some stepped
    → Grows (record { line = Ok c; reply = stepped.reply }) s stepped.state
told_grows s c answer stepped none is =
    subst (λ (x : Stepped). Grows (record { line = Ok c; reply = x.reply }) s x.state) (same_Some (told s answer) stepped is) (by_answer s (Ok c) answer none)

unopened_grows : (s : StateSeen) (c : Command) → (let now : Stepped = step_unopened s c in Grows (record { line = Ok c; reply = now.reply }) s now.state)
unopened_grows s (command.Open now slice horizon semester lanes rounds workers quota) = omega arith
unopened_grows s c = omega arith

-- so it is of each step
pub step_grows : (v : Verdict) (s : StateSeen) (o : Option DeskSeen) (c : Command) (stepped : Stepped) → IsCommand c → step_by v s o c ≡ Some stepped
    → Grows (record { line = Ok c; reply = stepped.reply }) s stepped.state
step_grows v s None c stepped ranges is =
    subst (λ (x : Stepped). Grows (record { line = Ok c; reply = x.reply }) s x.state) (same_Some (step_unopened s c) stepped is) (unopened_grows s c)
step_grows v s (Some d) (command.Open now slice horizon semester lanes rounds workers quota) stepped ranges is =
    told_grows s (command.Open now slice horizon semester lanes rounds workers quota) (Err AlreadyOpened) stepped refl is
step_grows v s (Some d) (command.Instrument name front config readout change) stepped ranges is =
    decided_grows s (command.Instrument name front config readout change) (on_instrument d name (times front config readout change)) stepped (omega arith) is
step_grows v s (Some d) (command.Telescope site enclosure telescope class instruments) stepped ranges is =
    decided_grows s (command.Telescope site enclosure telescope class instruments)
    (on_telescope d record { site = site; enclosure = enclosure; telescope = telescope } class instruments) stepped (omega arith) is
step_grows v s (Some d) (command.Night site spans) stepped ranges is =
    decided_grows s (command.Night site spans) (on_night d site spans) stepped (omega arith) is
step_grows v s (Some d) (command.Visibility target site spans) stepped ranges is =
    decided_grows s (command.Visibility target site spans) (on_visibility d target site spans) stepped (omega arith) is
step_grows v s (Some d) (command.Close scope spans) stepped ranges is =
    decided_grows s (command.Close scope spans) (on_closure d Close scope spans reply.Closed) stepped (omega arith) is
step_grows v s (Some d) (command.Reopen scope spans) stepped ranges is =
    decided_grows s (command.Reopen scope spans) (on_closure d Reopen scope spans reply.Reopened) stepped (omega arith) is
step_grows v s (Some d) (command.Grant key seconds) stepped ranges is =
    decided_grows s (command.Grant key seconds) (on_grant d key seconds) stepped ranges.amount.high is
step_grows v s (Some d) (command.Submit document) stepped ranges is = decided_grows s (command.Submit document) (on_submit d document) stepped (omega arith) is
step_grows v s (Some d) (command.Amend old document) stepped ranges is =
    decided_grows s (command.Amend old document) (on_amend d old document) stepped (omega arith) is
step_grows v s (Some d) (command.Withdraw group) stepped ranges is = decided_grows s (command.Withdraw group) (on_withdraw d group) stepped (omega arith) is
step_grows v s (Some d) (command.Clock at) stepped ranges is = decided_grows s (command.Clock at) (on_clock d at) stepped (omega arith) is
step_grows v s (Some d) (command.Report request percent used) stepped ranges is =
    decided_grows s (command.Report request percent used) (on_report d request percent used) stepped (omega arith) is
step_grows v s (Some d) command.Plan stepped ranges is = absurd (cc)
step_grows v s (Some d) (command.Publish asked claim) stepped ranges is =
    decided_grows s (command.Publish asked claim) (on_publish v s.version d asked claim) stepped (omega arith) is
step_grows v s (Some d) command.Export stepped ranges is = told_grows s command.Export (on_export d.published) stepped refl is
step_grows v s (Some d) command.Balances stepped ranges is = told_grows s command.Balances (on_balances d.books) stepped refl is
step_grows v s (Some d) (command.Show group) stepped ranges is = told_grows s (command.Show group) (on_show d group) stepped refl is

-- ---- publications

claim_grows : (s : StateSeen) (o : Option DeskSeen) (line : Result Command CommandFault) (claim : Claim)
    → Grows (record { line = line; reply = reply.Published claim }) s (with_published s o claim)
claim_grows s None line claim = omega arith
claim_grows s (Some d) line claim = omega arith

-- so it is of each publication of a plan
pub published_grows : (s : StateSeen) (v : ℕ) (line : Result Command CommandFault) (answer : Reply) → IsPublication s v answer
    → Grows (record { line = line; reply = answer }) s (after_publish s answer)
published_grows s v line (reply.Published claim) p = claim_grows s s.desk line claim
published_grows s v line (reply.Refused r) p = omega arith
published_grows s v line _ p = absurd p
