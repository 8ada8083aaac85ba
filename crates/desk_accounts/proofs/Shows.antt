-- The balances that a step replies.
use Rattle.std.proofs.Common.{◌≡◌, subst, refl, ℕ, ◌+◌, nat_lt, nat_le, Bool, true, false, List, map, Option, Some, None, Result, Ok, Err}
use Rattle.std.proofs.lemmas.Option.{same_Some}
use Rattle.plan_base.specs.declared.number.RequestNo.{RequestNo}
use Rattle.plan_base.specs.declared.verdict.Verdict.{Verdict}
use Rattle.request_model.specs.declared.group.GroupDoc.{GroupDoc}
use Rattle.site_model.specs.declared.changes.Change.TheVariants.{Close, Reopen}
use Rattle.allocations.specs.declared.key.Key.{Key}
use Rattle.allocations.specs.Books.{balance_of, accounts_of}
use Rattle.desk_runs.specs.declared.group.Group.{Group}
use Rattle.desk_runs.specs.declared.group.Request.{Request}
use Rattle.desk_runs.specs.Numbers.{is_placed}
use Rattle.desk_events.specs.declared.command.Command.{Command}
use Rattle.desk_events.specs.declared.command.Command.TheVariants as command
use Rattle.desk_events.specs.declared.refusal.Refusal.{Refusal}
use Rattle.desk_events.specs.declared.refusal.Refusal.TheVariants.{AlreadyOpened}
use Rattle.desk_events.specs.declared.reply.Reply.{Reply}
use Rattle.desk_events.specs.declared.reply.Reply.TheVariants as reply
use Rattle.desk_core.specs.Publication.{PublicationSeen}
use Rattle.desk_core.specs.declared.desk.Submitted.{Submitted}
use Rattle.desk_core.specs.declared.desk.Wanted.{Wanted}
use Rattle.desk_core.specs.Asking.{MadeSeen, made_of}
use Rattle.desk_core.specs.Desk.{DeskSeen, StateSeen, Stepped, Decision, decided, told}
use Rattle.desk_core.specs.Closing.{on_withdraw, on_amend}
use Rattle.desk_core.specs.Publishing.{on_publish}
use Rattle.desk_core.specs.Registering.{times, on_instrument, on_telescope, on_night, on_visibility, on_closure, on_grant}
use Rattle.desk_core.specs.Showing.{account_balance, on_export, on_balances, shown_group, on_show}
use Rattle.desk_core.specs.Step.{step_unopened, step_by}
use Rattle.desk_core.specs.Submitting.{on_made, on_submit}
use Rattle.desk_core.specs.Timing.{request_with, on_clock, on_reported, on_report}
use Rattle.desk_accounts.proofs.Reporting.{by_tests}

-- ---- what a reply shows

-- a reply to `balances` lists the accounts of the desk, and one to `grant` has the balance that it leaves
abbrev pub Shows : Option DeskSeen → Command → StateSeen → Reply → Type 0
Shows o c after (reply.Balances shown) = (d : DeskSeen) × (o ≡ Some d) × (shown ≡ map (account_balance d.books) (accounts_of d.books.entries))
Shows o c after (reply.Granted balance) =
    (d : DeskSeen) × (key : Key) × (seconds : ℕ) × (o ≡ Some d) × (c ≡ command.Grant key seconds) × (after.desk ≡ Some (on_grant d key seconds).desk)
    × (balance ≡ balance_of (on_grant d key seconds).desk.books.entries key)
Shows o c after _ = Unit {0}

by_refusal : (o : Option DeskSeen) (c : Command) (s : StateSeen) (refusal : Option Refusal) (answer : Reply) (e : DeskSeen)
    → Shows o c (record { version = s.version + 1; desk = Some e }) answer
    → (let now : Stepped = decided s (record { refusal = refusal; reply = answer; desk = e }) in Shows o c now.state now.reply)
by_refusal o c s None answer e shows = shows
by_refusal o c s (Some r) answer e shows = tt

decided_shows : (o : Option DeskSeen) (c : Command) (s : StateSeen) (decision : Decision) (stepped : Stepped) → Some (decided s decision) ≡ Some stepped
    → Shows o c (record { version = s.version + 1; desk = Some decision.desk }) decision.reply → Shows o c stepped.state stepped.reply
decided_shows o c s decision stepped is shows =
    subst (λ (x : Stepped). Shows o c x.state x.reply) (same_Some (decided s decision) stepped is)
    (by_refusal o c s decision.refusal decision.reply decision.desk shows)

told_shows : (o : Option DeskSeen) (c : Command) (s : StateSeen) (answer : Result Reply Refusal) (stepped : Stepped) → Some (told s answer) ≡ Some stepped
    → (let now : Stepped = told s answer in Shows o c now.state now.reply) → Shows o c stepped.state stepped.reply
told_shows o c s answer stepped is shows = subst (λ (x : Stepped). Shows o c x.state x.reply) (same_Some (told s answer) stepped is) shows

submit_shows : (o : Option DeskSeen) (c : Command) (after : StateSeen) (d : DeskSeen) (document : GroupDoc) (r : Result (List MadeSeen) Refusal)
    → Shows o c after (on_made d document r).reply
submit_shows o c after d document (Ok made) = tt
submit_shows o c after d document (Err refusal) = tt

tests_show : (o : Option DeskSeen) (c : Command) (after : StateSeen) (d : DeskSeen) (number : RequestNo) (used : ℕ)
    (p : Submitted × (Request × Wanted)) (x y z : Bool)
    → Shows o c after (by_tests d number used p x y z).reply
tests_show o c after d number used p false y z = tt
tests_show o c after d number used p true true z = tt
tests_show o c after d number used p true false true = tt
tests_show o c after d number used p true false false = tt

report_shows : (o : Option DeskSeen) (c : Command) (after : StateSeen) (d : DeskSeen) (number : RequestNo) (percent used : ℕ)
    (p : Option (Submitted × (Request × Wanted)))
    → Shows o c after (on_reported d number percent used p).reply
report_shows o c after d number percent used None = tt
report_shows o c after d number percent used (Some p) =
    tests_show o c after d number used p (is_placed d.progress.running number) (nat_lt p.1.0.seconds used) (nat_le p.1.1.threshold percent)

export_shows : (o : Option DeskSeen) (c : Command) (s : StateSeen) (p : Option PublicationSeen)
    → (let now : Stepped = told s (on_export p) in Shows o c now.state now.reply)
export_shows o c s None = tt
export_shows o c s (Some p) = tt

group_shows : (o : Option DeskSeen) (c : Command) (s : StateSeen) (p : Option (Submitted × Group))
    → (let now : Stepped = told s (shown_group p) in Shows o c now.state now.reply)
group_shows o c s None = tt
group_shows o c s (Some p) = tt

unopened_shows : (s : StateSeen) (c : Command) → (let now : Stepped = step_unopened s c in Shows None c now.state now.reply)
unopened_shows s (command.Open now slice horizon semester lanes rounds workers quota) = tt
unopened_shows s c = tt

-- so does the reply of each step
pub step_shows : (v : Verdict) (s : StateSeen) (o : Option DeskSeen) (c : Command) (stepped : Stepped) → step_by v s o c ≡ Some stepped
    → Shows o c stepped.state stepped.reply
step_shows v s None c stepped is = subst (λ (x : Stepped). Shows None c x.state x.reply) (same_Some (step_unopened s c) stepped is) (unopened_shows s c)
step_shows v s (Some d) (command.Open now slice horizon semester lanes rounds workers quota) stepped is =
    told_shows (Some d) (command.Open now slice horizon semester lanes rounds workers quota) s (Err AlreadyOpened) stepped is tt
step_shows v s (Some d) (command.Instrument name front config readout change) stepped is =
    decided_shows (Some d) (command.Instrument name front config readout change) s (on_instrument d name (times front config readout change)) stepped is tt
step_shows v s (Some d) (command.Telescope site enclosure telescope class instruments) stepped is =
    decided_shows (Some d) (command.Telescope site enclosure telescope class instruments) s
    (on_telescope d record { site = site; enclosure = enclosure; telescope = telescope } class instruments) stepped is tt
step_shows v s (Some d) (command.Night site spans) stepped is = decided_shows (Some d) (command.Night site spans) s (on_night d site spans) stepped is tt
step_shows v s (Some d) (command.Visibility target site spans) stepped is =
    decided_shows (Some d) (command.Visibility target site spans) s (on_visibility d target site spans) stepped is tt
step_shows v s (Some d) (command.Close scope spans) stepped is =
    decided_shows (Some d) (command.Close scope spans) s (on_closure d Close scope spans reply.Closed) stepped is tt
step_shows v s (Some d) (command.Reopen scope spans) stepped is =
    decided_shows (Some d) (command.Reopen scope spans) s (on_closure d Reopen scope spans reply.Reopened) stepped is tt
step_shows v s (Some d) (command.Grant key seconds) stepped is =
    decided_shows (Some d) (command.Grant key seconds) s (on_grant d key seconds) stepped is (d, key, seconds, refl, refl, refl, refl)
step_shows v s (Some d) (command.Submit document) stepped is =
    decided_shows (Some d) (command.Submit document) s (on_submit d document) stepped is
    (submit_shows (Some d) (command.Submit document) (record { version = s.version + 1; desk = Some (on_submit d document).desk }) d document
    (made_of d document))
step_shows v s (Some d) (command.Amend old document) stepped is = decided_shows (Some d) (command.Amend old document) s (on_amend d old document) stepped is tt
step_shows v s (Some d) (command.Withdraw group) stepped is = decided_shows (Some d) (command.Withdraw group) s (on_withdraw d group) stepped is tt
step_shows v s (Some d) (command.Clock at) stepped is = decided_shows (Some d) (command.Clock at) s (on_clock d at) stepped is tt
step_shows v s (Some d) (command.Report request percent used) stepped is =
    decided_shows (Some d) (command.Report request percent used) s (on_report d request percent used) stepped is
    (report_shows (Some d) (command.Report request percent used)
    (record { version = s.version + 1; desk = Some (on_report d request percent used).desk }) d request percent used
    (request_with d request))
step_shows v s (Some d) command.Plan stepped is = absurd (cc)
step_shows v s (Some d) (command.Publish asked claim) stepped is =
    decided_shows (Some d) (command.Publish asked claim) s (on_publish v s.version d asked claim) stepped is tt
step_shows v s (Some d) command.Export stepped is =
    told_shows (Some d) command.Export s (on_export d.published) stepped is (export_shows (Some d) command.Export s d.published)
step_shows v s (Some d) command.Balances stepped is = told_shows (Some d) command.Balances s (on_balances d.books) stepped is (d, refl, refl)
step_shows v s (Some d) (command.Show group) stepped is =
    told_shows (Some d) (command.Show group) s (on_show d group) stepped is (group_shows (Some d) (command.Show group) s _)
