use Rattle.std.proofs.Common.{◌≡◌, ℕ, refl, subst, sym, Result}
use Rattle.desk_events.specs.declared.command.Command.{Command}
use Rattle.desk_events.specs.declared.command.Command.TheVariants as command
use Rattle.desk_events.specs.declared.fault.CommandFault.{CommandFault}
use Rattle.desk_events.specs.declared.refusal.Refusal.TheVariants.{AlreadyOpened}
use Rattle.desk_events.specs.declared.reply.Reply.{Reply}
use Rattle.desk_core.specs.Closing.{on_withdraw, on_amend}
use Rattle.desk_core.specs.Desk.{DeskSeen, seen}
use Rattle.desk_core.specs.Step.{Does}
use Rattle.desk_core.specs.Submitting.{on_submit}
use Rattle.desk_core.specs.Timing.{on_clock, on_report}
use Rattle.desk_core.proofs.Steps.{any, decides_does, publishes_does}
use Rattle.desk_core.proofs.desk.Desk.proceed.Goals as goal

-- the line that the command is
of_line : (version : ℕ) (d e : DeskSeen) (c k : Command) (result : Result Reply CommandFault) → c ≡ k → Does version d k e result → Does version d c e result
of_line version d e c k result is h = subst (λ (x : Command). Does version d x e result) (sym is) h

-- it is opened already
pub returns-in-Open : goal.returns-in-Open
returns-in-Open c =
    let d = seen c.args.self.now in
    let x = c.in-Open in
    of_line c.args.version d d c.args.command.now (command.Open x.now x.slice x.horizon x.semester x.lanes x.rounds x.workers x.quota) _ x.is
    record { ok = tt; refused = λ _. (AlreadyOpened, (any, tt, refl), refl); unchanged = refl }

pub returns-in-Submit : goal.returns-in-Submit
returns-in-Submit c =
    let d = seen c.args.self.now in
    let e = seen c.submit.new.self in
    let x = c.in-Submit in
    of_line c.args.version d e c.args.command.now (command.Submit x.group) c.submit.result x.is
    (decides_does c.args.version d (command.Submit x.group) (on_submit d x.group) e c.submit.result refl tt refl c.submit.ensures)

pub returns-in-Amend : goal.returns-in-Amend
returns-in-Amend c =
    let d = seen c.args.self.now in
    let e = seen c.amend.new.self in
    let x = c.in-Amend in
    of_line c.args.version d e c.args.command.now (command.Amend x.group_number x.group) c.amend.result x.is
    (decides_does c.args.version d (command.Amend x.group_number x.group) (on_amend d x.group_number x.group) e c.amend.result refl tt refl c.amend.ensures)

pub returns-in-Withdraw : goal.returns-in-Withdraw
returns-in-Withdraw c =
    let d = seen c.args.self.now in
    let e = seen c.withdraw.new.self in
    let x = c.in-Withdraw in
    of_line c.args.version d e c.args.command.now (command.Withdraw x.group_number) c.withdraw.result x.is
    (decides_does c.args.version d (command.Withdraw x.group_number) (on_withdraw d x.group_number) e c.withdraw.result refl tt refl c.withdraw.ensures)

pub returns-in-Clock : goal.returns-in-Clock
returns-in-Clock c =
    let d = seen c.args.self.now in
    let e = seen c.clock.new.self in
    let x = c.in-Clock in
    of_line c.args.version d e c.args.command.now (command.Clock x.at) c.clock.result x.is
    (decides_does c.args.version d (command.Clock x.at) (on_clock d x.at) e c.clock.result refl tt refl c.clock.ensures)

pub returns-in-Report : goal.returns-in-Report
returns-in-Report c =
    let d = seen c.args.self.now in
    let e = seen c.report.new.self in
    let x = c.in-Report in
    of_line c.args.version d e c.args.command.now (command.Report x.request x.percent x.used) c.report.result x.is
    (decides_does c.args.version d (command.Report x.request x.percent x.used)
    (on_report d x.request x.percent x.used) e c.report.result refl tt refl c.report.ensures)

pub returns-in-Publish : goal.returns-in-Publish
returns-in-Publish c =
    let d = seen c.args.self.now in
    let e = seen c.publish.new.self in
    let x = c.in-Publish in
    of_line c.args.version d e c.args.command.now (command.Publish x.asked x.claim) c.publish.result x.is
    (publishes_does c.args.version d x.asked x.claim e c.publish.result c.publish.ensures)
