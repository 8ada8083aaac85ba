use Rattle.std.proofs.Common.{◌≡◌, ℕ, List, refl, subst, sym, Result}
use Rattle.plan_base.specs.declared.span.Span.{Span}
use Rattle.site_model.specs.declared.changes.Change.TheVariants as change
use Rattle.site_model.specs.declared.code.Code.{Code}
use Rattle.site_model.specs.declared.code.InstrumentTimes.{InstrumentTimes}
use Rattle.desk_events.specs.declared.command.Command.{Command}
use Rattle.desk_events.specs.declared.command.Command.TheVariants as command
use Rattle.desk_events.specs.declared.fault.CommandFault.{CommandFault}
use Rattle.desk_events.specs.declared.reply.Reply.{Reply}
use Rattle.desk_events.specs.declared.reply.Reply.TheVariants as reply
use Rattle.desk_core.specs.Desk.{DeskSeen, Decision, Decides, seen}
use Rattle.desk_core.specs.Registering.{times, on_instrument, on_telescope, on_night, on_visibility, on_closure, on_grant}
use Rattle.desk_core.specs.Step.{Does}
use Rattle.desk_core.proofs.Steps.{decides_does}
use Rattle.desk_core.proofs.desk.Desk.register.Goals as goal

-- the line that the command is
of_line : (version : ℕ) (d e : DeskSeen) (c k : Command) (result : Result Reply CommandFault) → c ≡ k → Does version d k e result → Does version d c e result
of_line version d e c k result is h = subst (λ (x : Command). Does version d x e result) (sym is) h

-- what was decided on spans that were lent
of_spans : (d e : DeskSeen) (on : List Span → Decision) (spans lent : List Span) (result : Result Reply CommandFault) → lent ≡ spans
    → Decides (on lent) d e result → Decides (on spans) d e result
of_spans d e on spans lent result is h = subst (λ (l : List Span). Decides (on l) d e result) is h

pub returns-in-Instrument : goal.returns-in-Instrument
returns-in-Instrument c = λ version.
    let d = seen c.args.self.now in
    let e = seen c.add_instrument.new.self in
    let i = c.in-Instrument in
    of_line version d e c.args.command.now (command.Instrument i.name i.front_ms i.config_ms i.readout_ms i.change_ms) c.add_instrument.result i.is
    (decides_does version d (command.Instrument i.name i.front_ms i.config_ms i.readout_ms i.change_ms)
    (on_instrument d i.name (times i.front_ms i.config_ms i.readout_ms i.change_ms)) e
    c.add_instrument.result refl tt refl
    (subst (λ (t : InstrumentTimes). Decides (on_instrument d i.name t) d e c.add_instrument.result) c.times_of-times.ensures c.add_instrument.ensures))

pub returns-in_ok-code-in-Telescope : goal.returns-in_ok-code-in-Telescope
returns-in_ok-code-in-Telescope c = λ version.
    let d = seen c.args.self.now in
    let e = seen c.add_telescope.new.self in
    let t = c.in-Telescope in
    let code : Code = record { site = t.site; enclosure = t.enclosure; telescope = t.telescope } in
    of_line version d e c.args.command.now (command.Telescope t.site t.enclosure t.telescope t.class t.instruments) c.add_telescope.result t.is
    (decides_does version d (command.Telescope t.site t.enclosure t.telescope t.class t.instruments)
    (on_telescope d code t.class t.instruments) e c.add_telescope.result refl tt refl
    (subst (λ (x : Code). Decides (on_telescope d x t.class t.instruments) d e c.add_telescope.result) c.in_ok-code-in-Telescope.ensures
    (subst (λ (l : List (List ℕ)). Decides (on_telescope d c.in_ok-code-in-Telescope.code t.class l) d e c.add_telescope.result) c.as_slice.ensures
    c.add_telescope.ensures)))

pub returns-in-Night : goal.returns-in-Night
returns-in-Night c = λ version.
    let d = seen c.args.self.now in
    let e = seen c.set_night.new.self in
    let n = c.in-Night in
    of_line version d e c.args.command.now (command.Night n.site n.spans) c.set_night.result n.is
    (decides_does version d (command.Night n.site n.spans) (on_night d n.site n.spans) e c.set_night.result refl tt refl
    (of_spans d e (on_night d n.site) n.spans c.as_slice-in-Night.result.now c.set_night.result c.as_slice-in-Night.ensures c.set_night.ensures))

pub returns-in-Visibility : goal.returns-in-Visibility
returns-in-Visibility c = λ version.
    let d = seen c.args.self.now in
    let e = seen c.set_visibility.new.self in
    let v = c.in-Visibility in
    of_line version d e c.args.command.now (command.Visibility v.target v.site v.spans) c.set_visibility.result v.is
    (decides_does version d (command.Visibility v.target v.site v.spans) (on_visibility d v.target v.site v.spans) e c.set_visibility.result refl tt refl
    (of_spans d e (on_visibility d v.target v.site) v.spans c.as_slice-in-Visibility.result.now c.set_visibility.result
    c.as_slice-in-Visibility.ensures c.set_visibility.ensures))

pub returns-in-Close : goal.returns-in-Close
returns-in-Close c = λ version.
    let d = seen c.args.self.now in
    let e = seen c.close.new.self in
    let s = c.in-Close in
    of_line version d e c.args.command.now (command.Close s.scope s.spans) c.close.result s.is
    (decides_does version d (command.Close s.scope s.spans) (on_closure d change.Close s.scope s.spans reply.Closed) e c.close.result refl tt refl
    (of_spans d e (λ l. on_closure d change.Close s.scope l reply.Closed) s.spans c.as_slice-in-Close.result.now c.close.result
    c.as_slice-in-Close.ensures c.close.ensures))

pub returns-in-Reopen : goal.returns-in-Reopen
returns-in-Reopen c = λ version.
    let d = seen c.args.self.now in
    let e = seen c.reopen.new.self in
    let s = c.in-Reopen in
    of_line version d e c.args.command.now (command.Reopen s.scope s.spans) c.reopen.result s.is
    (decides_does version d (command.Reopen s.scope s.spans) (on_closure d change.Reopen s.scope s.spans reply.Reopened) e c.reopen.result refl tt refl
    (of_spans d e (λ l. on_closure d change.Reopen s.scope l reply.Reopened) s.spans c.as_slice-in-Reopen.result.now c.reopen.result
    c.as_slice-in-Reopen.ensures c.reopen.ensures))

pub returns-in-Grant : goal.returns-in-Grant
returns-in-Grant c = λ version.
    let d = seen c.args.self.now in
    let e = seen c.grant.new.self in
    let g = c.in-Grant in
    of_line version d e c.args.command.now (command.Grant g.key g.seconds) c.grant.result g.is
    (decides_does version d (command.Grant g.key g.seconds) (on_grant d g.key g.seconds) e c.grant.result refl tt refl c.grant.ensures)
