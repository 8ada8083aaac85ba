use Rattle.std.proofs.Common.{refl, subst, sym}
use Rattle.desk_events.specs.declared.command.Command.{Command}
use Rattle.desk_events.specs.declared.refusal.Refusal.TheVariants.{NotOpened}
use Rattle.desk_events.specs.declared.reply.Reply.TheVariants.{Opened}
use Rattle.desk_core.specs.Step.{IsStep}
use Rattle.desk_core.proofs.Unopened.{opens, not_opened}
use Rattle.desk_core.proofs.state.State.answer_unopened.Goals as goal

pub returns-in_default : goal.returns-in_default
returns-in_default c = record {
  ok = tt;
  refused = λ _. (NotOpened, not_opened c.args.self.now c.args.command.now c.requires.closed c.in_default.not-Open, refl);
  unchanged = refl;
}

pub returns : goal.returns
returns c =
    let x = c.in-Open in
    record {
      ok = subst (λ (k : Command). IsStep c.args.self.now k record { reply = Opened; state = c.open.new.self }) (sym x.is)
          (opens c.args.self.now c.open.new.self x.now x.slice x.horizon x.semester x.lanes x.rounds x.workers x.quota c.requires.closed
          c.in_ok-open.ensures.opened);
      refused = tt;
      unchanged = tt;
    }
