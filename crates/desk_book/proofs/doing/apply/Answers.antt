use Rattle.desk_book.proofs.Stepping.{step_done}
use Rattle.desk_book.proofs.doing.apply.Goals as goal

pub returns-clause-done : goal.returns-clause-done
returns-clause-done c =
    step_done c.args.state.now c.apply.new.self c.args.command.now c.in_ok-reply.reply c.requires.step c.in_ok-reply.ensures.step c.recall_published.ensures
