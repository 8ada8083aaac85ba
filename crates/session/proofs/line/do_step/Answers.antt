use Rattle.session.proofs.LineTexts.{step_added}
use Rattle.session.proofs.line.do_step.Goals as goal

pub returns : goal.returns
returns c =
    step_added c.args.state.now c.apply_read.new.state c.args.line c.version-version.result c.in_ok-reply.reply c.args.read c.args.replies.now.items
    c.add_entry.new.replies.items c.add_entry.result
    c.version-version.ensures.version c.version-version.ensures.state c.in_ok-reply.ensures.done c.add_entry.ensures.ok c.add_entry.ensures.err
    c.add_entry.ensures.writable
