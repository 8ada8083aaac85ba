use Rattle.session.proofs.LineTexts.{plan_added, nothing_added}
use Rattle.session.proofs.line.do_plan.Goals as goal

pub returns-in_err-add_entry : goal.returns-in_err-add_entry
returns-in_err-add_entry g c =
    nothing_added c.args.state.now c.args.state.now c.args.line c.args.read.now c.args.replies.now.items c.add_entry.new.replies.items
    c.in_err-add_entry.field-0.0 c.from_residual.result c.from_residual.ensures.1 c.in_err-add_entry.ensures.err

pub returns : goal.returns
returns g c =
    plan_added c.args.state.now c.publish.new.state c.args.line c.version.result c.args.read.now c.args.replies.now.items
    c.add_entry.new.replies.items c.publish.new.replies.items c.publish.result
    c.version.ensures.version c.requires.planning c.in_ok-add_entry.ensures.ok c.in_ok-add_entry.ensures.writable c.publish.ensures
