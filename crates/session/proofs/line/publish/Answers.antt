use Rattle.session.proofs.LineTexts.{publish_added}
use Rattle.session.proofs.line.publish.Goals as goal

pub returns : goal.returns
returns g c =
    publish_added c.args.state.now c.seek.new.state c.args.line c.version-version.result c.in_ok-reply.reply c.args.replies.now.items
    c.add_entry.new.replies.items c.add_entry.result
    c.version-version.ensures.version c.in_ok-reply.ensures.reply c.in_ok-reply.ensures.left c.add_entry.ensures.ok c.add_entry.ensures.err
    c.add_entry.ensures.writable
