use Rattle.rapid.proofs.Answering.{whole_lines}
use Rattle.rapid.proofs.run.answer_from.Goals as goal

pub returns-in-Ok : goal.returns-in-Ok
returns-in-Ok c = whole_lines c.args.rapid.now c.args.groups c.insert_each.new.rapid c.new-text.result.items c.insert_each.new.text.items
    c.new-text.ensures.items c.in-Ok.ensures.ok
