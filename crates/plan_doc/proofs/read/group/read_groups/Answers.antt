use Rattle.std.proofs.lemmas.Result.{IfOk-weaker}
use Rattle.plan_json.specs.Shown.{members_of}
use Rattle.plan_doc.proofs.InRange.{groups_are_in_range}
use Rattle.plan_doc.proofs.read.group.read_groups.Goals as goal

pub returns-clause-ranges : goal.returns-clause-ranges
returns-clause-ranges c =
    IfOk-weaker c.read_list.result _ _ (λ groups read. groups_are_in_range c.args.least c.args.most (members_of c.args.doc.now) groups read)
    c.read_list.ensures.value
