use Rattle.std.proofs.lemmas.Result.{IfOk-weaker}
use Rattle.plan_json.specs.Shown.{members_of}
use Rattle.request_model.proofs.InRange.{groups_are_in_range}
use Rattle.request_model.proofs.read.group.read_group.Goals as goal

pub returns-clause-ranges : goal.returns-clause-ranges
returns-clause-ranges c =
    IfOk-weaker c.read_members.result _ _ (λ group read. groups_are_in_range (members_of c.args.doc.now) group read) c.read_members.ensures.value
