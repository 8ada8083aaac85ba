use Rattle.std.proofs.lemmas.Result.{IfOk-weaker}
use Rattle.plan_json.specs.Shown.{members_of}
use Rattle.plan_doc.proofs.InRange.{snapshots_are_in_range}
use Rattle.plan_doc.proofs.read.snapshot.read_parts.Goals as goal

pub returns-clause-ranges : goal.returns-clause-ranges
returns-clause-ranges c =
    IfOk-weaker c.read_members.result _ _ (λ parts read. (snapshots_are_in_range (members_of c.args.doc.now) parts read).1) c.read_members.ensures.value
