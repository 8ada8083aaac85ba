use Rattle.std.proofs.Common.{◌≡◌, Result, Ok, Err, refl, ap, ◌∙◌}
use Rattle.std.specs.Prelude.{ok_or}
use Rattle.serde_json.specs.Data.{Data}
use Rattle.plan_json.specs.declared.member.Member.{Member}
use Rattle.plan_json.specs.declared.member.Member.TheVariants as key
use Rattle.plan_json.specs.declared.fault.JsonFault.{JsonFault}
use Rattle.plan_json.specs.declared.fault.JsonFault.TheVariants.{Missing}
use Rattle.plan_json.specs.Object.{value_of}
use Rattle.plan_json.specs.Operator.{operator_in}
use Rattle.plan_json.specs.Reading.{result_and_then}
use Rattle.plan_json.specs.Shown.{members_of}
use Rattle.group_trees.specs.Reading.{branch_of, branch_in}
use Rattle.group_trees.proofs.branch.read_branch.Goals as goal

both : (m : Member) (r : Result Data JsonFault) → result_and_then (branch_of m) (result_and_then (operator_in m) r) ≡ result_and_then (branch_in m) r
both m (Ok d) = refl
both m (Err e) = refl

pub returns : goal.returns
returns c = c.branch_after.ensures ∙ ap (result_and_then (branch_of key.Operator)) c.operator.ensures
    ∙ both key.Operator (ok_or (value_of (members_of c.args.doc.now) key.Operator) (Missing key.Operator))
