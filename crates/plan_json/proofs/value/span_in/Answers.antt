use Rattle.std.proofs.Common.{arith}
use Rattle.std.proofs.lemmas.Grind.{common_steps}
use Rattle.plan_json.proofs.value.span_in.Goals as goal

pub returns-in_default : goal.returns-in_default
returns-in_default c = grind (arith, common_steps)

pub returns-in_default-2 : goal.returns-in_default-2
returns-in_default-2 c = grind (arith, common_steps)

pub returns-in_err-from : goal.returns-in_err-from
returns-in_err-from c = grind (arith, common_steps)

pub returns-in_err-to : goal.returns-in_err-to
returns-in_err-to c = grind (arith, common_steps)

pub returns-then-lt : goal.returns-then-lt
returns-then-lt c = grind (arith, common_steps)

pub returns-else-lt : goal.returns-else-lt
returns-else-lt c = grind (arith, common_steps)
