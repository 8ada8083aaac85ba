use Rattle.std.proofs.Common.{arith}
use Rattle.std.proofs.lemmas.Grind.{common_steps}
use Rattle.plan_json.proofs.Fronts.{Adds-part}
use Rattle.plan_json.proofs.write.quoted.put_bytes_escaped.Goals as goal

pub returns-in_err-put_byte_escaped : goal.returns-in_err-put_byte_escaped
returns-in_err-put_byte_escaped c = Adds-part _ _ _ _ _ c.from_residual.ensures.0 c.loop-byte.invariant.0 c.in_err-put_byte_escaped.ensures.err

pub loop-byte-preserved : goal.loop-byte-preserved
loop-byte-preserved c = grind (arith, common_steps)

pub returns : goal.returns
returns c = grind (arith, common_steps)
