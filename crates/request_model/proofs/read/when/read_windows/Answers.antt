use Rattle.std.proofs.Common.{arith}
use Rattle.std.proofs.lemmas.Grind.{common_steps}
use Rattle.request_model.proofs.read.when.read_windows.Goals as goal

pub returns-in_err-read_window-clause-fault : goal.returns-in_err-read_window-clause-fault
returns-in_err-read_window-clause-fault c = grind (arith, common_steps)

pub loop-window-preserved : goal.loop-window-preserved
loop-window-preserved c = grind (arith, common_steps)

pub returns-clause-value : goal.returns-clause-value
returns-clause-value c = grind (arith, common_steps)
