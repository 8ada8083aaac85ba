use Rattle.std.proofs.lemmas.Bool.{false≢true}
use Rattle.serde_json.specs.View.{view}
use Rattle.plan_json.proofs.Values.{data_of_text, no_data}
use Rattle.plan_json.proofs.doc.read.Goals as goal

pub returns-in-Ok-clause-value : goal.returns-in-Ok-clause-value
returns-in-Ok-clause-value c = data_of_text c.args.bytes.now (view c.in-Ok.value) c.in-Ok.ensures.ok.0 c.in-Ok.ensures.ok.1

pub returns-in-Err-2-clause-fault : goal.returns-in-Err-2-clause-fault
returns-in-Err-2-clause-fault c =
    λ _. no_data c.args.bytes.now (c.in-Err.ensures.err (λ of_memory. absurd (false≢true (c.if-is_memory.ensures.1 of_memory))))
