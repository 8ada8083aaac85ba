use Rattle.rapid.proofs.Answering.{ready_answer, no_answer}
use Rattle.rapid.proofs.run.answer_to.Goals as goal

pub returns-in-Ready : goal.returns-in-Ready
returns-in-Ready c = ready_answer c.args.document c.into_parts-snapshot.result.0 c.into_parts-snapshot.result.1 c.in_ok-rapid.field-0
    c.in-Ready.rapid c.answer_from.result c.into_parts-snapshot.ensures.same_snapshot c.into_parts-snapshot.ensures.same_claim
    c.in_ok-rapid.ensures c.in-Ready.is c.answer_from.ensures

pub returns-in-No : goal.returns-in-No
returns-in-No c = no_answer c.args.document c.into_parts-snapshot.result.0 c.into_parts-snapshot.result.1 c.in_ok-rapid.field-0
    c.in-No.reason c.answer_line.result c.into_parts-snapshot.ensures.same_snapshot c.into_parts-snapshot.ensures.same_claim
    c.in_ok-rapid.ensures c.in-No.is c.answer_line.ensures.text c.answer_line.ensures.said
