use Rattle.std.proofs.Common.{◌≡◌, Result, Ok, Err, IfOk, sym, subst}
use Rattle.plan_base.specs.declared.verdict.Verdict.TheVariants as judged
use Rattle.plan_io.specs.declared.document.Said.{Said}
use Rattle.plan_io.specs.declared.document.Said.TheVariants as said
use Rattle.plan_json.specs.Line.{line_of}
use Rattle.plan_doc.specs.Reason.{verdict_data}
use Rattle.explain.specs.declared.answer.ExplainAnswer.TheVariants.{No}
use Rattle.explain.specs.Left.{IsExplainAnswer}
use Rattle.explain.specs.Run.{IsAnswerTo, IsExplainText}
use Rattle.explain.proofs.run.answer_to.Goals as goal

ok_both : {X E : Type 0} (r : Result X E) (P Q R : X → Type 0) → ((x : X) → P x → Q x → R x) → IfOk r P → IfOk r Q → IfOk r R
ok_both (Ok x) P Q R h p q = h x p q
ok_both (Err e) P Q R h p q = p

pub returns-in-No : goal.returns-in-No
returns-in-No c =
    let answer : IsExplainAnswer c.args.publication.now.snapshot c.args.publication.now.claim (No c.in-No.reason)
    = subst (IsExplainAnswer c.args.publication.now.snapshot c.args.publication.now.claim) c.in-No.is c.in_ok-explanation.ensures.answer in
    let is_answer : IsAnswerTo c.args.bytes.now c.args.publication.now (No c.in-No.reason) = record { read = c.requires; is_answer = answer; sound = tt } in
    ok_both c.answer_line.result (λ a. a.text.items ≡ line_of (verdict_data (judged.No c.in-No.reason))) (λ a. a.said ≡ said.No)
    (λ a. IsExplainText c.args.bytes.now a.text.items a.said)
    (λ a text is. subst (λ (s : Said). IsExplainText c.args.bytes.now a.text.items s) (sym is)
    (c.args.publication.now, c.in-No.reason, is_answer, text)) c.answer_line.ensures.text c.answer_line.ensures.said
