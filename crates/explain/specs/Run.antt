-- What is answered to a document whose claim is to be explained.
use Rattle.std.specs.Prelude.{◌≡◌, ℕ, List, ◌++◌, Ok}
use Rattle.plan_base.specs.declared.verdict.Reason.{Reason}
use Rattle.plan_base.specs.declared.verdict.Verdict.TheVariants as judged
use Rattle.plan_io.specs.declared.document.Said.{Said}
use Rattle.plan_io.specs.declared.document.Said.TheVariants as said
use Rattle.plan_doc.specs.declared.fault.DocFault.{DocFault}
use Rattle.plan_doc.specs.declared.publication.Publication.{Publication}
use Rattle.plan_doc.specs.Publication.{publication_of_bytes}
use Rattle.plan_doc.specs.Check.{IsRefused}
use Rattle.plan_doc.specs.Reason.{verdict_data}
use Rattle.plan_doc.specs.Refusal.{fault_data}
use Rattle.plan_json.specs.Line.{line_of}
use Rattle.explain.specs.declared.answer.Left.{Left}
use Rattle.explain.specs.declared.answer.ExplainAnswer.{ExplainAnswer}
use Rattle.explain.specs.declared.answer.ExplainAnswer.TheVariants.{Explained, No}
use Rattle.explain.specs.Left.{IsExplainAnswer, AreExclusionsSound}
use Rattle.explain.specs.Told.{lines_of_lefts}

-- the bytes are this publication, and this is the answer on it
pub record IsAnswerTo (bytes : List ℕ) (p : Publication) (answer : ExplainAnswer) : Type 0 where
  pub read : publication_of_bytes bytes ≡ Ok p
  pub is_answer : IsExplainAnswer p.snapshot p.claim answer
  pub sound : AreExclusionsSound p.snapshot p.claim answer

-- what is written of an answer: a Yes with a line for each request that is left out, or the line of a No
abbrev pub text_of_answer : Publication → ExplainAnswer → List ℕ
text_of_answer p (Explained lefts) = line_of (verdict_data (judged.Yes p.claim.value p.claim.bound)) ++ lines_of_lefts p.claim.value lefts
text_of_answer p (No reason) = line_of (verdict_data (judged.No reason))

-- what is written of the bytes, and what that says
abbrev pub IsExplainText : List ℕ → List ℕ → Said → Type 0
IsExplainText bytes text said.Yes = (p : Publication) × (lefts : List Left) × IsAnswerTo bytes p (Explained lefts) × (text ≡ text_of_answer p (Explained lefts))
IsExplainText bytes text said.No = (p : Publication) × (reason : Reason) × IsAnswerTo bytes p (No reason) × (text ≡ text_of_answer p (No reason))
IsExplainText bytes text said.NoDocument = (fault : DocFault) × IsRefused bytes fault × (text ≡ line_of (fault_data fault))
