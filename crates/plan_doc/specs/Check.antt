-- What a check answers to a document.
use Rattle.std.specs.Prelude.{◌≡◌, ◌≢◌, ℕ, ◌≤◌, List, Ok, Err}
use Rattle.plan_base.specs.declared.claim.Placement.{Placement}
use Rattle.plan_base.specs.declared.verdict.Reason.{Reason}
use Rattle.plan_base.specs.declared.verdict.Verdict.{Verdict}
use Rattle.plan_base.specs.declared.verdict.Verdict.TheVariants as judged
use Rattle.plan_base.specs.Starts.{value_of_plan}
use Rattle.plan_base.specs.Feasible.{IsFeasible}
use Rattle.plan_base.specs.Verdict.{IsVerdict}
use Rattle.plan_io.specs.declared.document.Said.{Said}
use Rattle.plan_io.specs.declared.document.Said.TheVariants as said
use Rattle.plan_doc.specs.declared.fault.DocFault.{DocFault}
use Rattle.plan_doc.specs.declared.fault.DocFault.TheVariants as doc
use Rattle.plan_doc.specs.declared.publication.Publication.{Publication}
use Rattle.plan_doc.specs.Publication.{publication_of_bytes}
use Rattle.plan_doc.specs.Reason.{verdict_data}
use Rattle.plan_doc.specs.Refusal.{fault_data}
use Rattle.plan_json.specs.Line.{line_of}

-- no feasible plan is worth more than the bound of a Yes
abbrev pub IsBounding : Publication → Verdict → Type 0
IsBounding p verdict =
    (value bound : ℕ) → verdict ≡ judged.Yes value bound
    → (plan : List Placement) → IsFeasible p.snapshot plan → value_of_plan p.snapshot plan ≤ bound

-- the bytes are a snapshot with a claim, and this is the verdict on it
pub record IsJudged (bytes : List ℕ) (verdict : Verdict) : Type 0 where
  pub publication : Publication
  pub read : publication_of_bytes bytes ≡ Ok publication
  pub is_verdict : IsVerdict publication.snapshot publication.claim verdict
  pub bounding : IsBounding publication verdict

-- the bytes aren't one, for this first fault
pub record IsRefused (bytes : List ℕ) (fault : DocFault) : Type 0 where
  pub read : publication_of_bytes bytes ≡ Err fault
  pub told : fault ≢ doc.NoMemory

-- what a verdict says of a document
abbrev pub said_of : Verdict → Said
said_of (judged.Yes value bound) = said.Yes
said_of (judged.No reason) = said.No

-- what a check writes of the bytes, and what that says
abbrev pub IsCheckAnswer : List ℕ → List ℕ → Said → Type 0
IsCheckAnswer bytes text said.Yes =
    (value bound : ℕ) × IsJudged bytes (judged.Yes value bound) × (text ≡ line_of (verdict_data (judged.Yes value bound)))
IsCheckAnswer bytes text said.No = (reason : Reason) × IsJudged bytes (judged.No reason) × (text ≡ line_of (verdict_data (judged.No reason)))
IsCheckAnswer bytes text said.NoDocument = (fault : DocFault) × IsRefused bytes fault × (text ≡ line_of (fault_data fault))
