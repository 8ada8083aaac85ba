-- What is written of a publication with groups to insert.
use Rattle.std.specs.Prelude.{◌≡◌, ◌≢◌, ℕ, ◌⊎◌, List, [], ◌∷◌, ◌++◌, Ok, Err, None, Some}
use Rattle.plan_base.specs.declared.parts.GroupPart.{GroupPart}
use Rattle.plan_base.specs.declared.verdict.Reason.{Reason}
use Rattle.plan_base.specs.declared.verdict.Verdict.TheVariants as judged
use Rattle.plan_base.specs.Verdict.{IsVerdict}
use Rattle.plan_io.specs.declared.document.Said.{Said}
use Rattle.plan_io.specs.declared.document.Said.TheVariants as said
use Rattle.plan_doc.specs.declared.fault.DocFault.{DocFault}
use Rattle.plan_doc.specs.declared.fault.DocFault.TheVariants as doc
use Rattle.plan_doc.specs.Reason.{reason_data}
use Rattle.plan_doc.specs.Refusal.{fault_data}
use Rattle.plan_json.specs.Line.{line_of}
use Rattle.rapid.specs.declared.fault.RapidFault.{RapidFault}
use Rattle.rapid.specs.declared.inserted.Inserted.{Inserted}
use Rattle.rapid.specs.declared.document.RapidDocument.{RapidDocument}
use Rattle.rapid.specs.Standing.{Standing, opening}
use Rattle.rapid.specs.Insertion.{IsInsertion}
use Rattle.rapid.specs.Refused.{refusal_of}
use Rattle.rapid.specs.Document.{rapid_document_of_bytes}
use Rattle.rapid.specs.Written.{inserted_data, refusal_data}

-- the groups are inserted one after another, none of which is refused, and each insertion writes a line
abbrev pub WritesEach : Standing → List GroupPart → List ℕ → Standing → Type 0
WritesEach before [] text after = (text ≡ []) × (after ≡ before)
WritesEach before (group ∷ groups) text after =
    (refusal_of before.snapshot group ≡ None) × (answer : Inserted) × (next : Standing) × (rest : List ℕ)
    × IsInsertion before group answer next × WritesEach next groups rest after
    × (text ≡ line_of (inserted_data next.claim next.displaced answer) ++ rest)

-- those before this one are inserted, none of them refused, and this one is refused
pub record IsCutOff (before : Standing) (groups : List GroupPart) (text : List ℕ) : Type 0 where
  pub done : List GroupPart
  pub group : GroupPart
  pub others : List GroupPart
  pub parted : groups ≡ done ++ group ∷ others
  pub lines : List ℕ
  pub standing : Standing
  pub written : WritesEach before done lines standing
  pub refusal : RapidFault
  pub refused : refusal_of standing.snapshot group ≡ Some refusal
  pub whole : text ≡ lines ++ line_of (refusal_data refusal)

-- the claim of the document is certified
abbrev pub IsOpen : RapidDocument → Type 0
IsOpen d = IsVerdict d.publication.snapshot d.publication.claim (judged.Yes d.publication.claim.value d.publication.claim.bound)

-- what is written of a document, and what that says
abbrev pub IsAnswerTo : RapidDocument → List ℕ → Said → Type 0
IsAnswerTo d text said.Yes = IsOpen d × (after : Standing) × WritesEach (opening d.publication.snapshot d.publication.claim) d.groups text after
IsAnswerTo d text said.No = (reason : Reason) × IsVerdict d.publication.snapshot d.publication.claim (judged.No reason) × (text ≡ line_of (reason_data reason))
IsAnswerTo d text said.NoDocument = IsOpen d × IsCutOff (opening d.publication.snapshot d.publication.claim) d.groups text

-- the bytes aren't a document, for this first fault, which is written
pub record IsNoDocument (bytes text : List ℕ) : Type 0 where
  pub fault : DocFault
  pub read : rapid_document_of_bytes bytes ≡ Err fault
  pub told : fault ≢ doc.NoMemory
  pub written : text ≡ line_of (fault_data fault)

-- what is written of these bytes, and what that says
abbrev pub IsRapidAnswer : List ℕ → List ℕ → Said → Type 0
IsRapidAnswer bytes text what = ((d : RapidDocument) × (rapid_document_of_bytes bytes ≡ Ok d) × IsAnswerTo d text what)
    ⊎ (IsNoDocument bytes text × (what ≡ said.NoDocument))
