-- Documents of a snapshot with trees and a claim.
use Rattle.std.specs.Prelude.{◌≡◌, ◌≢◌, ℕ, ◌≤◌, ◌⊎◌, List, Result, Ok, Err}
use Rattle.serde_json.specs.Data.{Members}
use Rattle.plan_base.specs.declared.parts.Parts.{Parts}
use Rattle.plan_base.specs.declared.claim.Placement.{Placement}
use Rattle.plan_base.specs.declared.claim.Claim.{Claim}
use Rattle.plan_base.specs.Starts.{value_of_plan}
use Rattle.plan_io.specs.declared.document.Said.{Said}
use Rattle.plan_io.specs.declared.document.Said.TheVariants as said
use Rattle.plan_json.specs.declared.member.Member.TheVariants as key
use Rattle.plan_json.specs.Object.{member_of, object_in, document_of}
use Rattle.plan_json.specs.Reading.{◌>>=◌}
use Rattle.plan_doc.specs.declared.fault.DocFault.{DocFault}
use Rattle.plan_doc.specs.declared.fault.DocFault.TheVariants as doc
use Rattle.plan_doc.specs.Fault.{in_document}
use Rattle.plan_doc.specs.Claim.{claim_of}
use Rattle.plan_doc.specs.Snapshot.{snapshot_of}
use Rattle.plan_doc.specs.Refusal.{fault_data}
use Rattle.plan_json.specs.Line.{line_of}
use Rattle.group_trees.specs.declared.fault.ForestFault.{ForestFault}
use Rattle.group_trees.specs.declared.fault.ForestFault.TheVariants as fault
use Rattle.group_trees.specs.declared.asked.AskFault.{AskFault}
use Rattle.group_trees.specs.declared.asked.AskFault.TheVariants.{Document, Forest, NoMemory}
use Rattle.group_trees.specs.declared.verdict.ForestReason.{ForestReason}
use Rattle.group_trees.specs.declared.verdict.ForestVerdict.{ForestVerdict}
use Rattle.group_trees.specs.declared.verdict.ForestVerdict.TheVariants as judged
use Rattle.group_trees.specs.Trees.{Node}
use Rattle.group_trees.specs.Forests.{IsForest, IsFirstFault}
use Rattle.group_trees.specs.Plans.{IsForestFeasible}
use Rattle.group_trees.specs.Verdicts.{IsForestVerdict}
use Rattle.group_trees.specs.Reading.{trees_given}
use Rattle.group_trees.specs.Texts.{forest_verdict_data, forest_fault_data}

-- a snapshot, and trees
abbrev pub Opening : Type 0
Opening = Parts × List Node

-- `snapshot`, then `trees`
abbrev pub opening_of : Members → Result Opening DocFault
opening_of ms =
    in_document (member_of object_in ms key.Snapshot) >>= λ inner.
    snapshot_of inner >>= λ snapshot.
    in_document (trees_given ms) >>= λ trees.
    Ok (snapshot, trees)

-- `claim`
abbrev pub claim_given : Members → Result Claim DocFault
claim_given ms = in_document (member_of object_in ms key.Claim) >>= λ inner. in_document (claim_of inner)

-- the bytes are an object that opens with these
pub record IsOpened (bytes : List ℕ) (ms : Members) (opening : Opening) : Type 0 where
  pub document : document_of bytes ≡ Ok ms
  pub opened : opening_of ms ≡ Ok opening

-- the bytes are a snapshot with a forest and a claim
pub record IsAsked (bytes : List ℕ) (s : Parts) (trees : List Node) (claim : Claim) : Type 0 where
  pub members : Members
  pub opening : IsOpened bytes members (s, trees)
  pub forest : IsForest s trees
  pub claimed : claim_given members ≡ Ok claim

-- the snapshot or the trees can't be read, for this fault
abbrev pub IsOpeningFault : List ℕ → DocFault → Type 0
IsOpeningFault bytes e = (in_document (document_of bytes) >>= opening_of) ≡ Err e

-- the trees are a forest of the snapshot, and the claim can't be read, for this fault
pub record IsClaimFault (bytes : List ℕ) (e : DocFault) : Type 0 where
  pub members : Members
  pub opening : Opening
  pub opened : IsOpened bytes members opening
  pub forest : IsForest opening.0 opening.1
  pub claim : claim_given members ≡ Err e

-- the trees aren't a forest of the snapshot, for this fault
pub record IsTreesFault (bytes : List ℕ) (f : ForestFault) : Type 0 where
  pub members : Members
  pub opening : Opening
  pub opened : IsOpened bytes members opening
  pub first : IsFirstFault opening.0 opening.1 f

-- the bytes aren't what is asked for, for this first fault
abbrev pub IsForestRefused : List ℕ → AskFault → Type 0
IsForestRefused bytes (Document e) = (e ≢ doc.NoMemory) × (IsOpeningFault bytes e ⊎ IsClaimFault bytes e)
IsForestRefused bytes (Forest f) = (f ≢ fault.NoMemory) × IsTreesFault bytes f
IsForestRefused bytes NoMemory = ⊥

-- the bytes are a snapshot with a forest and a claim, this is the verdict on it, and no plan that is feasible for the forest is worth more than
-- the bound of a Yes
pub record IsForestJudged (bytes : List ℕ) (verdict : ForestVerdict) : Type 0 where
  pub snapshot : Parts
  pub trees : List Node
  pub claim : Claim
  pub asked : IsAsked bytes snapshot trees claim
  pub is_verdict : IsForestVerdict snapshot trees claim verdict
  pub bounding : (value bound : ℕ) → verdict ≡ judged.Yes value bound
      → (plan : List Placement) → IsForestFeasible snapshot trees plan → value_of_plan snapshot plan ≤ bound

-- what a verdict says of a document
abbrev pub said_of : ForestVerdict → Said
said_of (judged.Yes value bound) = said.Yes
said_of (judged.No reason) = said.No

-- what is written of a fault
abbrev pub ask_fault_data : AskFault → List ℕ
ask_fault_data (Document e) = line_of (fault_data e)
ask_fault_data (Forest f) = line_of (forest_fault_data f)
ask_fault_data NoMemory = line_of (fault_data doc.NoMemory)

-- what a check with trees writes of the bytes, and what that says
abbrev pub IsForestAnswer : List ℕ → List ℕ → Said → Type 0
IsForestAnswer bytes text said.Yes =
    (value bound : ℕ) × IsForestJudged bytes (judged.Yes value bound) × (text ≡ line_of (forest_verdict_data (judged.Yes value bound)))
IsForestAnswer bytes text said.No =
    (reason : ForestReason) × IsForestJudged bytes (judged.No reason) × (text ≡ line_of (forest_verdict_data (judged.No reason)))
IsForestAnswer bytes text said.NoDocument = (e : AskFault) × IsForestRefused bytes e × (text ≡ ask_fault_data e)
