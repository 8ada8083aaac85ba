-- Lines of insertions, as they are added to a text.
use Rattle.std.specs.Prelude.{◌≡◌, ◌≢◌, ℕ, List, ◌∷◌, ◌++◌, None, Some}
use Rattle.plan_base.specs.declared.parts.GroupPart.{GroupPart}
use Rattle.plan_io.specs.declared.document.Answer.{Answer}
use Rattle.plan_io.specs.declared.document.Said.{Said}
use Rattle.plan_io.specs.declared.document.Said.TheVariants as said
use Rattle.plan_json.specs.Line.{line_of}
use Rattle.rapid.specs.declared.fault.RapidFault.{RapidFault}
use Rattle.rapid.specs.declared.fault.RapidFault.TheVariants.{NoMemory}
use Rattle.rapid.specs.declared.inserted.Inserted.{Inserted}
use Rattle.rapid.specs.Standing.{Standing}
use Rattle.rapid.specs.Insertion.{IsInsertion}
use Rattle.rapid.specs.Refused.{refusal_of}
use Rattle.rapid.specs.Written.{inserted_data, refusal_data}
use Rattle.rapid.specs.Run.{WritesEach, IsCutOff}

-- the group isn't refused but inserted, and the line of that is added to the text
abbrev pub IsLineOf : Standing → GroupPart → Standing → List ℕ → List ℕ → Type 0
IsLineOf before group after old new =
    (refusal_of before.snapshot group ≡ None) × (answer : Inserted) × IsInsertion before group answer after
    × (new ≡ old ++ line_of (inserted_data after.claim after.displaced answer))

-- the groups are inserted, and their lines are added to the text
abbrev pub AreLinesOf : Standing → List GroupPart → Standing → List ℕ → List ℕ → Type 0
AreLinesOf before groups after old new = (lines : List ℕ) × WritesEach before groups lines after × (new ≡ old ++ lines)

-- those before this one are inserted, this one is refused, and the lines of those are added to the text
pub record IsStoppedAt (before : Standing) (groups : List GroupPart) (refusal : RapidFault) (old new : List ℕ) : Type 0 where
  pub done : List GroupPart
  pub group : GroupPart
  pub others : List GroupPart
  pub parted : groups ≡ done ++ group ∷ others
  pub standing : Standing
  pub lines : AreLinesOf before done standing old new
  pub refused : refusal_of standing.snapshot group ≡ Some refusal

-- the line of the refusal is added to the text, and it isn't want of memory
pub record IsRefusalAdded (text : List ℕ) (refusal : RapidFault) (answer : Answer) : Type 0 where
  pub told : refusal ≢ NoMemory
  pub whole : answer.text.items ≡ text ++ line_of (refusal_data refusal)
  pub what : answer.said ≡ said.NoDocument

-- what is written of groups that are inserted from this on, and what that says
abbrev pub IsAnswerFrom : Standing → List GroupPart → List ℕ → Said → Type 0
IsAnswerFrom before groups text said.Yes = (after : Standing) × WritesEach before groups text after
IsAnswerFrom before groups text said.No = ⊥
IsAnswerFrom before groups text said.NoDocument = IsCutOff before groups text
