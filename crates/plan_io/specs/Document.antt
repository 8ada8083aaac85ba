-- What a run reads and writes that answers the whole of its input.
use Rattle.std.specs.Prelude.{◌≡◌, ◌+◌, ℕ, ◌≤◌, List, [], length}
use Rattle.std.specs.declared.option.Option.{Option}
use Rattle.std.specs.Io.KnownBytes.{Consumes, IsAtEnd}
use Rattle.plan_io.specs.Limits.{most_input_bytes}
use Rattle.plan_io.specs.declared.document.Said.{Said}
use Rattle.plan_io.specs.declared.document.Said.TheVariants as said
use Rattle.plan_io.specs.declared.sink.PutAnswer.TheVariants.{WriteFault as Failed}
use Rattle.plan_io.specs.declared.status.Status.{Status}
use Rattle.plan_io.specs.declared.status.Status.TheVariants.{Done, Words, ReadFault, WriteFault, NoMemory, InputOver, NoDocument, No, NoCaller}
use Rattle.plan_io.specs.Source.{Rose}
use Rattle.plan_io.specs.Sink.{Adds, Puts}

-- the status of a run whose answer was written
abbrev pub status_of : Said → Status
status_of said.Yes = Done
status_of said.No = No
status_of said.NoDocument = NoDocument

-- all of the source was read, within the limit
pub record IsInput (left left' : Option (List ℕ)) (input : List ℕ) : Type 0 where
  pub taken : Consumes left left' input
  pub ended : IsAtEnd left'
  pub within : length input ≤ most_input_bytes

-- an answer that says so was written whole
abbrev pub IsWritten : (List ℕ → List ℕ → Said → Type 0) → List ℕ → Option (List ℕ) → Option (List ℕ) → Said → Type 0
IsWritten IsAnswer input held held' said = (text : List ℕ) × IsAnswer input text said × Adds held held' text

-- less than an answer was written
abbrev pub IsCutShort : (List ℕ → List ℕ → Said → Type 0) → List ℕ → Option (List ℕ) → Option (List ℕ) → Type 0
IsCutShort IsAnswer input held held' = (text : List ℕ) × (said : Said) × IsAnswer input text said × Puts held held' Failed text

-- what is written of these bytes at each status of a run that read them all
abbrev pub IsAnswered : (List ℕ → List ℕ → Said → Type 0) → List ℕ → Option (List ℕ) → Option (List ℕ) → Status → Type 0
IsAnswered IsAnswer input held held' Done = IsWritten IsAnswer input held held' said.Yes
IsAnswered IsAnswer input held held' No = IsWritten IsAnswer input held held' said.No
IsAnswered IsAnswer input held held' NoDocument = IsWritten IsAnswer input held held' said.NoDocument
IsAnswered IsAnswer input held held' WriteFault = IsCutShort IsAnswer input held held'
IsAnswered IsAnswer input held held' NoMemory = Adds held held' []
IsAnswered IsAnswer input held held' Words = ⊥
IsAnswered IsAnswer input held held' ReadFault = ⊥
IsAnswered IsAnswer input held held' InputOver = ⊥
IsAnswered IsAnswer input held held' NoCaller = ⊥

-- all of the source was read, and this is written of it
abbrev pub IsReadAndAnswered : (List ℕ → List ℕ → Said → Type 0) → Option (List ℕ) → Option (List ℕ) → Option (List ℕ) → Option (List ℕ) → Status → Type 0
IsReadAndAnswered IsAnswer left left' held held' status =
    (input : List ℕ) × IsInput left left' input × IsAnswered IsAnswer input held held' status

-- so many bytes of the source were taken at most
abbrev pub TakesUpTo : ℕ → Option (List ℕ) → Option (List ℕ) → Type 0
TakesUpTo most left left' = (taken : List ℕ) × Consumes left left' taken × (length taken ≤ most)

-- what was read and written at each status
abbrev pub IsDocumentRun : (List ℕ → List ℕ → Said → Type 0) → Option (List ℕ) → Option (List ℕ) → Option (List ℕ) → Option (List ℕ) → Status → Type 0
IsDocumentRun IsAnswer left left' held held' Done = IsReadAndAnswered IsAnswer left left' held held' Done
IsDocumentRun IsAnswer left left' held held' No = IsReadAndAnswered IsAnswer left left' held held' No
IsDocumentRun IsAnswer left left' held held' NoDocument = IsReadAndAnswered IsAnswer left left' held held' NoDocument
IsDocumentRun IsAnswer left left' held held' WriteFault = IsReadAndAnswered IsAnswer left left' held held' WriteFault
IsDocumentRun IsAnswer left left' held held' NoMemory = TakesUpTo (most_input_bytes + 1) left left'
IsDocumentRun IsAnswer left left' held held' InputOver = (taken : List ℕ) × Consumes left left' taken × (length taken ≡ most_input_bytes + 1)
IsDocumentRun IsAnswer left left' held held' ReadFault = TakesUpTo most_input_bytes left left'
IsDocumentRun IsAnswer left left' held held' Words = Unit {0}
IsDocumentRun IsAnswer left left' held held' NoCaller = ⊥

-- a count of faults rose, where the status says so
abbrev pub IsDocumentCause : ℕ → ℕ → ℕ → ℕ → Status → Type 0
IsDocumentCause reads reads' writes writes' ReadFault = Rose reads reads'
IsDocumentCause reads reads' writes writes' WriteFault = Rose writes writes'
IsDocumentCause reads reads' writes writes' _ = Unit {0}
