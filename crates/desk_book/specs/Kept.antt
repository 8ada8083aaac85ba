-- What is always so of a book.
use Rattle.std.specs.Prelude.{◌≡◌, ℕ, ◌+◌, ◌≤◌, ◌<◌, ◌⊎◌, Bool, true, false, List, [], ◌∷◌, ◌++◌, length, sum, slice_index_or, Option, Some}
use Rattle.std.specs.Option.{is_some}
use Rattle.plan_base.specs.Limits.{most_callers}
use Rattle.plan_io.specs.Limits.{most_input_lines}
use Rattle.plan_base.specs.declared.taken.Taken.{Taken}
use Rattle.plan_io.specs.declared.lines.ScriptLine.{ScriptLine}
use Rattle.plan_json.specs.Ranges.{IsBetween}
use Rattle.desk_events.specs.declared.entry.EventEntry.{EventEntry}
use Rattle.desk_events.specs.declared.entry.What.{What}
use Rattle.desk_events.specs.declared.entry.What.TheVariants.{Take}
use Rattle.desk_core.specs.Desk.{StateSeen}
use Rattle.desk_core.specs.History.{script_of, entries_of, turns_of, AreTurnsOf, IsEntry, EachAfter, IsLegal, replay}
use Rattle.desk_book.specs.Claims.{IsClaimEntry}
use Rattle.desk_book.specs.Doing.{IsTakenOf}
use Rattle.desk_book.specs.Seen.{BookSeen, take_of, done_of}

-- a caller's turns are those of the first lines of its script, so many, in order and each once; where its Take is open, then
-- comes that of the next line
abbrev pub IsPlace : List ScriptLine → List (ℕ × What) → ℕ → Bool → Type 0
IsPlace script turns done false = (done ≤ length script) × AreTurnsOf 1 turns (done + 1)
IsPlace script turns done true =
    (done < length script) × ((before : List (ℕ × What)) × (turns ≡ before ++ (done + 1, Take) ∷ []) × AreTurnsOf 1 before (done + 1))

-- the caller's last entry is a Take, and this is what was taken: it names the caller, and has the snapshot and the settings of
-- the state at that entry
pub record IsOpenTake (scripts : List (List ScriptLine)) (history : List EventEntry) (caller : ℕ) (t : Taken) : Type 0 where
  pub before : List EventEntry
  pub entry : EventEntry
  pub later : List EventEntry
  pub cut : history ≡ before ++ entry ∷ later
  pub mine : entry.caller ≡ caller
  pub what : entry.what ≡ Take
  pub last : entries_of caller later ≡ []
  pub named : t.caller ≡ caller
  pub taken : IsTakenOf (replay scripts before) t

-- the history is legal and leaves the state, its claims are bounded, and those of plans are planned, and the Takes are those of
-- the callers' last entries
pub record IsBook (b : BookSeen) : Type 0 where
  pub callers : IsBetween 1 most_callers (length b.scripts)
  pub as_many : length b.takes ≡ length b.scripts
  pub few : (caller : ℕ) → length (script_of b.scripts caller) ≤ most_input_lines
  pub legal : IsLegal b.scripts b.history
  pub left : replay b.scripts b.history ≡ b.state
  pub claims : EachAfter (IsClaimEntry b.scripts) b.history
  pub places : (caller : ℕ) → IsPlace (script_of b.scripts caller) (turns_of caller b.history) (done_of caller b.history) (is_some (take_of b.takes caller))
  pub opens : (caller : ℕ) (t : Taken) → take_of b.takes caller ≡ Some t → IsOpenTake b.scripts b.history caller t

-- ---- whatever lines are sent later

-- each script goes on, or stays
abbrev pub GoOn : List (List ScriptLine) → List (List ScriptLine) → Type 0
GoOn scripts longer = (caller : ℕ) → (rest : List ScriptLine) × (script_of longer caller ≡ script_of scripts caller ++ rest)

-- what is known of a history with these scripts that leaves the state s
pub record IsKept (scripts : List (List ScriptLine)) (history : List EventEntry) (s : StateSeen) (takes : List (Option Taken)) : Type 0 where
  pub each : EachAfter (IsEntry scripts) history
  pub left : replay scripts history ≡ s
  pub claims : EachAfter (IsClaimEntry scripts) history
  pub opens : (caller : ℕ) (t : Taken) → take_of takes caller ≡ Some t → IsOpenTake scripts history caller t

-- the state is that of the Take, or has a later version
abbrev pub IsBehind : StateSeen → Taken → Type 0
IsBehind s t = IsTakenOf s t ⊎ (t.snapshot.version < s.version)

-- all that is known of a book as it is seen
pub record IsSound (b : BookSeen) : Type 0 where
  pub callers : IsBetween 1 most_callers (length b.scripts)
  pub as_many : length b.takes ≡ length b.scripts
  pub few : (caller : ℕ) → length (script_of b.scripts caller) ≤ most_input_lines
  pub kept : (longer : List (List ScriptLine)) → GoOn b.scripts longer → IsKept longer b.history b.state b.takes
  pub places : (caller : ℕ) → IsPlace (script_of b.scripts caller) (turns_of caller b.history) (done_of caller b.history) (is_some (take_of b.takes caller))
  pub behind : (caller : ℕ) (t : Taken) → take_of b.takes caller ≡ Some t → IsBehind b.state t

-- the numbers are how many lines each caller has done, and there are no more changes than lines
pub record AreCounted (b : BookSeen) (done : List ℕ) : Type 0 where
  pub as_many : length done ≡ length b.scripts
  pub each : (caller : ℕ) → slice_index_or done caller 0 ≡ done_of caller b.history
  pub changes : b.state.version ≤ sum done
