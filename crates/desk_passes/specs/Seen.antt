-- What is seen of the history of a desk that callers share: entries, each with the line that it does.
use Rattle.std.specs.Prelude.{◌≡◌, ℕ, ◌+◌, ◌==◌, List, ◌++◌, length, map, filter, count_by, slice_index_or, Option, Some, None}
use Rattle.plan_base.specs.declared.taken.Taken.{Taken}
use Rattle.plan_io.specs.declared.lines.ScriptLine.{ScriptLine}
use Rattle.plan_io.specs.declared.lines.ScriptLine.TheVariants.{TooLong}
use Rattle.desk_events.specs.declared.entry.EventEntry.{EventEntry}
use Rattle.desk_core.specs.History.{script_of, line_of}
use Rattle.desk_book.specs.Seen.{BookSeen, take_of, done_of, ends_line}
use Rattle.desk_passes.specs.declared.seen.SeenEntry.{SeenEntry}
use Rattle.desk_passes.specs.declared.seen.OpenTake.{OpenTake}

-- an entry, with its line in the scripts; a Publish has the line of its Take
abbrev pub with_line_of : List (List ScriptLine) → EventEntry → SeenEntry
with_line_of scripts e = record { entry = e; line = line_of scripts e }

-- all entries of a history, each with its line in the scripts
abbrev pub lined : List (List ScriptLine) → List EventEntry → List SeenEntry
lined scripts history = map (with_line_of scripts) history

-- all entries of a book, each with its line
abbrev pub log_of : BookSeen → List SeenEntry
log_of b = lined b.scripts b.history

-- the entries of one caller
abbrev pub of_caller : ℕ → List SeenEntry → List SeenEntry
of_caller caller log = filter (λ x. x.entry.caller == caller) log

-- the one list begins with the other
abbrev pub BeginsWith : List SeenEntry → List SeenEntry → Type 0
BeginsWith log seen = (rest : List SeenEntry) × (log ≡ seen ++ rest)

-- how many lines these entries end
abbrev pub lines_done : List SeenEntry → ℕ
lines_done log = count_by (λ x. ends_line x.entry.what) log

-- the line of a caller whose plan is sought, or which comes next
abbrev pub line_next : BookSeen → ℕ → ScriptLine
line_next b caller = slice_index_or (script_of b.scripts caller) (done_of caller b.history) TooLong

-- what a caller has taken, with the line that asked for it
abbrev pub open_with : ScriptLine → Option Taken → Option OpenTake
open_with line None = None
open_with line (Some taken) = Some record { taken = taken; line = line }

-- what a caller has taken, with the line that asked for it; none where no plan is sought for it
abbrev pub open_take : BookSeen → ℕ → Option OpenTake
open_take b caller = open_with (line_next b caller) (take_of b.takes caller)

-- 1 where a Take is open, whose line has begun
abbrev pub begun : Option Taken → ℕ
begun None = 0
begun (Some taken) = 1

-- each line of each script has its entry: the caller's lines are those that it has done, and the one whose plan is sought
abbrev pub EachHasEntry : BookSeen → Type 0
EachHasEntry b = (caller : ℕ) → length (script_of b.scripts caller) ≡ done_of caller b.history + begun (take_of b.takes caller)
