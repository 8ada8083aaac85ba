-- What contracts see of a book.
use Rattle.std.specs.Prelude.{◌≡◌, ℕ, ◌+◌, Bool, true, false, List, [], ◌∷◌, ◌++◌, take, replicate}
use Rattle.std.specs.Prelude.{count_by, slice_index_or, slice_set, slice_get, Option, None}
use Rattle.plan_base.specs.declared.taken.Taken.{Taken}
use Rattle.plan_io.specs.declared.lines.ScriptLine.{ScriptLine}
use Rattle.desk_events.specs.declared.entry.EventEntry.{EventEntry}
use Rattle.desk_events.specs.declared.entry.What.{What}
use Rattle.desk_events.specs.declared.entry.What.TheVariants.{Line, Take, Publish}
use Rattle.desk_events.specs.declared.reply.Reply.{Reply}
use Rattle.desk_core.specs.Desk.{StateSeen, start}
use Rattle.desk_core.specs.History.{script_of, entries_of}

-- the callers' scripts, what was done of them, the state that this leaves, and each caller's open Take, where it has one
pub record BookSeen : Type 0 where
  pub scripts : List (List ScriptLine)
  pub history : List EventEntry
  pub state : StateSeen
  pub takes : List (Option Taken)

-- so many callers, and nothing sent or done
abbrev pub empty_book : ℕ → BookSeen
empty_book callers = record { scripts = replicate callers []; history = []; state = start; takes = replicate callers None }

-- the open Take of a caller
abbrev pub take_of : List (Option Taken) → ℕ → Option Taken
take_of takes caller = slice_index_or takes caller None

-- the entry is all of its line, or what is left of it after the Take
abbrev pub ends_line : What → Bool
ends_line Line = true
ends_line Take = false
ends_line Publish = true

-- how many lines a caller has done
abbrev pub done_of : ℕ → List EventEntry → ℕ
done_of caller history = count_by (λ e. ends_line e.what) (entries_of caller history)

-- the line of a caller that comes next, if one is left
abbrev pub next_line : BookSeen → ℕ → Option ScriptLine
next_line b caller = slice_get (script_of b.scripts caller) (done_of caller b.history)

-- the caller has no open Take and no line left
abbrev pub IsOver : BookSeen → ℕ → Type 0
IsOver b caller = (take_of b.takes caller ≡ None) × (next_line b caller ≡ None)

-- a line more at the end of a caller's script
abbrev pub with_line : BookSeen → ℕ → ScriptLine → BookSeen
with_line b caller line = record b { scripts = slice_set b.scripts caller (script_of b.scripts caller ++ line ∷ []) }

-- only so many lines of a caller's script, its first ones
abbrev pub with_lines : BookSeen → ℕ → ℕ → BookSeen
with_lines b caller count = record b { scripts = slice_set b.scripts caller (take count (script_of b.scripts caller)) }

-- an entry of a caller's next line that is this much of it
abbrev pub entry_of : BookSeen → ℕ → What → Reply → EventEntry
entry_of b caller what reply = record { caller = caller; line = done_of caller b.history + 1; what = what; version = b.state.version; reply = reply }

-- an entry more, which leaves this state
abbrev pub with_entry : BookSeen → EventEntry → StateSeen → BookSeen
with_entry b e s = record b { history = b.history ++ e ∷ []; state = s }

-- the open Take of a caller is this from now on
abbrev pub with_take : BookSeen → ℕ → Option Taken → BookSeen
with_take b caller t = record b { takes = slice_set b.takes caller t }
