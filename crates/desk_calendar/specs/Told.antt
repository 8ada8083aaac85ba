-- Telescopes and closings as the lines and the printed replies of a history tell them.
use Rattle.std.specs.Prelude.{◌≡◌, ℕ, IsTrue, List, [], ◌∷◌, ◌++◌, filter_map, fold, map, slice_get, Option, Some, None, Result, Ok}
use Rattle.plan_base.specs.declared.span.Span.{Span}
use Rattle.plan_io.specs.declared.lines.ScriptLine.{ScriptLine}
use Rattle.interval_set.specs.Spans.{has}
use Rattle.site_model.specs.declared.changes.Change.{Change}
use Rattle.site_model.specs.declared.changes.Change.TheVariants.{Close, Reopen}
use Rattle.site_model.specs.declared.code.Code.{Code}
use Rattle.site_model.specs.declared.code.Scope.{Scope}
use Rattle.site_model.specs.Names.{numbered}
use Rattle.desk_events.specs.declared.command.Command.{Command}
use Rattle.desk_events.specs.declared.command.Command.TheVariants as command
use Rattle.desk_events.specs.declared.entry.EventEntry.{EventEntry}
use Rattle.desk_events.specs.declared.fault.CommandFault.{CommandFault}
use Rattle.desk_events.specs.declared.reply.Reply.{Reply}
use Rattle.desk_events.specs.declared.reply.Reply.TheVariants as reply
use Rattle.desk_core.specs.History.{read_at}
use Rattle.desk_core.specs.Registering.{in_scope}

-- ---- telescopes

-- the code in a `telescope` line, where its reply says that it was accepted
abbrev pub code_in : Result Command CommandFault → Reply → Option Code
code_in (Ok (command.Telescope site enclosure telescope class instruments)) (reply.Telescope number) =
    Some record { site = site; enclosure = enclosure; telescope = telescope }
code_in _ _ = None

-- the code that an entry tells
abbrev pub code_told : List (List ScriptLine) → EventEntry → Option Code
code_told scripts e = code_in (read_at scripts e) e.reply

-- the codes that the entries of a history tell, in their order: the k-th is that of telescope k
abbrev pub telescopes_told : List (List ScriptLine) → List EventEntry → List Code
telescopes_told scripts history = filter_map (code_told scripts) history

-- the sites of these telescopes, each once, as they first come: the k-th is that of site k
abbrev pub sites_told : List (List ScriptLine) → List EventEntry → List (List ℕ)
sites_told scripts history = fold numbered [] (map (λ code. code.site) (telescopes_told scripts history))

-- ---- closings

-- what a `close` or a `reopen` line says
pub record Closing : Type 0 where
  pub change : Change
  pub scope : Scope
  pub spans : List Span

-- what such a line says, where its reply says that it was accepted
abbrev pub closing_in : Result Command CommandFault → Reply → Option Closing
closing_in (Ok (command.Close scope spans)) reply.Closed = Some record { change = Close; scope = scope; spans = spans }
closing_in (Ok (command.Reopen scope spans)) reply.Reopened = Some record { change = Reopen; scope = scope; spans = spans }
closing_in _ _ = None

-- the closing that an entry tells
abbrev pub closing_told : List (List ScriptLine) → EventEntry → Option Closing
closing_told scripts e = closing_in (read_at scripts e) e.reply

-- ---- the latest line

-- the entry, after those before it, tells a line with this change that is about second x of telescope t: the telescope was
-- registered before the line and is in its scope, and the second is one of its spans
pub record IsAbout (scripts : List (List ScriptLine)) (before : List EventEntry) (e : EventEntry) (change : Change) (t x : ℕ) : Type 0 where
  pub scope : Scope
  pub spans : List Span
  pub says : closing_told scripts e ≡ Some record { change = change; scope = scope; spans = spans }
  pub code : Code
  pub registered : slice_get (telescopes_told scripts before) t ≡ Some code
  pub inside : IsTrue (in_scope scope code)
  pub second : IsTrue (has spans x)

-- the latest line of a history that is about second x of telescope t is a `close`
pub record IsClosedByLatest (scripts : List (List ScriptLine)) (history : List EventEntry) (t x : ℕ) : Type 0 where
  pub before : List EventEntry
  pub latest : EventEntry
  pub after : List EventEntry
  pub is : history ≡ before ++ latest ∷ after
  pub closes : IsAbout scripts before latest Close t x
  pub none : (b a : List EventEntry) (f : EventEntry) (change : Change) → after ≡ b ++ f ∷ a
      → ¬ IsAbout scripts (before ++ latest ∷ b) f change t x
