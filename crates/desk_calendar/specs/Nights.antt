-- Nights as the lines and the printed replies of a history tell them.
use Rattle.std.specs.Prelude.{ℕ, IsTrue, IsSomeAnd, List, filter, filter_map, Option, Some, None, Result, Ok}
use Rattle.std.specs.List.{last_or}
use Rattle.plan_base.specs.declared.span.Span.{Span}
use Rattle.plan_io.specs.declared.lines.ScriptLine.{ScriptLine}
use Rattle.interval_set.specs.Spans.{has}
use Rattle.site_model.specs.Names.{is_name}
use Rattle.desk_events.specs.declared.command.Command.{Command}
use Rattle.desk_events.specs.declared.command.Command.TheVariants as command
use Rattle.desk_events.specs.declared.entry.EventEntry.{EventEntry}
use Rattle.desk_events.specs.declared.fault.CommandFault.{CommandFault}
use Rattle.desk_events.specs.declared.reply.Reply.{Reply}
use Rattle.desk_events.specs.declared.reply.Reply.TheVariants as reply
use Rattle.desk_core.specs.History.{read_at}

-- what a `night` line says
pub record SiteNight : Type 0 where
  pub site : List ℕ
  pub spans : List Span

-- what such a line says, where its reply says that it was accepted
abbrev pub night_in : Result Command CommandFault → Reply → Option SiteNight
night_in (Ok (command.Night site spans)) reply.Night = Some record { site = site; spans = spans }
night_in _ _ = None

-- the night that an entry tells
abbrev pub night_told : List (List ScriptLine) → EventEntry → Option SiteNight
night_told scripts e = night_in (read_at scripts e) e.reply

-- the nights that the entries of a history tell, in their order
abbrev pub nights_told : List (List ScriptLine) → List EventEntry → List SiteNight
nights_told scripts history = filter_map (night_told scripts) history

-- the last of them that is one of the site
abbrev pub last_night : List (List ScriptLine) → List EventEntry → List ℕ → Option SiteNight
last_night scripts history site = last_or None (filter (λ night. is_name site night.site) (nights_told scripts history))

-- the latest accepted `night` line of the site has second x in one of its spans
abbrev pub IsNightByLatest : List (List ScriptLine) → List EventEntry → List ℕ → ℕ → Type 0
IsNightByLatest scripts history site x = IsSomeAnd (last_night scripts history site) (λ night. IsTrue (has night.spans x))
