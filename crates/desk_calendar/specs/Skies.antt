-- Skies as the lines and the printed replies of a history tell them.
use Rattle.std.specs.Prelude.{ℕ, IsTrue, IsSomeAnd, ◌&&◌, List, filter, filter_map, Option, Some, None, Result, Ok}
use Rattle.std.specs.List.{last_or}
use Rattle.plan_base.specs.declared.span.Span.{Span}
use Rattle.plan_io.specs.declared.lines.ScriptLine.{ScriptLine}
use Rattle.interval_set.specs.Spans.{has}
use Rattle.site_model.specs.Names.{is_name}
use Rattle.desk_events.specs.declared.command.Command.{Command}
use Rattle.desk_events.specs.declared.command.Command.TheVariants as command
use Rattle.desk_events.specs.declared.entry.EventEntry.{EventEntry}
use Rattle.desk_events.specs.declared.fault.CommandFault.{CommandFault}
use Rattle.desk_events.specs.declared.reply.Reply.{Reply}
use Rattle.desk_events.specs.declared.reply.Reply.TheVariants as reply
use Rattle.desk_core.specs.History.{read_at}

-- what a `visibility` line says
pub record TargetSky : Type 0 where
  pub target : List ℕ
  pub site : List ℕ
  pub spans : List Span

-- what such a line says, where its reply says that it was accepted
abbrev pub sky_in : Result Command CommandFault → Reply → Option TargetSky
sky_in (Ok (command.Visibility target site spans)) reply.Visibility = Some record { target = target; site = site; spans = spans }
sky_in _ _ = None

-- the sky that an entry tells
abbrev pub sky_told : List (List ScriptLine) → EventEntry → Option TargetSky
sky_told scripts e = sky_in (read_at scripts e) e.reply

-- the skies that the entries of a history tell, in their order
abbrev pub skies_told : List (List ScriptLine) → List EventEntry → List TargetSky
skies_told scripts history = filter_map (sky_told scripts) history

-- the last of them that is one of the target at the site
abbrev pub last_sky : List (List ScriptLine) → List EventEntry → List ℕ → List ℕ → Option TargetSky
last_sky scripts history target site = last_or None (filter (λ sky. is_name target sky.target && is_name site sky.site) (skies_told scripts history))

-- the latest accepted `visibility` line of the target at the site has second x in one of its spans
abbrev pub IsSkyByLatest : List (List ScriptLine) → List EventEntry → List ℕ → List ℕ → ℕ → Type 0
IsSkyByLatest scripts history target site x = IsSomeAnd (last_sky scripts history target site) (λ sky. IsTrue (has sky.spans x))
