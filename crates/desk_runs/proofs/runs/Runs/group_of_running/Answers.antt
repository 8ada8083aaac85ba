use Rattle.std.proofs.Common.{◌∙◌, sym, ap}
use Rattle.std.specs.Option.{option_copied}
use Rattle.desk_runs.proofs.Known.{running_found, none_is_some}
use Rattle.desk_runs.proofs.runs.Runs.group_of_running.Goals as goal

pub unreachable-requires : goal.unreachable-requires
unreachable-requires c =
    let found = running_found c.args.self.now c.args.number c.now.ensures.sound c.requires in
    none_is_some found.0 (sym (ap option_copied c.in-None.is) ∙ c.group_with.ensures ∙ found.1)
