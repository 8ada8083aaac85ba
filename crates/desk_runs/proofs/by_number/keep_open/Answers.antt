use Rattle.std.proofs.Common.{rules}
use Rattle.std.proofs.lemmas.Fn.{filter_same}
use Rattle.desk_runs.specs.Turning.{is_open_at}
use Rattle.desk_runs.proofs.by_number.keep_open.Goals as goal

pub returns : goal.returns
returns c = filter_same _ (is_open_at c.args.groups.now) _ (λ x b f' k. search rules) _ _ c.retain.ensures.filtered
