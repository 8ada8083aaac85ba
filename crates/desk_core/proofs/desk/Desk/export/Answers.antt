use Rattle.std.proofs.Common.{ap}
use Rattle.desk_events.specs.declared.refusal.Refusal.TheVariants.{NothingPublished}
use Rattle.desk_core.specs.Refusals.{refusal_in}
use Rattle.desk_core.specs.Showing.{on_export}
use Rattle.desk_core.proofs.desk.Desk.export.Goals as goal

-- nothing was published
pub returns-in_default : goal.returns-in_default
returns-in_default c = record { ok = tt; refused = λ _. (NothingPublished, ap on_export c.in_default.is, ap refusal_in c.into.ensures) }
