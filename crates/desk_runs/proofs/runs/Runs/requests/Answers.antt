use Rattle.std.proofs.Common.{◌∙◌, ap, length}
use Rattle.desk_runs.proofs.Places.{owners_length}
use Rattle.desk_runs.proofs.runs.Runs.requests.Goals as goal

pub returns : goal.returns
returns c = rw (← c.self.view_is) (ap length c.as_slice.ensures.value ∙ ap length c.self.invariant.owners ∙ owners_length 0 c.self.inside.groups.items)
