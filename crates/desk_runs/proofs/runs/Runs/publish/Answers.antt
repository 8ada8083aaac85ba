use Rattle.desk_runs.specs.Inside.{progress_of}
use Rattle.desk_runs.proofs.Adding.{published_sound}
use Rattle.desk_runs.proofs.runs.Runs.publish.Goals as goal

pub invariant_of-self : goal.invariant_of-self
invariant_of-self c =
    let can = rw (← c.self.view_is) at c.requires in
    record {
      sound = published_sound (progress_of c.self.inside) c.args.observations c.self.invariant.sound can;
      opened = c.self.invariant.opened;
      owners = c.self.invariant.owners;
      pending = c.self.invariant.pending;
      few_groups = c.self.invariant.few_groups;
      few_requests = c.self.invariant.few_requests;
    }
