use Rattle.std.proofs.Common.{map, ◌∙◌, ap}
use Rattle.plan_base.specs.Requests.{listed}
use Rattle.plan_base.specs.Round.{uses_of}
use Rattle.interval_solver.specs.Uses.{Started}
use Rattle.interval_solver.proofs.Used.{all_counted}
use Rattle.interval_solver.proofs.uses.Uses.counts.Goals as goal

pub returns : goal.returns
returns c =
    c.as_slice.ensures.value
    ∙ all_counted c.self.inside.snapshot.now c.self.inside.starts.items c.self.inside.places.items c.self.inside.counts.items
    c.recall_valid.ensures.orderly c.self.invariant.0
    ∙ ap (λ (u : Started). map (λ x. uses_of u.starts x.request.request.0) (listed u.snapshot)) c.self.view_is
