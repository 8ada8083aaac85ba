use Rattle.bound_checker.proofs.Requested.{group_here}
use Rattle.bound_checker.proofs.known.known_group.Goals as goal

pub returns-clause-value : goal.returns-clause-value
returns-clause-value c = group_here c.args.snapshot.now c.args.request.0 c.known_place.result c.group_at.result c.requires
    c.known_place.ensures.value c.group_at.ensures.value
