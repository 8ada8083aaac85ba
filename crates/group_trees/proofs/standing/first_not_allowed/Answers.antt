use Rattle.std.proofs.Common.{Bool, List, sym, subst}
use Rattle.plan_base.specs.declared.parts.Parts.{Parts}
use Rattle.plan_base.specs.Feasible.{requests_of}
use Rattle.group_trees.specs.Standings.{AreFlags}
use Rattle.group_trees.specs.Built.{snapshot_of}
use Rattle.group_trees.proofs.standing.first_not_allowed.Goals as goal

pub returns : goal.returns
returns c =
    c.first_broken.ensures c.args.plan.now
    (subst (λ (xs : List Bool). AreFlags (snapshot_of c.args.forest.now) (requests_of c.args.plan.now) xs) (sym c.as_slice.ensures.value)
    (subst (λ (p : Parts). AreFlags p (requests_of c.args.plan.now) c.in_ok-flags.flags.items) c.snapshot.ensures c.in_ok-flags.ensures))
