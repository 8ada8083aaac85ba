use Rattle.std.proofs.Common.{subst}
use Rattle.group_trees.specs.Turned.{IsTurned}
use Rattle.group_trees.specs.Built.{snapshot_of, trees_of}
use Rattle.group_trees.proofs.check.judge.Goals as goal

pub returns-in-Placed : goal.returns-in-Placed
returns-in-Placed c = subst (IsTurned (snapshot_of c.args.forest.now) c.args.claim.now) c.in-Placed.is c.requires (trees_of c.args.forest.now)
