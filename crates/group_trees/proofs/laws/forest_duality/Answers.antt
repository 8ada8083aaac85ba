use Rattle.std.proofs.Common.{subst}
use Rattle.plan_base.specs.Snapshot.{IsOrderly}
use Rattle.group_trees.specs.Built.{snapshot_of, trees_of}
use Rattle.group_trees.proofs.ForestDuality.{duality}
use Rattle.group_trees.proofs.laws.forest_duality.Goals as goal

pub returns : goal.returns
returns c = λ plan bound f h. duality (snapshot_of c.args.forest.now) (trees_of c.args.forest.now) c.args.prices.now.0 plan bound
    (subst IsOrderly c.snapshot.ensures c.recall_valid.ensures.orderly) c.recall_sound.ensures f h
