-- What a forest was built of.
use Rattle.std.specs.Prelude.{List}
use Rattle.plan_base.specs.declared.parts.Parts.{Parts}
use Rattle.group_trees.specs.declared.forest.Forest.{Forest}
use Rattle.group_trees.specs.Trees.{Node, trees_seen}

-- its trees
abbrev pub trees_of : Forest → List Node
trees_of forest = trees_seen forest.trees.items

-- the snapshot that it was built for
abbrev pub snapshot_of : Forest → Parts
snapshot_of forest = forest.snapshot.now
