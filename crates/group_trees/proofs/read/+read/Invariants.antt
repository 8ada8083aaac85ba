use Rattle.std.proofs.Common.{◌≡◌, ◌+◌, ◌*◌, ◌++◌, drop}
use Rattle.serde_json.specs.Data.{members_depth}
use Rattle.plan_json.specs.Reading.{result_map, read_each}
use Rattle.plan_json.specs.Shown.{members_of, elements_of, named_by}
use Rattle.group_trees.specs.Trees.{trees_seen}
use Rattle.group_trees.specs.Reading.{tree_in, deepest}
use Rattle.group_trees.proofs.read.+read.Given as goal

abbrev pub decreases-read_tree : goal.decreases-read_tree
decreases-read_tree l = 4 * members_depth (members_of l.doc.now) + 1

abbrev pub decreases-read_children : goal.decreases-read_children
decreases-read_children l = 4 * members_depth (members_of l.doc.now)

abbrev pub decreases-read_all : goal.decreases-read_all
decreases-read_all l = 4 * deepest (elements_of l.list.now) + 3

abbrev pub decreases-read_element : goal.decreases-read_element
decreases-read_element l = 4 * deepest (elements_of l.list.now) + 2

abbrev pub decreases-read_object : goal.decreases-read_object
decreases-read_object l = 4 * deepest (elements_of l.list.now) + 1

-- the trees so far, before those that are left
abbrev pub invariant-read_all-loop-index : goal.invariant-read_all-loop-index
invariant-read_all-loop-index l =
    result_map (λ rest. trees_seen l.trees.items ++ rest) (read_each (tree_in (named_by l.list)) (drop l.index (elements_of l.list)))
    ≡ read_each (tree_in (named_by l.list)) (elements_of l.list)
