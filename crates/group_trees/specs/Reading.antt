-- Which JSON values are trees.
use Rattle.std.specs.Prelude.{ℕ, nat_le, max, List, [], ◌∷◌, length, is_some, if◌then◌else◌, Result, Ok, Err}
use Rattle.std.specs.Ordering.{nat_cmp, match_ordering}
use Rattle.std.specs.Cmp.Lexicographic.{slice_cmp}
use Rattle.plan_base.specs.Limits.{most_number}
use Rattle.serde_json.specs.Data.{Data, null, boolean, number, string, array, object, Items, no_items, item, Members, no_members, member, depth}
use Rattle.plan_base.specs.declared.parts.Op.{Op}
use Rattle.plan_base.specs.declared.parts.Op.TheVariants.{Single, Many, OneOf, And}
use Rattle.plan_json.specs.declared.member.Member.{Member}
use Rattle.plan_json.specs.declared.member.Member.TheVariants as key
use Rattle.plan_json.specs.declared.fault.JsonFault.{JsonFault}
use Rattle.plan_json.specs.declared.fault.JsonFault.TheVariants.{Missing, WrongKind, OutOfRange}
use Rattle.plan_json.specs.Member.{name_of}
use Rattle.plan_json.specs.Object.{value_of, member_of}
use Rattle.plan_json.specs.List.{elements}
use Rattle.plan_json.specs.Operator.{operator_in}
use Rattle.plan_json.specs.Reading.{result_map, ◌>>=◌}
use Rattle.plan_json.specs.Whole.{number_in}
use Rattle.plan_json.specs.Elements.{each_of}
use Rattle.group_trees.specs.declared.branch.Branch.{Branch}
use Rattle.group_trees.specs.declared.branch.Branch.TheVariants as branch
use Rattle.group_trees.specs.Trees.{Node, leaf, many, one_of, all_of, Nodes, none, and_then, nodes_of}

-- the most children of a node that is read
abbrev pub most_children : ℕ
most_children = 32

-- the most trees of a document
abbrev pub most_trees : ℕ
most_trees = 1024

-- the kind of node, which is no SINGLE
abbrev pub branch_of : Member → Op → Result Branch JsonFault
branch_of m Single = Err (OutOfRange m)
branch_of m Many = Ok branch.Many
branch_of m OneOf = Ok branch.OneOf
branch_of m And = Ok branch.And

-- the kind of node that a value is: `MANY`, `ONEOF` or `AND`; `SINGLE` is out of range
abbrev pub branch_in : Member → Data → Result Branch JsonFault
branch_in m d = operator_in m d >>= branch_of m

-- the node of a kind over children
abbrev pub grown : Branch → Nodes → Node
grown branch.Many ts = many ts
grown branch.OneOf ts = one_of ts
grown branch.And ts = all_of ts

-- the tree that an object is, whose `children` are read as these: `leaf` is read where it is there, and else `operator`, then `children`
abbrev pub tree_with : Members → Result Nodes JsonFault → Result Node JsonFault
tree_with ms children =
    if is_some (value_of ms key.Leaf) then result_map leaf (member_of (number_in 0 most_number) ms key.Leaf)
    else (member_of branch_in ms key.Operator >>= λ kind. result_map (grown kind) children)

abbrev mutual
  -- the tree that a value is, an element of the list that the member is
  pub tree_in : Member → Data → Result Node JsonFault
  tree_in m null = Err (WrongKind m)
  tree_in m (boolean b) = Err (WrongKind m)
  tree_in m (number n) = Err (WrongKind m)
  tree_in m (string s) = Err (WrongKind m)
  tree_in m (array ds) = Err (WrongKind m)
  tree_in m (object ms) = tree_with ms (children_under ms)

  -- what the member `children` is read as
  pub children_under : Members → Result Nodes JsonFault
  children_under no_members = Err (Missing key.Children)
  children_under (member k d ms) = match_ordering (slice_cmp nat_cmp (name_of key.Children) k) (children_under ms) (children_in d) (children_under ms)

  -- the nodes that a value is: a list of at most 32, each read whole before the next
  pub children_in : Data → Result Nodes JsonFault
  children_in null = Err (Missing key.Children)
  children_in (boolean b) = Err (WrongKind key.Children)
  children_in (number n) = Err (WrongKind key.Children)
  children_in (string s) = Err (WrongKind key.Children)
  children_in (array ds) = if nat_le (length (elements ds)) most_children then nodes_in ds else Err (OutOfRange key.Children)
  children_in (object ms) = Err (WrongKind key.Children)

  -- the nodes that the items are, each an element of `children`
  pub nodes_in : Items → Result Nodes JsonFault
  nodes_in no_items = Ok none
  nodes_in (item d ds) = tree_in key.Children d >>= λ t. result_map (and_then t) (nodes_in ds)

-- the tree that an object is
abbrev pub tree_of : Members → Result Node JsonFault
tree_of ms = tree_with ms (children_under ms)

-- the same by the elements of the list of children
abbrev pub tree_listed : Members → Result Node JsonFault
tree_listed ms =
    if is_some (value_of ms key.Leaf) then result_map leaf (member_of (number_in 0 most_number) ms key.Leaf)
    else (member_of branch_in ms key.Operator >>= λ kind. each_of tree_in 0 most_children ms key.Children >>= λ ts. Ok (grown kind (nodes_of ts)))

-- the trees that a document has: `trees`, a list of at most 1,024
abbrev pub trees_given : Members → Result (List Node) JsonFault
trees_given ms = each_of tree_in 0 most_trees ms key.Trees

-- how deep the deepest of the values is
abbrev pub deepest : List Data → ℕ
deepest [] = 0
deepest (d ∷ ds) = max (depth d) (deepest ds)
