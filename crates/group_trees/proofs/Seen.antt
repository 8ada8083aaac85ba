-- What is seen of a tree of each kind.
use Rattle.std.proofs.Common.{◌≡◌, Vec, Global, rules}
use Rattle.plan_base.specs.declared.number.RequestNo.{RequestNo}
use Rattle.group_trees.specs.declared.tree.Tree.{Tree, Leaf, Many, OneOf, And, the_lemmas}
use Rattle.group_trees.specs.Trees.{leaf, many, one_of, all_of, seen, all_seen}

pub seen-Leaf : (r : RequestNo) → seen (Leaf r) ≡ leaf r.0
seen-Leaf r = search (rules, the_lemmas)

pub seen-Many : (v : Vec Tree Global) → seen (Many v) ≡ many (all_seen v.items)
seen-Many v = search (rules, the_lemmas)

pub seen-OneOf : (v : Vec Tree Global) → seen (OneOf v) ≡ one_of (all_seen v.items)
seen-OneOf v = search (rules, the_lemmas)

pub seen-And : (v : Vec Tree Global) → seen (And v) ≡ all_of (all_seen v.items)
seen-And v = search (rules, the_lemmas)
