-- Trees in JSON values, by the elements of lists, and how deep they are.
use Rattle.std.proofs.Common.{◌≡◌, ℕ, zero, suc, ◌≤◌, ◌<◌, Bool, true, false, cond, ◌&&◌, nat_le, max, List, [], ◌∷◌, length, slice_index_or, Option}
use Rattle.std.proofs.Common.{Some, None, Result, Ok, Err, Ordering, Less, Equal, Greater, refl, sym, ◌∙◌, ap, subst, arith}
use Rattle.std.specs.Prelude.{is_some, ok_or, option_and_then}
use Rattle.std.specs.Ordering.{nat_cmp, match_ordering}
use Rattle.std.specs.Cmp.Lexicographic.{slice_cmp}
use Rattle.serde_json.specs.Data.{Data, null, boolean, number, string, array, object, Items, no_items, item, Members, no_members, member, depth}
use Rattle.serde_json.specs.Data.{items_depth, members_depth}
use Rattle.serde_json.specs.Find.{get_member}
use Rattle.plan_json.specs.declared.member.Member.{Member}
use Rattle.plan_json.specs.declared.member.Member.TheVariants as key
use Rattle.plan_json.specs.declared.fault.JsonFault.{JsonFault}
use Rattle.plan_json.specs.declared.fault.JsonFault.TheVariants.{Missing, OutOfRange}
use Rattle.plan_json.specs.Member.{name_of}
use Rattle.plan_json.specs.Object.{unless_null, value_of, member_of, object_in}
use Rattle.plan_json.specs.List.{elements, list_in}
use Rattle.plan_json.specs.Reading.{result_map, result_and_then, ◌>>=◌, read_each}
use Rattle.plan_json.specs.Whole.{number_in}
use Rattle.plan_json.specs.Elements.{each_of}
use Rattle.group_trees.specs.declared.branch.Branch.{Branch}
use Rattle.std.proofs.lemmas.Bool.Decides.{nat_tests}
use Rattle.group_trees.specs.Trees.{Node, leaf, Nodes, and_then, nodes_of}
use Rattle.group_trees.specs.Reading.{branch_in, grown, tree_in, children_under, children_in, nodes_in, tree_with, tree_of, tree_listed, deepest}

-- ---- children by the elements of their list

map_cons : (t : Node) (r : Result (List Node) JsonFault) → result_map (and_then t) (result_map nodes_of r) ≡ result_map nodes_of (result_map (λ ts. t ∷ ts) r)
map_cons t (Ok ts) = refl
map_cons t (Err e) = refl

step : (a : Result Node JsonFault) (r : Result Nodes JsonFault) (q : Result (List Node) JsonFault) → r ≡ result_map nodes_of q
    → result_and_then (λ t. result_map (and_then t) r) a ≡ result_map nodes_of (result_and_then (λ t. result_map (λ ts. t ∷ ts) q) a)
step (Ok t) r q e = ap (result_map (and_then t)) e ∙ map_cons t q
step (Err x) r q e = refl

nodes_by_elements : (ds : Items) → nodes_in ds ≡ result_map nodes_of (read_each (tree_in key.Children) (elements ds))
nodes_by_elements no_items = refl
nodes_by_elements (item d ds) = step (tree_in key.Children d) (nodes_in ds) (read_each (tree_in key.Children) (elements ds)) (nodes_by_elements ds)

-- the children that a value is read as, where the member is there
abbrev children_read : Option Data → Result Nodes JsonFault
children_read o = result_map nodes_of (result_and_then (λ d. list_in key.Children 0 32 d >>= read_each (tree_in key.Children)) (ok_or o (Missing key.Children)))

in_range : (b : Bool) (ds : Items)
    → cond b (nodes_in ds) (Err (OutOfRange key.Children))
    ≡ result_map nodes_of (result_and_then (read_each (tree_in key.Children)) (cond b (Ok (elements ds)) (Err (OutOfRange key.Children))))
in_range true ds = nodes_by_elements ds
in_range false ds = refl

none_least : (n : ℕ) → nat_le 0 n ≡ true
none_least n = grind (arith, nat_tests)

children_by_list : (d : Data) → children_in d ≡ children_read (unless_null d)
children_by_list null = refl
children_by_list (boolean b) = refl
children_by_list (number n) = refl
children_by_list (string s) = refl
children_by_list (array ds) =
    in_range (nat_le (length (elements ds)) 32) ds
    ∙ ap (λ (b : Bool). result_map nodes_of
    (result_and_then (read_each (tree_in key.Children))
    (cond (b && nat_le (length (elements ds)) 32) (Ok (elements ds)) (Err (OutOfRange key.Children))))) (sym (none_least (length (elements ds))))
children_by_list (object ms) = refl

found : (o : Ordering) (d : Data) (rest : Result Nodes JsonFault) (found_rest : Option Data) → rest ≡ children_read (option_and_then unless_null found_rest)
    → match_ordering o rest (children_in d) rest ≡ children_read (option_and_then unless_null (match_ordering o found_rest (Some d) found_rest))
found Less d rest found_rest e = e
found Equal d rest found_rest e = children_by_list d
found Greater d rest found_rest e = e

pub children_by_member : (ms : Members) → children_under ms ≡ result_map nodes_of (each_of tree_in 0 32 ms key.Children)
children_by_member ms = found_under ms ∙ same (ok_or (value_of ms key.Children) (Missing key.Children))
  where
    found_under : (ms : Members) → children_under ms ≡ children_read (option_and_then unless_null (get_member (name_of key.Children) ms))
    found_under no_members = refl
    found_under (member k d ms) = found (slice_cmp nat_cmp (name_of key.Children) k) d (children_under ms)
        (get_member (name_of key.Children) ms) (found_under ms)

    same : (r : Result Data JsonFault) → result_map nodes_of (result_and_then (λ d. list_in key.Children 0 32 d >>= read_each (tree_in key.Children)) r)
        ≡ result_map nodes_of (result_and_then (read_each (tree_in key.Children)) (result_and_then (list_in key.Children 0 32) r))
    same (Ok d) = refl
    same (Err e) = refl

-- ---- depths

max_left : (a b : ℕ) → a ≤ max a b
max_left a b = grind arith

max_right : (a b : ℕ) → b ≤ max a b
max_right a b = grind arith

elements_deep : (ds : Items) → deepest (elements ds) ≡ items_depth ds
elements_deep no_items = refl
elements_deep (item d ds) = ap (λ (n : ℕ). max (depth d) n) (elements_deep ds)

some_value : (x y : Data) → Some x ≡ Some y → x ≡ y
some_value x y e = ap (λ (o : Option Data). elim o [ None ↦ x | Some z ↦ z ]) e

deep_step : (o : Ordering) (x d : Data) (rest : Option Data) (n : ℕ) → (rest ≡ Some d → depth d ≤ n) → match_ordering o rest (Some x) rest ≡ Some d
    → depth d ≤ max (depth x) n
deep_step Less x d rest n h e = let below : depth d ≤ n = h e in let up : n ≤ max (depth x) n = max_right (depth x) n in omega arith
deep_step Equal x d rest n h e = subst (λ (y : Data). depth y ≤ max (depth x) n) (some_value x d e) (max_left (depth x) n)
deep_step Greater x d rest n h e = let below : depth d ≤ n = h e in let up : n ≤ max (depth x) n = max_right (depth x) n in omega arith

member_deep : (k : List ℕ) (ms : Members) (d : Data) → get_member k ms ≡ Some d → depth d ≤ members_depth ms
member_deep k no_members d e = cc
member_deep k (member l x ms) d e = deep_step (slice_cmp nat_cmp k l) x d (get_member k ms) (members_depth ms) (member_deep k ms d) e

value_deep : (ms : Members) (m : Member) (d : Data) → value_of ms m ≡ Some d → depth d ≤ members_depth ms
value_deep ms m d e = by (get_member (name_of m) ms) refl e
  where
    same_value : (x d : Data) → unless_null x ≡ Some d → x ≡ d
    same_value null d e = cc
    same_value (boolean b) d e = some_value (boolean b) d e
    same_value (number n) d e = some_value (number n) d e
    same_value (string s) d e = some_value (string s) d e
    same_value (array ds) d e = some_value (array ds) d e
    same_value (object ns) d e = some_value (object ns) d e

    by : (o : Option Data) → get_member (name_of m) ms ≡ o → option_and_then unless_null o ≡ Some d → depth d ≤ members_depth ms
    by None f e = cc
    by (Some x) f e = subst (λ (y : Data). depth y ≤ members_depth ms) (same_value x d e) (member_deep (name_of m) ms x f)

ok_same : {X : Type 0} (x y : X) → let r : Result X JsonFault = Ok x in r ≡ Ok y → x ≡ y
ok_same x y e = ap (λ (r : Result _ JsonFault). elim r [ Ok z ↦ z | Err f ↦ x ]) e

list_deep : (m : Member) (least most : ℕ) (d : Data) (xs : List Data) → list_in m least most d ≡ Ok xs → deepest xs < depth d
list_deep m least most null xs e = cc
list_deep m least most (boolean b) xs e = cc
list_deep m least most (number n) xs e = cc
list_deep m least most (string s) xs e = cc
list_deep m least most (array ds) xs e = by (nat_le least (length (elements ds)) && nat_le (length (elements ds)) most) e
  where
    by : (b : Bool) → cond b (Ok (elements ds)) (Err (OutOfRange m)) ≡ Ok xs → deepest xs < suc (items_depth ds)
    by true e =
        let same : deepest (elements ds) ≡ deepest xs = ap deepest (ok_same (elements ds) xs e) in
        let deep : deepest (elements ds) ≡ items_depth ds = elements_deep ds in
        omega arith
    by false e = cc
list_deep m least most (object ms) xs e = cc

-- the elements of a member's list are less deep than the object
pub children_deep : (ms : Members) (m : Member) (least most : ℕ) (xs : List Data) → member_of (λ k. list_in k least most) ms m ≡ Ok xs
    → deepest xs < members_depth ms
children_deep ms m least most xs e = by (value_of ms m) refl e
  where
    by : (o : Option Data) → value_of ms m ≡ o → result_and_then (list_in m least most) (ok_or o (Missing m)) ≡ Ok xs → deepest xs < members_depth ms
    by None f e = cc
    by (Some d) f e =
        let inner : deepest xs < depth d = list_deep m least most d xs e in
        let outer : depth d ≤ members_depth ms = value_deep ms m d f in
        omega arith

element_deep : (ds : List Data) (i : ℕ) → i < length ds → depth (slice_index_or ds i null) ≤ deepest ds
element_deep [] i l = absurd (omega arith)
element_deep (d ∷ ds) zero l = max_left (depth d) (deepest ds)
element_deep (d ∷ ds) (suc i) l =
    let rest : depth (slice_index_or ds i null) ≤ deepest ds = element_deep ds i (omega arith) in
    let up : deepest ds ≤ max (depth d) (deepest ds) = max_right (depth d) (deepest ds) in
    omega arith

object_deep : (m : Member) (d : Data) (ms : Members) → object_in m d ≡ Ok ms → members_depth ms < depth d
object_deep m null ms e = cc
object_deep m (boolean b) ms e = cc
object_deep m (number n) ms e = cc
object_deep m (string s) ms e = cc
object_deep m (array ds) ms e = cc
object_deep m (object ns) ms e = let same : members_depth ns ≡ members_depth ms = ap members_depth (ok_same ns ms e) in omega arith

-- an object in a list is less deep than the list
pub inner_deep : (m : Member) (ds : List Data) (i : ℕ) (ms : Members) → i < length ds → object_in m (slice_index_or ds i null) ≡ Ok ms
    → members_depth ms < deepest ds
inner_deep m ds i ms l e =
    let one : members_depth ms < depth (slice_index_or ds i null) = object_deep m (slice_index_or ds i null) ms e in
    let all : depth (slice_index_or ds i null) ≤ deepest ds = element_deep ds i l in
    omega arith

-- ---- what is read

over_same : (ms : Members) (r : Result (List Node) JsonFault)
    → (member_of branch_in ms key.Operator >>= λ kind. result_map (grown kind) (result_map nodes_of r))
    ≡ (member_of branch_in ms key.Operator >>= λ kind. r >>= λ ts. Ok (grown kind (nodes_of ts)))
over_same ms r = by (member_of branch_in ms key.Operator) r
  where
    by : (b : Result Branch JsonFault) (r : Result (List Node) JsonFault)
        → (b >>= λ kind. result_map (grown kind) (result_map nodes_of r)) ≡ (b >>= λ kind. r >>= λ ts. Ok (grown kind (nodes_of ts)))
    by (Ok kind) (Ok ts) = refl
    by (Ok kind) (Err e) = refl
    by (Err e) r = refl

-- a tree by the elements of its list of children
tree_by_list : (ms : Members) → tree_of ms ≡ tree_listed ms
tree_by_list ms =
    ap (tree_with ms) (children_by_member ms)
    ∙ ap (λ (r : Result Node JsonFault). cond (is_some (value_of ms key.Leaf)) (result_map leaf (member_of (number_in 0 4294967295) ms key.Leaf)) r)
    (over_same ms (each_of tree_in 0 32 ms key.Children))

-- a value is a tree where it is an object that is one
pub tree_in_listed : (m : Member) (d : Data) → tree_in m d ≡ result_and_then tree_listed (object_in m d)
tree_in_listed m null = refl
tree_in_listed m (boolean b) = refl
tree_in_listed m (number n) = refl
tree_in_listed m (string s) = refl
tree_in_listed m (array ds) = refl
tree_in_listed m (object ms) = tree_by_list ms
