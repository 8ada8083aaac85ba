use Rattle.std.proofs.Common.{◌<◌, Result, Ok, Err, IfOk, IfErr, sym, ◌∙◌, arith}
use Rattle.serde_json.specs.Data.{members_depth}
use Rattle.plan_json.specs.declared.member.Member.TheVariants as key
use Rattle.plan_json.specs.Shown.{members_of, elements_of, element_of, named_by}
use Rattle.group_trees.specs.Reading.{deepest}
use Rattle.group_trees.proofs.Nested.{children_deep, inner_deep, tree_in_listed}
use Rattle.group_trees.proofs.read.+read.Goals as goal

ok_weaker : {T E : Type 0} (r : Result T E) (P Q : T → Type 0) → ((x : T) → P x → Q x) → IfOk r P → IfOk r Q
ok_weaker (Ok x) P Q f h = f x h
ok_weaker (Err e) P Q f h = h

err_weaker : {T E : Type 0} (r : Result T E) (P Q : E → Type 0) → ((x : E) → P x → Q x) → IfErr r P → IfErr r Q
err_weaker (Ok x) P Q f h = h
err_weaker (Err e) P Q f h = f e h

pub read_element-returns-clause-value : goal.read_element-returns-clause-value
read_element-returns-clause-value t c =
    ok_weaker c.read_object.result _ _ (λ x h. tree_in_listed (named_by c.args.list.now) (element_of c.args.list.now c.args.index)
    ∙ h) c.read_object.ensures.value

pub read_element-returns-clause-fault : goal.read_element-returns-clause-fault
read_element-returns-clause-fault t c =
    err_weaker c.read_object.result _ _ (λ e h told. tree_in_listed (named_by c.args.list.now) (element_of c.args.list.now c.args.index)
    ∙ h told) c.read_object.ensures.fault

pub read_children-read_all-requires : goal.read_children-read_all-requires
read_children-read_all-requires t c =
    let deep : deepest (elements_of c.in_ok-children.children) < members_depth (members_of c.args.doc.now) =
    children_deep (members_of c.args.doc.now) key.Children 0 32 (elements_of c.in_ok-children.children) (sym c.in_ok-children.ensures.value) in
    (omega (arith, deep, c.decreases), tt)

pub read_object-read_tree-requires : goal.read_object-read_tree-requires
read_object-read_tree-requires t c =
    let deep : members_depth (members_of c.in_ok-object.object) < deepest (elements_of c.args.list.now) =
    inner_deep (named_by c.args.list.now) (elements_of c.args.list.now) c.args.index (members_of c.in_ok-object.object) c.requires
    (sym c.in_ok-object.ensures) in
    (omega (arith, deep, c.decreases), tt)
