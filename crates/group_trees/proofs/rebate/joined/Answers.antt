use Rattle.std.proofs.Common.{◌≡◌, ◌⊎◌, inl, inr, ℤ, ◌+ℤ◌, ◌≤ℤ◌, ◌∙◌, subst}
use Rattle.group_trees.specs.declared.rebate.Greatest.{Greatest}
use Rattle.group_trees.specs.declared.rebate.Joint.{Joint}
use Rattle.group_trees.specs.Pairs.{IsJoined}
use Rattle.group_trees.proofs.rebate.joined.Goals as goal

joins : (first rest x : Greatest) (joint : Joint) → joint.any ≡ first.any +ℤ rest.any → joint.left ≡ first.some +ℤ rest.any
    → joint.right ≡ first.any +ℤ rest.some
    → x.any ≡ joint.any → joint.left ≤ℤ x.some → joint.right ≤ℤ x.some → (x.some ≡ joint.left) ⊎ (x.some ≡ joint.right) → IsJoined first rest x
joins first rest x joint any left right same low high one = record {
  any = same ∙ any;
  left = subst (λ (z : ℤ). z ≤ℤ x.some) left low;
  right = subst (λ (z : ℤ). z ≤ℤ x.some) right high;
  one = elim one [ inl e ↦ inl (e ∙ left) | inr e ↦ inr (e ∙ right) ];
}

pub returns : goal.returns
returns c = joins c.args.first c.args.rest c.some_joint.result c.joint_of.result c.joint_of.ensures.any c.joint_of.ensures.left
    c.joint_of.ensures.right c.some_joint.ensures.any c.some_joint.ensures.left c.some_joint.ensures.right c.some_joint.ensures.one
