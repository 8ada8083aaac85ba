use Rattle.std.proofs.Common.{◌≡◌, ◌≢◌, ◌==◌, ℕ, Bool, false, List, length, All, refl, sym, ap, ◌∙◌, subst, arith}
use Rattle.std.proofs.lemmas.Bool.Decides.{nat_tests}
use Rattle.plan_base.specs.declared.parts.Parts.{Parts}
use Rattle.plan_base.specs.declared.parts.GroupPart.{GroupPart}
use Rattle.plan_base.specs.declared.parts.Op.TheVariants.{Single}
use Rattle.group_trees.proofs.Faults.{single_first, quota_first}
use Rattle.group_trees.proofs.forest.snapshot_fault.Goals as goal

some_quota : (n m : ℕ) (b : Bool) → b ≡ (n == 0) → b ≡ false → n ≡ m → m ≢ 0
some_quota n m b e h same = λ none. let is : (n == 0) ≡ false = sym e ∙ h in absurd (zero_tested n (same ∙ none) is)
  where
    zero_tested : (n : ℕ) → n ≡ 0 → (n == 0) ≡ false → ⊥
    zero_tested n e h = grind (arith, nat_tests)

pub returns-in-Some : goal.returns-in-Some
returns-in-Some c = λ trees.
    single_first c.args.snapshot.now trees c.as_slice-groups.result.now c.in-Some.place c.index-groups-place.result _
    (c.as_slice-groups.ensures ∙ ap (λ (x : Parts). x.groups) c.parts.ensures.value) refl c.in-Some.ensures

pub returns-then-not-is_empty : goal.returns-then-not-is_empty
returns-then-not-is_empty c = λ trees.
    quota_first c.args.snapshot.now trees
    (subst (λ (xs : List GroupPart). All (λ x. x.op ≡ Single) xs)
    (c.as_slice-groups.ensures ∙ ap (λ (x : Parts). x.groups) c.parts.ensures.value) c.in_default.ensures)
    (some_quota (length c.parts-2.result.now.quotas) (length c.args.snapshot.now.quotas) c.is_empty.result c.is_empty.ensures c.if-not-is_empty.true
    (ap (λ (x : Parts). length x.quotas) c.parts-2.ensures.value))
