-- The first fault of trees, from what the tests found.
use Rattle.std.proofs.Common.{◌≡◌, ◌≢◌, ℕ, ◌≤◌, ◌<◌, Bool, true, false, nat_le, List, length, slice_get, slice_index_or, Some, All, sym, ◌∙◌, ap, subst, arith}
use Rattle.std.proofs.lemmas.Bool.Decides.{nat_tests}
use Rattle.std.proofs.lemmas.List.{get_or_default}
use Rattle.std.proofs.lemmas.Option.{slice_get_within, get_or_from_slice_get}
use Rattle.plan_base.specs.declared.parts.Parts.{Parts}
use Rattle.plan_base.specs.declared.parts.GroupPart.{GroupPart}
use Rattle.plan_base.specs.declared.parts.Op.TheVariants.{Single}
use Rattle.plan_base.specs.declared.number.GroupNo.{GroupNo}
use Rattle.plan_base.specs.declared.number.RequestNo.{RequestNo}
use Rattle.plan_base.specs.Verdict.{IsFirst}
use Rattle.group_trees.specs.declared.fault.ForestFault.{ForestFault}
use Rattle.group_trees.specs.declared.fault.ForestFault.TheVariants.{NotSingle, HasQuota, TreeDeep, TreeEmpty, TreeLeaf, NoMemory}
use Rattle.group_trees.specs.Trees.{Node, levels, is_full}
use Rattle.group_trees.specs.Forests.{forest_leaves, IsWrongLeaf, IsAt, AreSingles, IsForestFault, rank_of_fault, IsFirstFault}

holds_at_read : {X : Type 0} (P : X → Type 0) (xs : List X) (i : ℕ) (x : X) → All P xs → slice_get xs i ≡ Some x → P x
holds_at_read P xs i x a e = subst P (get_or_from_slice_get xs i x x e) (a i x (slice_get_within xs i x e))

pub within_from_test : (n m : ℕ) (b : Bool) → b ≡ nat_le n m → b ≡ true → n ≤ m
within_from_test n m b e h = let is : nat_le n m ≡ true = sym e ∙ h in grind (arith, nat_tests)

-- no fault of a rank below n holds
before : (s : Parts) (trees : List Node) (n : ℕ) (other : ForestFault) → n ≤ 5 → (1 < n → All (λ x. x.op ≡ Single) s.groups)
    → (2 < n → length s.quotas ≡ 0) → (3 < n → All (λ t. levels t ≤ 16) trees) → (4 < n → All (λ t. is_full t ≡ true) trees)
    → rank_of_fault other < n → ¬ (IsForestFault s trees other)
before s trees n (NotSingle group) l single quota shallow full m (g, ((x, read, not), first), named) =
    not (holds_at_read (λ y. y.op ≡ Single) s.groups g x (single m) read)
before s trees n HasQuota l single quota shallow full m h = h (quota m)
before s trees n (TreeDeep tree) l single quota shallow full m ((t, read, deep), first) = let most : levels t ≤ 16 =
    holds_at_read (λ u. levels u ≤ 16) trees tree t (shallow m) read in omega arith
before s trees n (TreeEmpty tree) l single quota shallow full m ((t, read, empty), first) =
    let is : is_full t ≡ true = holds_at_read (λ u. is_full u ≡ true) trees tree t (full m) read in
    let bad : false ≡ true = sym empty ∙ is in
    cc
before s trees n (TreeLeaf request) l single quota shallow full m h = omega (arith, m)
before s trees n NoMemory l single quota shallow full m h = h

pub single_first : (s : Parts) (trees : List Node) (groups : List GroupPart) (place : ℕ) (x : GroupPart) (number : GroupNo) → groups ≡ s.groups
    → number ≡ (slice_index_or groups place x).group → IsFirst (IsAt (λ y. y.op ≢ Single) groups) place
    → IsFirstFault s trees (NotSingle number)
single_first s trees groups place x number e is first =
    let there : IsFirst (IsAt (λ y. y.op ≢ Single) s.groups) place = subst (λ (ys : List GroupPart). IsFirst (IsAt (λ y. y.op ≢ Single) ys) place) e first in
    let within : place < length groups = slice_get_within groups place first.0.0 first.0.1 in (
      (
        place,
        there,
        λ d. ap (λ (ys : List GroupPart). (slice_index_or ys place d).group) (sym e)
            ∙ ap (λ (y : GroupPart). y.group) (get_or_default groups place d x within) ∙ sym is,
      ),
      λ other l. before s trees 1 other (omega arith) (λ m. absurd (omega arith)) (λ m. absurd (omega arith)) (λ m. absurd (omega arith))
          (λ m. absurd (omega arith)) l,
    )

pub quota_first : (s : Parts) (trees : List Node) → All (λ x. x.op ≡ Single) s.groups → length s.quotas ≢ 0 → IsFirstFault s trees HasQuota
quota_first s trees single some = (
  some,
  λ other l. before s trees 2 other (omega arith) (λ m. single) (λ m. absurd (omega arith)) (λ m. absurd (omega arith))
      (λ m. absurd (omega arith)) l,
)

pub deep_first : (s : Parts) (trees : List Node) (tree : ℕ) → AreSingles s → IsFirst (IsAt (λ t. 16 < levels t) trees) tree
    → IsFirstFault s trees (TreeDeep tree)
deep_first s trees tree singles h = (
  h,
  λ other l. before s trees 3 other (omega arith) (λ m. singles.single) (λ m. singles.no_quota) (λ m. absurd (omega arith))
      (λ m. absurd (omega arith)) l,
)

pub empty_first : (s : Parts) (trees : List Node) (tree : ℕ) → AreSingles s → All (λ t. levels t ≤ 16) trees
    → IsFirst (IsAt (λ t. is_full t ≡ false) trees) tree → IsFirstFault s trees (TreeEmpty tree)
empty_first s trees tree singles shallow h =
    (h, λ other l. before s trees 4 other (omega arith) (λ m. singles.single) (λ m. singles.no_quota) (λ m. shallow) (λ m. absurd (omega arith)) l)

pub leaf_first : (s : Parts) (trees : List Node) (request : RequestNo) → AreSingles s → All (λ t. levels t ≤ 16) trees
    → All (λ t. is_full t ≡ true) trees → IsFirst (IsWrongLeaf s (forest_leaves trees)) request.0 → IsFirstFault s trees (TreeLeaf request)
leaf_first s trees request singles shallow full h =
    (h, λ other l. before s trees 5 other (omega arith) (λ m. singles.single) (λ m. singles.no_quota) (λ m. shallow) (λ m. full) l)
