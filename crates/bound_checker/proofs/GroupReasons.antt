-- The first reason in the kinds of the groups and in the quotas.
use Rattle.std.proofs.Common.{◌≡◌, ℕ, ◌<◌, ◌≤◌, List, length, slice_index_or, sym, ◌∙◌, ap, subst, arith}
use Rattle.std.specs.Prelude.{HoldsAt}
use Rattle.std.proofs.lemmas.List.{get_or_default}
use Rattle.plan_base.specs.declared.parts.Parts.{Parts}
use Rattle.plan_base.specs.declared.parts.GroupPart.{GroupPart}
use Rattle.plan_base.specs.declared.number.GroupNo.{GroupNo}
use Rattle.plan_base.specs.declared.claim.Claim.{Claim}
use Rattle.plan_base.specs.declared.verdict.Reason.TheVariants.{OneofTwice, AndPartial, QuotaOver}
use Rattle.plan_base.specs.Snapshot.{IsOrderly}
use Rattle.plan_base.specs.Feasible.{requests_of, quota_seconds, quota_at, IsOneofOnce, IsAndWhole, IsFeasible}
use Rattle.plan_base.specs.Verdict.{IsFirst, IsTwiceAt, IsPartialAt}
use Rattle.bound_checker.specs.Claims.{AreGroupCounts, IsTwice, IsPartial, HoldsOfGroup, AreQuotaSums}
use Rattle.bound_checker.specs.Reasons.{IsFoundFirst, ArePlaced, AreKindsKept}
use Rattle.bound_checker.proofs.GroupCounts.{twice_at, at_twice, oneof_once}
use Rattle.bound_checker.proofs.WholeGroups.{partial_at, at_partial, and_whole}
use Rattle.bound_checker.proofs.Stages.{clear_of_overlap, clear_of_oneof, clear_of_and}

-- what holds exactly where something else does first holds at the same place
same_first : (P Q : ℕ → Type 0) (i : ℕ) → ((j : ℕ) → P j → Q j) → ((j : ℕ) → Q j → P j) → IsFirst P i → IsFirst Q i
same_first P Q i to from (here, none) = (to i here, λ j l holds. none j l (from j holds))

-- the group that is read at a place is the snapshot's
pub number_at : (s : Parts) (groups : List GroupPart) (g : ℕ) (x : GroupPart) (number : GroupNo) → groups ≡ s.groups → g < length groups
    → number ≡ (slice_index_or groups g x).group → HoldsAt (λ y. y.group.0 ≡ number.0) s.groups g
number_at s groups g x number e l is d =
    ap (λ (ys : List GroupPart). (slice_index_or ys g d).group.0) (sym e)
    ∙ ap (λ (y : GroupPart). y.group.0) (get_or_default groups g d x l) ∙ ap (λ n. n.0) (sym is)

module _ (s : Parts) (claim : Claim) (groups : List GroupPart) (counts : List ℕ) (o : IsOrderly s) (placed : ArePlaced s claim.placements)
    (e : groups ≡ s.groups) (are : AreGroupCounts s claim.placements counts) where
  pub twice_group_first : (g : ℕ) (x : GroupPart) (number : GroupNo) → number ≡ (slice_index_or groups g x).group → g < length groups
      → IsFirst (HoldsOfGroup IsTwice groups counts) g → IsFoundFirst s claim (OneofTwice number)
  twice_group_first g x number is l h =
      let there : IsFirst (HoldsOfGroup IsTwice s.groups counts) g = subst (λ (ys : List GroupPart). IsFirst (HoldsOfGroup IsTwice ys counts) g) e h in (
        (
          g,
          same_first (HoldsOfGroup IsTwice s.groups counts) (IsTwiceAt s (requests_of claim.placements)) g
              (twice_at s claim.placements counts o placed.known are) (at_twice s claim.placements counts o placed.known are) there,
          number_at s groups g x number e l is,
        ),
        clear_of_overlap s claim placed,
      )

  pub once_when : ((g : ℕ) → ¬ (HoldsOfGroup IsTwice groups counts g)) → IsOneofOnce s claim.placements
  once_when none = oneof_once s claim.placements counts o placed.known are
      (subst (λ (ys : List GroupPart). (g : ℕ) → ¬ (HoldsOfGroup IsTwice ys counts g)) e none)

  pub partial_group_first : (g : ℕ) (x : GroupPart) (number : GroupNo) → number ≡ (slice_index_or groups g x).group → g < length groups
      → ((k : ℕ) → ¬ (HoldsOfGroup IsTwice groups counts k)) → IsFirst (HoldsOfGroup IsPartial groups counts) g
      → IsFoundFirst s claim (AndPartial number)
  partial_group_first g x number is l none h =
      let there : IsFirst (HoldsOfGroup IsPartial s.groups counts) g = subst (λ (ys : List GroupPart). IsFirst (HoldsOfGroup IsPartial ys counts) g) e h in (
        (
          g,
          same_first (HoldsOfGroup IsPartial s.groups counts) (IsPartialAt s (requests_of claim.placements)) g
              (partial_at s claim.placements counts o placed.known placed.once are)
              (at_partial s claim.placements counts o placed.known placed.once are)
              there,
          number_at s groups g x number e l is,
        ),
        clear_of_oneof s claim placed (once_when none),
      )

  pub kept_when : ((g : ℕ) → ¬ (HoldsOfGroup IsTwice groups counts g)) → ((g : ℕ) → ¬ (HoldsOfGroup IsPartial groups counts g))
      → AreKindsKept s claim.placements
  kept_when none whole = record {
    placed = placed;
    oneof_once = once_when none;
    and_whole = and_whole s claim.placements counts o placed.known placed.once are
        (subst (λ (ys : List GroupPart). (g : ℕ) → ¬ (HoldsOfGroup IsPartial ys counts g)) e whole);
  }

-- a quota that its sum passes
abbrev pub IsOver : List ℕ → List ℕ → ℕ → Type 0
IsOver quotas sums q = (q < length quotas) × (slice_index_or quotas q 0 < slice_index_or sums q 0)

module _ (s : Parts) (claim : Claim) (quotas sums : List ℕ) (kept : AreKindsKept s claim.placements) (e : quotas ≡ s.quotas)
    (are : AreQuotaSums s claim.placements sums) where
  abbrev Passes : ℕ → Type 0
  Passes q = (q < length s.quotas) × (quota_at s q < quota_seconds s q (requests_of claim.placements))

  pub quota_first : (q seconds most : ℕ) → seconds ≡ slice_index_or sums q 0 → most ≡ slice_index_or quotas q 0 → IsFirst (IsOver quotas sums) q
      → IsFoundFirst s claim (QuotaOver q seconds most)
  quota_first q seconds most read_seconds read_most h =
      let there : IsFirst (IsOver s.quotas sums) q = subst (λ (xs : List ℕ). IsFirst (IsOver xs sums) q) e h in
      let to : (j : ℕ) → IsOver s.quotas sums j
      → Passes j = λ j over. let sum : slice_index_or sums j 0 ≡ quota_seconds s j (requests_of claim.placements) = are.each j over.0 in
      (over.0, subst (λ (n : ℕ). quota_at s j < n) sum over.1) in
      let from : (j : ℕ) → Passes j → IsOver s.quotas sums j =
      λ j over. let sum : slice_index_or sums j 0 ≡ quota_seconds s j (requests_of claim.placements) = are.each j over.0 in
      (over.0, subst (λ (n : ℕ). quota_at s j < n) (sym sum) over.1) in (
        (
          same_first (IsOver s.quotas sums) Passes q to from there,
          read_seconds ∙ are.each q there.0.0,
          read_most
              ∙ ap (λ (xs : List ℕ). slice_index_or xs q 0) e,
        ),
        clear_of_and s claim kept,
      )

  pub feasible_when : ((q : ℕ) → q < length quotas → slice_index_or sums q 0 ≤ slice_index_or quotas q 0) → IsFeasible s claim.placements
  feasible_when within =
      let there : (q : ℕ) → q < length s.quotas → slice_index_or sums q 0 ≤ slice_index_or s.quotas q 0 =
      subst (λ (xs : List ℕ). (q : ℕ) → q < length xs → slice_index_or sums q 0 ≤ slice_index_or xs q 0) e within in
      record {
        possible = kept.placed.possible;
        once = kept.placed.once;
        disjoint = kept.placed.disjoint;
        oneof_once = kept.oneof_once;
        and_whole = kept.and_whole;
        within_quotas = λ q l. subst (λ (n : ℕ). n ≤ quota_at s q) (are.each q l) (there q l);
      }
