-- The marks of a plan, with one placement more or less, and what they tell of starts.
use Rattle.std.proofs.Common.{◌≡◌, ℕ, ◌<◌, ◌≤◌, ◌⊎◌, inl, inr, Bool, true, false, cond, ◌&&◌, nat_le, nat_lt, List, [], ◌∷◌, ◌++◌, length}
use Rattle.std.proofs.Common.{slice_index_or, Contains, sym, ◌∙◌, ap, subst, arith}
use Rattle.std.proofs.lemmas.Bool.Decides.{nat_tests}
use Rattle.std.proofs.lemmas.List.Elements.{All-push, All-contains, Contains-append_left, Contains-push, Contains-push_cases, Contains-get_or}
use Rattle.plan_base.specs.declared.parts.Parts.{Parts}
use Rattle.plan_base.specs.declared.claim.Placement.{Placement}
use Rattle.plan_base.specs.Snapshot.{IsOrderly}
use Rattle.plan_base.specs.Starts.{IsPossibleStart, ShareSlice, size_of}
use Rattle.plan_base.specs.FeasibleSoFar.{IsFeasibleSoFar}
use Rattle.plan_base.proofs.Adding.{pairs_before_last}
use Rattle.plan_base.proofs.Sizes.{start_size_above}
use Rattle.groups.specs.Footprints.{first_slot, end_slot}
use Rattle.groups.proofs.Rooms.{slot_shared, shared_slot}
use Rattle.repair.specs.Marks.{IsClear, AreSkips, TakesSlot, AreMarks}
use Rattle.repair.specs.Apart.{IsApart}

-- the slot is one of those, or isn't
in_or_out : (a b i : ℕ) → (((nat_le a i && nat_lt i b) ≡ true) × (a ≤ i) × (i < b)) ⊎ (((nat_le a i && nat_lt i b) ≡ false) × ((i < a) ⊎ (b ≤ i)))
in_or_out a b i = grind (arith, nat_tests)

none_or_some : (n : ℕ) → (n ≡ 0) ⊎ (0 < n)
none_or_some n = grind arith

not_within : (a b i : ℕ) → (i < a) ⊎ (b ≤ i) → ¬ ((a ≤ i) × (i < b))
not_within a b i (inl h) (from, to) = omega arith
not_within a b i (inr h) (from, to) = omega arith

-- the slots of a start that is added are marked with the slot after them
pub marks_more : (s : Parts) (plan : List Placement) (p : Placement) (before after : List ℕ) → IsOrderly s → IsPossibleStart s p
    → AreMarks s plan before → length after ≡ length before
    → ((i : ℕ) → slice_index_or after i 0 ≡ cond (nat_le (first_slot s p) i && nat_lt i (end_slot s p)) (end_slot s p) (slice_index_or before i 0))
    → AreMarks s (plan ++ p ∷ []) after
marks_more s plan p before after orderly possible are same each = record {
  count = same ∙ are.count;
  free = λ i e. elim (in_or_out (first_slot s p) (end_slot s p) i) [
    | inl within ↦
        let is : slice_index_or after i 0 ≡ end_slot s p = each i ∙ ap (λ (b : Bool). cond b (end_slot s p) (slice_index_or before i 0)) within.0 in
        let some : 0 < size_of s p.request.0 = start_size_above s orderly p possible in
        absurd (omega arith)
    | inr outside ↦
        let is : slice_index_or after i 0 ≡ slice_index_or before i 0 = each i
        ∙ ap (λ (b : Bool). cond b (end_slot s p) (slice_index_or before i 0)) outside.0 in
        All-push (λ q. ¬ (TakesSlot s q i)) plan p (are.free i (sym is ∙ e)) (not_within (first_slot s p) (end_slot s p) i outside.1)
  ];
  taken = λ i marked. elim (in_or_out (first_slot s p) (end_slot s p) i) [
    | inl within ↦ (p, Contains-push plan p, (within.1, within.2), each i ∙ ap (λ (b : Bool). cond b (end_slot s p) (slice_index_or before i 0)) within.0)
    | inr outside ↦
        let is : slice_index_or after i 0 ≡ slice_index_or before i 0 = each i
        ∙ ap (λ (b : Bool). cond b (end_slot s p) (slice_index_or before i 0)) outside.0 in
        let old = are.taken i (omega arith) in
        (old.0, Contains-append_left plan (p ∷ []) old.0 old.1, old.2, is ∙ old.3)
  ];
}

-- the slots of the last start are free without it
pub marks_less : (s : Parts) (plan : List Placement) (p : Placement) (before after : List ℕ) → IsFeasibleSoFar s (plan ++ p ∷ [])
    → AreMarks s (plan ++ p ∷ []) before → length after ≡ length before
    → ((i : ℕ) → slice_index_or after i 0 ≡ cond (nat_le (first_slot s p) i && nat_lt i (end_slot s p)) 0 (slice_index_or before i 0))
    → AreMarks s plan after
marks_less s plan p before after so_far are same each = record {
  count = same ∙ are.count;
  free = λ i e. elim (in_or_out (first_slot s p) (end_slot s p) i) [
    | inl within ↦ λ k d l takes.
        let q : Placement = slice_index_or plan k d in
        let in_plan : Contains (plan ++ p ∷ []) q = Contains-append_left plan (p ∷ []) q (Contains-get_or plan k d l) in
        let possible : IsPossibleStart s q = All-contains (IsPossibleStart s) (plan ++ p ∷ []) q so_far.possible in_plan in
        let last : IsPossibleStart s p = All-contains (IsPossibleStart s) (plan ++ p ∷ []) p so_far.possible (Contains-push plan p) in
        pairs_before_last (λ a b. ¬ (ShareSlice s a b)) plan p so_far.disjoint k d l (slot_shared s q p i possible last takes.0 takes.1 within.1 within.2)
    | inr outside ↦ λ k d l takes.
        let is : slice_index_or after i 0 ≡ slice_index_or before i 0 = each i ∙ ap (λ (b : Bool). cond b 0 (slice_index_or before i 0)) outside.0 in
        let q : Placement = slice_index_or plan k d in
        let in_plan : Contains (plan ++ p ∷ []) q = Contains-append_left plan (p ∷ []) q (Contains-get_or plan k d l) in
        All-contains (λ x. ¬ (TakesSlot s x i)) (plan ++ p ∷ []) q (are.free i (sym is ∙ e)) in_plan takes
  ];
  taken = λ i marked. elim (in_or_out (first_slot s p) (end_slot s p) i) [
    | inl within ↦
        let is : slice_index_or after i 0 ≡ 0 = each i ∙ ap (λ (b : Bool). cond b 0 (slice_index_or before i 0)) within.0 in
        absurd (omega arith)
    | inr outside ↦
        let is : slice_index_or after i 0 ≡ slice_index_or before i 0 = each i ∙ ap (λ (b : Bool). cond b 0 (slice_index_or before i 0)) outside.0 in
        let old = are.taken i (omega arith) in
        elim (Contains-push_cases plan p old.0 old.1) [
          | inl has ↦ (old.0, has, old.2, is ∙ old.3)
          | inr last ↦ absurd (not_within (first_slot s p) (end_slot s p) i outside.1 (subst (λ (q : Placement). TakesSlot s q i) (sym last) old.2))
        ]
  ];
}

-- marks of a plan lead past its placements
pub marks_skip : (s : Parts) (plan : List Placement) (marks : List ℕ) → AreMarks s plan marks → AreSkips marks
marks_skip s plan marks are i marked =
    let old = are.taken i marked in
    let from : first_slot s old.0 ≤ i = old.2.0 in
    let to : i < end_slot s old.0 = old.2.1 in
    let is : slice_index_or marks i 0 ≡ end_slot s old.0 = old.3 in (
      omega arith,
      λ j later less. elim (none_or_some (slice_index_or marks j 0)) [
        | inl none ↦ absurd (All-contains (λ q. ¬ (TakesSlot s q j)) plan old.0 (are.free j none) old.1 (omega arith, omega arith))
        | inr some ↦ some
      ],
    )

-- the slots of a start are clear exactly where it is apart from the plan
pub apart_when_clear : (s : Parts) (plan : List Placement) (marks : List ℕ) (p : Placement) → IsFeasibleSoFar s plan → AreMarks s plan marks
    → IsPossibleStart s p → IsClear marks (first_slot s p) (end_slot s p) → IsApart s plan p
apart_when_clear s plan marks p so_far are possible clear k d l share =
    let both = shared_slot s p (slice_index_or plan k d) possible (so_far.possible k d l) share in
    are.free both.0 (clear both.0 both.1 both.2) k d l (both.3, both.4)

pub clear_when_apart : (s : Parts) (plan : List Placement) (marks : List ℕ) (p : Placement) → IsFeasibleSoFar s plan → AreMarks s plan marks
    → IsPossibleStart s p → IsApart s plan p → IsClear marks (first_slot s p) (end_slot s p)
clear_when_apart s plan marks p so_far are possible apart i from to = elim (none_or_some (slice_index_or marks i 0)) [
  | inl none ↦ none
  | inr marked ↦
      let old = are.taken i marked in
      let other : IsPossibleStart s old.0 = All-contains (IsPossibleStart s) plan old.0 so_far.possible old.1 in
      absurd (All-contains (λ q. ¬ (ShareSlice s p q)) plan old.0 apart old.1 (slot_shared s p old.0 i possible other from to old.2.0 old.2.1))
]
