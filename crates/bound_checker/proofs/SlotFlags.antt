-- The slots that the first placements of a plan take up, as flags.
use Rattle.std.proofs.Common.{◌≡◌, ◌≢◌, ℕ, ◌+◌, ◌-◌, ◌*◌, ◌<◌, ◌≤◌, ◌⊎◌, inl, inr, nat_le, nat_lt, Bool, true, false, cond, ◌&&◌, List, [], length}
use Rattle.std.proofs.Common.{replicate, slice_index_or, refl, sym, ◌∙◌, ap, subst, arith}
use Rattle.std.proofs.lemmas.Bool.Decides.{nat_tests}
use Rattle.std.proofs.lemmas.Nat.{mul-le}
use Rattle.std.proofs.lemmas.Option.{slice_get-get_or, get_or_from_slice_get}
use Rattle.std.proofs.lemmas.List.{get_or_default, length-replicate}
use Rattle.plan_base.specs.declared.parts.Parts.{Parts}
use Rattle.plan_base.specs.declared.claim.Placement.{Placement}
use Rattle.plan_base.specs.Starts.{size_of, IsPossibleStart, ShareSlice}
use Rattle.plan_base.specs.Feasible.{IsEachPossible, IsDisjoint}
use Rattle.plan_base.specs.Verdict.{IsFirst, HasEarlier}
use Rattle.bound_checker.specs.declared.overlap.Slots.{Slots}
use Rattle.bound_checker.specs.Slots.{first_slot, end_slot, AreSlots}
use Rattle.bound_checker.proofs.Marks.{placed_at, none_set}

-- slot k is one of the placement's
abbrev pub TakesUp : Parts → Placement → ℕ → Type 0
TakesUp s p k = (first_slot s p ≤ k) × (k < end_slot s p)

-- the flags tell which slots the first n placements take up, of which no two share one
pub record AreFlags (s : Parts) (plan : List Placement) (n : ℕ) (flags : List Bool) : Type 0 where
  pub count : length flags ≡ length s.telescopes * s.slices
  pub set : (i k : ℕ) → i < n → TakesUp s (placed_at plan i) k → slice_index_or flags k false ≡ true
  pub only : (k : ℕ) → slice_index_or flags k false ≡ true → (i : ℕ) × (i < n) × TakesUp s (placed_at plan i) k
  pub apart : (i j k : ℕ) → i < j → j < n → TakesUp s (placed_at plan i) k → ¬ (TakesUp s (placed_at plan j) k)

-- ---- slots and slices

below_same_above : (a b : ℕ) → ((a < b) ⊎ (b < a)) ⊎ (a ≡ b)
below_same_above a b = grind arith

next_row : (a b n : ℕ) → a < b → a * n + n ≤ b * n
next_row a b n l = let most : (a + 1) * n ≤ b * n = mul-le (a + 1) n b n (omega arith) (omega arith) in omega arith

-- a number lies in one row
one_row : (a b n k : ℕ) → a * n ≤ k → k < a * n + n → b * n ≤ k → k < b * n + n → a ≡ b
one_row a b n k from to from' to' = elim (below_same_above a b) [
  | inl (inl below) ↦ absurd (let next = next_row a b n below in omega arith)
  | inl (inr above) ↦ absurd (let next = next_row b a n above in omega arith)
  | inr same ↦ same
]

slice_in : (base k slice first size n : ℕ) → first ≤ slice → slice + size ≤ first + n → base + (slice - first) ≤ k → k < base + (slice - first) + size
    → (base ≤ k) × (k < base + n) × (slice ≤ first + (k - base)) × (first + (k - base) < slice + size)
slice_in base k slice first size n l m a b = (omega arith, omega arith, omega arith, omega arith)

-- a slot that two possible starts take up is a slice that they share
pub share_from_slot : (s : Parts) (p q : Placement) (k : ℕ) → IsPossibleStart s p → IsPossibleStart s q → TakesUp s p k → TakesUp s q k → ShareSlice s p q
share_from_slot s p q k possible_p possible_q (a, b) (c, d) =
    let in_p = slice_in (p.telescope.0 * s.slices) k p.slice.0 s.first.0 (size_of s p.request.0) s.slices possible_p.begins possible_p.ends a b in
    let in_q = slice_in (q.telescope.0 * s.slices) k q.slice.0 s.first.0 (size_of s q.request.0) s.slices possible_q.begins possible_q.ends c d in
    let same : p.telescope.0 ≡ q.telescope.0 = one_row p.telescope.0 q.telescope.0 s.slices k in_p.0 in_p.1 in_q.0 in_q.1 in
    let rows : p.telescope.0 * s.slices ≡ q.telescope.0 * s.slices = ap (λ (t : ℕ). t * s.slices) same in
    let slice : ℕ = s.first.0 + (k - p.telescope.0 * s.slices) in
    let there : s.first.0 + (k - q.telescope.0 * s.slices) ≡ slice = ap (λ (b : ℕ). s.first.0 + (k - b)) (sym rows) in (
      ap (λ (t : ℕ). record { 0 = t }) same,
      slice,
      (in_p.2, in_p.3),
      subst (λ (x : ℕ). (q.slice.0 ≤ x) × (x < q.slice.0 + size_of s q.request.0)) there (in_q.2, in_q.3),
    )

slot_in : (base slice first size x : ℕ) → first ≤ slice → slice ≤ x → x < slice + size → (base + (slice - first) ≤ base + (x - first))
    × (base + (x - first) < base + (slice - first) + size)
slot_in base slice first size x l a b = (omega arith, omega arith)

-- a slice that two possible starts share is a slot that both take up
pub slot_from_share : (s : Parts) (p q : Placement) → IsPossibleStart s p → IsPossibleStart s q → ShareSlice s p q → (k : ℕ) × TakesUp s p k × TakesUp s q k
slot_from_share s p q possible_p possible_q (same, x, (a, b), (c, d)) =
    let slot : ℕ = p.telescope.0 * s.slices + (x - s.first.0) in
    let there : q.telescope.0 * s.slices + (x - s.first.0) ≡ slot = ap (λ t. t.0 * s.slices + (x - s.first.0)) (sym same) in (
      slot,
      slot_in (p.telescope.0 * s.slices) p.slice.0 s.first.0 (size_of s p.request.0) x possible_p.begins a b,
      subst (TakesUp s q) there (slot_in (q.telescope.0 * s.slices) q.slice.0 s.first.0 (size_of s q.request.0) x possible_q.begins c d),
    )

-- ---- flags

pub flags_none : (s : Parts) (plan : List Placement) (flags : List Bool) (n : ℕ) → n ≡ length s.telescopes * s.slices → flags ≡ replicate n false
    → AreFlags s plan 0 flags
flags_none s plan flags n e f = record {
  count = ap (λ (xs : List Bool). length xs) f ∙ length-replicate n false ∙ e;
  set = λ i k l. absurd (omega arith);
  only = λ k h. absurd (let bad : false ≡ true = sym (none_set n k) ∙ ap (λ (xs : List Bool). slice_index_or xs k false) (sym f) ∙ h in cc);
  apart = λ i j k l m. absurd (omega arith);
}

true_or_false : (b : Bool) → (b ≡ true) ⊎ (b ≡ false)
true_or_false true = inl refl
true_or_false false = inr refl

set_inside : (a b k : ℕ) (v : Bool) → a ≤ k → k < b → cond (nat_le a k && nat_lt k b) true v ≡ true
set_inside a b k v l m = grind (arith, nat_tests)

set_before : (c v : Bool) → v ≡ true → cond c true v ≡ true
set_before true v e = refl
set_before false v e = e

set_where : (a b k : ℕ) (v : Bool) → cond (nat_le a k && nat_lt k b) true v ≡ true → ((a ≤ k) × (k < b)) ⊎ (v ≡ true)
set_where a b k v e = grind (arith, nat_tests)

below_or_last : (i n : ℕ) → i < n + 1 → (i < n) ⊎ (i ≡ n)
below_or_last i n l = grind arith

module _ (s : Parts) (plan : List Placement) (n : ℕ) (flags : List Bool) (slots : Slots) (possible : IsEachPossible s plan) (l : n < length plan)
    (are : AreFlags s plan n flags) (is : AreSlots s (placed_at plan n) slots) where
  taken_from : (k : ℕ) → slots.from ≤ k → k < slots.to → TakesUp s (placed_at plan n) k
  taken_from k a b = (subst (λ (x : ℕ). x ≤ k) is.from a, subst (λ (x : ℕ). k < x) is.to b)

  taken_to : (k : ℕ) → TakesUp s (placed_at plan n) k → (slots.from ≤ k) × (k < slots.to)
  taken_to k (a, b) = (subst (λ (x : ℕ). x ≤ k) (sym is.from) a, subst (λ (x : ℕ). k < x) (sym is.to) b)

  possible_at : (i : ℕ) → i < length plan → IsPossibleStart s (placed_at plan i)
  possible_at i m = possible i _ m

  pub flags_more : (after : List Bool) → ((k : ℕ) → slots.from ≤ k → k < slots.to → slice_index_or flags k false ≡ false) → length after ≡ length flags
      → ((k : ℕ) → slice_index_or after k false ≡ cond (nat_le slots.from k && nat_lt k slots.to) true (slice_index_or flags k false))
      → AreFlags s plan (n + 1) after
  flags_more after clear count set = record {
    count = count ∙ are.count;
    set = λ i k less takes. elim (below_or_last i n less) [
      | inl before ↦ set k ∙ set_before (nat_le slots.from k && nat_lt k slots.to) _ (are.set i k before takes)
      | inr here ↦ let inside = taken_to k (subst (λ (j : ℕ). TakesUp s (placed_at plan j) k) here takes) in
          set k ∙ set_inside slots.from slots.to k _ inside.0 inside.1
    ];
    only = λ k h. elim (set_where slots.from slots.to k (slice_index_or flags k false) (sym (set k) ∙ h)) [
      | inl inside ↦ (n, omega arith, taken_from k inside.0 inside.1)
      | inr old ↦ let earlier = are.only k old in (earlier.0, omega (arith, earlier.1), earlier.2)
    ];
    apart = λ i j k less m takes. elim (below_or_last j n m) [
      | inl before ↦ are.apart i j k less before takes
      | inr here ↦ λ again.
          let inside = taken_to k (subst (λ (x : ℕ). TakesUp s (placed_at plan x) k) here again) in
          let bad : true ≡ false = sym (are.set i k (omega arith) takes) ∙ clear k inside.0 inside.1 in
          cc
    ];
  }

  -- a placement that meets a flag is the first that shares a slice with one before it
  pub first_sharing : (k : ℕ) → slots.from ≤ k → k < slots.to → slice_index_or flags k false ≡ true → IsFirst (HasEarlier (ShareSlice s) plan) n
  first_sharing k a b marked =
      let old = are.only k marked in
      let within : old.0 < length plan = omega (arith, old.1) in (
        (
          old.0,
          placed_at plan old.0,
          placed_at plan n,
          old.1,
          slice_get-get_or plan old.0 _ within,
          slice_get-get_or plan n _ l,
          share_from_slot s (placed_at plan old.0) (placed_at plan n) k (possible_at old.0 within) (possible_at n l) old.2 (taken_from k a b),
        ),
        λ j less (i, p, q, before, read_p, read_q, share).
            let at_p : placed_at plan i ≡ p = get_or_from_slice_get plan i p _ read_p in
            let at_q : placed_at plan j ≡ q = get_or_from_slice_get plan j q _ read_q in
            let there : ShareSlice s (placed_at plan i) (placed_at plan j) =
            subst (λ (x : Placement). ShareSlice s x (placed_at plan j)) (sym at_p) (subst (ShareSlice s p) (sym at_q) share) in
            let slot = slot_from_share s (placed_at plan i) (placed_at plan j) (possible_at i (omega arith)) (possible_at j (omega arith)) there in
            are.apart i j slot.0 before less slot.1 slot.2,
      )

pub disjoint_from_flags : (s : Parts) (plan : List Placement) (n : ℕ) (flags : List Bool) → IsEachPossible s plan → length plan ≤ n
    → AreFlags s plan n flags → IsDisjoint s plan
disjoint_from_flags s plan n flags possible all are i j d l m share =
    let at_i : slice_index_or plan i d ≡ placed_at plan i = get_or_default plan i d _ (omega arith) in
    let at_j : slice_index_or plan j d ≡ placed_at plan j = get_or_default plan j d _ m in
    let there : ShareSlice s (placed_at plan i) (placed_at plan j) =
    subst (λ (x : Placement). ShareSlice s x (placed_at plan j)) at_i (subst (ShareSlice s (slice_index_or plan i d)) at_j share) in
    let slot = slot_from_share s (placed_at plan i) (placed_at plan j) (possible i _ (omega arith)) (possible j _ m) there in
    are.apart i j slot.0 l (omega arith) slot.1 slot.2
