-- Marks at the slots that a plan occupies.
use Rattle.std.specs.Prelude.{◌≡◌, ℕ, ◌+◌, ◌*◌, ◌≤◌, ◌<◌, ◌⊎◌, List, length, slice_index_or, All, Contains}
use Rattle.plan_base.specs.declared.parts.Parts.{Parts}
use Rattle.plan_base.specs.declared.claim.Placement.{Placement}
use Rattle.groups.specs.Footprints.{first_slot, end_slot}

-- slot i has a mark
abbrev pub IsMarked : List ℕ → ℕ → Type 0
IsMarked marks i = 0 < slice_index_or marks i 0

-- no slot from a to the one before b has a mark
abbrev pub IsClear : List ℕ → ℕ → ℕ → Type 0
IsClear marks a b = (i : ℕ) → a ≤ i → i < b → slice_index_or marks i 0 ≡ 0

-- a slot from a to the one before b has the mark m
abbrev pub HasMark : List ℕ → ℕ → ℕ → ℕ → Type 0
HasMark marks a b m = (i : ℕ) × (a ≤ i) × (i < b) × (slice_index_or marks i 0 ≡ m)

-- m is a mark of one of the slots from a to the one before b, or 0 where none has one
abbrev pub IsMarkWithin : List ℕ → ℕ → ℕ → ℕ → Type 0
IsMarkWithin marks a b m = ((m ≡ 0) × IsClear marks a b) ⊎ ((0 < m) × HasMark marks a b m)

-- the mark of a slot is a later slot, and all slots before that one have marks
abbrev pub AreSkips : List ℕ → Type 0
AreSkips marks = (i : ℕ) → IsMarked marks i → (i < slice_index_or marks i 0) × ((j : ℕ) → i ≤ j → j < slice_index_or marks i 0 → IsMarked marks j)

-- k is the first slot from a to the one before b with which so many free slots begin
pub record IsFirstClear (marks : List ℕ) (a b size k : ℕ) : Type 0 where
  pub from : a ≤ k
  pub to : k < b
  pub clear : IsClear marks k (k + size)
  pub first : (j : ℕ) → a ≤ j → j < k → ¬ (IsClear marks j (j + size))

-- the placement occupies slot i
abbrev pub TakesSlot : Parts → Placement → ℕ → Type 0
TakesSlot s p i = (first_slot s p ≤ i) × (i < end_slot s p)

-- each slot that the plan occupies is marked with the slot after the last of its placement, and no other slot is marked
pub record AreMarks (s : Parts) (plan : List Placement) (marks : List ℕ) : Type 0 where
  pub count : length marks ≡ length s.telescopes * s.slices
  pub free : (i : ℕ) → slice_index_or marks i 0 ≡ 0 → All (λ p. ¬ (TakesSlot s p i)) plan
  pub taken : (i : ℕ) → IsMarked marks i → (p : Placement) × Contains plan p × TakesSlot s p i × (slice_index_or marks i 0 ≡ end_slot s p)
