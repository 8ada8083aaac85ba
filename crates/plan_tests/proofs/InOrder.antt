-- Starts of which each ends before the next begins share no slices.
use Rattle.std.proofs.Common.{◌≡◌, ℕ, ◌+◌, ◌-◌, ◌<◌, ◌≤◌, ◌⊎◌, inl, inr, List, length, slice_index_or, All, AllPairs, sym, ◌∙◌, ap, arith}
use Rattle.std.proofs.lemmas.List.{get_or_default}
use Rattle.plan_base.specs.declared.parts.Parts.{Parts}
use Rattle.plan_base.specs.declared.claim.Placement.{Placement}
use Rattle.plan_base.specs.Starts.{IsPossibleStart}
use Rattle.plan_base.specs.Feasible.{IsDisjoint}
use Rattle.groups.specs.Footprints.{first_slot, end_slot}
use Rattle.groups.proofs.Rooms.{shared_slot}
use Rattle.plan_base.proofs.Pairs.{all_pairs_from_neighbours}

-- each of the first n ends before the next begins
abbrev pub AreInOrder : Parts → List Placement → ℕ → Type 0
AreInOrder s starts n = (k : ℕ) (d : Placement) → k + 1 < n → end_slot s (slice_index_or starts k d) ≤ first_slot s (slice_index_or starts (k + 1) d)

last_or_before : (j i : ℕ) → j < i + 1 → (j ≡ i) ⊎ (j < i)
last_or_before j i h = grind arith

pub in_order_more : (s : Parts) (starts : List Placement) (i : ℕ) (d : Placement) (to from : ℕ) → 1 ≤ i → i < length starts
    → to ≡ end_slot s (slice_index_or starts (i - 1) d) → from ≡ first_slot s (slice_index_or starts i d) → to ≤ from
    → AreInOrder s starts i → AreInOrder s starts (i + 1)
in_order_more s starts i d to from some below ends begins before so_far k e less = elim (last_or_before (k + 1) i less) [
  | inl last ↦
      let here : i - 1 ≡ k = omega arith in
      let first : to ≡ end_slot s (slice_index_or starts k e) = ends ∙ ap (λ (n : ℕ). end_slot s (slice_index_or starts n d)) here
      ∙ ap (end_slot s) (get_or_default starts k d e (omega arith)) in
      let second : from ≡ first_slot s (slice_index_or starts (k + 1) e) = begins
      ∙ ap (λ (n : ℕ). first_slot s (slice_index_or starts n d)) (sym last)
      ∙ ap (first_slot s) (get_or_default starts (k + 1) d e (omega arith)) in
      omega arith
  | inr earlier ↦ so_far k e earlier
]

pub disjoint_in_order : (s : Parts) (starts : List Placement) (n : ℕ) → All (IsPossibleStart s) starts → length starts ≤ n
    → AreInOrder s starts n → IsDisjoint s starts
disjoint_in_order s starts n possible whole in_order i j d l m share =
    let before : AllPairs (λ a b. end_slot s a ≤ first_slot s b) starts =
    all_pairs_from_neighbours (λ a b. end_slot s a ≤ first_slot s b) (λ a b c x y. omega arith) starts (λ k e less. in_order k e (omega arith)) in
    let apart : end_slot s (slice_index_or starts i d) ≤ first_slot s (slice_index_or starts j d) = before i j d l m in
    let slot = shared_slot s (slice_index_or starts i d) (slice_index_or starts j d) (possible i d (omega arith)) (possible j d m) share in
    let above : slot.0 < end_slot s (slice_index_or starts i d) = slot.2 in
    let below : first_slot s (slice_index_or starts j d) ≤ slot.0 = slot.3 in
    omega arith
