-- A table over the rows of a telescope's starts has its bests.
use Rattle.std.proofs.Common.{◌≡◌, ℕ, suc, ◌+◌, ◌-◌, ◌<◌, ◌≤◌, inl, inr, ℤ, ◌+ℤ◌, ◌≤ℤ◌, List, length, sym, ◌∙◌, ap, subst, arith}
use Rattle.plan_base.specs.declared.parts.Parts.{Parts}
use Rattle.plan_base.specs.declared.claim.Placement.{Placement}
use Rattle.plan_base.specs.Snapshot.{IsOrderly}
use Rattle.plan_base.specs.Starts.{size_of}
use Rattle.plan_base.specs.Bound.{weight, IsBest}
use Rattle.plan_base.specs.Tables.{slice_after, horizon_end, IsTable, entry, gain_from, IsGreatestOf, IsRowTable, IsRowStart, AreStartRows}
use Rattle.plan_base.proofs.Sizes.{start_size_above}
use Rattle.plan_base.proofs.Tables.{table_best}

module _ {X : Type 0} (s : Parts) (prices : List ℤ) (t : ℕ) (weighs : X → ℤ) (ends : X → ℕ) (rows : List (List X)) (table : List ℤ)
    (orderly : IsOrderly s) (starts : AreStartRows s prices t weighs ends rows) (is_table : IsRowTable weighs ends rows table) where
  -- the number from slice k on
  abbrev pub from_slice : ℕ → ℤ
  from_slice k = entry table (k - s.first.0)

  here : (k : ℕ) → s.first.0 ≤ k → k < horizon_end s → IsGreatestOf weighs ends rows table (k - s.first.0)
  here k from below = let count : length rows ≡ s.slices = starts.count in is_table.each (k - s.first.0) (omega arith)

  next_same : (k : ℕ) → s.first.0 ≤ k → entry table (suc k - s.first.0) ≡ entry table (k - s.first.0 + 1)
  next_same k from = ap (entry table) (omega arith)

  after_same : (p : Placement) (x : X) → IsRowStart s prices weighs ends p x → entry table (slice_after s p - s.first.0) ≡ entry table (ends x)
  after_same p x told = let after : s.first.0 + ends x ≡ p.slice.0 + size_of s p.request.0 = told.ends_so in ap (entry table) (omega arith)

  -- what a start gives, by its row
  pub gain_is : (p : Placement) (x : X) → IsRowStart s prices weighs ends p x
      → gain_from weighs ends table x ≡ weight s prices p +ℤ entry table (slice_after s p - s.first.0)
  gain_is p x told = ap (λ (w : ℤ). w +ℤ entry table (ends x)) told.weighs_so ∙ ap (λ (b : ℤ). weight s prices p +ℤ b) (sym (after_same p x told))

  pub rows_table : IsTable s prices t from_slice
  rows_table = record {
    at_end = let count : length rows ≡ s.slices = starts.count in ap (entry table) (omega arith) ∙ is_table.at_end;
    falling = λ k from below.
        let falls : entry table (k - s.first.0 + 1) ≤ℤ entry table (k - s.first.0) = (here k from below).falling in
        subst (λ (b : ℤ). b ≤ℤ entry table (k - s.first.0)) (sym (next_same k from)) falls;
    above = λ p start.
        let x = starts.complete p start in
        let some : 0 < size_of s p.request.0 = start_size_above s orderly p start.possible in
        let last : p.slice.0 + size_of s p.request.0 ≤ s.first.0 + s.slices = start.possible.ends in
        let most : gain_from weighs ends table x.0 ≤ℤ entry table (p.slice.0 - s.first.0) =
        (here p.slice.0 start.possible.begins (omega arith)).above x.0 x.1 in
        subst (λ (b : ℤ). b ≤ℤ entry table (p.slice.0 - s.first.0)) (gain_is p x.0 x.2) most;
    reached = λ k from below. elim ((here k from below).reached) [
      | inl e ↦ inl (e ∙ sym (next_same k from))
      | inr x ↦
          let p = starts.possible (k - s.first.0) x.0 x.1 in
          let at : p.0.slice.0 ≡ s.first.0 + (k - s.first.0) = p.2 in
          inr (p.0, p.1, omega arith, x.2 ∙ gain_is p.0 x.0 p.3)
    ];
  }

  -- the first entry is the best from the first slice on
  pub first_entry_best : IsBest s prices t s.first.0 (entry table 0)
  first_entry_best = subst (λ (k : ℕ). IsBest s prices t s.first.0 (entry table k)) (omega arith)
      (table_best s prices t orderly from_slice rows_table s.first.0 (omega arith) (omega arith))
