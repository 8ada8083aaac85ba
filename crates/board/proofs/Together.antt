-- A number of each view, put together by an operation whose order doesn't matter, when views change.
use Rattle.std.proofs.Common.{◌≡◌, ℕ, zero, suc, ◌+◌, ◌≤◌, List, [], ◌∷◌, ◌++◌, slice_set, refl, sym, ap, ◌∙◌, arith}
use mathlib.Core.Option.{some}
use lib.ListN.{get_elem?}
use Rattle.board.specs.declared.seat.SeatView.{SeatView}
use Rattle.board.specs.Views.{together, total, all_parts}

-- a view's number is at most the sum
pub total_at : (f : SeatView → ℕ) (vs : List SeatView) (i : ℕ) (v : SeatView) → get_elem? vs i ≡ some v → f v ≤ total f vs
total_at f [] i v at = cc
total_at f (x ∷ vs) zero v at = let here : f x ≡ f v = ap f (let e : x ≡ v = cc in e) in omega arith
total_at f (x ∷ vs) (suc i) v at = let rest : f v ≤ total f vs = total_at f vs i v at in omega arith

module _ (op : ℕ → ℕ → ℕ) (none : ℕ) (comm : (a b : ℕ) → op a b ≡ op b a) (assoc : (a b c : ℕ) → op (op a b) c ≡ op a (op b c)) (f : SeatView → ℕ) where
  -- v is taken out and w is put in
  pub together_set : (vs : List SeatView) (i : ℕ) (v w : SeatView) → get_elem? vs i ≡ some v
      → op (together op none f (slice_set vs i w)) (f v) ≡ op (together op none f vs) (f w)
  together_set [] i v w at = cc
  together_set (x ∷ vs) zero v w at =
      let rest : ℕ = together op none f vs in
      let same : x ≡ v = cc in
      let here : f x ≡ f v = ap f same in
      comm (op (f w) rest) (f v) ∙ (ap (λ (n : ℕ). op (f v) n) (comm (f w) rest)
      ∙ (sym (assoc (f v) rest (f w)) ∙ ap (λ (n : ℕ). op (op n rest) (f w)) (sym here)))
  together_set (x ∷ vs) (suc i) v w at =
      let old : ℕ = together op none f vs in
      let new : ℕ = together op none f (slice_set vs i w) in
      let rest : op new (f v) ≡ op old (f w) = together_set vs i v w at in
      assoc (f x) new (f v) ∙ (ap (λ (n : ℕ). op (f x) n) rest ∙ sym (assoc (f x) old (f w)))

  pub together_snoc : (vs : List SeatView) (w : SeatView) → together op none f (vs ++ w ∷ []) ≡ op (together op none f vs) (f w)
  together_snoc [] w = comm (f w) none
  together_snoc (x ∷ vs) w =
      ap (λ (n : ℕ). op (f x) n) (together_snoc vs w) ∙ sym (assoc (f x) (together op none f vs) (f w))

  -- where equal numbers put together give the same number, each number is among those put together
  pub together_at : ((a : ℕ) → op a a ≡ a) → (vs : List SeatView) (i : ℕ) (v : SeatView) → get_elem? vs i ≡ some v
      → op (f v) (together op none f vs) ≡ together op none f vs
  together_at same [] i v at = cc
  together_at same (x ∷ vs) zero v at =
      let rest : ℕ = together op none f vs in
      let here : f x ≡ f v = ap f (let e : x ≡ v = cc in e) in
      ap (λ (n : ℕ). op n (op (f x) rest)) (sym here) ∙ (sym (assoc (f x) (f x) rest) ∙ ap (λ (n : ℕ). op n rest) (same (f x)))
  together_at same (x ∷ vs) (suc i) v at =
      let rest : ℕ = together op none f vs in
      sym (assoc (f v) (f x) rest) ∙ (ap (λ (n : ℕ). op n rest) (comm (f v) (f x))
      ∙ (assoc (f x) (f v) rest ∙ ap (λ (n : ℕ). op (f x) n) (together_at same vs i v at)))

  module _ (once : op none none ≡ none) where
    -- views of no seat and no ticket have nothing to put together
    pub together_idle : (vs : List SeatView) → ((i : ℕ) (v : SeatView) → get_elem? vs i ≡ some v → v.seats ≡ 0 → f v ≡ none) → all_parts vs ≡ 0
        → together op none f vs ≡ none
    together_idle [] idle h = refl
    together_idle (x ∷ vs) idle h =
        let here : f x ≡ none = idle 0 x refl (omega arith) in
        let rest : together op none f vs ≡ none = together_idle vs (λ i v at. idle (suc i) v at) (omega arith) in
        ap (λ (n : ℕ). op n (together op none f vs)) here ∙ (ap (λ (n : ℕ). op none n) rest ∙ once)

    -- of a view that has every seat and ticket, nothing is put together with it
    pub together_whole : (vs : List SeatView) (i : ℕ) (v : SeatView) → ((j : ℕ) (w : SeatView) → get_elem? vs j ≡ some w → w.seats ≡ 0 → f w ≡ none)
        → get_elem? vs i ≡ some v → all_parts vs ≡ v.seats + v.tickets → together op none f vs ≡ op (f v) none
    together_whole [] i v idle at h = cc
    together_whole (x ∷ vs) zero v idle at h =
        let same : x ≡ v = cc in
        let held : x.seats + x.tickets ≡ v.seats + v.tickets = ap (λ (y : SeatView). y.seats + y.tickets) same in
        let rest : together op none f vs ≡ none = together_idle vs (λ j w a. idle (suc j) w a) (omega arith) in
        ap (λ (n : ℕ). op (f x) n) rest ∙ ap (λ (y : SeatView). op (f y) none) same
    together_whole (x ∷ vs) (suc i) v idle at h =
        let fits : v.seats + v.tickets ≤ all_parts vs = total_at (λ u. u.seats + u.tickets) vs i v at in
        let here : f x ≡ none = idle 0 x refl (omega arith) in
        let rest : together op none f vs ≡ op (f v) none = together_whole vs i v (λ j w a. idle (suc j) w a) at (omega arith) in
        ap (λ (n : ℕ). op n (together op none f vs)) here
        ∙ (ap (λ (n : ℕ). op none n) rest ∙ (comm none (op (f v) none) ∙ (assoc (f v) none none ∙ ap (λ (n : ℕ). op (f v) n) once)))
