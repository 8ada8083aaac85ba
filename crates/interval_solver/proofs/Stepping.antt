-- The uses of lanes, as one lane after another is solved.
use Rattle.std.proofs.Common.{◌≡◌, ℕ, ◌+◌, ◌<◌, ◌≤◌, ◌⊎◌, inl, inr, ℤ, List, [], ◌∷◌, ◌++◌, length, slice_index_or, slice_set, All, sym, ◌∙◌, ap}
use Rattle.std.proofs.Common.{subst, get_or-set_other, get_or-set_same, length-set, arith}
use Rattle.std.proofs.lemmas.List.{get_or_default, get_or_append_left, get_or_push, length_push}
use Rattle.std.proofs.lemmas.List.Elements.{All-push}
use Rattle.plan_base.specs.declared.parts.Parts.{Parts}
use Rattle.interval_solver.specs.Lanes.{lane}
use Rattle.interval_solver.specs.Uses.{Started}
use Rattle.interval_solver.specs.Solving.{RowsOf, AreRowsOf, HasRoom, AreUsesMore}

below_or_at : (k i : ℕ) → k < i + 1 → (k < i) ⊎ (k ≡ i)
below_or_at k i h = grind arith

-- the first k lanes have their uses more, and the others are as before
pub record IsWalkedTo (s : Parts) (t k : ℕ) (prices : List (List ℤ)) (old new : List Started) : Type 0 where
  pub count : length new ≡ length old
  pub each : (l : ℕ) (d : Started) → l < k → AreUsesMore s (lane l prices) t (slice_index_or old l d) (slice_index_or new l d)
  pub kept : (l : ℕ) (d : Started) → k ≤ l → slice_index_or new l d ≡ slice_index_or old l d

module _ (s : Parts) (t k : ℕ) (prices : List (List ℤ)) (old now : List Started) (h : IsWalkedTo s t k prices old now) where
  -- the next lane's uses have room
  pub next_room : (u : Started) → k < length old → u ≡ slice_index_or now k u → All (HasRoom s) old → HasRoom s u
  next_room u l is all = subst (HasRoom s) (sym (is ∙ h.kept k u (omega arith))) (all k u l)

  -- one lane more
  pub walked_more : (u w : Started) → k < length old → u ≡ slice_index_or now k u → AreUsesMore s (lane k prices) t u w
      → IsWalkedTo s t (k + 1) prices old (slice_set now k w)
  walked_more u w l is more = record {
    count = length-set now k w ∙ h.count;
    each = λ j d below. elim (below_or_at j k below) [
      | inl less ↦ subst (AreUsesMore s (lane j prices) t (slice_index_or old j d)) (sym (get_or-set_other now k j w d (λ e. omega arith))) (h.each j d less)
      | inr same ↦
          let here : slice_index_or (slice_set now k w) j d ≡ w = ap (λ (n : ℕ). slice_index_or (slice_set now k w) n d) same
          ∙ get_or-set_same now k w d (omega (arith, h.count)) in
          let before : u ≡ slice_index_or old j d = is ∙ h.kept k u (omega arith) ∙ get_or_default old k u d l
          ∙ ap (λ (n : ℕ). slice_index_or old n d) (sym same) in
          subst (AreUsesMore s (lane j prices) t (slice_index_or old j d)) (sym here)
          (subst (λ (v : Started). AreUsesMore s (lane j prices) t v w) before
          (subst (λ (n : ℕ). AreUsesMore s (lane n prices) t u w) (sym same) more))
    ];
    kept = λ j d from. get_or-set_other now k j w d (λ e. omega arith) ∙ h.kept j d (omega arith);
  }

-- the rows of one telescope more
pub rows_more : (s : Parts) (n : ℕ) (rows : List RowsOf) (r : RowsOf) → r.snapshot ≡ s → r.telescope ≡ n → AreRowsOf s n rows
    → AreRowsOf s (n + 1) (rows ++ r ∷ [])
rows_more s n rows r of on h = record {
  count = length_push rows r ∙ ap (λ (k : ℕ). k + 1) h.count;
  snapshots = All-push (λ x. x.snapshot ≡ s) rows r h.snapshots of;
  telescopes = λ t d below. elim (below_or_at t n below) [
    | inl less ↦ ap (λ (x : RowsOf). x.telescope) (get_or_append_left rows (r ∷ []) d t (omega (arith, h.count))) ∙ h.telescopes t d less
    | inr same ↦ ap (λ (x : RowsOf). x.telescope) (get_or_push rows r d t (h.count ∙ sym same)) ∙ on ∙ sym same
  ];
}
