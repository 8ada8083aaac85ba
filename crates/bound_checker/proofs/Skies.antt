-- Where a target's sky stands among skies that rise.
use Rattle.std.proofs.Common.{◌≡◌, ℕ, ◌+◌, ◌<◌, ◌≤◌, ◌⊎◌, inl, inr, Bool, true, false, ◌&&◌, ◌||◌, ◌==◌, nat_lt, List, [], ◌∷◌, ◌++◌, length}
use Rattle.std.proofs.Common.{length-append, slice_index_or, AllPairs, refl, sym, ◌∙◌, ap, subst, arith}
use Rattle.std.specs.List.Sorted.{IsPartitionPoint, IsPartitionedBy}
use Rattle.std.proofs.lemmas.Bool.{false≢true}
use Rattle.std.proofs.lemmas.Bool.Decides.{nat_tests}
use Rattle.std.proofs.lemmas.List.{get_or_default, get_or_append_left, get_or-append-add}
use Rattle.plan_base.specs.declared.parts.Sky.{Sky}
use Rattle.plan_base.specs.declared.number.TargetNo.{TargetNo}
use Rattle.plan_base.specs.declared.number.SiteNo.{SiteNo}
use Rattle.plan_base.specs.Skies.{is_below, IsSkyBelow, SkiesRise, IsSkyAt}
use Rattle.bound_checker.specs.Sights.{AreViews}

abbrev below_numbers : ℕ → ℕ → ℕ → ℕ → Bool
below_numbers a b t s = nat_lt a t || ((a == t) && nat_lt b s)

not_itself : (a b t s : ℕ) → below_numbers a b t s ≡ true → a ≡ t → b ≡ s → ⊥
not_itself a b t s h e f = grind (arith, nat_tests)

below_it : (a b t s c d : ℕ) → (a < c) ⊎ ((a ≡ c) × (b < d)) → c ≡ t → d ≡ s → below_numbers a b t s ≡ true
below_it a b t s c d (inl l) e f = grind (arith, nat_tests)
below_it a b t s c d (inr (g, l)) e f = grind (arith, nat_tests)

-- where the first sky that isn't below isn't the one meant, none is
pub sky_nowhere : (skies : List Sky) (target : TargetNo) (site : SiteNo) (i : ℕ) → SkiesRise skies
    → IsPartitionPoint (λ y. is_below target.0 site.0 y ≡ true) (λ y. is_below target.0 site.0 y ≡ false) skies i
    → ¬ (IsSkyAt skies target.0 site.0 i)
    → (v : ℕ) → ¬ (IsSkyAt skies target.0 site.0 v)
sky_nowhere skies target site i rise point other v (y, within, at, on_target, on_site) = elim (below_same_above v i) [
  | inl (inl less) ↦
      let passes : is_below target.0 site.0 y ≡ true = subst (λ (z : Sky). is_below target.0 site.0 z ≡ true) at (point.0 v y (omega arith) less) in
      not_itself y.target.0 y.site.0 target.0 site.0 passes on_target on_site
  | inl (inr more) ↦
      let here : is_below target.0 site.0 (slice_index_or skies i y) ≡ false = point.1 i y (omega arith) (omega arith) in
      let stands : IsSkyBelow (slice_index_or skies i y) y = subst (IsSkyBelow (slice_index_or skies i y)) at (rise i v y more within) in
      let passes : is_below target.0 site.0 (slice_index_or skies i y) ≡ true = below_it _ _ target.0 site.0 y.target.0 y.site.0 stands on_target on_site in
      false≢true (sym here ∙ passes)
  | inr same ↦ other (subst (IsSkyAt skies target.0 site.0) same (y, within, at, on_target, on_site))
]
  where
    below_same_above : (a b : ℕ) → ((a < b) ⊎ (b < a)) ⊎ (a ≡ b)
    below_same_above a b = grind arith

-- of a target without a sky there are no views
pub views_hidden : (skies : List Sky) (site : SiteNo) (targets : List TargetNo) (views : List ℕ) (i : ℕ) (t : TargetNo) → i < length targets
    → t ≡ slice_index_or targets i t → ((v : ℕ) → ¬ (IsSkyAt skies t.0 site.0 v)) → AreViews skies site targets false views
views_hidden skies site targets views i t within at none = record {
  count = λ e. absurd (false≢true e);
  each = λ e. absurd (false≢true e);
  hidden = λ e. (i, within, λ d v. subst (λ (x : TargetNo). ¬ (IsSkyAt skies x.0 site.0 v)) (at ∙ get_or_default targets i t d within) (none v));
}

-- the views of the first i targets
pub record AreFirstViews (skies : List Sky) (site : SiteNo) (targets : List TargetNo) (i : ℕ) (views : List ℕ) : Type 0 where
  pub count : length views ≡ i
  pub each : (n : ℕ) (d : TargetNo) → n < i → IsSkyAt skies (slice_index_or targets n d).0 site.0 (slice_index_or views n 0)

pub views_more : (skies : List Sky) (site : SiteNo) (targets : List TargetNo) (i : ℕ) (views : List ℕ) (t : TargetNo) (v : ℕ) → i < length targets
    → t ≡ slice_index_or targets i t → IsSkyAt skies t.0 site.0 v
    → AreFirstViews skies site targets i views → AreFirstViews skies site targets (i + 1) (views ++ v ∷ [])
views_more skies site targets i views t v within at here before =
    let size : length (views ++ v ∷ []) ≡ length views + 1 = length-append views (v ∷ []) in
    let count : length views ≡ i = before.count in
    record {
      count = omega arith;
      each = λ n d below. elim (below_or_at n i below) [
        | inl less ↦ subst (IsSkyAt skies (slice_index_or targets n d).0 site.0)
            (sym (get_or_append_left views (v ∷ []) 0 n (omega arith))) (before.each n d less)
        | inr same ↦
            let view : slice_index_or (views ++ v ∷ []) n 0 ≡ v =
            ap (λ (m : ℕ). slice_index_or (views ++ v ∷ []) m 0) (same ∙ sym count ∙ plus_zero (length views))
            ∙ get_or-append-add views (v ∷ []) 0 0 in
            let target : slice_index_or targets n d ≡ t = ap (λ (m : ℕ). slice_index_or targets m d) same ∙ get_or_default targets i d t within ∙ sym at in
            subst (IsSkyAt skies (slice_index_or targets n d).0 site.0) (sym view) (subst (λ (x : TargetNo). IsSkyAt skies x.0 site.0 v) (sym target) here)
      ];
    }
  where
    below_or_at : (a b : ℕ) → a < b + 1 → (a < b) ⊎ (a ≡ b)
    below_or_at a b h = grind arith

    plus_zero : (a : ℕ) → a ≡ a + 0
    plus_zero a = omega arith

pub views_all : (skies : List Sky) (site : SiteNo) (targets : List TargetNo) (i : ℕ) (views : List ℕ) → i ≤ length targets → length targets ≤ i
    → AreFirstViews skies site targets i views → AreViews skies site targets true views
views_all skies site targets i views most least before = record {
  count = λ e. let count : length views ≡ i = before.count in omega arith;
  each = λ e n d below. before.each n d (omega arith);
  hidden = λ e. absurd (false≢true (sym e));
}
