-- Lists of views, where one is replaced or added.
use Rattle.std.proofs.Common.{◌≡◌, ◌≢◌, ℕ, zero, suc, List, [], ◌∷◌, ◌++◌, refl, sym, ap, subst, ◌⊎◌, inl, inr, ⊎_elim, Some, slice_set, length}
use mathlib.Core.Option.{some}
use lib.ListN.{get_elem?}
use Rattle.atomic_table.proofs.Lists.{at_set}
use Rattle.desk_passes.specs.declared.seen.PassView.{PassView}
use Rattle.desk_passes.specs.Rule.{EachView, AreApart}

pub set_there : (views : List PassView) (i : ℕ) (v w : PassView) → get_elem? views i ≡ some v → get_elem? (slice_set views i w) i ≡ some w
set_there [] i v w at = cc
set_there (x ∷ xs) zero v w at = refl
set_there (x ∷ xs) (suc i) v w at = set_there xs i v w at

-- a fact of each view, where one is replaced
pub each_set : (P : ℕ → PassView → Type 0) (views : List PassView) (i : ℕ) (w : PassView) → EachView P views → P i w → EachView P (slice_set views i w)
each_set P views i w each new seat u at =
    ⊎_elim
    (λ (here : (seat ≡ i) × (w ≡ u)). subst (λ (k : ℕ). P k u) (sym here.0) (subst (P i) here.1 new))
    (λ (there : (seat ≢ i) × (get_elem? views seat ≡ some u)). each seat u there.1)
    (at_set views i seat w u at)

-- a fact of each view, which is of each of the others for what they are
pub each_others : (P Q : ℕ → PassView → Type 0) (views : List PassView) (i : ℕ) (w : PassView)
    → ((seat : ℕ) (u : PassView) → seat ≢ i → get_elem? views seat ≡ some u → P seat u → Q seat u) → EachView P views → Q i w → EachView Q (slice_set views i w)
each_others P Q views i w change each new seat u at =
    ⊎_elim
    (λ (here : (seat ≡ i) × (w ≡ u)). subst (λ (k : ℕ). Q k u) (sym here.0) (subst (Q i) here.1 new))
    (λ (there : (seat ≢ i) × (get_elem? views seat ≡ some u)). change seat u there.0 there.1 (each seat u there.1))
    (at_set views i seat w u at)

at_end : (views : List PassView) (u : PassView) (seat : ℕ) (v : PassView) → get_elem? (views ++ u ∷ []) seat ≡ some v
    → (get_elem? views seat ≡ some v) ⊎ ((seat ≡ length views) × (u ≡ v))
at_end [] u zero v at = inr (refl, cc)
at_end [] u (suc seat) v at = cc
at_end (x ∷ xs) u zero v at = inl at
at_end (x ∷ xs) u (suc seat) v at =
    ⊎_elim
    (λ (there : get_elem? xs seat ≡ some v). inl there)
    (λ (here : (seat ≡ length xs) × (u ≡ v)). inr (ap suc here.0, here.1))
    (at_end xs u seat v at)

-- one view more
pub each_more : (P : ℕ → PassView → Type 0) (views : List PassView) (u : PassView) → EachView P views → P (length views) u → EachView P (views ++ u ∷ [])
each_more P views u each new seat v at =
    ⊎_elim
    (λ (there : get_elem? views seat ≡ some v). each seat v there)
    (λ (here : (seat ≡ length views) × (u ≡ v)). subst (λ (k : ℕ). P k v) (sym here.0) (subst (P (length views)) here.1 new))
    (at_end views u seat v at)

-- two that stand apart may be replaced in any order
pub swap_first : (views : List PassView) (i : ℕ) (v w : PassView) → i ≢ 0 → slice_set (slice_set views 0 v) i w ≡ slice_set (slice_set views i w) 0 v
swap_first [] i v w ne = refl
swap_first (x ∷ xs) zero v w ne = absurd (ne refl)
swap_first (x ∷ xs) (suc i) v w ne = refl

-- ---- views of different callers

-- the view's caller, if it has one, is one that the view v had
abbrev KeepsCaller : PassView → PassView → Type 0
KeepsCaller v w = (caller : ℕ) → w.caller ≡ Some caller → v.caller ≡ Some caller

pub apart_set : (views : List PassView) (i : ℕ) (v w : PassView) → AreApart views → get_elem? views i ≡ some v → KeepsCaller v w
    → AreApart (slice_set views i w)
apart_set views i v w apart at keeps =
    each_others (λ seat u. Unit {0})
    (λ j x. EachView (λ k y. (caller : ℕ) → x.caller ≡ Some caller → y.caller ≡ Some caller → j ≡ k) (slice_set views i w)) views i w
    (λ j x ne there _.
    each_others (λ seat u. Unit {0}) (λ k y. (caller : ℕ) → x.caller ≡ Some caller → y.caller ≡ Some caller → j ≡ k) views i w
    (λ k y _ there' _ caller a b. apart j x there k y there' caller a b)
    (λ seat u _. tt)
    (λ caller a b. apart j x there i v at caller a (keeps caller b)))
    (λ seat u _. tt)
    (each_others (λ seat u. Unit {0}) (λ k y. (caller : ℕ) → w.caller ≡ Some caller → y.caller ≡ Some caller → i ≡ k) views i w
    (λ k y _ there' _ caller a b. apart i v at k y there' caller (keeps caller a) b)
    (λ seat u _. tt)
    (λ caller a b. refl))

-- one view more, of a caller that no other is of
pub apart_more : (views : List PassView) (u : PassView) → AreApart views
    → ((caller : ℕ) → u.caller ≡ Some caller → EachView (λ seat v. v.caller ≢ Some caller) views)
    → AreApart (views ++ u ∷ [])
apart_more views u apart new =
    each_more (λ j x. EachView (λ k y. (caller : ℕ) → x.caller ≡ Some caller → y.caller ≡ Some caller → j ≡ k) (views ++ u ∷ [])) views u
    (λ j x there.
    each_more (λ k y. (caller : ℕ) → x.caller ≡ Some caller → y.caller ≡ Some caller → j ≡ k) views u
    (λ k y there' caller a b. apart j x there k y there' caller a b)
    (λ caller a b. absurd (new caller b j x there a)))
    (each_more (λ k y. (caller : ℕ) → u.caller ≡ Some caller → y.caller ≡ Some caller → length views ≡ k) views u
    (λ k y there' caller a b. absurd (new caller a k y there' b))
    (λ caller a b. refl))
