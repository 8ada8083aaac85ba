-- Where the sky of a target at a site stands among skies that rise.
use Rattle.std.proofs.Common.{◌≡◌, ℕ, ◌<◌, ◌⊎◌, inl, inr, true, false, List, length, slice_index_or, All, Contains, sym, ◌∙◌, ap, subst, arith}
use Rattle.std.specs.Prelude.{nat_lt, ◌||◌, ◌&&◌, ◌==◌, Any}
use Rattle.std.specs.List.Sorted.{IsPartitionedBy}
use Rattle.std.proofs.lemmas.Bool.Decides.{nat_tests}
use Rattle.std.proofs.lemmas.List.{get_or_default}
use Rattle.plan_base.specs.declared.parts.Sky.{Sky}
use Rattle.plan_base.specs.BySpans.{OneHasAll}
use Rattle.plan_base.specs.Skies.{IsSkyOf, IsSkyBelow, SkiesRise, is_below, IsCountBelow}

below_same_above : (i j : ℕ) → ((i < j) ⊎ (j < i)) ⊎ (i ≡ j)
below_same_above i j = grind arith

-- what is below a sky is below what that one is below
below_before : (target site a b c d : ℕ) → (a < c) ⊎ ((a ≡ c) × (b < d)) → (nat_lt c target || ((c == target) && nat_lt d site)) ≡ true
    → (nat_lt a target || ((a == target) && nat_lt b site)) ≡ true
below_before target site a b c d (inl h) e = grind (arith, nat_tests)
below_before target site a b c d (inr (s, h)) e = grind (arith, nat_tests)

-- what is below the sky of the target at the site passes the test
below_of : (target site a b c d : ℕ) → (a < c) ⊎ ((a ≡ c) × (b < d)) → c ≡ target → d ≡ site → (nat_lt a target || ((a == target) && nat_lt b site)) ≡ true
below_of target site a b c d (inl h) e f = grind (arith, nat_tests)
below_of target site a b c d (inr (s, h)) e f = grind (arith, nat_tests)

not_below_itself : (target site a b : ℕ) → a ≡ target → b ≡ site → (nat_lt a target || ((a == target) && nat_lt b site)) ≡ true → ⊥
not_below_itself target site a b e f h = grind (arith, nat_tests)

pub partitioned : (target site : ℕ) (skies : List Sky) → SkiesRise skies → IsPartitionedBy (is_below target site) skies
partitioned target site skies rise i j d le l h = elim (below_same_above i j) [
  | inl (inl below) ↦ below_before target site _ _ (slice_index_or skies j d).target.0 (slice_index_or skies j d).site.0 (rise i j d below l) h
  | inl (inr above) ↦ absurd (omega arith)
  | inr same ↦ subst (λ (k : ℕ). is_below target site (slice_index_or skies k d) ≡ true) (sym same) h
]

-- where the first sky that isn't below isn't that of the target at the site, none is
pub no_sky : (skies : List Sky) (target site n : ℕ) → SkiesRise skies → IsCountBelow skies target site n
    → (n < length skies → (d : Sky) → ¬ (IsSkyOf target site (slice_index_or skies n d))) → All (λ sky. ¬ (IsSkyOf target site sky)) skies
no_sky skies target site n rise count not_here k d l (on_target, on_site) = elim (below_same_above k n) [
  | inl (inl below) ↦ not_below_itself target site _ _ on_target on_site (count.below k d below)
  | inl (inr above) ↦
      let here : is_below target site (slice_index_or skies n d) ≡ true =
      below_of target site _ _ (slice_index_or skies k d).target.0 (slice_index_or skies k d).site.0 (rise n k d above l) on_target on_site in
      let not : is_below target site (slice_index_or skies n d) ≡ false = count.others n d (omega arith) (omega arith) in
      let bad : true ≡ false = sym here ∙ not in
      cc
  | inr same ↦ not_here (omega arith) d (subst (λ (j : ℕ). IsSkyOf target site (slice_index_or skies j d)) same (on_target, on_site))
]

not_twice : (a b c d : ℕ) → (a < c) ⊎ ((a ≡ c) × (b < d)) → a ≡ c → b ≡ d → ⊥
not_twice a b c d (inl h) e f = omega arith
not_twice a b c d (inr (s, h)) e f = omega arith

pair_at : (skies : List Sky) (i j : ℕ) (y z : Sky) → SkiesRise skies → i < j → j < length skies → slice_index_or skies i y ≡ y
    → slice_index_or skies j z ≡ z → IsSkyBelow y z
pair_at skies i j y z rise below l e d =
    let pair : IsSkyBelow (slice_index_or skies i y) (slice_index_or skies j y) = rise i j y below l in
    subst (IsSkyBelow y) (get_or_default skies j y z l ∙ d) (subst (λ (x : Sky). IsSkyBelow x (slice_index_or skies j y)) e pair)

-- a target has one sky at a site
pub one_sky : (skies : List Sky) (target site : ℕ) (y z : Sky) → SkiesRise skies → Contains skies y → Contains skies z → IsSkyOf target site y
    → IsSkyOf target site z → y ≡ z
one_sky skies target site y z rise (i, l, e) (j, m, d) (yt, ys) (zt, zs) = elim (below_same_above i j) [
  | inl (inl below) ↦ absurd (not_twice y.target.0 y.site.0 z.target.0 z.site.0 (pair_at skies i j y z rise below m e d) (yt ∙ sym zt) (ys ∙ sym zs))
  | inl (inr above) ↦ absurd (not_twice z.target.0 z.site.0 y.target.0 y.site.0 (pair_at skies j i z y rise above l d e) (zt ∙ sym yt) (zs ∙ sym ys))
  | inr at ↦ sym e ∙ ap (λ (k : ℕ). slice_index_or skies k y) at ∙ get_or_default skies j y z m ∙ d
]

-- some sky of the target at the site has all seconds
abbrev pub IsSeen : List Sky → ℕ → ℕ → ℕ → ℕ → Type 0
IsSeen skies target site a b = Any (λ y. (y.target.0 ≡ target) × (y.site.0 ≡ site) × OneHasAll y.spans a b) skies

pub seen_by : (skies : List Sky) (target site : ℕ) (y : Sky) (a b : ℕ) → Contains skies y → IsSkyOf target site y → OneHasAll y.spans a b
    → IsSeen skies target site a b
seen_by skies target site y a b (k, l, e) (on_target, on_site) has = (k, y, l, e, (on_target, on_site, has))

-- it is the one sky that they have
pub seen_one : (skies : List Sky) (target site : ℕ) (y : Sky) (a b : ℕ) → SkiesRise skies → Contains skies y → IsSkyOf target site y
    → IsSeen skies target site a b → OneHasAll y.spans a b
seen_one skies target site y a b rise c is (k, z, l, e, (on_target, on_site, has)) =
    let same : z ≡ y = one_sky skies target site z y rise (k, l, e) c (on_target, on_site) is in
    subst (λ (x : Sky). OneHasAll x.spans a b) same has

-- where no sky is that of the target at the site, none has them
pub seen_never : (skies : List Sky) (target site a b : ℕ) → All (λ y. ¬ (IsSkyOf target site y)) skies → ¬ (IsSeen skies target site a b)
seen_never skies target site a b none (k, z, l, e, (on_target, on_site, has)) =
    none k z l (subst (IsSkyOf target site) (sym e) (on_target, on_site))
