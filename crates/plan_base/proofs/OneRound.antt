-- One canonical use, one list of a round's prices, and one repaired plan for the same arguments.
use Rattle.std.proofs.Common.{◌≡◌, ℕ, zero, suc, ◌+◌, ◌<◌, ◌≤◌, inl, inr, ℤ, List, [], ◌∷◌, ◌++◌, length, map, Option, Some, None, AllPairs, Contains}
use Rattle.std.proofs.Common.{refl, sym, ◌∙◌, ap, subst, arith}
use Rattle.std.proofs.lemmas.List.{same_lists, get_or_default}
use Rattle.std.proofs.lemmas.List.Sorted.{Contains-permutation, IsPermutation-sym}
use Rattle.std.specs.List.{flat_map}
use Rattle.std.specs.Prelude.{IsPermutation}
use Rattle.plan_base.specs.declared.parts.Parts.{Parts}
use Rattle.plan_base.specs.declared.claim.Placement.{Placement}
use Rattle.plan_base.specs.Starts.{IsPossibleStart, size_of, IsListedBefore}
use Rattle.plan_base.specs.Bound.{net_price}
use Rattle.plan_base.specs.Fill.{IsFilled}
use Rattle.plan_base.specs.Canonical.{IsIdleUpTo, StartsLowest, IsCanonicalFrom, IsCanonicalUse, IsCanonicalStarts}
use Rattle.plan_base.specs.Round.{step_of, greatest_value, next_prices, IsNextRound, IsRoundPrices}
use Rattle.plan_base.specs.Repaired.{CanAddWhole, AddsWholes, group_places, outside_ands, IsTriedBefore, AddsEach, IsRepairedFrom, IsRepaired, IsListing}
use Rattle.plan_base.proofs.Orders.{one_order}
use Rattle.plan_base.proofs.OneFill.{same_placement, one_filled}

-- the sizes of possible starts are above 0
abbrev pub HasSizes : Parts → Type 0
HasSizes s = (p : Placement) → IsPossibleStart s p → 0 < size_of s p.request.0

no_busy_before : (s : Parts) (prices : List ℤ) (t k j : ℕ) (p : Placement) → IsIdleUpTo s prices t k j → StartsLowest s prices t p
    → k ≤ p.slice.0 → ¬ (p.slice.0 < j)
no_busy_before s prices t k j p idle starts from below = starts.busy (idle p.slice.0 from below)

within_horizon : (s : Parts) (prices : List ℤ) (t : ℕ) (p : Placement) → HasSizes s → StartsLowest s prices t p → p.slice.0 < s.first.0 + s.slices
within_horizon s prices t p sizes starts =
    let size : 0 < size_of s p.request.0 = sizes p starts.possible in
    let ends : p.slice.0 + size_of s p.request.0 ≤ s.first.0 + s.slices = starts.possible.ends in
    omega arith

same_start : (s : Parts) (prices : List ℤ) (t k : ℕ) (p q : Placement) → k ≤ p.slice.0 → k ≤ q.slice.0
    → IsIdleUpTo s prices t k p.slice.0 → IsIdleUpTo s prices t k q.slice.0 → StartsLowest s prices t p → StartsLowest s prices t q → p ≡ q
same_start s prices t k p q hp hq ip iq sp sq =
    let not_below : ¬ (p.slice.0 < q.slice.0) = no_busy_before s prices t k q.slice.0 p iq sp hp in
    let not_above : ¬ (q.slice.0 < p.slice.0) = no_busy_before s prices t k p.slice.0 q ip sq hq in
    let slices : p.slice.0 ≡ q.slice.0 = grind (arith, not_below, not_above) in
    let telescopes : p.telescope.0 ≡ q.telescope.0 = sp.same_telescope ∙ sym sq.same_telescope in
    let slice_numbers : q.slice ≡ p.slice = λ i. record { 0 = sym slices i } in
    let telescope_numbers : q.telescope ≡ p.telescope = λ i. record { 0 = sym telescopes i } in
    let below : p.request.0 ≤ q.request.0 = sp.lowest q sq.possible telescope_numbers slice_numbers sq.tight in
    let above : q.request.0 ≤ p.request.0 = sq.lowest p sp.possible (sym telescope_numbers) (sym slice_numbers) sp.tight in
    same_placement p q (omega arith) telescopes slices

pub one_use_from : (s : Parts) (prices : List ℤ) (t k : ℕ) (xs ys : List Placement) → HasSizes s → IsCanonicalFrom s prices t k xs
    → IsCanonicalFrom s prices t k ys → xs ≡ ys
one_use_from s prices t k [] [] sizes a b = refl
one_use_from s prices t k [] (q ∷ qs) sizes a (from, idle, starts, rest) =
    absurd (no_busy_before s prices t k (s.first.0 + s.slices) q a starts from (within_horizon s prices t q sizes starts))
one_use_from s prices t k (p ∷ ps) [] sizes (from, idle, starts, rest) b =
    absurd (no_busy_before s prices t k (s.first.0 + s.slices) p b starts from (within_horizon s prices t p sizes starts))
one_use_from s prices t k (p ∷ ps) (q ∷ qs) sizes (hp, ip, sp, rp) (hq, iq, sq, rq) =
    let heads : q ≡ p = same_start s prices t k q p hq hp iq ip sq sp in
    let rest : ps ≡ qs = one_use_from s prices t (p.slice.0 + size_of s p.request.0) ps qs sizes rp
    (subst (λ (x : Placement). IsCanonicalFrom s prices t (x.slice.0 + size_of s x.request.0) qs) heads rq) in
    λ i. sym heads i ∷ rest i

pub one_use : (s : Parts) (prices : List ℤ) (t : ℕ) (xs ys : List Placement) → HasSizes s → IsCanonicalUse s prices t xs
    → IsCanonicalUse s prices t ys → xs ≡ ys
one_use s prices t xs ys sizes a b = one_use_from s prices t s.first.0 xs ys sizes a b

pub one_starts : (s : Parts) (prices : List ℤ) (xs ys : List Placement) → HasSizes s → IsCanonicalStarts s prices xs → IsCanonicalStarts s prices ys → xs ≡ ys
one_starts s prices xs ys sizes a b =
    let counts : length a.lists ≡ length b.lists = a.count ∙ sym b.count in
    let lists : a.lists ≡ b.lists = same_lists a.lists b.lists counts (λ t d l.
    let known : t < length s.telescopes = omega (arith, a.count) in
    get_or_default a.lists t d [] l ∙ one_use s prices t _ _ sizes (a.each t known) (b.each t known) ∙ get_or_default b.lists t [] d (omega (arith, counts))) in
    a.joined ∙ ap (λ (ls : List (List Placement)). flat_map (λ list. list) ls) lists ∙ sym b.joined

abbrev SamePrices : List ℤ → List ℕ → List ℤ → List ℕ → Type 0
SamePrices prices quota_prices others quota_others = (prices ≡ others) × (quota_prices ≡ quota_others)

one_step : (s : Parts) (step : ℕ) (prices : List ℤ) (quota_prices : List ℕ) (a : List ℤ) (u : List ℕ) (b : List ℤ) (v : List ℕ) → HasSizes s
    → IsNextRound s step prices quota_prices a u → IsNextRound s step prices quota_prices b v → SamePrices a u b v
one_step s step prices quota_prices a u b v sizes h g =
    let starts : h.starts ≡ g.starts = one_starts s prices h.starts g.starts sizes h.canonical g.canonical in (
      h.moved ∙ ap (λ (xs : List Placement). next_prices s step prices (net_price s prices quota_prices) xs) starts
          ∙ sym g.moved,
      h.moved_quota ∙ sym g.moved_quota,
    )

pub one_round : (s : Parts) (lane round : ℕ) (a : List ℤ) (u : List ℕ) (b : List ℤ) (v : List ℕ) → HasSizes s → IsRoundPrices s lane round a u
    → IsRoundPrices s lane round b v → SamePrices a u b v
one_round s lane zero a u b v sizes (h, k) (g, j) = (h ∙ sym g, k ∙ sym j)
one_round s lane (suc round) a u b v sizes (c, w, h, k) (d, x, g, j) =
    let before : SamePrices d x c w = one_round s lane round d x c w sizes g h in
    let step : ℕ = step_of lane round (greatest_value s) in
    let same_prices : IsNextRound s step c x b v = subst (λ (e : List ℤ). IsNextRound s step e x b v) before.0 j in
    let same_quota : IsNextRound s step c w b v = subst (λ (y : List ℕ). IsNextRound s step c y b v) before.1 same_prices in
    one_step s step c w a u b v sizes k same_quota

-- a list of all Somes is fixed by them
somes : {X : Type 0} (xs ys : List X) → map (λ x. Some x) xs ≡ map (λ x. Some x) ys → xs ≡ ys
somes [] [] e = refl
somes [] (y ∷ ys) e = cc
somes (x ∷ xs) [] e = cc
somes {X} (x ∷ xs) (y ∷ ys) e =
    let head : List (Option X) → X = λ l. elim l [ [] ↦ x | o ∷ os ↦ elim o [ None ↦ x | Some z ↦ z ] ] in
    let tail : List (Option X) → List (Option X) = λ l. elim l [ [] ↦ [] | o ∷ os ↦ os ] in
    let heads : x ≡ y = ap head e in
    let rest : xs ≡ ys = somes xs ys (ap tail e) in
    λ i. heads i ∷ rest i

one_firsts : (s : Parts) (starts plan : List Placement) (g : ℕ) (xs ys : List Placement) → CanAddWhole s starts plan g xs
    → CanAddWhole s starts plan g ys → xs ≡ ys
one_firsts s starts plan g xs ys a b = somes xs ys (a.each_first ∙ sym b.each_first)

one_wholes : (s : Parts) (starts plan : List Placement) (gs : List ℕ) (a b : List Placement) → AddsWholes s starts plan gs a
    → AddsWholes s starts plan gs b → a ≡ b
one_wholes s starts plan [] a b h k = h ∙ sym k
one_wholes s starts plan (g ∷ gs) a b (inl (x, e, h)) (inl (y, d, k)) =
    let same : y ≡ x = one_firsts s starts plan g y x d e in
    one_wholes s starts (plan ++ x) gs a b h (subst (λ (z : List Placement). AddsWholes s starts (plan ++ z) gs b) same k)
one_wholes s starts plan (g ∷ gs) a b (inl (x, e, h)) (inr (n, k)) = absurd (n x e)
one_wholes s starts plan (g ∷ gs) a b (inr (n, h)) (inl (y, d, k)) = absurd (n y d)
one_wholes s starts plan (g ∷ gs) a b (inr (n, h)) (inr (m, k)) = one_wholes s starts plan gs a b h k

one_adding : (s : Parts) (plan ps a b : List Placement) → AddsEach s plan ps a → AddsEach s plan ps b → a ≡ b
one_adding s plan [] a b h k = h ∙ sym k
one_adding s plan (p ∷ ps) a b (inl (f, h)) (inl (e, k)) = one_adding s (plan ++ p ∷ []) ps a b h k
one_adding s plan (p ∷ ps) a b (inl (f, h)) (inr (n, k)) = absurd (n f)
one_adding s plan (p ∷ ps) a b (inr (n, h)) (inl (e, k)) = absurd (n e)
one_adding s plan (p ∷ ps) a b (inr (n, h)) (inr (m, k)) = one_adding s plan ps a b h k

listed_irreflexive : (p : Placement) → ¬ (IsListedBefore p p)
listed_irreflexive p (inl h) = omega arith
listed_irreflexive p (inr (e, h)) = omega arith

listed_asymmetric : (p q : Placement) → IsListedBefore p q → ¬ (IsListedBefore q p)
listed_asymmetric p q (inl h) (inl k) = omega arith
listed_asymmetric p q (inl h) (inr (e, k)) = let same : q.telescope.0 ≡ p.telescope.0 = ap (λ x. x.0) e in omega arith
listed_asymmetric p q (inr (e, h)) (inl k) = let same : p.telescope.0 ≡ q.telescope.0 = ap (λ x. x.0) e in omega arith
listed_asymmetric p q (inr (e, h)) (inr (d, k)) = omega arith

tried_irreflexive : (s : Parts) (p : Placement) → ¬ (IsTriedBefore s p p)
tried_irreflexive s p (inl h) = omega arith
tried_irreflexive s p (inr (e, inl h)) = omega arith
tried_irreflexive s p (inr (e, inr (d, h))) = listed_irreflexive p h

tried_asymmetric : (s : Parts) (p q : Placement) → IsTriedBefore s p q → ¬ (IsTriedBefore s q p)
tried_asymmetric s p q (inl h) (inl k) = omega arith
tried_asymmetric s p q (inl h) (inr (e, k)) = omega arith
tried_asymmetric s p q (inr (e, h)) (inl k) = omega arith
tried_asymmetric s p q (inr (e, inl h)) (inr (d, inl k)) = omega arith
tried_asymmetric s p q (inr (e, inl h)) (inr (d, inr (c, k))) = let same : q.request.0 ≡ p.request.0 = ap (λ x. x.0) c in omega arith
tried_asymmetric s p q (inr (e, inr (c, h))) (inr (d, inl k)) = let same : p.request.0 ≡ q.request.0 = ap (λ x. x.0) c in omega arith
tried_asymmetric s p q (inr (e, inr (c, h))) (inr (d, inr (b, k))) = listed_asymmetric p q h k

through : {X : Type 0} (xs ys zs : List X) → IsPermutation xs ys → IsPermutation xs zs → (z : X) → Contains ys z → Contains zs z
through xs ys zs p q z c = Contains-permutation xs zs z q (Contains-permutation ys xs z (IsPermutation-sym xs ys p) c)

one_trying_order : (s : Parts) (starts xs ys : List Placement) → IsPermutation starts xs → IsPermutation starts ys → AllPairs (IsTriedBefore s) xs
    → AllPairs (IsTriedBefore s) ys → xs ≡ ys
one_trying_order s starts xs ys p q a b = one_order (IsTriedBefore s) (tried_irreflexive s) (tried_asymmetric s) xs ys a b (through starts xs ys p q)
    (through starts ys xs q p)

pub one_listing : (plan xs ys : List Placement) → IsListing plan xs → IsListing plan ys → xs ≡ ys
one_listing plan xs ys a b = one_order IsListedBefore listed_irreflexive listed_asymmetric xs ys a.rising b.rising (through plan xs ys a.same b.same)
    (through plan ys xs b.same a.same)

pub one_repaired_from : (s : Parts) (starts a b : List Placement) → IsRepairedFrom s starts a → IsRepairedFrom s starts b → a ≡ b
one_repaired_from s starts a b h k =
    let wholes : k.wholes ≡ h.wholes = one_wholes s starts [] (group_places s) k.wholes h.wholes k.adds_wholes h.adds_wholes in
    let ordered : k.ordered ≡ h.ordered = one_trying_order s (outside_ands s starts) k.ordered h.ordered k.same h.same k.falling h.falling in
    let from_wholes : AddsEach s h.wholes k.ordered k.added = subst (λ (x : List Placement). AddsEach s x k.ordered k.added) wholes k.adds_each in
    let from_ordered : AddsEach s h.wholes h.ordered k.added = subst (λ (x : List Placement). AddsEach s h.wholes x k.added) ordered from_wholes in
    let added : k.added ≡ h.added = one_adding s h.wholes h.ordered k.added h.added from_ordered h.adds_each in
    one_filled s h.added a b h.filled (subst (λ (x : List Placement). IsFilled s x b) added k.filled)

pub one_repaired : (s : Parts) (prices : List ℤ) (a b : List Placement) → HasSizes s → IsRepaired s prices a → IsRepaired s prices b → a ≡ b
one_repaired s prices a b sizes (x, c, h) (y, d, k) =
    let same : y ≡ x = one_starts s prices y x sizes d c in
    one_repaired_from s x a b h (subst (λ (z : List Placement). IsRepairedFrom s z b) same k)
