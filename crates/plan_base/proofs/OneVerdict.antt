-- One verdict for the same claim.
use Rattle.std.proofs.Common.{◌≡◌, ◌≢◌, ℕ, zero, suc, ◌<◌, ◌≤◌, ◌⊎◌, inl, inr, pos, List, [], ◌∷◌, length, slice_get, slice_index_or, Option, Some}
use Rattle.std.proofs.Common.{None, All, AllPairs, refl, sym, ◌∙◌, ap, subst, arith}
use Rattle.std.proofs.lemmas.Int.{ints}
use Rattle.std.proofs.lemmas.List.{get_or_past}
use Rattle.std.proofs.lemmas.Option.{get_or_from_slice_get}
use Rattle.plan_base.specs.declared.parts.Parts.{Parts}
use Rattle.plan_base.specs.declared.parts.GroupPart.{GroupPart}
use Rattle.plan_base.specs.declared.parts.Op.TheVariants.{Single}
use Rattle.plan_base.specs.declared.claim.Placement.{Placement}
use Rattle.plan_base.specs.declared.claim.Claim.{Claim}
use Rattle.plan_base.specs.declared.verdict.Reason.{Reason}
use Rattle.plan_base.specs.declared.verdict.Reason.TheVariants.{UnknownRequest, PlacedTwice, NotPossible, Overlap, OneofTwice, AndPartial, QuotaOver}
use Rattle.plan_base.specs.declared.verdict.Reason.TheVariants.{PriceCount, PriceRange, QuotaPriceCount, QuotaPriceRange, ValueDiffers, BoundDiffers}
use Rattle.plan_base.specs.declared.verdict.Verdict.{Verdict}
use Rattle.plan_base.specs.Feasible.{requests_of, quota_seconds, quota_at, AreOfOneOneOf}
use Rattle.plan_base.specs.Starts.{IsPossibleStart, ShareSlice}
use Rattle.plan_base.specs.Verdict.{IsCertified, IsFirst, IsFirstGroup, IsReason, rank_of, IsFirstReason, verdict_of, IsVerdict}
use Rattle.plan_base.proofs.Single.{one_bound}

-- what is read at a place stands there
pub read_below : {X : Type 0} (xs : List X) (i : ℕ) (x : X) → slice_get xs i ≡ Some x → i < length xs
read_below [] i x e = cc
read_below (y ∷ xs) zero x e = omega arith
read_below (y ∷ xs) (suc i) x e = let rest : i < length xs = read_below xs i x e in omega arith

holds_at_read : {X : Type 0} (P : X → Type 0) (xs : List X) (i : ℕ) (x : X) → All P xs → slice_get xs i ≡ Some x → P x
holds_at_read P xs i x a e = subst P (get_or_from_slice_get xs i x x e) (a i x (read_below xs i x e))

holds_of_pair : {X : Type 0} (R : X → X → Type 0) (xs : List X) (i j : ℕ) (x y : X) → AllPairs R xs → i < j → slice_get xs i ≡ Some x
    → slice_get xs j ≡ Some y → R x y
holds_of_pair R xs i j x y a l e f =
    let pair : R (slice_index_or xs i x) (slice_index_or xs j x) = a i j x l (read_below xs j y f) in
    let left : R x (slice_index_or xs j x) = subst (λ (z : _). R z (slice_index_or xs j x)) (get_or_from_slice_get xs i x x e) pair in
    subst (R x) (get_or_from_slice_get xs j y x f) left

read_request : (plan : List Placement) (i : ℕ) (p : Placement) → slice_get plan i ≡ Some p → slice_get (requests_of plan) i ≡ Some p.request.0
read_request [] i p e = cc
read_request (q ∷ plan) zero p e = ap (λ (o : Option Placement). elim o [ None ↦ None | Some z ↦ Some z.request.0 ]) e
read_request (q ∷ plan) (suc i) p e = read_request plan i p e

pos_same : (a b : ℕ) → pos a ≡ pos b → a ≡ b
pos_same a b e = omega (arith, ints)

within_all : (us : List ℕ) (j m : ℕ) → All (λ u. u ≤ m) us → m < slice_index_or us j 0 → ⊥
within_all [] j m a h = omega arith
within_all (u ∷ us) j m a h = by_place (place_cases j (length (u ∷ us)))
  where
    place_cases : (a b : ℕ) → (a < b) ⊎ (b ≤ a)
    place_cases a b = grind arith

    by_place : (j < length (u ∷ us)) ⊎ (length (u ∷ us) ≤ j) → ⊥
    by_place (inl l) = let most : slice_index_or (u ∷ us) j 0 ≤ m = a j 0 l in omega arith
    by_place (inr l) = let none : slice_index_or (u ∷ us) j 0 ≡ 0 = get_or_past (u ∷ us) j 0 l in omega arith

-- of a certified claim no reason holds
pub certified_has_no_reason : (s : Parts) (claim : Claim) (reason : Reason) → IsCertified s claim → IsReason s claim reason → ⊥
certified_has_no_reason s claim (UnknownRequest i) c ((p, e, n), first) = n (holds_at_read (IsPossibleStart s) claim.placements i p c.feasible.possible e).known
certified_has_no_reason s claim (PlacedTwice i) c ((j, p, q, l, e, f, same), first) =
    holds_of_pair (λ a b. a ≢ b) (requests_of claim.placements) j i p.request.0 q.request.0 c.feasible.once l (read_request claim.placements j p e)
    (read_request claim.placements i q f) (ap (λ r. r.0) same)
certified_has_no_reason s claim (NotPossible i) c ((p, e, n), first) = n (holds_at_read (IsPossibleStart s) claim.placements i p c.feasible.possible e)
certified_has_no_reason s claim (Overlap i) c ((j, p, q, l, e, f, share), first) =
    holds_of_pair (λ a b. ¬ (ShareSlice s a b)) claim.placements j i p q c.feasible.disjoint l e f share
certified_has_no_reason s claim (OneofTwice group) c (g, ((kind, i, j, a, b, l, e, f, of_a, of_b), first), named) =
    holds_of_pair (λ x y. ¬ (AreOfOneOneOf s x y)) (requests_of claim.placements) i j a b c.feasible.oneof_once l e f (g, kind, of_a, of_b)
certified_has_no_reason s claim (AndPartial group) c (g, ((kind, a, b, of_a, of_b, placed, missing), first), named) = elim (c.feasible.and_whole g kind) [
  | inl all ↦ missing (all b of_b)
  | inr none ↦ none a of_a placed
]
certified_has_no_reason s claim (QuotaOver quota seconds most) c (((l, over), first), e, f) = let within = c.feasible.within_quotas quota l in omega arith
certified_has_no_reason s claim (PriceCount given wanted) c (e, f, n) = n (e ∙ c.price_count ∙ sym f)
certified_has_no_reason s claim (PriceRange i) c ((l, n), first) = n (c.price_range i (pos 0) l)
certified_has_no_reason s claim (QuotaPriceCount given wanted) c (e, f, n) = n c.quota_price_count
certified_has_no_reason s claim (QuotaPriceRange i) c (over, first) = within_all claim.quota_prices.0 i 200000 c.quota_price_range over
certified_has_no_reason s claim (ValueDiffers claimed found) c (e, f, n) = n (e ∙ c.value ∙ sym f)
certified_has_no_reason s claim (BoundDiffers claimed found) c (e, f, n) =
    n (e ∙ pos_same claim.bound found (one_bound s claim.prices.0 claim.quota_prices.0 (pos claim.bound) (pos found) c.bound f))

below_same_above : (a b : ℕ) → ((a < b) ⊎ (b < a)) ⊎ (a ≡ b)
below_same_above a b = grind arith

one_first : (P : ℕ → Type 0) (i j : ℕ) → IsFirst P i → IsFirst P j → i ≡ j
one_first P i j (h, a) (g, b) = elim (below_same_above i j) [
  | inl (inl l) ↦ absurd (b i l h)
  | inl (inr l) ↦ absurd (a j l g)
  | inr e ↦ e
]

one_first_group : (s : Parts) (P : ℕ → Type 0) (m n : ℕ) → IsFirstGroup s P m → IsFirstGroup s P n → m ≡ n
one_first_group s P m n (g, first, named) (h, other, called) =
    let some : GroupPart = record { group = record { 0 = 0 }; op = Single; requests = []; quota = None } in
    let same : h ≡ g = one_first P h g other first in
    sym (named some) ∙ subst (λ (k : ℕ). (slice_index_or s.groups k some).group.0 ≡ n) same (called some)

-- reasons of one rank that hold of a claim are the same
same_reason : (s : Parts) (claim : Claim) (a b : Reason) → rank_of a ≡ rank_of b → IsReason s claim a → IsReason s claim b → a ≡ b
same_reason s claim (UnknownRequest i) (UnknownRequest j) e h g = ap (λ (k : ℕ). UnknownRequest k) (one_first _ i j h g)
same_reason s claim (PlacedTwice i) (PlacedTwice j) e h g = ap (λ (k : ℕ). PlacedTwice k) (one_first _ i j h g)
same_reason s claim (NotPossible i) (NotPossible j) e h g = ap (λ (k : ℕ). NotPossible k) (one_first _ i j h g)
same_reason s claim (Overlap i) (Overlap j) e h g = ap (λ (k : ℕ). Overlap k) (one_first _ i j h g)
same_reason s claim (OneofTwice m) (OneofTwice n) e h g = let same : m.0 ≡ n.0 = one_first_group s _ m.0 n.0 h g in λ i. OneofTwice (record { 0 = same i })
same_reason s claim (AndPartial m) (AndPartial n) e h g = let same : m.0 ≡ n.0 = one_first_group s _ m.0 n.0 h g in λ i. AndPartial (record { 0 = same i })
same_reason s claim (QuotaOver q x y) (QuotaOver r v w) e (h, hx, hy) (g, gv, gw) =
    let same : q ≡ r = one_first _ q r h g in
    let seconds : x ≡ v = hx ∙ ap (λ (k : ℕ). quota_seconds s k (requests_of claim.placements)) same ∙ sym gv in
    let most : y ≡ w = hy ∙ ap (λ (k : ℕ). quota_at s k) same ∙ sym gw in
    λ i. QuotaOver (same i) (seconds i) (most i)
same_reason s claim (PriceCount x y) (PriceCount v w) e (a, b, n) (c, d, m) = let given : x ≡ v = a ∙ sym c in let wanted : y ≡ w = b ∙ sym d in
    λ i. PriceCount (given i) (wanted i)
same_reason s claim (PriceRange i) (PriceRange j) e h g = ap (λ (k : ℕ). PriceRange k) (one_first _ i j h g)
same_reason s claim (QuotaPriceCount x y) (QuotaPriceCount v w) e (a, b, n) (c, d, m) = let given : x ≡ v = a ∙ sym c in
    let wanted : y ≡ w = b ∙ sym d in λ i. QuotaPriceCount (given i) (wanted i)
same_reason s claim (QuotaPriceRange i) (QuotaPriceRange j) e h g = ap (λ (k : ℕ). QuotaPriceRange k) (one_first _ i j h g)
same_reason s claim (ValueDiffers x y) (ValueDiffers v w) e (a, b, n) (c, d, m) = let claimed : x ≡ v = a ∙ sym c in let found : y ≡ w = b ∙ sym d in
    λ i. ValueDiffers (claimed i) (found i)
same_reason s claim (BoundDiffers x y) (BoundDiffers v w) e (a, b, n) (c, d, m) =
    let claimed : x ≡ v = a ∙ sym c in
    let found : y ≡ w = pos_same y w (one_bound s claim.prices.0 claim.quota_prices.0 (pos y) (pos w) b d) in
    λ i. BoundDiffers (claimed i) (found i)
same_reason s claim a b e h g = absurd (omega (arith, e))

pub one_first_reason : (s : Parts) (claim : Claim) (x y : Option Reason) → IsFirstReason s claim x → IsFirstReason s claim y → x ≡ y
one_first_reason s claim None None h g = refl
one_first_reason s claim None (Some b) h (g, first) = absurd (certified_has_no_reason s claim b h g)
one_first_reason s claim (Some a) None (h, first) g = absurd (certified_has_no_reason s claim a g h)
one_first_reason s claim (Some a) (Some b) (h, ha) (g, gb) = elim (below_same_above (rank_of a) (rank_of b)) [
  | inl (inl l) ↦ absurd (gb a l h)
  | inl (inr l) ↦ absurd (ha b l g)
  | inr e ↦ ap (λ (r : Reason). Some r) (same_reason s claim a b e h g)
]

pub one_verdict : (s : Parts) (claim : Claim) (v w : Verdict) → IsVerdict s claim v → IsVerdict s claim w → v ≡ w
one_verdict s claim v w (x, h, e) (y, g, f) = e ∙ ap (λ (o : Option Reason). verdict_of claim o) (one_first_reason s claim x y h g) ∙ sym f
