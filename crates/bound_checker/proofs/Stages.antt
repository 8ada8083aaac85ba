-- The reasons that the tests exclude, one after another.
use Rattle.std.proofs.Common.{◌≡◌, ◌≢◌, ℕ, zero, suc, ◌+◌, ◌<◌, ◌≤◌, ◌⊎◌, inl, inr, ℤ, pos, List, [], ◌∷◌, length, map, slice_get, slice_index_or}
use Rattle.std.proofs.Common.{Option, Some, None, All, AllPairs, Contains, refl, sym, ◌∙◌, ap, subst, arith}
use Rattle.std.proofs.lemmas.Int.{ints}
use Rattle.std.proofs.lemmas.List.{length-map, get_or_past}
use Rattle.std.proofs.lemmas.List.Elements.{All-map}
use Rattle.std.proofs.lemmas.Option.{slice_get_within, get_or_from_slice_get}
use Rattle.plan_base.specs.declared.parts.Parts.{Parts}
use Rattle.plan_base.specs.declared.claim.Placement.{Placement}
use Rattle.plan_base.specs.declared.claim.Claim.{Claim}
use Rattle.plan_base.specs.declared.verdict.Reason.{Reason}
use Rattle.plan_base.specs.declared.verdict.Reason.TheVariants.{UnknownRequest, PlacedTwice, NotPossible, Overlap, OneofTwice, AndPartial, QuotaOver}
use Rattle.plan_base.specs.declared.verdict.Reason.TheVariants.{PriceCount, PriceRange, QuotaPriceCount, QuotaPriceRange, ValueDiffers, BoundDiffers}
use Rattle.plan_base.specs.declared.fault.Counted.TheVariants.{Requests}
use Rattle.plan_base.specs.Requests.{Listed, listed, IsKnown}
use Rattle.plan_base.specs.Snapshot.{IsOrderly}
use Rattle.plan_base.specs.Starts.{IsPossibleStart, ShareSlice, value_of_plan}
use Rattle.plan_base.specs.Feasible.{requests_of, quota_seconds, quota_at, AreOfOneOneOf, IsEachPossible, IsEachOnce, IsDisjoint, IsOneofOnce}
use Rattle.plan_base.specs.Feasible.{IsAndWhole, IsWithinQuotas, IsFeasible}
use Rattle.plan_base.specs.Bound.{IsBound}
use Rattle.plan_base.specs.Verdict.{IsPriceInRange, IsQuotaPriceCount, IsCertified, IsFirst, IsUnknownAt, IsNotPossibleAt, HasEarlier, IsReason, rank_of}
use Rattle.plan_base.proofs.Known.{known_as, IsListedAs}
use Rattle.plan_base.proofs.Lists.{contains_map, length_among}
use Rattle.bound_checker.specs.Claims.{IsEachKnown}
use Rattle.bound_checker.specs.Reasons.{IsFoundFirst, ArePlaced, AreKindsKept, ArePricesFit, AreAllPricesFit}

-- no reason of a rank below n holds
abbrev pub IsClearTo : ℕ → Parts → Claim → Type 0
IsClearTo n s claim = (other : Reason) → rank_of other < n → ¬ (IsReason s claim other)

holds_at_read : {X : Type 0} (P : X → Type 0) (xs : List X) (i : ℕ) (x : X) → All P xs → slice_get xs i ≡ Some x → P x
holds_at_read P xs i x a e = subst P (get_or_from_slice_get xs i x x e) (a i x (slice_get_within xs i x e))

holds_of_pair : {X : Type 0} (R : X → X → Type 0) (xs : List X) (i j : ℕ) (x y : X) → AllPairs R xs → i < j → slice_get xs i ≡ Some x
    → slice_get xs j ≡ Some y → R x y
holds_of_pair R xs i j x y a l e f =
    let pair : R (slice_index_or xs i x) (slice_index_or xs j x) = a i j x l (slice_get_within xs j y f) in
    let left : R x (slice_index_or xs j x) = subst (λ (z : _). R z (slice_index_or xs j x)) (get_or_from_slice_get xs i x x e) pair in
    subst (R x) (get_or_from_slice_get xs j y x f) left

read_request : (plan : List Placement) (i : ℕ) (p : Placement) → slice_get plan i ≡ Some p → slice_get (requests_of plan) i ≡ Some p.request.0
read_request [] i p e = cc
read_request (q ∷ plan) zero p e = ap (λ (o : Option Placement). elim o [ None ↦ None | Some z ↦ Some z.request.0 ]) e
read_request (q ∷ plan) (suc i) p e = read_request plan i p e

from_one : (r : Reason) → rank_of r < 1 → ⊥
from_one (UnknownRequest i) l = omega (arith, l)
from_one r l = omega (arith, l)

below_or_at : (a n : ℕ) → a < n + 1 → (a < n) ⊎ (a ≡ n)
below_or_at a n l = grind arith

module _ (s : Parts) (claim : Claim) where
  clear_more : (n : ℕ) → IsClearTo n s claim → ((other : Reason) → rank_of other ≡ n → ¬ (IsReason s claim other)) → IsClearTo (n + 1) s claim
  clear_more n clear here other l = elim (below_or_at (rank_of other) n l) [
    | inl below ↦ clear other below
    | inr at ↦ here other at
  ]

  no_unknown : IsEachKnown s claim.placements → (r : Reason) → rank_of r ≡ 1 → ¬ (IsReason s claim r)
  no_unknown known (UnknownRequest i) e ((p, read, not), first) = not (holds_at_read (λ q. IsKnown s q.request.0) claim.placements i p known read)
  no_unknown known r e h = omega (arith, e)

  no_twice : IsEachOnce claim.placements → (r : Reason) → rank_of r ≡ 2 → ¬ (IsReason s claim r)
  no_twice once (PlacedTwice i) e ((j, p, q, l, read_p, read_q, same), first) =
      holds_of_pair (λ a b. a ≢ b) (requests_of claim.placements) j i p.request.0 q.request.0 once l (read_request claim.placements j p read_p)
      (read_request claim.placements i q read_q) (ap (λ r. r.0) same)
  no_twice once r e h = omega (arith, e)

  no_impossible : IsEachPossible s claim.placements → (r : Reason) → rank_of r ≡ 3 → ¬ (IsReason s claim r)
  no_impossible possible (NotPossible i) e ((p, read, not), first) = not (holds_at_read (IsPossibleStart s) claim.placements i p possible read)
  no_impossible possible r e h = omega (arith, e)

  no_overlap : IsDisjoint s claim.placements → (r : Reason) → rank_of r ≡ 4 → ¬ (IsReason s claim r)
  no_overlap disjoint (Overlap i) e ((j, p, q, l, read_p, read_q, share), first) =
      holds_of_pair (λ a b. ¬ (ShareSlice s a b)) claim.placements j i p q disjoint l read_p read_q share
  no_overlap disjoint r e h = omega (arith, e)

  no_oneof_twice : IsOneofOnce s claim.placements → (r : Reason) → rank_of r ≡ 5 → ¬ (IsReason s claim r)
  no_oneof_twice once (OneofTwice group) e (g, ((kind, i, j, a, b, l, read_a, read_b, of_a, of_b), first), named) =
      holds_of_pair (λ x y. ¬ (AreOfOneOneOf s x y)) (requests_of claim.placements) i j a b once l read_a read_b (g, kind, of_a, of_b)
  no_oneof_twice once r e h = omega (arith, e)

  no_and_partial : IsAndWhole s claim.placements → (r : Reason) → rank_of r ≡ 6 → ¬ (IsReason s claim r)
  no_and_partial whole (AndPartial group) e (g, ((kind, a, b, of_a, of_b, placed, missing), first), named) = elim (whole g kind) [
    | inl all ↦ missing (all b of_b)
    | inr none ↦ none a of_a placed
  ]
  no_and_partial whole r e h = omega (arith, e)

  no_quota_over : IsWithinQuotas s claim.placements → (r : Reason) → rank_of r ≡ 7 → ¬ (IsReason s claim r)
  no_quota_over within (QuotaOver quota seconds most) e (((l, over), first), f, g) = let most = within quota l in omega arith
  no_quota_over within r e h = omega (arith, e)

  no_price_count : length claim.prices.0 ≡ length (listed s) → (r : Reason) → rank_of r ≡ 8 → ¬ (IsReason s claim r)
  no_price_count count (PriceCount given wanted) e (f, g, differ) = differ (f ∙ count ∙ sym g)
  no_price_count count r e h = omega (arith, e)

  no_price_range : All IsPriceInRange claim.prices.0 → (r : Reason) → rank_of r ≡ 9 → ¬ (IsReason s claim r)
  no_price_range range (PriceRange i) e ((l, not), first) = not (range i (pos 0) l)
  no_price_range range r e h = omega (arith, e)

  no_quota_price_count : IsQuotaPriceCount s claim.quota_prices.0 → (r : Reason) → rank_of r ≡ 10 → ¬ (IsReason s claim r)
  no_quota_price_count count (QuotaPriceCount given wanted) e (f, g, not) = not count
  no_quota_price_count count r e h = omega (arith, e)

  no_quota_price_range : All (λ u. u ≤ 200000) claim.quota_prices.0 → (r : Reason) → rank_of r ≡ 11 → ¬ (IsReason s claim r)
  no_quota_price_range range (QuotaPriceRange i) e (over, first) = within_all claim.quota_prices.0 i range over
    where
      place_cases : (a b : ℕ) → (a < b) ⊎ (b ≤ a)
      place_cases a b = grind arith

      within_all : (us : List ℕ) (j : ℕ) → All (λ u. u ≤ 200000) us → 200000 < slice_index_or us j 0 → ⊥
      within_all us j a h = elim (place_cases j (length us)) [
        | inl l ↦ let most : slice_index_or us j 0 ≤ 200000 = a j 0 l in omega arith
        | inr past ↦ let none : slice_index_or us j 0 ≡ 0 = get_or_past us j 0 past in omega arith
      ]
  no_quota_price_range range r e h = omega (arith, e)

  no_value_differs : claim.value ≡ value_of_plan s claim.placements → (r : Reason) → rank_of r ≡ 12 → ¬ (IsReason s claim r)
  no_value_differs value (ValueDiffers claimed found) e (f, g, differ) = differ (f ∙ value ∙ sym g)
  no_value_differs value r e h = omega (arith, e)

  pub clear_of_none : IsClearTo 1 s claim
  clear_of_none other l h = from_one other l

  pub clear_of_unknown : IsEachKnown s claim.placements → IsClearTo 2 s claim
  clear_of_unknown known = clear_more 1 clear_of_none (no_unknown known)

  pub clear_of_twice : IsEachKnown s claim.placements → IsEachOnce claim.placements → IsClearTo 3 s claim
  clear_of_twice known once = clear_more 2 (clear_of_unknown known) (no_twice once)

  pub clear_of_impossible : IsEachKnown s claim.placements → IsEachOnce claim.placements → IsEachPossible s claim.placements → IsClearTo 4 s claim
  clear_of_impossible known once possible = clear_more 3 (clear_of_twice known once) (no_impossible possible)

  pub clear_of_overlap : ArePlaced s claim.placements → IsClearTo 5 s claim
  clear_of_overlap placed = clear_more 4 (clear_of_impossible placed.known placed.once placed.possible) (no_overlap placed.disjoint)

  pub clear_of_oneof : ArePlaced s claim.placements → IsOneofOnce s claim.placements → IsClearTo 6 s claim
  clear_of_oneof placed once = clear_more 5 (clear_of_overlap placed) (no_oneof_twice once)

  pub clear_of_and : AreKindsKept s claim.placements → IsClearTo 7 s claim
  clear_of_and kept = clear_more 6 (clear_of_oneof kept.placed kept.oneof_once) (no_and_partial kept.and_whole)

  kept_from_feasible : IsFeasible s claim.placements → AreKindsKept s claim.placements
  kept_from_feasible f = record {
    placed = record { known = λ i d l. (f.possible i d l).known; once = f.once; possible = f.possible; disjoint = f.disjoint };
    oneof_once = f.oneof_once;
    and_whole = f.and_whole;
  }

  pub clear_of_quota : IsFeasible s claim.placements → IsClearTo 8 s claim
  clear_of_quota f = clear_more 7 (clear_of_and (kept_from_feasible f)) (no_quota_over f.within_quotas)

  pub clear_of_price_count : IsFeasible s claim.placements → length claim.prices.0 ≡ length (listed s) → IsClearTo 9 s claim
  clear_of_price_count f count = clear_more 8 (clear_of_quota f) (no_price_count count)

  pub clear_of_price_range : IsFeasible s claim.placements → ArePricesFit s claim → IsClearTo 10 s claim
  clear_of_price_range f fit = clear_more 9 (clear_of_price_count f fit.count) (no_price_range fit.range)

  pub clear_of_quota_price_count : IsFeasible s claim.placements → ArePricesFit s claim → IsQuotaPriceCount s claim.quota_prices.0 → IsClearTo 11 s claim
  clear_of_quota_price_count f fit count = clear_more 10 (clear_of_price_range f fit) (no_quota_price_count count)

  pub clear_of_quota_price_range : IsFeasible s claim.placements → AreAllPricesFit s claim → IsClearTo 12 s claim
  clear_of_quota_price_range f fit = clear_more 11 (clear_of_quota_price_count f fit.prices fit.quota_count) (no_quota_price_range fit.quota_range)

  pub clear_of_value : IsFeasible s claim.placements → AreAllPricesFit s claim → claim.value ≡ value_of_plan s claim.placements → IsClearTo 13 s claim
  clear_of_value f fit value = clear_more 12 (clear_of_quota_price_range f fit) (no_value_differs value)

  pub certified_when : IsFeasible s claim.placements → AreAllPricesFit s claim → claim.value ≡ value_of_plan s claim.placements
      → IsBound s claim.prices.0 claim.quota_prices.0 (pos claim.bound) → IsCertified s claim
  certified_when f fit value bound = record {
    feasible = f;
    price_count = fit.prices.count;
    price_range = fit.prices.range;
    quota_price_count = fit.quota_count;
    quota_price_range = fit.quota_range;
    value = value;
    bound = bound;
  }

number_listed : (s : Parts) (r : ℕ) → IsKnown s r → Contains (map (λ x. x.request.request.0) (listed s)) r
number_listed s r k =
    let x = known_as s r k in
    subst (λ (n : ℕ). Contains (map (λ x. x.request.request.0) (listed s)) n) x.1.number (contains_map (λ x. x.request.request.0) (listed s) x.0 x.1.in_list)

-- a plan that places known requests once has as many placements as there are requests, or fewer
pub few_placed : (s : Parts) (plan : List Placement) → IsOrderly s → ArePlaced s plan → length plan ≤ 1024
few_placed s plan o placed =
    let known : All (λ r. IsKnown s r) (requests_of plan) = All-map (λ r. IsKnown s r) (λ p. p.request.0) plan placed.known in
    let among : length (requests_of plan) ≤ length (map (λ x. x.request.request.0) (listed s)) =
    length_among (requests_of plan) _ placed.once (λ i d l. number_listed s _ (known i d l)) in
    let same : length (requests_of plan) ≡ length plan = length-map plan (λ p. p.request.0) in
    let all : length (map (λ x. x.request.request.0) (listed s)) ≡ length (listed s) = length-map (listed s) (λ x. x.request.request.0) in
    let most : length (listed s) ≤ 1024 = o.within Requests 0 0 (omega arith) in
    omega arith

pub few_feasible : (s : Parts) (plan : List Placement) → IsOrderly s → IsFeasible s plan → length plan ≤ 1024
few_feasible s plan o f = few_placed s plan o record { known = λ i d l. (f.possible i d l).known; once = f.once; possible = f.possible; disjoint = f.disjoint }

-- ---- the first reason that holds

pub earlier_within : (R : Placement → Placement → Type 0) (plan : List Placement) (i : ℕ) → IsFirst (HasEarlier R plan) i → i < length plan
earlier_within R plan i ((j, p, q, l, read_p, read_q, holds), first) = slice_get_within plan i q read_q

pub impossible_within : (s : Parts) (plan : List Placement) (i : ℕ) → IsFirst (IsNotPossibleAt s plan) i → i < length plan
impossible_within s plan i ((p, read, not), first) = slice_get_within plan i p read

module _ (s : Parts) (claim : Claim) (plan : List Placement) (e : plan ≡ claim.placements) where
  pub unknown_first : (i : ℕ) → IsFirst (IsUnknownAt s plan) i → IsFoundFirst s claim (UnknownRequest i)
  unknown_first i h = (subst (λ (xs : List Placement). IsFirst (IsUnknownAt s xs) i) e h, clear_of_none s claim)

  pub twice_first : (i : ℕ) → IsEachKnown s plan → IsFirst (HasEarlier (λ p q. p.request ≡ q.request) plan) i → IsFoundFirst s claim (PlacedTwice i)
  twice_first i known h = (
    subst (λ (xs : List Placement). IsFirst (HasEarlier (λ p q. p.request ≡ q.request) xs) i) e h,
    clear_of_unknown s claim (subst (IsEachKnown s) e known),
  )

  pub impossible_first : (i : ℕ) → IsEachKnown s plan → IsEachOnce plan → IsFirst (IsNotPossibleAt s plan) i → IsFoundFirst s claim (NotPossible i)
  impossible_first i known once h = (
    subst (λ (xs : List Placement). IsFirst (IsNotPossibleAt s xs) i) e h,
    clear_of_twice s claim (subst (IsEachKnown s) e known) (subst IsEachOnce e once),
  )

  pub overlap_first : (i : ℕ) → IsEachKnown s plan → IsEachOnce plan → IsEachPossible s plan → IsFirst (HasEarlier (ShareSlice s) plan) i
      → IsFoundFirst s claim (Overlap i)
  overlap_first i known once possible h = (
    subst (λ (xs : List Placement). IsFirst (HasEarlier (ShareSlice s) xs) i) e h,
    clear_of_impossible s claim (subst (IsEachKnown s) e known) (subst IsEachOnce e once) (subst (IsEachPossible s) e possible),
  )

  pub placed_when : IsEachKnown s plan → IsEachOnce plan → IsEachPossible s plan → IsDisjoint s plan → ArePlaced s claim.placements
  placed_when known once possible disjoint = subst (ArePlaced s) e record { known = known; once = once; possible = possible; disjoint = disjoint }
