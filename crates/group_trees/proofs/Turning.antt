-- What a check without trees tells of a claim on a snapshot of SINGLEs without quotas.
use Rattle.std.proofs.Common.{◌≡◌, ◌≢◌, ℕ, zero, suc, ◌+◌, ◌≤◌, ◌<◌, ◌⊎◌, inl, inr, ℤ, pos, negsuc, neg_ℤ, ◌≤ℤ◌, List, [], ◌∷◌, length, slice_index_or}
use Rattle.std.proofs.Common.{Option, Some, None, All, refl, sym, ◌∙◌, ap, subst, arith}
use Rattle.std.proofs.lemmas.Int.{ints}
use Rattle.std.proofs.lemmas.List.{get_or_past, get_or_default}
use Rattle.std.proofs.lemmas.Option.{slice_get-get_or}
use Rattle.plan_base.specs.declared.parts.Parts.{Parts}
use Rattle.plan_base.specs.declared.parts.GroupPart.{GroupPart}
use Rattle.plan_base.specs.declared.parts.Op.{Op}
use Rattle.plan_base.specs.declared.parts.Op.TheVariants.{Single, OneOf, And}
use Rattle.plan_base.specs.declared.number.RequestNo.{RequestNo}
use Rattle.plan_base.specs.declared.claim.Claim.{Claim}
use Rattle.plan_base.specs.declared.verdict.Reason.{Reason}
use Rattle.plan_base.specs.declared.verdict.Reason.TheVariants as checked
use Rattle.plan_base.specs.declared.verdict.Verdict.{Verdict}
use Rattle.plan_base.specs.Requests.{listed, IsKind}
use Rattle.plan_base.specs.Starts.{ShareSlice, value_of_plan}
use Rattle.plan_base.specs.Feasible.{IsEachPossible, IsEachOnce, IsDisjoint}
use Rattle.plan_base.specs.Verdict.{IsPriceInRange, IsQuotaPriceCount, IsFirst, IsUnknownAt, IsNotPossibleAt, HasEarlier, IsReason, rank_of}
use Rattle.plan_base.specs.Verdict.{IsFirstReason, verdict_of, IsVerdict}
use Rattle.plan_base.proofs.Lists.{AllPairs-map}
use Rattle.bound_checker.specs.Claims.{IsEachKnown}
use Rattle.bound_checker.specs.Reasons.{ArePlaced}
use Rattle.group_trees.specs.declared.verdict.ForestReason.{ForestReason}
use Rattle.group_trees.specs.declared.verdict.ForestReason.TheVariants.{UnknownRequest, PlacedTwice, NotPossible, Overlap, NotAllowed, PriceCount}
use Rattle.group_trees.specs.declared.verdict.ForestReason.TheVariants.{PriceRange, QuotaPriceCount, ValueDiffers, BoundDiffers}
use Rattle.group_trees.specs.Trees.{Node}
use Rattle.group_trees.specs.Forests.{AreSingles}
use Rattle.group_trees.specs.Verdicts.{IsForestReason, rank_of_reason}
use Rattle.group_trees.specs.Turned.{turned, turned_reason, IsTurned}
use Rattle.group_trees.proofs.Stable.{Decided, stable, decide_lt, decide_same, possible_stable}

-- ---- what holds nowhere first holds nowhere

none_below : (P : ℕ → Type 0) → ((i : ℕ) → ¬ (IsFirst P i)) → (n i : ℕ) → i < n → ¬ (P i)
none_below P never zero i l p = omega arith
none_below P never (suc n) i l p = never i (p, λ j less. none_below P never n j (omega arith))

none_at : (P : ℕ → Type 0) → ((i : ℕ) → ¬ (IsFirst P i)) → (i : ℕ) → ¬ (P i)
none_at P never i = none_below P never (suc i) i (omega arith)

cases_lt : (a b : ℕ) → (a < b) ⊎ (b ≤ a)
cases_lt a b = grind arith

abbrev some_group : GroupPart
some_group = record { group = record { 0 = 0 }; op = Single; requests = []; quota = None }

cases_le : (a b : ℕ) → (a ≤ b) ⊎ (b < a)
cases_le a b = grind arith

decide_price : (z : ℤ) → Decided (IsPriceInRange z)
decide_price (pos n) = elim (cases_le n 1000000000000) [
  | inl l ↦ inl (omega (arith, ints), omega (arith, ints))
  | inr m ↦ inr (λ h. let high : pos n ≤ℤ pos 1000000000000 = h.1 in omega (arith, ints))
]
decide_price (negsuc n) = elim (cases_le (suc n) 1000000000000) [
  | inl l ↦ inl (omega (arith, ints), omega (arith, ints))
  | inr m ↦ inr (λ h. let low : neg_ℤ (pos 1000000000000) ≤ℤ negsuc n = h.0 in omega (arith, ints))
]

module _ (s : Parts) (claim : Claim) where
  known_from : ((i : ℕ) → ¬ (IsReason s claim (checked.UnknownRequest i))) → IsEachKnown s claim.placements
  known_from never = λ k d l. stable _ (decide_lt _ _)
      (λ not. none_at (IsUnknownAt s claim.placements) never k (slice_index_or claim.placements k d, slice_get-get_or claim.placements k d l, not))

  once_from : ((i : ℕ) → ¬ (IsReason s claim (checked.PlacedTwice i))) → IsEachOnce claim.placements
  once_from never =
      AllPairs-map (λ a b. a ≢ b) (λ p. p.request.0) claim.placements
      (λ i j d l m same. none_at (HasEarlier (λ p q. p.request ≡ q.request) claim.placements) never j (
        i,
        slice_index_or claim.placements i d,
        slice_index_or claim.placements j d,
        l,
        slice_get-get_or claim.placements i d (omega arith),
        slice_get-get_or claim.placements j d m,
        ap (λ (n : ℕ). let r : RequestNo = record { 0 = n } in r) same,
      ))

  possible_from : ((i : ℕ) → ¬ (IsReason s claim (checked.NotPossible i))) → IsEachPossible s claim.placements
  possible_from never = λ k d l. possible_stable s _
      (λ not. none_at (IsNotPossibleAt s claim.placements) never k
      (slice_index_or claim.placements k d, slice_get-get_or claim.placements k d l, not))

  disjoint_from : ((i : ℕ) → ¬ (IsReason s claim (checked.Overlap i))) → IsDisjoint s claim.placements
  disjoint_from never = λ i j d l m share. none_at (HasEarlier (ShareSlice s) claim.placements) never j (
    i,
    slice_index_or claim.placements i d,
    slice_index_or claim.placements j d,
    l,
    slice_get-get_or claim.placements i d (omega arith),
    slice_get-get_or claim.placements j d m,
    share,
  )

  -- no reason of a rank below n holds
  abbrev ClearTo : ℕ → Type 0
  ClearTo n = (other : Reason) → rank_of other < n → ¬ (IsReason s claim other)

  placed_from : (n : ℕ) → 5 ≤ n → ClearTo n → ArePlaced s claim.placements
  placed_from n l clear = record {
    known = known_from (λ i. clear (checked.UnknownRequest i) (omega arith));
    once = once_from (λ i. clear (checked.PlacedTwice i) (omega arith));
    possible = possible_from (λ i. clear (checked.NotPossible i) (omega arith));
    disjoint = disjoint_from (λ i. clear (checked.Overlap i) (omega arith));
  }

  count_from : (n : ℕ) → 9 ≤ n → ClearTo n → length claim.prices.0 ≡ length (listed s)
  count_from n l clear = stable _ (decide_same _ _)
      (λ other. clear (checked.PriceCount (length claim.prices.0) (length (listed s))) (omega arith) (refl, refl, other))

  range_from : (n : ℕ) → 10 ≤ n → ClearTo n → All IsPriceInRange claim.prices.0
  range_from n l clear = λ k d m. stable _ (decide_price _)
      (λ not. none_at (λ j. (j < length claim.prices.0) × ¬ (IsPriceInRange (slice_index_or claim.prices.0 j (pos 0))))
      (λ i. clear (checked.PriceRange i) (omega arith)) k
      (m, subst (λ (z : ℤ). ¬ (IsPriceInRange z)) (get_or_default claim.prices.0 k d (pos 0) m) not))

  no_quota_price_from : (n : ℕ) → 11 ≤ n → length s.quotas ≡ 0 → ClearTo n → length claim.quota_prices.0 ≡ 0
  no_quota_price_from n l none clear =
      stable _ (decide_same _ _)
      (λ other. clear (checked.QuotaPriceCount (length claim.quota_prices.0) (length s.quotas)) (omega arith)
      (refl, refl, λ count. elim count [ inl e ↦ other e | inr e ↦ other (e ∙ none) ]))

  value_from : (n : ℕ) → 13 ≤ n → ClearTo n → claim.value ≡ value_of_plan s claim.placements
  value_from n l clear = stable _ (decide_same _ _)
      (λ other. clear (checked.ValueDiffers claim.value (value_of_plan s claim.placements)) (omega arith) (refl, refl, other))

  -- ---- reasons of both checks

  -- the place of the same reason in the order of a check without trees
  abbrev check_rank : ForestReason → ℕ
  check_rank (UnknownRequest i) = 1
  check_rank (PlacedTwice i) = 2
  check_rank (NotPossible i) = 3
  check_rank (Overlap i) = 4
  check_rank (NotAllowed tree) = 0
  check_rank (PriceCount given wanted) = 8
  check_rank (PriceRange i) = 9
  check_rank (QuotaPriceCount given wanted) = 10
  check_rank (ValueDiffers claimed found) = 12
  check_rank (BoundDiffers claimed found) = 13

  early_rank : (other : ForestReason) (n : ℕ) → n ≤ 4 → rank_of_reason other < n → check_rank other < n
  early_rank (UnknownRequest i) n l m = omega (arith, m)
  early_rank (PlacedTwice i) n l m = omega (arith, m)
  early_rank (NotPossible i) n l m = omega (arith, m)
  early_rank (Overlap i) n l m = omega (arith, m)
  early_rank other n l m = omega (arith, m)

  late_rank : (other : ForestReason) (n : ℕ) → n ≤ 9 → rank_of_reason other < n → rank_of_reason other ≢ 5 → check_rank other < n + 2
  late_rank (NotAllowed tree) n l m other = absurd (other refl)
  late_rank (UnknownRequest i) n l m other = omega (arith, m)
  late_rank (PlacedTwice i) n l m other = omega (arith, m)
  late_rank (NotPossible i) n l m other = omega (arith, m)
  late_rank (Overlap i) n l m other = omega (arith, m)
  late_rank (PriceCount given wanted) n l m other = omega (arith, m)
  late_rank (PriceRange i) n l m other = omega (arith, m)
  late_rank (QuotaPriceCount given wanted) n l m other = omega (arith, m)
  late_rank (ValueDiffers claimed found) n l m other = omega (arith, m)
  late_rank (BoundDiffers claimed found) n l m other = omega (arith, m)

  -- no reason holds that a check without trees excludes
  clear_before : (trees : List Node) (n : ℕ) (other : ForestReason) → ClearTo n → check_rank other < n → rank_of_reason other ≢ 5
      → rank_of_reason other < 10 → ¬ (IsForestReason s trees claim other)
  clear_before trees n (UnknownRequest i) clear l other m h = clear (checked.UnknownRequest i) l h
  clear_before trees n (PlacedTwice i) clear l other m h = clear (checked.PlacedTwice i) l h
  clear_before trees n (NotPossible i) clear l other m h = clear (checked.NotPossible i) l h
  clear_before trees n (Overlap i) clear l other m h = clear (checked.Overlap i) l h
  clear_before trees n (NotAllowed tree) clear l other m h = other refl
  clear_before trees n (PriceCount given wanted) clear l other m h = clear (checked.PriceCount given wanted) l h
  clear_before trees n (PriceRange i) clear l other m h = clear (checked.PriceRange i) l h
  clear_before trees n (QuotaPriceCount given wanted) clear l other m h = clear (checked.QuotaPriceCount given wanted) l h
  clear_before trees n (ValueDiffers claimed found) clear l other m h = clear (checked.ValueDiffers claimed found) l h
  clear_before trees n (BoundDiffers claimed found) clear l other m h = omega (arith, m)

  early : (trees : List Node) (n : ℕ) (other : ForestReason) → n ≤ 4 → ClearTo n → rank_of_reason other < n → ¬ (IsForestReason s trees claim other)
  early trees n other l clear m = clear_before trees n other clear (early_rank other n l m) (λ e. omega arith) (omega arith)

  late : (trees : List Node) (n k : ℕ) (other : ForestReason) → n ≤ 9 → n + 2 ≤ k → ClearTo k → rank_of_reason other < n → rank_of_reason other ≢ 5
      → ¬ (IsForestReason s trees claim other)
  late trees n k other l m clear before not_tree =
      let rank : check_rank other < n + 2 = late_rank other n l before not_tree in
      clear_before trees k other clear (omega arith) not_tree (omega arith)

  -- ---- reasons that don't come

  group_single : AreSingles s → (g : ℕ) (k : Op) → k ≢ Single → IsKind s k g → ⊥
  group_single singles g k other kind = elim (cases_lt g (length s.groups)) [
    | inl l ↦ other (sym (kind some_group) ∙ singles.single g some_group l)
    | inr past ↦ other (sym (kind some_group) ∙ ap (λ (x : GroupPart). x.op) (get_or_past s.groups g some_group past))
  ]

  none_above : (us : List ℕ) (i : ℕ) → length us ≡ 0 → 200000 < slice_index_or us i 0 → ⊥
  none_above [] i e over = omega arith
  none_above (u ∷ us) i e over = omega arith

  -- ---- what is told

  turned_some : (reason : Reason) → AreSingles s → IsFirstReason s claim (Some reason) → IsTurned s claim (turned_reason reason)
  turned_some (checked.UnknownRequest i) singles (h, clear) = λ trees. (h, λ other l. early trees 1 other (omega arith) clear l)
  turned_some (checked.PlacedTwice i) singles (h, clear) = λ trees. (h, λ other l. early trees 2 other (omega arith) clear l)
  turned_some (checked.NotPossible i) singles (h, clear) = λ trees. (h, λ other l. early trees 3 other (omega arith) clear l)
  turned_some (checked.Overlap i) singles (h, clear) = λ trees. (h, λ other l. early trees 4 other (omega arith) clear l)
  turned_some (checked.OneofTwice group) singles ((g, first, named), clear) = group_single singles g OneOf (λ e. cc) first.0.0
  turned_some (checked.AndPartial group) singles ((g, first, named), clear) = group_single singles g And (λ e. cc) first.0.0
  turned_some (checked.QuotaOver quota seconds most) singles ((((l, over), first), e, f), clear) = let none : length s.quotas ≡ 0 =
      singles.no_quota in omega arith
  turned_some (checked.PriceCount given wanted) singles (h, clear) = record {
    placed = placed_from 8 (omega arith) clear;
    holds = λ trees. h;
    first = λ trees other l not_tree. late trees 6 8 other (omega arith) (omega arith) clear l not_tree;
  }
  turned_some (checked.PriceRange i) singles (h, clear) = record {
    placed = placed_from 9 (omega arith) clear;
    holds = λ trees. h;
    first = λ trees other l not_tree. late trees 7 9 other (omega arith) (omega arith) clear l not_tree;
  }
  turned_some (checked.QuotaPriceCount given wanted) singles (h, clear) = record {
    placed = placed_from 10 (omega arith) clear;
    holds = λ trees. h;
    first = λ trees other l not_tree. late trees 8 10 other (omega arith) (omega arith) clear l not_tree;
  }
  turned_some (checked.QuotaPriceRange i) singles ((over, first), clear) =
      none_above claim.quota_prices.0 i (no_quota_price_from 11 (omega arith) singles.no_quota clear) over
  turned_some (checked.ValueDiffers claimed found) singles (h, clear) = record {
    placed = placed_from 12 (omega arith) clear;
    holds = λ trees. h;
    first = λ trees other l not_tree. late trees 9 12 other (omega arith) (omega arith) clear l not_tree;
  }
  turned_some (checked.BoundDiffers claimed found) singles ((e, bound, differ), clear) = record {
    fit = record {
      placed = placed_from 13 (omega arith) clear;
      price_count = count_from 13 (omega arith) clear;
      price_range = range_from 13 (omega arith) clear;
      no_quota_price = no_quota_price_from 13 (omega arith) singles.no_quota clear;
      value = value_from 13 (omega arith) clear;
    };
    bound = bound;
  }

  no_price_of : IsQuotaPriceCount s claim.quota_prices.0 → length s.quotas ≡ 0 → length claim.quota_prices.0 ≡ 0
  no_price_of (inl e) none = e
  no_price_of (inr e) none = e ∙ none

  turned_found : (found : Option Reason) → AreSingles s → IsFirstReason s claim found → IsTurned s claim (turned (verdict_of claim found))
  turned_found None singles h = record {
    fit = record {
      placed = record {
        known = λ i d l. (h.feasible.possible i d l).known;
        once = h.feasible.once;
        possible = h.feasible.possible;
        disjoint = h.feasible.disjoint;
      };
      price_count = h.price_count;
      price_range = h.price_range;
      no_quota_price = no_price_of h.quota_price_count singles.no_quota;
      value = h.value;
    };
    bound = h.bound;
  }
  turned_found (Some reason) singles h = turned_some reason singles h

  -- what a check without trees tells
  pub turned_is : (verdict : Verdict) → AreSingles s → IsVerdict s claim verdict → IsTurned s claim (turned verdict)
  turned_is verdict singles (found, h, e) = subst (λ (v : Verdict). IsTurned s claim (turned v)) (sym e) (turned_found found singles h)
