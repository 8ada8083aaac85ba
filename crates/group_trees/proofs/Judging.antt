-- The verdict with trees, from what a check without them tells.
use Rattle.std.proofs.Common.{◌≡◌, ◌≢◌, ℕ, ◌≤◌, ◌<◌, inl, inr, ℤ, pos, ◌+ℤ◌, ◌≤ℤ◌, List, [], ◌∷◌, length, slice_get, Some, All, refl, sym, ◌∙◌, subst, arith}
use Rattle.std.proofs.lemmas.Int.{ints}
use Rattle.std.proofs.lemmas.List.Elements.{All-nil}
use Rattle.std.proofs.lemmas.Option.{slice_get_within, get_or_from_slice_get}
use Rattle.plan_base.specs.declared.parts.Parts.{Parts}
use Rattle.plan_base.specs.declared.claim.Claim.{Claim}
use Rattle.plan_base.specs.declared.verdict.Reason.TheVariants as checked
use Rattle.plan_base.specs.Sums.{total, IsSumOf}
use Rattle.plan_base.specs.Starts.{IsPossibleStart}
use Rattle.plan_base.specs.Bound.{IsBest, net_price, IsRebate, IsQuotaPart, IsBound}
use Rattle.plan_base.specs.Verdict.{IsFirst}
use Rattle.plan_base.proofs.Single.{one_rebate, one_sum}
use Rattle.plan_base.proofs.Split.{sum_not_negative}
use Rattle.bound_checker.specs.Reasons.{ArePlaced}
use Rattle.bound_checker.specs.Summed.{IsSummed}
use Rattle.bound_checker.proofs.Stages.{clear_of_overlap}
use Rattle.group_trees.specs.declared.verdict.ForestReason.{ForestReason}
use Rattle.group_trees.specs.declared.verdict.ForestReason.TheVariants.{UnknownRequest, PlacedTwice, NotPossible, Overlap, NotAllowed, PriceCount}
use Rattle.group_trees.specs.declared.verdict.ForestReason.TheVariants.{PriceRange, QuotaPriceCount, ValueDiffers, BoundDiffers}
use Rattle.group_trees.specs.Trees.{Node}
use Rattle.group_trees.specs.Forests.{IsAt}
use Rattle.group_trees.specs.Plans.{IsAllowed}
use Rattle.group_trees.specs.Rebates.{IsRebateAt, IsForestBound}
use Rattle.group_trees.specs.Verdicts.{IsForestCertified, IsForestReason, rank_of_reason, IsFirstForestReason}
use Rattle.group_trees.specs.Turned.{AreSumsFit, IsPricedFirst}
use Rattle.group_trees.proofs.Stable.{decide_same}

holds_at_read : {X : Type 0} (P : X → Type 0) (xs : List X) (i : ℕ) (x : X) → All P xs → slice_get xs i ≡ Some x → P x
holds_at_read P xs i x a e = subst P (get_or_from_slice_get xs i x x e) (a i x (slice_get_within xs i x e))

module _ (s : Parts) (trees : List Node) (claim : Claim) where
  -- where the placements are right, no reason before the trees holds
  before_trees : (other : ForestReason) → ArePlaced s claim.placements → rank_of_reason other < 5 → ¬ (IsForestReason s trees claim other)
  before_trees (UnknownRequest i) placed l h = clear_of_overlap s claim placed (checked.UnknownRequest i) (omega arith) h
  before_trees (PlacedTwice i) placed l h = clear_of_overlap s claim placed (checked.PlacedTwice i) (omega arith) h
  before_trees (NotPossible i) placed l h = clear_of_overlap s claim placed (checked.NotPossible i) (omega arith) h
  before_trees (Overlap i) placed l h = clear_of_overlap s claim placed (checked.Overlap i) (omega arith) h
  before_trees other placed l h = omega (arith, l)

  no_tree : (other : ForestReason) → All (IsAllowed claim.placements) trees → rank_of_reason other ≡ 5 → ¬ (IsForestReason s trees claim other)
  no_tree (NotAllowed tree) allowed e ((t, read, not), first) = not (holds_at_read (IsAllowed claim.placements) trees tree t allowed read)
  no_tree other allowed e h = omega (arith, e)

  -- a tree that doesn't allow what is placed of it
  pub tree_first : (tree : ℕ) → ArePlaced s claim.placements → IsFirst (IsAt (λ t. ¬ (IsAllowed claim.placements t)) trees) tree
      → IsFirstForestReason s trees claim (NotAllowed tree)
  tree_first tree placed h = (h, λ other l. before_trees other placed l)

  -- a reason that comes after the trees
  pub priced_first : (reason : ForestReason) → IsPricedFirst s claim reason → All (IsAllowed claim.placements) trees → IsFirstForestReason s trees claim reason
  priced_first reason h allowed = (
    h.holds trees,
    λ other l. elim (decide_same (rank_of_reason other) 5) [
      | inl e ↦ no_tree other allowed e
      | inr not_tree ↦ h.first trees other l not_tree
    ],
  )

  before_bound : (other : ForestReason) → AreSumsFit s claim → All (IsAllowed claim.placements) trees → rank_of_reason other < 10
      → ¬ (IsForestReason s trees claim other)
  before_bound (PriceCount given wanted) fit allowed l (e, f, n) = n (e ∙ fit.price_count ∙ sym f)
  before_bound (PriceRange i) fit allowed l ((m, not), first) = not (fit.price_range i (pos 0) m)
  before_bound (QuotaPriceCount given wanted) fit allowed l (e, f, n) = n (inl fit.no_quota_price)
  before_bound (ValueDiffers claimed found) fit allowed l (e, f, n) = n (e ∙ fit.value ∙ sym f)
  before_bound (BoundDiffers claimed found) fit allowed l h = omega (arith, l)
  before_bound (NotAllowed tree) fit allowed l h = no_tree (NotAllowed tree) allowed refl h
  before_bound (UnknownRequest i) fit allowed l h = before_trees (UnknownRequest i) fit.placed (omega arith) h
  before_bound (PlacedTwice i) fit allowed l h = before_trees (PlacedTwice i) fit.placed (omega arith) h
  before_bound (NotPossible i) fit allowed l h = before_trees (NotPossible i) fit.placed (omega arith) h
  before_bound (Overlap i) fit allowed l h = before_trees (Overlap i) fit.placed (omega arith) h

  pub bound_first : (claimed found : ℕ) → AreSumsFit s claim → All (IsAllowed claim.placements) trees → claimed ≡ claim.bound
      → IsForestBound s trees claim.prices.0 (pos found) → claimed ≢ found
      → IsFirstForestReason s trees claim (BoundDiffers claimed found)
  bound_first claimed found fit allowed e bound differ = ((e, bound, differ), λ other l. before_bound other fit allowed l)

  pub certified_when : AreSumsFit s claim → All (IsAllowed claim.placements) trees → IsForestBound s trees claim.prices.0 (pos claim.bound)
      → IsForestCertified s trees claim
  certified_when fit allowed bound = record {
    feasible = record { possible = fit.placed.possible; once = fit.placed.once; disjoint = fit.placed.disjoint; allowed = allowed };
    price_count = fit.price_count;
    price_range = fit.price_range;
    no_quota_price = fit.no_quota_price;
    value = fit.value;
    bound = bound;
  }

-- ---- the bound with other rebates

best_not_negative : (s : Parts) (prices : List ℤ) (t k : ℕ) (b : ℤ) → IsBest s prices t k b → pos 0 ≤ℤ b
best_not_negative s prices t k b best =
    best.bound [] (record {
      possible = All-nil (IsPossibleStart s);
      same_telescope = All-nil (λ p. p.telescope.0 ≡ t);
      later = All-nil (λ p. k ≤ p.slice.0);
      disjoint = λ i j d l m. absurd (omega arith);
    })

empty_sum : (n : ℕ) (P : ℕ → ℤ → Type 0) (b : ℤ) → n ≡ 0 → IsSumOf n P b → b ≡ pos 0
empty_sum n P b e sum = sym sum.sum ∙ nothing sum.parts (sum.count ∙ e)
  where
    nothing : (xs : List ℤ) → length xs ≡ 0 → total (λ x. x) xs ≡ pos 0
    nothing [] l = refl
    nothing (x ∷ xs) l = absurd (omega arith)

module _ (s : Parts) (prices : List ℤ) (quota_prices : List ℕ) (found groups : ℤ) (no_quota : length s.quotas ≡ 0)
    (bound : IsBound s prices quota_prices found)
    (summed : IsSummed (length s.groups) (IsRebate s (net_price s prices quota_prices)) 1024000000000000 groups) where
  same_rebates : bound.rebates ≡ groups
  same_rebates = one_sum (length s.groups) (IsRebate s (net_price s prices quota_prices)) bound.rebates groups
      (λ g x y. one_rebate s (net_price s prices quota_prices) g x y) bound.rebate summed.sum

  no_quotas : bound.quotas ≡ pos 0
  no_quotas = empty_sum (length s.quotas) (IsQuotaPart s quota_prices) bound.quotas no_quota bound.quota

  -- the rebates of the groups are a part of the bound
  pub groups_within : groups ≤ℤ found
  groups_within =
      let least : pos 0 ≤ℤ bound.bests = sum_not_negative (length s.telescopes) (λ t. IsBest s prices t s.first.0) bound.bests bound.best
      (λ t y l best. best_not_negative s prices t s.first.0 y best) in
      let whole : found ≡ bound.bests +ℤ bound.rebates +ℤ bound.quotas = bound.whole in
      let same : bound.rebates ≡ groups = same_rebates in
      let quotas : bound.quotas ≡ pos 0 = no_quotas in
      omega (arith, ints)

  -- with the rebates of the trees in their place it is the bound of the forest
  pub replaced_bound : (trees : List Node) (rebates b : ℤ) → IsSumOf (length trees) (IsRebateAt s prices trees) rebates
      → b +ℤ groups ≡ found +ℤ rebates → IsForestBound s trees prices b
  replaced_bound trees rebates b sum e =
      let whole : found ≡ bound.bests +ℤ bound.rebates +ℤ bound.quotas = bound.whole in
      let same : bound.rebates ≡ groups = same_rebates in
      let quotas : bound.quotas ≡ pos 0 = no_quotas in
      record { bests = bound.bests; rebates = rebates; best = bound.best; rebate = sum; whole = omega (arith, ints) }
