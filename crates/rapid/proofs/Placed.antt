-- The plan with a start in it, or as it was.
use Rattle.std.proofs.Common.{◌≡◌, ◌≢◌, ℕ, ◌+◌, ◌<◌, ◌≤◌, Bool, not, List, [], ◌∷◌, ◌++◌, map, filter, slice_index_or, AllPairs, IsPermutation, refl}
use Rattle.std.proofs.Common.{sym, ◌∙◌, ap, subst, arith}
use Rattle.std.specs.List.Sorted.{IsSortedBy, IsNonDecreasingBy}
use Rattle.std.proofs.lemmas.Bool.Decides.{Decides-not}
use Rattle.std.proofs.lemmas.List.Filters.{sum_by-filter_both}
use Rattle.std.proofs.lemmas.List.Sorted.{IsPermutation-map}
use Rattle.std.proofs.lemmas.List.Sums.{sum_by-append, sum_by-cons}
use Rattle.plan_base.specs.declared.parts.Parts.{Parts}
use Rattle.plan_base.specs.declared.claim.Placement.{Placement}
use Rattle.plan_base.specs.declared.number.RequestNo.{RequestNo}
use Rattle.plan_base.specs.Snapshot.{IsOrderly}
use Rattle.plan_base.specs.Starts.{worth_at, value_of_plan}
use Rattle.plan_base.specs.Feasible.{requests_of, IsEachOnce, IsFeasible}
use Rattle.plan_base.specs.Repaired.{is_listed_before}
use Rattle.plan_base.proofs.Adding.{so_far_from_feasible}
use Rattle.plan_base.proofs.Listings.{listing_feasible, listing_worth, listing_is}
use Rattle.plan_base.proofs.Members.{pairs_from_map}
use Rattle.plan_base.proofs.Pairs.{all_pairs_permutation}
use Rattle.plan_base.proofs.Removing.{so_far_filter}
use Rattle.rapid.specs.declared.inserted.Inserted.TheVariants.{Placed, NoPlace}
use Rattle.rapid.specs.declared.seeking.Found.{Found}
use Rattle.rapid.specs.Displaced.{HasToGo, Displaces}
use Rattle.rapid.specs.Insertion.{AreRising, IsEarliest, HasNoPlace}
use Rattle.rapid.specs.Placing.{IsPlacedSo}
use Rattle.rapid.proofs.Parting.{one_part}

-- what goes and what stays are together worth what the plan is
values_parted : (s : Parts) (plan : List Placement) (p : Placement) (gone kept : List Placement) → Displaces s plan p gone kept
    → value_of_plan s gone + value_of_plan s kept ≡ value_of_plan s plan
values_parted s plan p gone kept d =
    let test : Placement → Bool = d.go.test in
    let stay : kept ≡ filter (λ q. not (test q)) plan = one_part (λ q. ¬ (HasToGo s plan p q)) plan kept (filter (λ q. not (test q)) plan) d.stay
    (record { test = λ q. not (test q); tells = λ i e l. Decides-not (test (slice_index_or plan i e)) (d.go.tells i e l); those = refl }) in
    let left : value_of_plan s gone ≡ value_of_plan s (filter test plan) = ap (value_of_plan s) d.go.those in
    let right : value_of_plan s kept ≡ value_of_plan s (filter (λ q. not (test q)) plan) = ap (value_of_plan s) stay in
    let both : value_of_plan s (filter test plan) + value_of_plan s (filter (λ q. not (test q)) plan) ≡ value_of_plan s plan =
    sum_by-filter_both test (λ q. not (test q)) (λ x. refl) (worth_at s) plan in
    omega arith

-- what goes is placed once
pub gone_once : (s : Parts) (plan : List Placement) (p : Placement) (gone kept : List Placement) → IsFeasible s plan
    → Displaces s plan p gone kept → IsEachOnce gone
gone_once s plan p gone kept f d = subst IsEachOnce (sym d.go.those) (so_far_filter s d.go.test plan (so_far_from_feasible s plan f)).once

map_twice : {X Y Z : Type 0} (f : X → Y) (g : Y → Z) (xs : List X) → map g (map f xs) ≡ map (λ x. g (f x)) xs
map_twice f g [] = refl
map_twice {X} {Y} {Z} f g (x ∷ xs) = ap (λ (l : List Z). g (f x) ∷ l) (map_twice f g xs)

below_from : (a b : ℕ) → a ≤ b → a ≢ b → a < b
below_from a b l n = omega arith

pub rising_of : (plan : List Placement) (requests sorted : List RequestNo) → IsEachOnce plan → requests ≡ map (λ p. p.request) plan
    → IsPermutation requests sorted → IsNonDecreasingBy (λ r. r.0) sorted → AreRising (requests_of plan) sorted
rising_of plan requests sorted once e permuted order =
    let numbers : map (λ r. r.0) requests ≡ requests_of plan = ap (map (λ (r : RequestNo). r.0)) e ∙ map_twice (λ p. p.request) (λ r. r.0) plan in
    let same : IsPermutation (requests_of plan) (map (λ r. r.0) sorted) =
    subst (λ (ns : List ℕ). IsPermutation ns (map (λ r. r.0) sorted)) numbers (IsPermutation-map (λ r. r.0) requests sorted permuted) in
    let apart : AllPairs (λ a b. a ≢ b) (map (λ r. r.0) sorted) =
    all_pairs_permutation (λ a b. a ≢ b) (λ a b other f. other (sym f)) (requests_of plan) (map (λ r. r.0) sorted) same once in
    record {
      same = same;
      rising = λ i j d less below. below_from _ _ (order i j d (omega arith) below)
          (pairs_from_map (λ a b. a ≢ b) (λ r. r.0) sorted apart i j d less below);
    }

module _ (s : Parts) (plan : List Placement) (r : ℕ) (o : IsOrderly s) (listing : List Placement) (displaced : List RequestNo)
    (sorted : IsSortedBy is_listed_before listing) where
  -- with the start that was found
  pub placed : (found : Found) (after : List Placement) → IsEarliest s plan r found.start found.gone.items found.kept.items
      → found.gain + value_of_plan s found.gone.items ≡ worth_at s found.start
      → after ≡ found.kept.items ++ found.start ∷ [] → IsPermutation after listing → AreRising (requests_of found.gone.items) displaced
      → IsPlacedSo s plan r (record { inserted = Placed found.start; placements = listing; displaced = displaced; gain = found.gain })
  placed found after earliest gain e permuted rising =
      let p : Placement = found.start in
      let kept : List Placement = found.kept.items in
      let feasible : IsFeasible s (kept ++ p ∷ []) = earliest.worth_it.feasible in
      let same : IsPermutation (kept ++ p ∷ []) listing = subst (λ (xs : List Placement). IsPermutation xs listing) e permuted in
      let worth : value_of_plan s listing ≡ value_of_plan s (kept ++ p ∷ []) = listing_worth s (kept ++ p ∷ []) listing o same feasible in
      let more : value_of_plan s (kept ++ p ∷ []) ≡ value_of_plan s kept + value_of_plan s (p ∷ []) = sum_by-append (worth_at s) kept (p ∷ []) in
      let one : value_of_plan s (p ∷ []) ≡ worth_at s p + value_of_plan s [] = sum_by-cons (worth_at s) p [] in
      let both : value_of_plan s found.gone.items + value_of_plan s kept ≡ value_of_plan s plan =
      values_parted s plan p found.gone.items kept earliest.worth_it.displaces in
      record {
        placing = (found.gone.items, kept, earliest, listing_is s (kept ++ p ∷ []) listing o same feasible sorted, rising);
        feasible = listing_feasible s (kept ++ p ∷ []) listing o same feasible;
        gain = (omega arith);
      }

  -- or as it was
  pub unplaced : IsFeasible s plan → HasNoPlace s plan r → IsPermutation plan listing → displaced ≡ []
      → IsPlacedSo s plan r (record { inserted = NoPlace; placements = listing; displaced = displaced; gain = 0 })
  unplaced feasible none same e =
      let worth : value_of_plan s listing ≡ value_of_plan s plan = listing_worth s plan listing o same feasible in
      record {
        placing = (none, listing_is s plan listing o same feasible sorted, e);
        feasible = listing_feasible s plan listing o same feasible;
        gain = (omega arith);
      }
