-- Lists of what is said of each request that a claim leaves out.
use Rattle.std.proofs.Common.{◌≡◌, ℕ, zero, suc, ◌+◌, ◌<◌, ◌≤◌, inl, inr, Bool, true, false, cond, not, ◌==◌, ℤ, List, [], ◌∷◌, ◌++◌, length, map}
use Rattle.std.proofs.Common.{take, filter, slice_index_or, Option, Some, None, All, Any, MatchOption, refl, sym, ◌∙◌, ap, subst, arith}
use Rattle.std.specs.List.{AllZip}
use Rattle.std.proofs.lemmas.Bool.Decides.{nat_tests}
use Rattle.std.proofs.lemmas.List.{get_or-map, get_or_append_left, get_or_push, length_push, length-map, take_all}
use Rattle.std.proofs.lemmas.List.Elements.{filter_more}
use Rattle.std.proofs.lemmas.List.Folds.{Any-from_list_any, list_any-from_Any}
use Rattle.plan_base.specs.declared.parts.Parts.{Parts}
use Rattle.plan_base.specs.declared.claim.Placement.{Placement}
use Rattle.plan_base.specs.declared.claim.Claim.{Claim}
use Rattle.plan_base.specs.declared.verdict.Reason.{Reason}
use Rattle.plan_base.specs.declared.verdict.Verdict.{Verdict}
use Rattle.plan_base.specs.declared.verdict.Verdict.TheVariants.{Yes, No}
use Rattle.plan_base.specs.Snapshot.{IsOrderly}
use Rattle.plan_base.specs.Requests.{listed, place_of}
use Rattle.plan_base.specs.Verdict.{IsCertified, IsFirstReason, IsVerdict, verdict_of}
use Rattle.plan_base.proofs.Known.{telescope_known, known_as}
use Rattle.explain.specs.declared.answer.Left.{Left}
use Rattle.explain.specs.declared.chart.Chart.{Chart}
use Rattle.openings.specs.Openings.{IsStartFor}
use Rattle.explain.specs.Forced.{IsGreatestDetour, Excludes, IsInNoGoodPlan}
use Rattle.explain.specs.Left.{IsLeft, is_placed, left_out, IsExplanation}
use Rattle.explain.specs.Steps.{IsChart}
use Rattle.explain.specs.Crossings.{AreChartsTo, IsDetourInRange, IsPassedTo}
use Rattle.explain.specs.Explained.{AreLeftTo}
use Rattle.explain.proofs.Excluding.{excluded}
use Rattle.explain.proofs.Gathering.{greatest_detour}
use Rattle.openings.proofs.Numbers.{below_or_at}

pub charts_more : (s : Parts) (prices : List ℤ) (n : ℕ) (charts : List Chart) (chart : Chart) → AreChartsTo s prices n charts
    → IsChart s prices n chart → AreChartsTo s prices (n + 1) (charts ++ chart ∷ [])
charts_more s prices n charts chart are next =
    let count : length charts ≡ n = are.count in
    record {
      count = length_push charts chart ∙ ap (λ (m : ℕ). m + 1) count;
      each = λ t d l. elim (below_or_at t n l) [
        | inl below ↦ subst (IsChart s prices t) (sym (get_or_append_left charts (chart ∷ []) d t (omega arith))) (are.each t d below)
        | inr at ↦ subst (IsChart s prices t) (sym (get_or_push charts chart d t (count ∙ sym at))) (subst (λ (u : ℕ). IsChart s prices u chart) (sym at) next)
      ];
    }

-- what is known of a request on all telescopes tells its greatest detour, or that it has no start
pub detour_told : (s : Parts) (prices : List ℤ) (r count : ℕ) (detour : Option ℤ) → IsOrderly s → IsPassedTo s prices r (length s.telescopes) count detour
    → MatchOption detour ((p : Placement) → ¬ (IsStartFor s r p)) (λ d. IsGreatestDetour s prices r d × IsDetourInRange d)
detour_told s prices r count None o passed = λ p start. passed.greatest p.telescope.0 (telescope_known s p o start.possible)
    (p, record { start = start; same_telescope = refl })
detour_told s prices r count (Some d) o passed = (greatest_detour s prices r o d passed.greatest, passed.greatest.range)

zip_more : {X Y : Type 0} (R : X → Y → Type 0) (xs : List X) (ys : List Y) (x : X) (y : Y) → AllZip R xs ys → R x y → AllZip R (xs ++ x ∷ []) (ys ++ y ∷ [])
zip_more R [] [] x y all is = (is, all)
zip_more R [] (z ∷ ys) x y all is = absurd all
zip_more R (w ∷ xs) [] x y all is = absurd all
zip_more R (w ∷ xs) (z ∷ ys) x y all is = (all.0, zip_more R xs ys x y all.1 is)

zip_at : {X Y : Type 0} (R : X → Y → Type 0) (xs : List X) (ys : List Y) → AllZip R xs ys → (k : ℕ) (d : Y) → k < length ys
    → (x : X) × R x (slice_index_or ys k d)
zip_at R [] [] all k d l = absurd (omega arith)
zip_at R [] (z ∷ ys) all k d l = absurd all
zip_at R (w ∷ xs) [] all k d l = absurd all
zip_at R (w ∷ xs) (z ∷ ys) all zero d l = (w, all.0)
zip_at R (w ∷ xs) (z ∷ ys) all (suc k) d l = zip_at R xs ys all.1 k d (omega arith)

-- whether the request is placed
placed_test : (plan : List Placement) (r : ℕ) → Any (λ p. p.request.0 ≡ r) plan → is_placed plan r ≡ true
placed_test plan r (k, p, l, e, is) = list_any-from_Any (λ q. q.request.0 == r) plan (k, p, l, e, same p.request.0 r is)
  where
    same : (a b : ℕ) → a ≡ b → (a == b) ≡ true
    same a b h = grind (arith, nat_tests)

not_placed_test : (plan : List Placement) (r : ℕ) → ¬ (Any (λ p. p.request.0 ≡ r) plan) → is_placed plan r ≡ false
not_placed_test plan r none = by_test (is_placed plan r) refl
  where
    same : (a b : ℕ) → (a == b) ≡ true → a ≡ b
    same a b h = grind (arith, nat_tests)

    by_test : (b : Bool) → is_placed plan r ≡ b → b ≡ false
    by_test true e = let found = Any-from_list_any (λ q. q.request.0 == r) plan e in
        absurd (none (found.0, found.1, found.2, found.3, same found.1.request.0 r found.4))
    by_test false e = refl

module _ (s : Parts) (prices : List ℤ) (claim : Claim) (n : ℕ) (r : ℕ) (known : place_of s r < length (listed s)) (at : place_of s r ≡ n) where
  abbrev numbers : List ℕ
  numbers = map (λ x. x.request.request.0) (listed s)

  within : n < length numbers
  within = let count : length numbers ≡ length (listed s) = length-map (listed s) (λ x. x.request.request.0) in omega arith

  number_there : slice_index_or numbers n 0 ≡ r
  number_there =
      let x = known_as s r known in
      get_or-map (λ y. y.request.request.0) (listed s) n x.0 0 (omega arith)
      ∙ ap (λ (i : ℕ). (slice_index_or (listed s) i x.0).request.request.0) (sym at) ∙ ap (λ y. y.request.request.0) x.1.at_place ∙ x.1.number

  more : (b : Bool) → is_placed claim.placements r ≡ b
      → filter (λ x. not (is_placed claim.placements x)) (take (n + 1) numbers) ≡ filter (λ x. not (is_placed claim.placements x)) (take n numbers)
      ++ cond (not b) (r ∷ []) []
  more b e =
      filter_more (λ x. not (is_placed claim.placements x)) numbers n 0 within
      ∙ ap (λ (x : ℕ). filter (λ y. not (is_placed claim.placements y)) (take n numbers) ++ cond (not (is_placed claim.placements x)) (x ∷ []) []) number_there
      ∙ ap (λ (c : Bool). filter (λ y. not (is_placed claim.placements y)) (take n numbers) ++ cond (not c) (r ∷ []) []) e

  no_more : (xs : List ℕ) → xs ++ [] ≡ xs
  no_more [] = refl
  no_more (x ∷ xs) = ap (λ (ys : List ℕ). x ∷ ys) (no_more xs)

  pub left_stays : (lefts : List Left) → Any (λ p. p.request.0 ≡ r) claim.placements → AreLeftTo s claim n lefts → AreLeftTo s claim (n + 1) lefts
  left_stays lefts placed are =
      subst (λ (xs : List ℕ). AllZip (IsLeft s claim) xs lefts)
      (sym (more true (placed_test claim.placements r placed) ∙ no_more (filter (λ x. not (is_placed claim.placements x)) (take n numbers)))) are

  pub left_more : (lefts : List Left) (left : Left) → ¬ (Any (λ p. p.request.0 ≡ r) claim.placements) → IsLeft s claim r left
      → AreLeftTo s claim n lefts → AreLeftTo s claim (n + 1) (lefts ++ left ∷ [])
  left_more lefts left none is are =
      subst (λ (xs : List ℕ). AllZip (IsLeft s claim) xs (lefts ++ left ∷ [])) (sym (more false (not_placed_test claim.placements r none)))
      (zip_more (IsLeft s claim) (filter (λ x. not (is_placed claim.placements x)) (take n numbers)) lefts r left are is)

pub left_all : (s : Parts) (claim : Claim) (n : ℕ) (lefts : List Left) → length (listed s) ≤ n → AreLeftTo s claim n lefts → IsExplanation s claim lefts
left_all s claim n lefts l are =
    let count : length (map (λ x. x.request.request.0) (listed s)) ≡ length (listed s) = length-map (listed s) (λ x. x.request.request.0) in
    subst (λ (xs : List ℕ). AllZip (IsLeft s claim) (filter (λ r. not (is_placed claim.placements r)) xs) lefts)
    (take_all n (map (λ x. x.request.request.0) (listed s)) (omega arith)) are

-- a Yes certifies the claim
not_no : (reason : Reason) (value bound : ℕ) → No reason ≡ Yes value bound → ⊥
not_no reason value bound e = cc

none_of : (claim : Claim) (found : Option Reason) (value bound : ℕ) → verdict_of claim found ≡ Yes value bound → found ≡ None
none_of claim None value bound e = refl
none_of claim (Some reason) value bound e = absurd (not_no reason value bound e)

pub certified_by : (s : Parts) (claim : Claim) (v : Verdict) (value bound : ℕ) → IsVerdict s claim v → v ≡ Yes value bound → IsCertified s claim
certified_by s claim v value bound verdict e = subst (IsFirstReason s claim) (none_of claim verdict.0 value bound (sym verdict.2 ∙ e)) verdict.1

pub sound : (s : Parts) (claim : Claim) (lefts : List Left) → IsOrderly s → IsCertified s claim → IsExplanation s claim lefts
    → All (λ left. Excludes claim left.forced → IsInNoGoodPlan s claim left.request.0) lefts
sound s claim lefts o certified explained = λ k d l excludes.
    let found = zip_at (IsLeft s claim) (left_out s claim.placements) lefts explained k d l in
    subst (IsInNoGoodPlan s claim) (sym found.1.request) (excluded s claim found.0 (slice_index_or lefts k d).forced o certified.bound found.1.forced excludes)
