-- What is known once a plan is held.
use Rattle.std.proofs.Common.{◌≡◌, ℕ, ◌+◌, ◌*◌, ◌<◌, ◌≤◌, ◌^◌, Option, Some, None, List, [], ◌∷◌, length, map, sum_by, All, Contains, refl, sym, ◌∙◌}
use Rattle.std.proofs.Common.{ap, subst, arith}
use Rattle.std.proofs.lemmas.List.{length-map}
use Rattle.std.proofs.lemmas.List.Elements.{All-head, All-tail}
use Rattle.std.proofs.lemmas.List.Sums.{sum_by-cons}
use Rattle.plan_base.specs.declared.parts.Parts.{Parts}
use Rattle.plan_base.specs.declared.claim.Placement.{Placement}
use Rattle.plan_base.specs.Requests.{quota_of}
use Rattle.plan_base.specs.Snapshot.{IsOrderly}
use Rattle.plan_base.specs.Feasible.{requests_of, IsFeasible}
use Rattle.bound_checker.proofs.Stages.{few_feasible}
use Rattle.rapid.specs.declared.held.Held.{Held}
use Rattle.rapid.specs.declared.seeking.Found.{Found}
use Rattle.rapid.specs.Found.{IsSought, IsEarliestFound}
use Rattle.rapid.specs.Insertion.{HasNoPlace}
use Rattle.rapid.specs.Held.{held_of, plan_of, HasPlaceBelow}
use Rattle.rapid.specs.Placing.{IsReady}
use Rattle.rapid.specs.Stage.{IsStage}

sum_at_most : {X : Type 0} (f : X → ℕ) (m : ℕ) (xs : List X) → All (λ x. f x ≤ m) xs → sum_by f xs ≤ length xs * m
sum_at_most f m [] a = omega arith
sum_at_most f m (x ∷ xs) a =
    let here : sum_by f (x ∷ xs) ≡ f x + sum_by f xs = sum_by-cons f x xs in
    let head : f x ≤ m = All-head (λ y. f y ≤ m) x xs a in
    let rest : sum_by f xs ≤ length xs * m = sum_at_most f m xs (All-tail (λ y. f y ≤ m) x xs a) in
    omega arith

small : (n m k : ℕ) → k ≤ n * m → n ≤ 1024 → m ≤ 288000000 → k < 2 ^ 60
small n m k l few most = by (n * m) l (product n m few most)
  where
    product : (a b : ℕ) → a ≤ 1024 → b ≤ 288000000 → a * b ≤ 1024 * 288000000
    product a b p q = grind arith

    by : (x : ℕ) → k ≤ x → x ≤ 1024 * 288000000 → k < 2 ^ 60
    by x p q = omega arith

again : (s : Parts) (u : Option ℕ) (plan : List Placement) → plan_of (map (held_of s u) plan) ≡ plan
again s u [] = refl
again s u (p ∷ plan) = ap (λ (ps : List Placement). p ∷ ps) (again s u plan)

pub held_again : (s : Parts) (u : Option ℕ) (plan : List Placement) (held : List Held) → held ≡ map (held_of s u) plan → plan_of held ≡ plan
held_again s u plan held e = ap plan_of e ∙ again s u plan

pub staged : (s : Parts) (plan : List Placement) (r : ℕ) (u : Option ℕ) (held : List Held) → IsOrderly s → IsReady s plan r → u ≡ quota_of s r
    → held ≡ map (held_of s u) plan
    → All (HasPlaceBelow (length s.groups)) held → All (λ h. h.worth ≤ 288000000) held → All (λ h. h.counted ≤ 86400) held → IsStage s r held
staged s plan r u held o ready quota e places worths counts =
    let same : plan ≡ plan_of held = sym (held_again s u plan held e) in
    let count : length held ≡ length plan = ap length e ∙ length-map plan (held_of s u) in
    let few : length plan ≤ 1024 = few_feasible s plan o ready.feasible in
    record {
      known = ready.known;
      single = ready.single;
      feasible = subst (IsFeasible s) same ready.feasible;
      unplaced = subst (λ (xs : List Placement). ¬ (Contains (requests_of xs) r)) same ready.unplaced;
      told = e ∙ ap (λ (v : Option ℕ). map (held_of s v) plan) quota ∙ ap (map (held_of s (quota_of s r))) same;
      places = places;
      worths = small (length held) 288000000 (sum_by (λ h. h.worth) held) (sum_at_most (λ h. h.worth) 288000000 held worths) (omega arith) (omega arith);
      counts = small (length held) 86400 (sum_by (λ h. h.counted) held) (sum_at_most (λ h. h.counted) 86400 held counts) (omega arith) (omega arith);
    }

pub sought_some : (s : Parts) (held hs : List Held) (r : ℕ) (found : Option Found) (x : Found) → IsSought s held r found → found ≡ Some x → held ≡ hs
    → IsEarliestFound s hs r x
sought_some s held hs r found x h e same = subst (λ (ys : List Held). IsEarliestFound s ys r x) same (subst (IsSought s held r) e h)

pub sought_none : (s : Parts) (held : List Held) (plan : List Placement) (r : ℕ) (found : Option Found) → IsSought s held r found → found ≡ None
    → plan_of held ≡ plan → HasNoPlace s plan r
sought_none s held plan r found h e same = subst (λ (xs : List Placement). HasNoPlace s xs r) same (subst (IsSought s held r) e h)
