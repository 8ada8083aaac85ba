-- When a placement can be added to a plan that is feasible but for its ANDs.
use Rattle.std.proofs.Common.{◌≡◌, ◌≢◌, ℕ, ◌+◌, ◌<◌, ◌≤◌, Bool, true, false, cond, List, [], ◌∷◌, ◌++◌, length, filter, sum_by, All, AllPairs, refl}
use Rattle.std.proofs.Common.{sym, ◌∙◌, ap, subst, arith}
use Rattle.std.proofs.lemmas.List.Elements.{All-nil, All-head, All-tail, All-cons, All-push, All-contains, Contains-append_left, Contains-push}
use Rattle.std.proofs.lemmas.List.Elements.{filter-append, Contains-get_or}
use Rattle.std.proofs.lemmas.List.Kept.{AllPairs-cons}
use Rattle.std.proofs.lemmas.List.Sums.{sum_by-append, sum_by-cons}
use Rattle.plan_base.specs.declared.parts.Parts.{Parts}
use Rattle.plan_base.specs.declared.claim.Placement.{Placement}
use Rattle.plan_base.specs.Requests.{seconds_of, quota_of}
use Rattle.plan_base.specs.Starts.{IsPossibleStart, ShareSlice}
use Rattle.plan_base.specs.Feasible.{requests_of, AreOfOneOneOf, is_quota, quota_seconds, quota_at, IsAndWhole, IsFeasible}
use Rattle.plan_base.specs.FeasibleSoFar.{IsFeasibleSoFar}
use Rattle.plan_base.proofs.Orders.{pairs_head, pairs_tail}

pub feasible_from_whole : (s : Parts) (plan : List Placement) → IsFeasibleSoFar s plan → IsAndWhole s plan → IsFeasible s plan
feasible_from_whole s plan f w =
    record { possible = f.possible; once = f.once; disjoint = f.disjoint; oneof_once = f.oneof_once; and_whole = w; within_quotas = f.within_quotas }

pub so_far_from_feasible : (s : Parts) (plan : List Placement) → IsFeasible s plan → IsFeasibleSoFar s plan
so_far_from_feasible s plan f =
    record { possible = f.possible; once = f.once; disjoint = f.disjoint; oneof_once = f.oneof_once; within_quotas = f.within_quotas }

-- a relation of each element with each later one, with one more at the end
pub pairs_push : {X : Type 0} (R : X → X → Type 0) (xs : List X) (y : X) → AllPairs R xs → All (λ x. R x y) xs → AllPairs R (xs ++ y ∷ [])
pairs_push R [] y pairs all = λ i j d l m. absurd (omega arith)
pairs_push R (x ∷ xs) y pairs all =
    AllPairs-cons R x (xs ++ y ∷ []) (All-push (R x) xs y (pairs_head R x xs pairs) (All-head (λ z. R z y) x xs all))
    (pairs_push R xs y (pairs_tail R x xs pairs) (All-tail (λ z. R z y) x xs all))

pub pairs_before_last : {X : Type 0} (R : X → X → Type 0) (xs : List X) (y : X) → AllPairs R (xs ++ y ∷ []) → All (λ x. R x y) xs
pairs_before_last R [] y pairs = All-nil (λ x. R x y)
pairs_before_last R (x ∷ xs) y pairs =
    All-cons (λ z. R z y) x xs (All-contains (R x) (xs ++ y ∷ []) y (pairs_head R x (xs ++ y ∷ []) pairs) (Contains-push xs y))
    (pairs_before_last R xs y (pairs_tail R x (xs ++ y ∷ []) pairs))

pub pairs_of_first : {X : Type 0} (R : X → X → Type 0) (xs : List X) (y : X) → AllPairs R (xs ++ y ∷ []) → AllPairs R xs
pairs_of_first R [] y pairs = λ i j d l m. absurd (omega arith)
pairs_of_first R (x ∷ xs) y pairs =
    AllPairs-cons R x xs (λ i d l. All-contains (R x) (xs ++ y ∷ []) _ (pairs_head R x (xs ++ y ∷ []) pairs)
    (Contains-append_left xs (y ∷ []) _ (Contains-get_or xs i d l))) (pairs_of_first R xs y (pairs_tail R x (xs ++ y ∷ []) pairs))

pub requests_push : (plan : List Placement) (p : Placement) → requests_of (plan ++ p ∷ []) ≡ requests_of plan ++ p.request.0 ∷ []
requests_push [] p = refl
requests_push (q ∷ plan) p = ap (λ (rs : List ℕ). q.request.0 ∷ rs) (requests_push plan p)

-- the seconds of quota q that request r has
abbrev pub seconds_towards : Parts → ℕ → ℕ → ℕ
seconds_towards s q r = cond (is_quota q (quota_of s r)) (seconds_of s r) 0

quota_last : (s : Parts) (q r : ℕ) (b : Bool) → sum_by (seconds_of s) (cond b (r ∷ []) []) ≡ cond b (seconds_of s r) 0
quota_last s q r true = let one : sum_by (seconds_of s) (r ∷ []) ≡ seconds_of s r + sum_by (seconds_of s) [] = sum_by-cons (seconds_of s) r [] in omega arith
quota_last s q r false = refl

pub quota_seconds_push : (s : Parts) (q : ℕ) (rs : List ℕ) (r : ℕ) → quota_seconds s q (rs ++ r ∷ []) ≡ quota_seconds s q rs + seconds_towards s q r
quota_seconds_push s q rs r =
    let test : ℕ → Bool = λ x. is_quota q (quota_of s x) in
    ap (λ (xs : List ℕ). sum_by (seconds_of s) xs) (filter-append test rs (r ∷ []))
    ∙ sum_by-append (seconds_of s) (filter test rs) (filter test (r ∷ []))
    ∙ ap (λ n. quota_seconds s q rs + n) (quota_last s q r (is_quota q (quota_of s r)))

-- what has to hold of a possible start that is added
pub record FitsPlan (s : Parts) (plan : List Placement) (p : Placement) : Type 0 where
  pub unplaced : All (λ r. r ≢ p.request.0) (requests_of plan)
  pub apart : All (λ q. ¬ (ShareSlice s q p)) plan
  pub oneof_free : All (λ r. ¬ (AreOfOneOneOf s r p.request.0)) (requests_of plan)
  pub quota_free : (q : ℕ) → q < length s.quotas → quota_seconds s q (requests_of plan) + seconds_towards s q p.request.0 ≤ quota_at s q

pub so_far_push : (s : Parts) (plan : List Placement) (p : Placement) → IsFeasibleSoFar s plan → IsPossibleStart s p → FitsPlan s plan p
    → IsFeasibleSoFar s (plan ++ p ∷ [])
so_far_push s plan p f possible fits =
    let rs : requests_of (plan ++ p ∷ []) ≡ requests_of plan ++ p.request.0 ∷ [] = requests_push plan p in
    record {
      possible = All-push (IsPossibleStart s) plan p f.possible possible;
      once = subst (AllPairs (λ a b. a ≢ b)) (sym rs) (pairs_push (λ a b. a ≢ b) (requests_of plan) p.request.0 f.once fits.unplaced);
      disjoint = pairs_push (λ a b. ¬ (ShareSlice s a b)) plan p f.disjoint fits.apart;
      oneof_once = subst (AllPairs (λ a b. ¬ (AreOfOneOneOf s a b))) (sym rs)
          (pairs_push (λ a b. ¬ (AreOfOneOneOf s a b)) (requests_of plan) p.request.0 f.oneof_once fits.oneof_free);
      within_quotas = λ q l. subst (λ (xs : List ℕ). quota_seconds s q xs ≤ quota_at s q) (sym rs)
          (subst (λ (n : ℕ). n ≤ quota_at s q) (sym (quota_seconds_push s q (requests_of plan) p.request.0)) (fits.quota_free q l));
    }

-- and that it has to
pub fits_from_push : (s : Parts) (plan : List Placement) (p : Placement) → IsFeasibleSoFar s (plan ++ p ∷ []) → FitsPlan s plan p
fits_from_push s plan p f =
    let rs : requests_of (plan ++ p ∷ []) ≡ requests_of plan ++ p.request.0 ∷ [] = requests_push plan p in
    record {
      unplaced = pairs_before_last (λ a b. a ≢ b) (requests_of plan) p.request.0 (subst (AllPairs (λ a b. a ≢ b)) rs f.once);
      apart = pairs_before_last (λ a b. ¬ (ShareSlice s a b)) plan p f.disjoint;
      oneof_free = pairs_before_last (λ a b. ¬ (AreOfOneOneOf s a b)) (requests_of plan) p.request.0
          (subst (AllPairs (λ a b. ¬ (AreOfOneOneOf s a b))) rs f.oneof_once);
      quota_free = λ q l. subst (λ (n : ℕ). n ≤ quota_at s q) (quota_seconds_push s q (requests_of plan) p.request.0)
          (subst (λ (xs : List ℕ). quota_seconds s q xs ≤ quota_at s q) rs (f.within_quotas q l));
    }
