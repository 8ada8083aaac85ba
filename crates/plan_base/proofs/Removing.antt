-- A plan of which placements are taken away stays feasible but for its ANDs.
use Rattle.std.proofs.Common.{◌≡◌, ◌≢◌, ℕ, ◌+◌, ◌≤◌, Bool, true, false, cond, List, [], ◌∷◌, filter, sum_by, AllPairs, arith}
use Rattle.std.proofs.lemmas.List.Elements.{All-filter}
use Rattle.std.proofs.lemmas.List.Kept.{AllPairs-filter}
use Rattle.std.proofs.lemmas.List.Sums.{sum_by-cons}
use Rattle.plan_base.specs.declared.parts.Parts.{Parts}
use Rattle.plan_base.specs.declared.claim.Placement.{Placement}
use Rattle.plan_base.specs.Requests.{seconds_of, quota_of}
use Rattle.plan_base.specs.Starts.{IsPossibleStart, ShareSlice}
use Rattle.plan_base.specs.Feasible.{requests_of, AreOfOneOneOf, is_quota, quota_seconds}
use Rattle.plan_base.specs.FeasibleSoFar.{IsFeasibleSoFar}
use Rattle.plan_base.proofs.Lists.{AllPairs-map}
use Rattle.plan_base.proofs.Members.{pairs_from_map}

-- what holds of each two requests of a plan holds of each two of a part of it
requests_kept : (R : ℕ → ℕ → Type 0) (test : Placement → Bool) (plan : List Placement) → AllPairs R (requests_of plan)
    → AllPairs R (requests_of (filter test plan))
requests_kept R test plan a = AllPairs-map R (λ p. p.request.0) (filter test plan)
    (AllPairs-filter (λ p q. R p.request.0 q.request.0) test plan (pairs_from_map R (λ p. p.request.0) plan a))

counted_more : (s : Parts) (b : Bool) (r : ℕ) (xs : List ℕ) (n : ℕ) → n ≤ sum_by (seconds_of s) xs → n ≤ sum_by (seconds_of s) (cond b (r ∷ xs) xs)
counted_more s true r xs n h = let more : sum_by (seconds_of s) (r ∷ xs) ≡ seconds_of s r + sum_by (seconds_of s) xs =
    sum_by-cons (seconds_of s) r xs in omega arith
counted_more s false r xs n h = h

counted_both : (s : Parts) (b : Bool) (r : ℕ) (xs ys : List ℕ) → sum_by (seconds_of s) xs ≤ sum_by (seconds_of s) ys
    → sum_by (seconds_of s) (cond b (r ∷ xs) xs) ≤ sum_by (seconds_of s) (cond b (r ∷ ys) ys)
counted_both s true r xs ys h =
    let left : sum_by (seconds_of s) (r ∷ xs) ≡ seconds_of s r + sum_by (seconds_of s) xs = sum_by-cons (seconds_of s) r xs in
    let right : sum_by (seconds_of s) (r ∷ ys) ≡ seconds_of s r + sum_by (seconds_of s) ys = sum_by-cons (seconds_of s) r ys in
    omega arith
counted_both s false r xs ys h = h

quota_step : (s : Parts) (q : ℕ) (b : Bool) (p : Placement) (kept plan : List Placement)
    → quota_seconds s q (requests_of kept) ≤ quota_seconds s q (requests_of plan)
    → quota_seconds s q (requests_of (cond b (p ∷ kept) kept)) ≤ quota_seconds s q (requests_of (p ∷ plan))
quota_step s q true p kept plan h = counted_both s (is_quota q (quota_of s p.request.0)) p.request.0 _ _ h
quota_step s q false p kept plan h = counted_more s (is_quota q (quota_of s p.request.0)) p.request.0 _ _ h

-- of a part of a plan no more seconds count towards a quota
pub quota_seconds_filter : (s : Parts) (q : ℕ) (test : Placement → Bool) (plan : List Placement)
    → quota_seconds s q (requests_of (filter test plan)) ≤ quota_seconds s q (requests_of plan)
quota_seconds_filter s q test [] = omega arith
quota_seconds_filter s q test (p ∷ plan) = quota_step s q (test p) p (filter test plan) plan (quota_seconds_filter s q test plan)

pub so_far_filter : (s : Parts) (test : Placement → Bool) (plan : List Placement) → IsFeasibleSoFar s plan → IsFeasibleSoFar s (filter test plan)
so_far_filter s test plan f = record {
  possible = All-filter test (IsPossibleStart s) plan f.possible;
  once = requests_kept (λ a b. a ≢ b) test plan f.once;
  disjoint = AllPairs-filter (λ a b. ¬ (ShareSlice s a b)) test plan f.disjoint;
  oneof_once = requests_kept (λ a b. ¬ (AreOfOneOneOf s a b)) test plan f.oneof_once;
  within_quotas = λ q l. let less = quota_seconds_filter s q test plan in let within = f.within_quotas q l in omega arith;
}
