-- Sums of the seconds that a plan places of each quota.
use Rattle.std.proofs.Common.{◌≡◌, ℕ, ◌+◌, ◌*◌, ◌<◌, ◌≤◌, Bool, true, false, cond, List, [], ◌∷◌, ◌++◌, length, length-append, take, replicate}
use Rattle.std.proofs.Common.{slice_index_or, Option, refl, sym, ◌∙◌, ap, subst, arith}
use Rattle.std.proofs.lemmas.List.{take_more, length-replicate}
use Rattle.plan_base.specs.declared.parts.Parts.{Parts}
use Rattle.plan_base.specs.declared.claim.Placement.{Placement}
use Rattle.plan_base.specs.Requests.{quota_of, seconds_of}
use Rattle.plan_base.specs.Feasible.{requests_of, is_quota, quota_seconds}
use Rattle.plan_base.proofs.Adding.{requests_push, quota_seconds_push}
use Rattle.bound_checker.specs.Claims.{AreQuotaSums}
use Rattle.bound_checker.proofs.Marks.{placed_at}
use Rattle.bound_checker.proofs.GroupCounts.{none_counted}

pub sums_none : (s : Parts) (sums : List ℕ) → sums ≡ replicate (length s.quotas) 0 → AreQuotaSums s [] sums
sums_none s sums e = record {
  quotas = ap (λ (xs : List ℕ). length xs) e ∙ length-replicate (length s.quotas) 0;
  each = λ q l. ap (λ (xs : List ℕ). slice_index_or xs q 0) e ∙ none_counted (length s.quotas) q;
  most = λ q. let zero : slice_index_or sums q 0 ≡ 0 = ap (λ (xs : List ℕ). slice_index_or xs q 0) e ∙ none_counted (length s.quotas) q in omega arith;
}

at_most : (b : Bool) (n : ℕ) → cond b n 0 ≤ n
at_most true n = omega arith
at_most false n = omega arith

pub sums_more : (s : Parts) (plan : List Placement) (n seconds : ℕ) (quota : Option ℕ) (sums after : List ℕ) → n < length plan
    → quota ≡ quota_of s (placed_at plan n).request.0 → seconds ≡ seconds_of s (placed_at plan n).request.0
    → seconds ≤ 86400 → length after ≡ length sums
    → ((q : ℕ) → slice_index_or after q 0 ≡ slice_index_or sums q 0 + cond (is_quota q quota) seconds 0) → AreQuotaSums s (take n plan) sums
    → AreQuotaSums s (take (n + 1) plan) after
sums_more s plan n seconds quota sums after l named takes most count added are =
    let p : Placement = placed_at plan n in
    let more : take (n + 1) plan ≡ take n plan ++ p ∷ [] = take_more plan n _ l in
    record {
      quotas = count ∙ are.quotas;
      each = λ q within.
          let old : slice_index_or sums q 0 ≡ quota_seconds s q (requests_of (take n plan)) = are.each q within in
          let one : cond (is_quota q quota) seconds 0 ≡ cond (is_quota q (quota_of s p.request.0)) (seconds_of s p.request.0) 0
          = ap (λ (x : Option ℕ). cond (is_quota q x) seconds 0) named ∙ ap (λ (x : ℕ). cond (is_quota q (quota_of s p.request.0)) x 0) takes
          in
          let all : quota_seconds s q (requests_of (take (n + 1) plan)) ≡ quota_seconds s q (requests_of (take n plan))
          + cond (is_quota q (quota_of s p.request.0)) (seconds_of s p.request.0) 0
          = ap (λ (xs : List Placement). quota_seconds s q (requests_of xs)) more ∙ ap (quota_seconds s q) (requests_push (take n plan) p)
          ∙ quota_seconds_push s q (requests_of (take n plan)) p.request.0
          in
          added q ∙ ap (λ (x : ℕ). x + cond (is_quota q quota) seconds 0) old ∙ ap (λ (x : ℕ). quota_seconds s q (requests_of (take n plan)) + x) one ∙ sym all;
      most = λ q.
          let old = are.most q in
          let one = at_most (is_quota q quota) seconds in
          let sum = added q in
          let longer : length (take (n + 1) plan) ≡ length (take n plan) + 1 = ap (λ (xs : List Placement). length xs) more
          ∙ length-append (take n plan) (p ∷ []) in
          omega arith;
    }
