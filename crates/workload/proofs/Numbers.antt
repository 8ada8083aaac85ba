-- The number after some draws, and more of them.
use Rattle.std.proofs.Common.{◌≡◌, ℕ, zero, suc, ◌+◌, ◌*◌, List, [], ◌∷◌, ◌++◌, sym, ◌∙◌, ap, arith}
use Rattle.std.proofs.lemmas.List.FromFn.{map-range_with_len_more}
use Rattle.workload.specs.declared.request.Request.{Request}
use Rattle.workload.specs.Generator.{next_number, number_after}
use Rattle.workload.specs.Requests.{request_from, requests_from}

pub number_after-more : (x m n : ℕ) → number_after (number_after x m) n ≡ number_after x (m + n)
number_after-more x zero n = let none : n ≡ 0 + n = omega arith in ap (number_after x) none
number_after-more x (suc m) n =
    let more : suc (m + n) ≡ suc m + n = omega arith in
    number_after-more (next_number x) m n ∙ ap (number_after x) more

-- ---- one request more

-- the request at a place
abbrev request_at : ℕ → ℕ → Request
request_at x i = request_from (number_after x (5 * i))

pub requests_more : (x n y : ℕ) (rs : List Request) (r : Request) → rs ≡ requests_from x n → y ≡ number_after x (5 * n) → r ≡ request_from y
    → rs ++ r ∷ [] ≡ requests_from x (n + 1)
requests_more x n y rs r before now drawn =
    ap (λ (qs : List Request). qs ++ r ∷ []) before
    ∙ ap (λ (q : Request). requests_from x n ++ q ∷ []) (drawn ∙ ap request_from now)
    ∙ sym (map-range_with_len_more (request_at x) 0 n n (omega arith))

pub number_more_drawn : (x n y : ℕ) → y ≡ number_after x (5 * n) → number_after y 5 ≡ number_after x (5 * (n + 1))
number_more_drawn x n y now =
    let more : 5 * n + 5 ≡ 5 * (n + 1) = omega arith in
    ap (λ (z : ℕ). number_after z 5) now ∙ number_after-more x (5 * n) 5 ∙ ap (number_after x) more
