-- Accounts by number.
use Rattle.std.proofs.Common.{◌≡◌, ◌∙◌, ap, subst, refl, ℕ, ◌+◌, ◌<◌, ◌≤◌, ◌==◌, Bool, true, false, cond, List, [], ◌∷◌, ◌++◌, map, All, Some, arith}
use Rattle.std.specs.List.{find}
use Rattle.std.specs.Option.{option_map}
use Rattle.std.proofs.lemmas.Bool.{eq-eqb}
use Rattle.std.proofs.lemmas.List.{append_assoc}
use Rattle.std.proofs.lemmas.List.Elements.{All-nil, All-cons, All-head, All-tail, All-weaker, All-append}
use Rattle.allocations.specs.declared.key.Key.{Key}
use Rattle.desk_runs.proofs.Places.{IsCountedFrom, counted_head, counted_tail, differs}
use Rattle.desk_accounts.specs.Balance.{account_at}

-- an account that is found in the first part is found in the whole
pub in_front : (xs ys : List (ℕ × Key)) (n : ℕ) (k : Key) → account_at xs n ≡ Some k → account_at (xs ++ ys) n ≡ Some k
in_front [] ys n k e = cc
in_front (x ∷ xs) ys n k e = by (x.0 == n) e (in_front xs ys n k)
  where
    by : (b : Bool) → option_map (λ (a : ℕ × Key). a.1) (cond b (Some x) (find (λ a. a.0 == n) xs)) ≡ Some k
        → (account_at xs n ≡ Some k → account_at (xs ++ ys) n ≡ Some k)
        → option_map (λ (a : ℕ × Key). a.1) (cond b (Some x) (find (λ a. a.0 == n) (xs ++ ys))) ≡ Some k
    by true f rest = f
    by false f rest = rest f

-- where all numbers of the first part are lower, it is found in the second
pub behind : (xs ys : List (ℕ × Key)) (n : ℕ) → All (λ a. a.0 < n) xs → account_at (xs ++ ys) n ≡ account_at ys n
behind [] ys n low = refl
behind (x ∷ xs) ys n low =
    let first : x.0 < n = All-head (λ a. a.0 < n) x xs low in
    ap (λ (b : Bool). option_map (λ (a : ℕ × Key). a.1) (cond b (Some x) (find (λ a. a.0 == n) (xs ++ ys)))) (differs x.0 n (λ e. absurd (omega arith)))
    ∙ behind xs ys n (All-tail (λ a. a.0 < n) x xs low)

-- the first is found
pub at_head : (a : ℕ × Key) (ys : List (ℕ × Key)) → account_at (a ∷ ys) a.0 ≡ Some a.1
at_head a ys = ap (λ (b : Bool). option_map (λ (x : ℕ × Key). x.1) (cond b (Some a) (find (λ x. x.0 == a.0) ys))) (eq-eqb a.0 a.0 refl)

-- an account is found by its number
abbrev pub IsFoundIn : List (ℕ × Key) → (ℕ × Key) → Type 0
IsFoundIn accounts a = account_at accounts a.0 ≡ Some a.1

-- so is each of those whose numbers go on from b, after others that are at most b
pub all_found : (b : ℕ) (front xs : List (ℕ × Key)) → All (λ a. a.0 ≤ b) front → IsCountedFrom b (map (λ a. a.0) xs) → All (IsFoundIn (front ++ xs)) xs
all_found b front [] low c = All-nil (IsFoundIn (front ++ []))
all_found b front (x ∷ xs) low c =
    let first : x.0 ≡ b + 1 = counted_head b x.0 (map (λ a. a.0) xs) c in
    let low_too : All (λ a. a.0 ≤ b + 1) (front ++ x ∷ []) =
    All-append (λ a. a.0 ≤ b + 1) front (x ∷ []) (All-weaker (λ a. a.0 ≤ b) (λ a. a.0 ≤ b + 1) (λ a l. omega arith) front low)
    (All-cons (λ a. a.0 ≤ b + 1) x [] (omega arith) (All-nil (λ a. a.0 ≤ b + 1))) in
    let rest : All (IsFoundIn ((front ++ x ∷ []) ++ xs)) xs = all_found (b + 1) (front ++ x ∷ []) xs low_too (counted_tail b x.0 (map (λ a. a.0) xs) c) in
    All-cons (IsFoundIn (front ++ x ∷ xs)) x xs
    (behind front (x ∷ xs) x.0 (All-weaker (λ a. a.0 ≤ b) (λ a. a.0 < x.0) (λ a l. omega arith) front low) ∙ at_head x xs)
    (subst (λ (l : List (ℕ × Key)). All (IsFoundIn l) xs) (append_assoc front (x ∷ []) xs) rest)
