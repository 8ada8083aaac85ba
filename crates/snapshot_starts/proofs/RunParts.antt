-- The runs of one request are a part of all runs, and those of its starts.
use Rattle.std.proofs.Common.{◌≡◌, ℕ, zero, suc, ◌+◌, ◌^◌, ◌<◌, ◌≤◌, ◌⊎◌, inl, inr, Bool, true, false, cond, not, ◌&&◌, ◌==◌, nat_lt, nat_le, List, []}
use Rattle.std.proofs.Common.{◌∷◌, ◌++◌, length, map, take, drop, slice_index_or, filter, AllPairs, refl, sym, ◌∙◌, ap, subst, arith}
use Rattle.std.specs.List.{range_with_len}
use Rattle.std.specs.List.Sorted.{IsNonDecreasingBy}
use Rattle.std.proofs.lemmas.Bool.Decides.{nat_tests}
use Rattle.std.proofs.lemmas.List.Elements.{All-filter, filter-append}
use Rattle.std.proofs.lemmas.List.Kept.{AllPairs-filter}
use Rattle.std.proofs.lemmas.List.Sums.{sum_by-cons}
use Rattle.plan_base.specs.declared.claim.Placement.{Placement}
use Rattle.snapshot_starts.specs.declared.run.Run.{Run}
use Rattle.snapshot_starts.specs.Runs.{start_at, starts_of_run, starts_of, IsRunBefore, AreRuns, starts_with}
use Rattle.snapshot_starts.specs.Kept.{count_of, CanKeep, HoldsBelow}
use Rattle.snapshot_starts.proofs.RunOrder.{are_runs}

-- so it does of the rest of the list, with a place less
shifted : {X : Type 0} (test : X → Bool) (x : X) (xs : List X) (n m : ℕ) → n ≡ suc m → HoldsBelow test (x ∷ xs) n → HoldsBelow test xs m
shifted test x xs n m e h = record {
  below = λ k d l within. h.below (suc k) d (omega arith) (omega arith);
  others = λ k d l within. h.others (suc k) d (omega arith) (omega arith);
}

unshifted : {X : Type 0} (test : X → Bool) (x : X) (xs : List X) → HoldsBelow test (x ∷ xs) 0 → HoldsBelow test xs 0
unshifted test x xs h = record {
  below = λ k d l within. absurd (omega arith);
  others = λ k d l within. h.others (suc k) d (omega arith) (omega arith);
}

dropped : {X : Type 0} (b : Bool) (x : X) (ys : List X) → b ≡ false → cond b (x ∷ ys) ys ≡ ys
dropped true x ys e = cc
dropped false x ys e = refl

kept : {X : Type 0} (b : Bool) (x : X) (ys : List X) → b ≡ true → cond b (x ∷ ys) ys ≡ x ∷ ys
kept true x ys e = refl
kept false x ys e = cc

beyond : (a b : Bool) → b ≡ false → (not a && b) ≡ false
beyond true b e = refl
beyond false b e = e

within_both : (a b : Bool) → a ≡ false → b ≡ true → (not a && b) ≡ true
within_both true b e f = cc
within_both false b e f = f

under : (a b : Bool) → a ≡ true → (not a && b) ≡ false
under true b e = refl
under false b e = cc

module _ {X : Type 0} (p q : X → Bool) where
  drop_nothing : (k : ℕ) → drop {A = X} k [] ≡ []
  drop_nothing zero = refl
  drop_nothing (suc k) = refl

  none_taken : (k : ℕ) → take {A = X} k [] ≡ []
  none_taken zero = refl
  none_taken (suc k) = refl

  -- from the first place on of which p doesn't hold, up to the first of which q doesn't, stand those of which only q holds
  pub part_of : (xs : List X) (a n : ℕ) → HoldsBelow p xs a → HoldsBelow q xs (n + a) → take n (drop a xs) ≡ filter (λ x. not (p x) && q x) xs
  part_of [] a n hp hq = ap (λ (ys : List X). take n ys) (drop_nothing a) ∙ none_taken n
  part_of (x ∷ xs) zero zero hp hq =
      let out : q x ≡ false = hq.others 0 x (omega arith) (omega arith) in
      part_of xs zero zero (unshifted p x xs hp) (unshifted q x xs hq)
      ∙ sym (dropped (not (p x) && q x) x (filter (λ y. not (p y) && q y) xs) (beyond (p x) (q x) out))
  part_of (x ∷ xs) zero (suc n) hp hq =
      let before : p x ≡ false = hp.others 0 x (omega arith) (omega arith) in
      let within : q x ≡ true = hq.below 0 x (omega arith) (omega arith) in
      ap (λ (ys : List X). x ∷ ys) (part_of xs zero n (unshifted p x xs hp) (shifted q x xs (suc n + zero) (n + zero) (omega arith) hq))
      ∙ sym (kept (not (p x) && q x) x (filter (λ y. not (p y) && q y) xs) (within_both (p x) (q x) before within))
  part_of (x ∷ xs) (suc a) n hp hq =
      let low : p x ≡ true = hp.below 0 x (omega arith) (omega arith) in
      part_of xs a n (shifted p x xs (suc a) a (omega arith) hp) (shifted q x xs (n + suc a) (n + a) (omega arith) hq)
      ∙ sym (dropped (not (p x) && q x) x (filter (λ y. not (p y) && q y) xs) (under (p x) (q x) low))

same_test : (a r : ℕ) → (not (nat_lt a r) && nat_le a r) ≡ (a == r)
same_test a r = grind (arith, nat_tests)

-- the runs of a request
abbrev pub runs_with : List Run → ℕ → List Run
runs_with runs r = filter (λ run. run.request.0 == r) runs

-- from the first place on of which a number isn't below n, up to the first of which it is above, stand those whose number is n
pub part_with : {X : Type 0} (number : X → ℕ) (xs : List X) (n a count : ℕ) → HoldsBelow (λ x. nat_lt (number x) n) xs a
    → HoldsBelow (λ x. nat_le (number x) n) xs (count + a)
    → take count (drop a xs) ≡ filter (λ x. number x == n) xs
part_with {X} number xs n a count low high =
    part_of (λ x. nat_lt (number x) n) (λ x. nat_le (number x) n) xs a count low high
    ∙ ap (λ (test : X → Bool). filter test xs) (λ i x. same_test (number x) n i)

all_pass : (test : Placement → Bool) (f : ℕ → Placement) (ks : List ℕ) → ((k : ℕ) → test (f k) ≡ true) → filter test (map f ks) ≡ map f ks
all_pass test f [] e = refl
all_pass test f (k ∷ ks) e = kept (test (f k)) (f k) (filter test (map f ks)) (e k) ∙ ap (λ (ps : List Placement). f k ∷ ps) (all_pass test f ks e)

none_pass : (test : Placement → Bool) (f : ℕ → Placement) (ks : List ℕ) → ((k : ℕ) → test (f k) ≡ false) → filter test (map f ks) ≡ []
none_pass test f [] e = refl
none_pass test f (k ∷ ks) e = dropped (test (f k)) (f k) (filter test (map f ks)) (e k) ∙ none_pass test f ks e

by_test : (test : Placement → Bool) (f : ℕ → Placement) (ks : List ℕ) (b : Bool) → ((k : ℕ) → test (f k) ≡ b) → filter test (map f ks) ≡ cond b (map f ks) []
by_test test f ks true e = all_pass test f ks e
by_test test f ks false e = none_pass test f ks e

-- the starts of a run are all of its request
filter_run : (run : Run) (r : ℕ) (ks : List ℕ) → filter (λ p. p.request.0 == r) (map (start_at run) ks) ≡ cond (run.request.0 == r) (map (start_at run) ks) []
filter_run run r ks = by_test (λ p. p.request.0 == r) (start_at run) ks (run.request.0 == r) (λ k. refl)

starts_step : (b : Bool) (run : Run) (runs : List Run) → starts_of (cond b (run ∷ runs) runs) ≡ cond b (starts_of_run run) [] ++ starts_of runs
starts_step true run runs = refl
starts_step false run runs = refl

-- the starts of a request's runs are the request's
pub starts_of_part : (runs : List Run) (r : ℕ) → starts_of (runs_with runs r) ≡ starts_with (starts_of runs) r
starts_of_part [] r = refl
starts_of_part (run ∷ runs) r =
    starts_step (run.request.0 == r) run (runs_with runs r)
    ∙ ap (λ (ps : List Placement). cond (run.request.0 == r) (starts_of_run run) [] ++ ps) (starts_of_part runs r)
    ∙ ap (λ (ps : List Placement). ps ++ starts_with (starts_of runs) r) (sym (filter_run run r (range_with_len run.first.0 run.count)))
    ∙ sym (filter-append (λ p. p.request.0 == r) (starts_of_run run) (starts_of runs))

count_step : (b : Bool) (run : Run) (part runs : List Run) → count_of part ≤ count_of runs → count_of (cond b (run ∷ part) part) ≤ count_of (run ∷ runs)
count_step true run part runs h =
    let left : count_of (run ∷ part) ≡ run.count + count_of part = sum_by-cons (λ r. r.count) run part in
    let right : count_of (run ∷ runs) ≡ run.count + count_of runs = sum_by-cons (λ r. r.count) run runs in
    omega arith
count_step false run part runs h = let right : count_of (run ∷ runs) ≡ run.count + count_of runs = sum_by-cons (λ r. r.count) run runs in omega arith

count_of_part : (runs : List Run) (r : ℕ) → count_of (runs_with runs r) ≤ count_of runs
count_of_part [] r = omega arith
count_of_part (run ∷ runs) r = count_step (run.request.0 == r) run (runs_with runs r) runs (count_of_part runs r)

-- the runs of a request are the runs of its starts
pub are_runs_of_part : (runs : List Run) (r : ℕ) → CanKeep runs → AreRuns (starts_with (starts_of runs) r) (runs_with runs r)
are_runs_of_part runs r can =
    subst (λ (starts : List Placement). AreRuns starts (runs_with runs r)) (starts_of_part runs r)
    (are_runs (runs_with runs r) (record {
      some = All-filter (λ run. run.request.0 == r) (λ run. 0 < run.count) runs can.some;
      slices = All-filter (λ run. run.request.0 == r) (λ run. run.first.0 + run.count ≤ 2 ^ 32) runs can.slices;
      order = AllPairs-filter IsRunBefore (λ run. run.request.0 == r) runs can.order;
      few = let less = count_of_part runs r in let few = can.few in omega arith;
    }))

-- runs in order are in order of their requests
pub requests_rise : (runs : List Run) → AllPairs IsRunBefore runs → IsNonDecreasingBy (λ run. run.request.0) runs
requests_rise runs order i j d le l = by (below_or_same i j le)
  where
    below_or_same : (a b : ℕ) → a ≤ b → (a < b) ⊎ (a ≡ b)
    below_or_same a b h = grind arith

    before : (a b : Run) → IsRunBefore a b → a.request.0 ≤ b.request.0
    before a b (inl less) = omega arith
    before a b (inr (same, rest)) = let e : a.request.0 ≡ b.request.0 = ap (λ r. r.0) same in omega arith

    by : (i < j) ⊎ (i ≡ j) → (slice_index_or runs i d).request.0 ≤ (slice_index_or runs j d).request.0
    by (inl below) = before (slice_index_or runs i d) (slice_index_or runs j d) (order i j d below l)
    by (inr same) = let e : (slice_index_or runs i d).request.0 ≡ (slice_index_or runs j d).request.0 =
        ap (λ (k : ℕ). (slice_index_or runs k d).request.0) same in omega arith

-- no fewer have a number up to n than one below it
pub no_fewer : {X : Type 0} (number : X → ℕ) (xs : List X) (n a b : ℕ) (d : X) → a ≤ length xs → HoldsBelow (λ x. nat_lt (number x) n) xs a
    → HoldsBelow (λ x. nat_le (number x) n) xs b → a ≤ b
no_fewer number xs n a b d within low high = elim (at_most_or_above a b) [
  | inl le ↦ le
  | inr above ↦ absurd (not_both (number (slice_index_or xs b d)) n (low.below b d above (omega arith)) (high.others b d (omega arith) (omega arith)))
]
  where
    at_most_or_above : (m n : ℕ) → (m ≤ n) ⊎ (n < m)
    at_most_or_above m n = grind arith

    not_both : (m n : ℕ) → nat_lt m n ≡ true → nat_le m n ≡ false → ⊥
    not_both m n h g = grind (arith, nat_tests)
