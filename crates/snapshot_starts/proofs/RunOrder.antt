-- Runs in order: the order of their starts, and that each is a greatest row.
use Rattle.std.proofs.Common.{◌≡◌, ◌≢◌, ℕ, suc, ◌+◌, ◌<◌, ◌≤◌, ◌⊎◌, inl, inr, List, [], ◌∷◌, length, slice_index_or, AllPairs, Contains, refl, sym}
use Rattle.std.proofs.Common.{◌∙◌, ap, subst, arith}
use Rattle.std.specs.Prelude.{sum_by}
use Rattle.std.proofs.lemmas.List.{get_or_default}
use Rattle.std.proofs.lemmas.List.Elements.{All-contains}
use Rattle.std.proofs.lemmas.List.Concat.{length-flat_map}
use Rattle.std.proofs.lemmas.List.Sums.{sum_by-cons}
use Rattle.plan_base.specs.declared.claim.Placement.{Placement}
use Rattle.plan_base.specs.declared.parts.Parts.{Parts}
use Rattle.plan_base.specs.Starts.{IsPossibleStart}
use Rattle.snapshot_starts.specs.declared.run.Run.{Run}
use Rattle.snapshot_starts.specs.Runs.{start_at, starts_of_run, starts_of, IsStartBefore, IsRunBefore, IsGreatestRow, AreRuns, AreAllStarts}
use Rattle.snapshot_starts.specs.Kept.{count_of, CanKeep}
use Rattle.plan_base.proofs.Pairs.{all_of}
use Rattle.snapshot_starts.proofs.InRuns.{pairs_flat_map, IsIn, length_of_run, at_in_run, in_starts, from_starts, from_run}

below_same_above : (i j : ℕ) → ((i < j) ⊎ (j < i)) ⊎ (i ≡ j)
below_same_above i j = grind arith

-- of two runs in order each start of the one is before each of the other
before_across : (a b : Run) (p q : Placement) → IsRunBefore a b → IsIn a p → IsIn b q → IsStartBefore p q
before_across a b p q (inl less) h k =
    let left : p.request.0 ≡ a.request.0 = ap (λ r. r.0) h.request in
    let right : q.request.0 ≡ b.request.0 = ap (λ r. r.0) k.request in
    inl (omega arith)
before_across a b p q (inr (same, inl less)) h k =
    let left : p.telescope.0 ≡ a.telescope.0 = ap (λ r. r.0) h.telescope in
    let right : q.telescope.0 ≡ b.telescope.0 = ap (λ r. r.0) k.telescope in
    inr (h.request ∙ same ∙ sym k.request, inl (omega arith))
before_across a b p q (inr (same, inr (also, gap))) h k =
    let to : p.slice.0 < a.first.0 + a.count = h.to in
    let from : b.first.0 ≤ q.slice.0 = k.from in
    inr (h.request ∙ same ∙ sym k.request, inr (h.telescope ∙ also ∙ sym k.telescope, omega arith))

run_in_order : (run : Run) → AllPairs IsStartBefore (starts_of_run run)
run_in_order run i j d l m =
    let count : length (starts_of_run run) ≡ run.count = length_of_run run in
    let first : slice_index_or (starts_of_run run) i d ≡ start_at run (run.first.0 + i) = at_in_run run i d (omega arith) in
    let second : slice_index_or (starts_of_run run) j d ≡ start_at run (run.first.0 + j) = at_in_run run j d (omega arith) in
    let here : IsStartBefore (start_at run (run.first.0 + i)) (start_at run (run.first.0 + j)) = inr (refl, inr (refl, omega arith)) in
    subst (λ (p : Placement). IsStartBefore p (slice_index_or (starts_of_run run) j d)) (sym first)
    (subst (IsStartBefore (start_at run (run.first.0 + i))) (sym second) here)

pub starts_in_order : (runs : List Run) → AllPairs IsRunBefore runs → AllPairs IsStartBefore (starts_of runs)
starts_in_order runs order =
    pairs_flat_map IsRunBefore IsStartBefore starts_of_run runs order (λ run c. run_in_order run)
    (λ a b p q before in_a in_b. before_across a b p q before (from_run a p in_a) (from_run b q in_b))

-- ---- greatest rows

pair_at : (runs : List Run) (i j : ℕ) (a b : Run) → AllPairs IsRunBefore runs → i < j → j < length runs → slice_index_or runs i a ≡ a
    → slice_index_or runs j b ≡ b → IsRunBefore a b
pair_at runs i j a b order below l e d =
    let pair : IsRunBefore (slice_index_or runs i a) (slice_index_or runs j a) = order i j a below l in
    subst (IsRunBefore a) (get_or_default runs j a b l ∙ d) (subst (λ (x : Run). IsRunBefore x (slice_index_or runs j a)) e pair)

-- of two runs one is before the other, or they are the same
pub compare : (runs : List Run) (a b : Run) → AllPairs IsRunBefore runs → Contains runs a → Contains runs b → (IsRunBefore a b ⊎ IsRunBefore b a) ⊎ (a ≡ b)
compare runs a b order (i, l, e) (j, m, d) = elim (below_same_above i j) [
  | inl (inl below) ↦ inl (inl (pair_at runs i j a b order below m e d))
  | inl (inr above) ↦ inl (inr (pair_at runs j i b a order above l d e))
  | inr at ↦ inr (sym e ∙ ap (λ (k : ℕ). slice_index_or runs k a) at ∙ get_or_default runs j a b m ∙ d)
]

-- a run with a start that touches a later run isn't before it
not_touching : (a b : Run) (k : ℕ) → IsRunBefore a b → IsIn a (start_at b k) → b.first.0 ≤ suc k → ⊥
not_touching a b k (inl less) h near = let same : b.request.0 ≡ a.request.0 = ap (λ r. r.0) h.request in omega arith
not_touching a b k (inr (same, inl less)) h near = let also : b.telescope.0 ≡ a.telescope.0 = ap (λ r. r.0) h.telescope in omega arith
not_touching a b k (inr (same, inr (also, gap))) h near = let to : k < a.first.0 + a.count = h.to in omega arith

not_touched : (a b : Run) (k : ℕ) → IsRunBefore a b → IsIn b (start_at a k) → k ≤ a.first.0 + a.count → ⊥
not_touched a b k (inl less) h near = let same : a.request.0 ≡ b.request.0 = ap (λ r. r.0) h.request in omega arith
not_touched a b k (inr (same, inl less)) h near = let also : a.telescope.0 ≡ b.telescope.0 = ap (λ r. r.0) h.telescope in omega arith
not_touched a b k (inr (same, inr (also, gap))) h near = let from : b.first.0 ≤ k = h.from in omega arith

-- a slice beside a run and none of its own is in no run
beside : (runs : List Run) (run : Run) (k : ℕ) → AllPairs IsRunBefore runs → Contains runs run → run.first.0 ≤ suc k → k ≤ run.first.0 + run.count
    → ¬ (IsIn run (start_at run k)) → ¬ (Contains (starts_of runs) (start_at run k))
beside runs run k order c low high out in_some =
    let found = from_starts runs (start_at run k) in_some in
    elim (compare runs found.0 run order found.1 c) [
      | inl (inl before) ↦ not_touching found.0 run k before found.2 low
      | inl (inr after) ↦ not_touched run found.0 k after found.2 high
      | inr same ↦ out (subst (λ (r : Run). IsIn r (start_at run k)) same found.2)
    ]

greatest_row : (runs : List Run) (run : Run) → AllPairs IsRunBefore runs → Contains runs run → 0 < run.count → IsGreatestRow (starts_of runs) run
greatest_row runs run order c some = record {
  some = some;
  row = λ k from to. in_starts runs run (start_at run k) c (record { request = refl; telescope = refl; from = from; to = to });
  before = λ k e. beside runs run k order c (omega arith) (omega arith) (λ h. let from : run.first.0 ≤ k = h.from in omega arith);
  after = beside runs run (run.first.0 + run.count) order c (omega arith) (omega arith)
      (λ h. let to : run.first.0 + run.count < run.first.0 + run.count = h.to in omega arith);
}

pub are_runs : (runs : List Run) → CanKeep runs → AreRuns (starts_of runs) runs
are_runs runs can = record {
  whole = refl;
  greatest = all_of (IsGreatestRow (starts_of runs)) runs (λ run c. greatest_row runs run can.order c (All-contains (λ r. 0 < r.count) runs run can.some c));
  order = can.order;
}

-- ---- how many

same_sums : (runs : List Run) → sum_by (λ run. length (starts_of_run run)) runs ≡ count_of runs
same_sums [] = refl
same_sums (run ∷ runs) =
    let one : length (starts_of_run run) ≡ run.count = length_of_run run in
    let rest : sum_by (λ r. length (starts_of_run r)) runs ≡ count_of runs = same_sums runs in
    let left : sum_by (λ r. length (starts_of_run r)) (run ∷ runs) ≡ length (starts_of_run run) + sum_by (λ r. length (starts_of_run r)) runs =
    sum_by-cons (λ r. length (starts_of_run r)) run runs in
    let right : count_of (run ∷ runs) ≡ run.count + count_of runs = sum_by-cons (λ r. r.count) run runs in
    omega arith

pub length_of_starts : (runs : List Run) → length (starts_of runs) ≡ count_of runs
length_of_starts runs = length-flat_map starts_of_run runs ∙ same_sums runs

-- ---- all starts

-- each slice of a run is a possible start, and each possible start is one of a run
pub record AreRunsOf (s : Parts) (runs : List Run) : Type 0 where
  pub order : AllPairs IsRunBefore runs
  pub possible : (run : Run) (p : Placement) → Contains runs run → IsIn run p → IsPossibleStart s p
  pub complete : (p : Placement) → IsPossibleStart s p → (run : Run) × Contains runs run × IsIn run p

never_itself : (p : Placement) → ¬ (IsStartBefore p p)
never_itself p (inl less) = omega arith
never_itself p (inr (same, inl less)) = omega arith
never_itself p (inr (same, inr (also, less))) = omega arith

before_differs : (p q : Placement) → IsStartBefore p q → p ≢ q
before_differs p q before same = never_itself q (subst (λ (x : Placement). IsStartBefore x q) same before)

pub all_starts : (s : Parts) (runs : List Run) → AreRunsOf s runs → AreAllStarts s (starts_of runs)
all_starts s runs are = record {
  all = record {
    possible = all_of (IsPossibleStart s) (starts_of runs) (λ p c. let found = from_starts runs p c in are.possible found.0 p found.1 found.2);
    once = λ i j d l m. before_differs _ _ (starts_in_order runs are.order i j d l m);
    complete = λ p possible. let found = are.complete p possible in in_starts runs found.0 p found.1 found.2;
  };
  order = starts_in_order runs are.order;
}
