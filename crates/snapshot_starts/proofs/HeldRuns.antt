-- The slices of a pair, by the runs of its request.
use Rattle.std.proofs.Common.{◌≡◌, ℕ, ◌+◌, ◌<◌, ◌≤◌, ◌⊎◌, inl, inr, min, max, true, List, [], ◌∷◌, ◌++◌, length, slice_index_or, take, Contains, sym}
use Rattle.std.proofs.Common.{◌∙◌, ap, subst, arith}
use Rattle.std.specs.Prelude.{◌↔◌, ◌==◌, filter, IsTrue, Any}
use Rattle.std.specs.List.Sorted.{IsNonDecreasingBy}
use Rattle.std.proofs.lemmas.Bool.{eqb-true, false≢true}
use Rattle.std.proofs.lemmas.Bool.Decides.{nat_tests}
use Rattle.std.proofs.lemmas.List.{take_more}
use Rattle.std.proofs.lemmas.List.Elements.{All-contains, All-filter, All-contains_itself, Contains-get_or, filter_passes}
use Rattle.plan_base.specs.declared.parts.Parts.{Parts}
use Rattle.plan_base.specs.declared.span.Span.{Span}
use Rattle.plan_base.specs.declared.claim.Placement.{Placement}
use Rattle.plan_base.specs.declared.number.TelescopeNo.{TelescopeNo}
use Rattle.plan_base.specs.Starts.{IsPossibleStart}
use Rattle.plan_base.proofs.Lists.{contains_filter}
use Rattle.interval_set.specs.Spans.{span_has, has, IsSetOf}
use Rattle.snapshot_starts.specs.declared.pair.Pair.{Pair}
use Rattle.snapshot_starts.specs.declared.run.Run.{Run}
use Rattle.snapshot_starts.specs.Slices.{AreSlices}
use Rattle.snapshot_starts.specs.Pairs.{pair_start}
use Rattle.snapshot_starts.specs.Runs.{start_at, IsGreatestRow, IsRunBefore, AreRuns, AreAllStarts, starts_with}
use Rattle.snapshot_starts.proofs.InRuns.{IsIn, from_starts}
use Rattle.snapshot_starts.proofs.Alike.{IsPartOf}
use Rattle.snapshot_starts.proofs.Sets.{any_left, any_last, any_cases, or_true_left, or_true_right, or_true_cases, has_push, set_slices}

-- the run is on telescope t and has slice k, which is one of these
pub record Tells (t : ℕ) (slices : Span) (k : ℕ) (run : Run) : Type 0 where
  pub telescope : run.telescope.0 ≡ t
  pub from : run.first.0 ≤ k
  pub to : k < run.first.0 + run.count
  pub one : IsTrue (span_has slices k)

-- of each slice, the runs so far tell whether it is within
pub record AreToldBy (t : ℕ) (slices : Span) (runs : List Run) (within : List Span) : Type 0 where
  pub each : (k : ℕ) → IsTrue (has within k) ↔ Any (Tells t slices k) runs

pub none_told : (t : ℕ) (slices : Span) → AreToldBy t slices [] []
none_told t slices = record { each = λ k. (λ found. absurd (false≢true found), λ told. absurd (omega (arith, told.2))) }

-- the slices that a run has in common with others
part_tells : (t : ℕ) (slices run_slices part : Span) (run : Run) (k : ℕ) → run.telescope.0 ≡ t → run_slices.from.0 ≡ run.first.0
    → run_slices.to.0 ≡ run.first.0 + run.count
    → IsPartOf run_slices slices part → IsTrue (span_has part k) ↔ Tells t slices k run
part_tells t slices run_slices part run k same from to is = (
  λ found. record {
    telescope = same;
    from = above found;
    to = below found;
    one = inside found;
  },
  λ told. back told.from told.to told.one,
)
  where
    start : part.from.0 ≡ max run.first.0 slices.from.0
    start = is.from ∙ ap (λ (n : ℕ). max n slices.from.0) from

    end : part.to.0 ≡ min (run.first.0 + run.count) slices.to.0
    end = is.to ∙ ap (λ (n : ℕ). min n slices.to.0) to

    above : IsTrue (span_has part k) → run.first.0 ≤ k
    above found = grind (arith, nat_tests)

    below : IsTrue (span_has part k) → k < run.first.0 + run.count
    below found = grind (arith, nat_tests)

    inside : IsTrue (span_has part k) → IsTrue (span_has slices k)
    inside found = grind (arith, nat_tests)

    back : run.first.0 ≤ k → k < run.first.0 + run.count → IsTrue (span_has slices k) → IsTrue (span_has part k)
    back low high one = grind (arith, nat_tests)

taken_more : (runs : List Run) (i : ℕ) (run : Run) → i < length runs → run ≡ slice_index_or runs i run → take (i + 1) runs ≡ take i runs ++ run ∷ []
taken_more runs i run l at = take_more runs i run l ∙ ap (λ (x : Run). take i runs ++ x ∷ []) (sym at)

pub more_told : (t : ℕ) (slices run_slices part : Span) (runs : List Run) (i : ℕ) (run : Run) (within : List Span) → i < length runs
    → run ≡ slice_index_or runs i run
    → run.telescope.0 ≡ t → run_slices.from.0 ≡ run.first.0 → run_slices.to.0 ≡ run.first.0 + run.count → IsPartOf run_slices slices part
    → AreToldBy t slices (take i runs) within → AreToldBy t slices (take (i + 1) runs) (within ++ part ∷ [])
more_told t slices run_slices part runs i run within l at same from to is so_far =
    subst (λ (xs : List Run). AreToldBy t slices xs (within ++ part ∷ [])) (sym (taken_more runs i run l at)) (record {
      each = λ k.
          let here = part_tells t slices run_slices part run k same from to is in (
            λ found. elim (or_true_cases (has within k) (span_has part k) (sym (has_push within part k) ∙ found)) [
              | inl earlier ↦ any_left (Tells t slices k) (take i runs) run ((so_far.each k).0 earlier)
              | inr last ↦ any_last (Tells t slices k) (take i runs) run (here.0 last)
            ],
            λ told. has_push within part k ∙ elim (any_cases (Tells t slices k) (take i runs) run told) [
              | inl earlier ↦ or_true_left (has within k) (span_has part k) ((so_far.each k).1 earlier)
              | inr last ↦ or_true_right (has within k) (span_has part k) (here.1 last)
            ],
          );
    })

-- runs on other telescopes tell nothing
pub all_told : (t : ℕ) (slices : Span) (runs : List Run) (within : List Span) → AreToldBy t slices (filter (λ run. run.telescope.0 == t) runs) within
    → AreToldBy t slices runs within
all_told t slices runs within told = record {
  each = λ k. (
    λ found.
        let (place, run, l, at, tells) = (told.each k).0 found in
        let there : Contains runs run =
        All-contains (Contains runs) (filter (λ x. x.telescope.0 == t) runs) run
        (All-filter (λ x. x.telescope.0 == t) (Contains runs) runs (All-contains_itself runs)) (place, l, at) in
        (there.0, run, there.1, there.2, tells),
    λ (place, run, l, at, tells).
        let there : Contains (filter (λ x. x.telescope.0 == t) runs) run =
        contains_filter (λ x. x.telescope.0 == t) runs run (place, l, at) (same_number run.telescope.0 t tells.telescope) in
        (told.each k).1 (there.0, run, there.1, there.2, tells),
  );
}
  where
    same_number : (m n : ℕ) → m ≡ n → (m == n) ≡ true
    same_number m n e = grind (arith, nat_tests)

-- ---- all runs of a request tell its starts

of_request : (starts : List Placement) (r : ℕ) (p : Placement) → Contains (starts_with starts r) p → Contains starts p × (p.request.0 ≡ r)
of_request starts r p there = (
  All-contains (Contains starts) (starts_with starts r) p (All-filter (λ x. x.request.0 == r) (Contains starts) starts (All-contains_itself starts)) there,
  eqb-true p.request.0 r (All-contains (λ x. (x.request.0 == r) ≡ true) (starts_with starts r) p (filter_passes (λ x. x.request.0 == r) starts) there),
)

-- the runs of a request are in the order of telescopes
pub telescopes_rise : (starts : List Placement) (r : ℕ) (runs : List Run) → AreRuns (starts_with starts r) runs
    → IsNonDecreasingBy (λ run. run.telescope.0) runs
telescopes_rise starts r runs are i j d le l = by (below_or_same i j le)
  where
    below_or_same : (a b : ℕ) → a ≤ b → (a < b) ⊎ (a ≡ b)
    below_or_same a b h = grind arith

    one_request : (k : ℕ) → k < length runs → (slice_index_or runs k d).request.0 ≡ r
    one_request k within =
        let run : Run = slice_index_or runs k d in
        let row = All-contains (IsGreatestRow (starts_with starts r)) runs run are.greatest (Contains-get_or runs k d within) in
        let some : 0 < run.count = row.some in
        (of_request starts r (start_at run run.first.0) (row.row run.first.0 (omega arith) (omega arith))).1

    before : (a b : Run) → a.request.0 ≡ r → b.request.0 ≡ r → IsRunBefore a b → a.telescope.0 ≤ b.telescope.0
    before a b at bt (inl less) = absurd (omega arith)
    before a b at bt (inr (same, inl less)) = omega arith
    before a b at bt (inr (same, inr (also, gap))) = let e : a.telescope.0 ≡ b.telescope.0 = ap (λ x. x.0) also in omega arith

    by : (i < j) ⊎ (i ≡ j) → (slice_index_or runs i d).telescope.0 ≤ (slice_index_or runs j d).telescope.0
    by (inl below) = before (slice_index_or runs i d) (slice_index_or runs j d) (one_request i (omega arith)) (one_request j l) (are.order i j d below l)
    by (inr same) = let e : (slice_index_or runs i d).telescope.0 ≡ (slice_index_or runs j d).telescope.0 =
        ap (λ (k : ℕ). (slice_index_or runs k d).telescope.0) same in omega arith

same_start : (run : Run) (pair : Pair) (k : ℕ) → run.request.0 ≡ pair.request.0 → run.telescope.0 ≡ pair.telescope.0 → start_at run k ≡ pair_start pair k
same_start run pair k r t =
    ap (λ (n : ℕ). let p : Placement = record { request = record { 0 = n }; telescope = run.telescope; slice = record { 0 = k } } in p) r
    ∙ ap (λ (n : ℕ). let p : Placement = record { request = pair.request; telescope = record { 0 = n }; slice = record { 0 = k } } in p) t

run_told : (s : Parts) (starts : List Placement) (runs : List Run) (pair : Pair) (slices : Span) (k : ℕ) (run : Run) → AreAllStarts s starts
    → AreRuns (starts_with starts pair.request.0) runs
    → Contains runs run → Tells pair.telescope.0 slices k run → IsPossibleStart s (pair_start pair k)
run_told s starts runs pair slices k run all are there tells =
    let row = All-contains (IsGreatestRow (starts_with starts pair.request.0)) runs run are.greatest there in
    let start = of_request starts pair.request.0 (start_at run k) (row.row k tells.from tells.to) in
    subst (IsPossibleStart s) (same_start run pair k start.1 tells.telescope)
    (All-contains (IsPossibleStart s) starts (start_at run k) all.all.possible start.0)

start_told : (s : Parts) (starts : List Placement) (runs : List Run) (pair : Pair) (slices : Span) (k : ℕ) → AreAllStarts s starts
    → AreRuns (starts_with starts pair.request.0) runs
    → IsPossibleStart s (pair_start pair k) → IsTrue (span_has slices k) → Any (Tells pair.telescope.0 slices k) runs
start_told s starts runs pair slices k all are possible one =
    let r : ℕ = pair.request.0 in
    let p : Placement = pair_start pair k in
    let there : Contains (starts_with starts r) p = contains_filter (λ x. x.request.0 == r) starts p (all.all.complete p possible) (same_test r) in
    let found = from_starts runs p (subst (λ (xs : List Placement). Contains xs p) (sym are.whole) there) in
    let run : Run = found.0 in
    let place = found.1 in
    let is : IsIn run p = found.2 in
    (place.0, run, place.1, place.2, record { telescope = sym (ap (λ (x : TelescopeNo). x.0) is.telescope); from = is.from; to = is.to; one = one })
  where
    same_test : (n : ℕ) → (n == n) ≡ true
    same_test n = grind (arith, nat_tests)

pub told_slices : (s : Parts) (starts : List Placement) (runs : List Run) (pair : Pair) (slices : Span) (within set : List Span) → AreAllStarts s starts
    → AreRuns (starts_with starts pair.request.0) runs → AreToldBy pair.telescope.0 slices runs within → IsSetOf (has within) set
    → AreSlices (λ k. IsPossibleStart s (pair_start pair k) × IsTrue (span_has slices k)) set
told_slices s starts runs pair slices within set all are told is_set =
    set_slices (λ k. IsPossibleStart s (pair_start pair k) × IsTrue (span_has slices k)) within set
    (λ k. (
      λ found. let any = (told.each k).0 found in (run_told s starts runs pair slices k any.1 all are (any.0, any.2, any.3) any.4, any.4.one),
      λ (possible, one). (told.each k).1 (start_told s starts runs pair slices k all are possible one),
    )) is_set
