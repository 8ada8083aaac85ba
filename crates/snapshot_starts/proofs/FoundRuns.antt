-- The runs of the slices that were found are those of all possible starts.
use Rattle.std.proofs.Common.{◌≡◌, ℕ, ◌+◌, ◌-◌, ◌^◌, ◌<◌, ◌≤◌, inl, inr, true, List, [], ◌∷◌, length, map, slice_index_or, All, AllPairs, Contains}
use Rattle.std.proofs.Common.{refl, sym, ◌∙◌, ap, subst, arith}
use Rattle.std.specs.Prelude.{sum_by, IsTrue}
use Rattle.std.proofs.lemmas.Bool.Decides.{nat_tests}
use Rattle.std.proofs.lemmas.List.{length-map}
use Rattle.std.proofs.lemmas.List.Elements.{All-head, All-tail, All-contains}
use Rattle.std.proofs.lemmas.List.Folds.{Any-from_list_any, list_any-from_Any}
use Rattle.std.proofs.lemmas.List.Sums.{sum_by-cons, sum_by-append}
use Rattle.plan_base.specs.declared.parts.Parts.{Parts}
use Rattle.plan_base.specs.declared.span.Span.{Span}
use Rattle.plan_base.specs.declared.claim.Placement.{Placement}
use Rattle.plan_base.specs.Snapshot.{IsOrderly, IsSortedApart}
use Rattle.plan_base.specs.Starts.{size_of, IsPossibleStart, IsStartCount}
use Rattle.plan_base.proofs.Sizes.{start_size_above}
use Rattle.plan_base.proofs.Lists.{contains_map, AllPairs-map}
use Rattle.plan_base.proofs.Members.{contains_from_map, pairs_from_map}
use Rattle.interval_set.specs.Spans.{span_has, has}
use Rattle.interval_set.proofs.Seconds.{split}
use Rattle.snapshot_starts.specs.declared.run.Run.{Run}
use Rattle.snapshot_starts.specs.declared.pair.Pair.{Pair}
use Rattle.snapshot_starts.specs.declared.pair.PairSlices.{PairSlices}
use Rattle.snapshot_starts.specs.Pairs.{pair_start, pair_of, pairs_of, IsPairBefore, ArePairSlices}
use Rattle.snapshot_starts.specs.Found.{AreFound, slice_count, IsRunSpan, AreRunSpans, AreFew, run_of, runs_of}
use Rattle.snapshot_starts.specs.Runs.{starts_of, IsRunBefore, AreAllStarts}
use Rattle.snapshot_starts.specs.Kept.{count_of, CanKeep}
use Rattle.plan_base.proofs.Pairs.{all_of}
use Rattle.snapshot_starts.proofs.InRuns.{in_flat_map, from_flat_map, pairs_flat_map, IsIn}
use Rattle.snapshot_starts.proofs.RunOrder.{AreRunsOf, all_starts, length_of_starts}
use Rattle.snapshot_starts.proofs.FoundPairs.{pairs_in_order, pair_is_listed, few_pairs}

abbrev runs_of_one : PairSlices → List Run
runs_of_one x = map (run_of x.pair) x.slices

-- a run, and what it was made of
record IsMadeOf (found : List PairSlices) (run : Run) (x : PairSlices) (w : Span) : Type 0 where
  in_found : Contains found x
  in_slices : Contains x.slices w
  same : run_of x.pair w ≡ run

made_of : (found : List PairSlices) (run : Run) → Contains (runs_of found) run → (x : PairSlices) × (w : Span) × IsMadeOf found run x w
made_of found run c =
    let one = from_flat_map runs_of_one found run c in
    let span = contains_from_map (run_of one.0.pair) one.0.slices run one.2 in
    (one.0, span.0, record { in_found = one.1; in_slices = span.1; same = span.2 })

is_made : (found : List PairSlices) (x : PairSlices) (w : Span) → Contains found x → Contains x.slices w → Contains (runs_of found) (run_of x.pair w)
is_made found x w c d = in_flat_map runs_of_one found x (run_of x.pair w) c (contains_map (run_of x.pair) x.slices w d)

-- ---- where the spans lie

has_in : (spans : List Span) (w : Span) (k : ℕ) → Contains spans w → w.from.0 ≤ k → k < w.to.0 → IsTrue (has spans k)
has_in spans w k (i, l, e) from to = list_any-from_Any (λ v. span_has v k) spans (i, w, l, e, grind (arith, nat_tests))

in_of_has : (spans : List Span) (k : ℕ) → IsTrue (has spans k) → (w : Span) × Contains spans w × (w.from.0 ≤ k) × (k < w.to.0)
in_of_has spans k is_in =
    let any = Any-from_list_any (λ v. span_has v k) spans is_in in
    let here : span_has any.1 k ≡ true = any.4 in
    (any.1, (any.0, any.2, any.3), grind (arith, nat_tests), grind (arith, nat_tests))

-- the span lies within the horizon
record LiesWithin (s : Parts) (w : Span) : Type 0 where
  some : w.from.0 < w.to.0
  from : s.first.0 ≤ w.from.0
  to : w.to.0 ≤ s.first.0 + s.slices

lies_within : (s : Parts) (x : PairSlices) (w : Span) → IsOrderly s → ArePairSlices s x → Contains x.slices w → LiesWithin s w
lies_within s x w o are c =
    let some : w.from.0 < w.to.0 = All-contains (λ v. v.from.0 < v.to.0) x.slices w are.sorted.nonempty c in
    let first : IsPossibleStart s (pair_start x.pair w.from.0) = (are.starts w.from.0).0 (has_in x.slices w w.from.0 c (omega arith) some) in
    let last : IsPossibleStart s (pair_start x.pair (w.to.0 - 1)) =
    (are.starts (w.to.0 - 1)).0 (has_in x.slices w (w.to.0 - 1) c (omega arith) (omega arith)) in
    let size : 0 < size_of s x.pair.request.0 = start_size_above s o (pair_start x.pair (w.to.0 - 1)) last in
    let ends : w.to.0 - 1 + size_of s x.pair.request.0 ≤ s.first.0 + s.slices = last.ends in
    record { some = some; from = first.begins; to = omega arith }

run_span : (s : Parts) (w : Span) → IsOrderly s → LiesWithin s w → IsRunSpan w
run_span s w o lies =
    let to : w.to.0 ≤ s.first.0 + s.slices = lies.to in
    let first : s.first.0 ≤ 4223371680 = o.ranges.first in
    let slices : s.slices ≤ 1440 = o.ranges.slices_most in
    record { some = lies.some; below = omega arith }

widths_within : (a b : ℕ) (spans : List Span) → IsSortedApart spans → All (λ w. a ≤ w.from.0) spans → All (λ w. w.to.0 ≤ b) spans → slice_count spans ≤ b - a
widths_within a b [] sorted from to = omega arith
widths_within a b (w ∷ spans) sorted from to =
    let parts = split w spans sorted in
    let one : w.from.0 < w.to.0 = parts.nonempty in
    let low : a ≤ w.from.0 = All-head (λ v. a ≤ v.from.0) w spans from in
    let high : w.to.0 ≤ b = All-head (λ v. v.to.0 ≤ b) w spans to in
    let rest : slice_count spans ≤ b - w.to.0 =
    widths_within w.to.0 b spans parts.sorted (λ i d l. let gap : w.to.0 < (slice_index_or spans i d).from.0 = parts.apart i d l in
    omega arith) (All-tail (λ v. v.to.0 ≤ b) w spans to) in
    let sum : slice_count (w ∷ spans) ≡ (w.to.0 - w.from.0) + slice_count spans = sum_by-cons (λ v. v.to.0 - v.from.0) w spans in
    omega arith

few_slices : (s : Parts) (x : PairSlices) → IsOrderly s → ArePairSlices s x → slice_count x.slices ≤ 1440
few_slices s x o are =
    let slices : s.slices ≤ 1440 = o.ranges.slices_most in
    let within : slice_count x.slices ≤ s.first.0 + s.slices - s.first.0 = widths_within s.first.0 (s.first.0 + s.slices) x.slices are.sorted
    (all_of (λ w. s.first.0 ≤ w.from.0) x.slices (λ w c. (lies_within s x w o are c).from))
    (all_of (λ w. w.to.0 ≤ s.first.0 + s.slices) x.slices (λ w c. (lies_within s x w o are c).to)) in
    omega arith

pub run_spans : (s : Parts) (found : List PairSlices) → IsOrderly s → AreFound s found → AreRunSpans found
run_spans s found o are = all_of (λ x. All IsRunSpan x.slices) found
    (λ x c. all_of IsRunSpan x.slices (λ w d. run_span s w o (lies_within s x w o (All-contains (ArePairSlices s) found x are.each c) d)))

pub are_few : (s : Parts) (found : List PairSlices) → IsOrderly s → AreFound s found → AreFew found
are_few s found o are =
    let count : length (map (λ x. x.pair) found) ≡ length found = length-map found (λ x. x.pair) in
    let same : length (map (λ x. x.pair) found) ≡ length (pairs_of s) = ap (λ (ps : List Pair). length ps) are.pairs in
    let most : length (pairs_of s) ≤ 32768 = few_pairs s o in
    record {
      spans = run_spans s found o are;
      slices = all_of (λ x. slice_count x.slices ≤ 1440) found (λ x c. few_slices s x o (All-contains (ArePairSlices s) found x are.each c));
      pairs = omega arith;
    }

-- ---- the runs in order

apart_runs : (pair : Pair) (v w : Span) → v.from.0 < v.to.0 → v.to.0 < w.from.0 → IsRunBefore (run_of pair v) (run_of pair w)
apart_runs pair v w some gap = inr (refl, inr (refl, omega arith))

runs_of_pair_in_order : (pair : Pair) (spans : List Span) → IsSortedApart spans → AllPairs IsRunBefore (map (run_of pair) spans)
runs_of_pair_in_order pair spans sorted =
    AllPairs-map IsRunBefore (run_of pair) spans
    (λ i j d l m. apart_runs pair (slice_index_or spans i d) (slice_index_or spans j d) (sorted.nonempty i d (omega arith))
    (sorted.apart i j d l m))

across_made : (p q : Pair) (v w : Span) (a b : Run) → run_of p v ≡ a → run_of q w ≡ b → IsPairBefore p q → IsRunBefore a b
across_made p q v w a b e f (inl less) =
    let left : p.request.0 ≡ a.request.0 = ap (λ (r : Run). r.request.0) e in
    let right : q.request.0 ≡ b.request.0 = ap (λ (r : Run). r.request.0) f in
    inl (omega arith)
across_made p q v w a b e f (inr (same, less)) =
    let left : p.telescope.0 ≡ a.telescope.0 = ap (λ (r : Run). r.telescope.0) e in
    let right : q.telescope.0 ≡ b.telescope.0 = ap (λ (r : Run). r.telescope.0) f in
    inr (sym (ap (λ (r : Run). r.request) e) ∙ same ∙ ap (λ (r : Run). r.request) f, inl (omega arith))

across : (x y : PairSlices) (a b : Run) → IsPairBefore x.pair y.pair → Contains (runs_of_one x) a → Contains (runs_of_one y) b → IsRunBefore a b
across x y a b before c d =
    let v = contains_from_map (run_of x.pair) x.slices a c in
    let w = contains_from_map (run_of y.pair) y.slices b d in
    across_made x.pair y.pair v.0 w.0 a b v.2 w.2 before

runs_in_order : (s : Parts) (found : List PairSlices) → IsOrderly s → AreFound s found → AllPairs IsRunBefore (runs_of found)
runs_in_order s found o are =
    let pairs : AllPairs (λ x y. IsPairBefore x.pair y.pair) found =
    pairs_from_map IsPairBefore (λ x. x.pair) found (subst (AllPairs IsPairBefore) (sym are.pairs) (pairs_in_order s o)) in
    pairs_flat_map (λ x y. IsPairBefore x.pair y.pair) IsRunBefore runs_of_one found pairs
    (λ x c. runs_of_pair_in_order x.pair x.slices (All-contains (ArePairSlices s) found x are.each c).sorted)
    (λ x y a b before c d. across x y a b before c d)

-- ---- the starts of the runs

start_of_pair : (pair : Pair) (p : Placement) → p.request ≡ pair.request → p.telescope ≡ pair.telescope → pair_start pair p.slice.0 ≡ p
start_of_pair pair p r t i = record { request = sym r i; telescope = sym t i; slice = p.slice }

possible_in : (s : Parts) (found : List PairSlices) (run : Run) (p : Placement) → AreFound s found → Contains (runs_of found) run
    → IsIn run p → IsPossibleStart s p
possible_in s found run p are c h =
    let made = made_of found run c in
    let x : PairSlices = made.0 in
    let w : Span = made.1 in
    let here : IsIn (run_of x.pair w) p = subst (λ (r : Run). IsIn r p) (sym made.2.same) h in
    let from : w.from.0 ≤ p.slice.0 = here.from in
    let to : p.slice.0 < w.from.0 + (w.to.0 - w.from.0) = here.to in
    let possible : IsPossibleStart s (pair_start x.pair p.slice.0) =
    ((All-contains (ArePairSlices s) found x are.each made.2.in_found).starts p.slice.0).0
    (has_in x.slices w p.slice.0 made.2.in_slices from (omega arith)) in
    subst (IsPossibleStart s) (start_of_pair x.pair p here.request here.telescope) possible

run_with : (s : Parts) (found : List PairSlices) (p : Placement) → AreFound s found → IsPossibleStart s p
    → (run : Run) × Contains (runs_of found) run × IsIn run p
run_with s found p are possible =
    let listed : Contains (pairs_of s) (pair_of p.request p.telescope) = pair_is_listed s p.request p.telescope possible.known possible.able in
    let mapped : Contains (map (λ x. x.pair) found) (pair_of p.request p.telescope) =
    subst (λ (ps : List Pair). Contains ps (pair_of p.request p.telescope)) (sym are.pairs) listed in
    let one = contains_from_map (λ x. x.pair) found (pair_of p.request p.telescope) mapped in
    let x : PairSlices = one.0 in
    let request : p.request ≡ x.pair.request = ap (λ (q : Pair). q.request) (sym one.2) in
    let telescope : p.telescope ≡ x.pair.telescope = ap (λ (q : Pair). q.telescope) (sym one.2) in
    let there : IsPossibleStart s (pair_start x.pair p.slice.0) = subst (IsPossibleStart s) (sym (start_of_pair x.pair p request telescope)) possible in
    let span = in_of_has x.slices p.slice.0 (((All-contains (ArePairSlices s) found x are.each one.1).starts p.slice.0).1 there) in
    let from : span.0.from.0 ≤ p.slice.0 = span.2 in
    let to : p.slice.0 < span.0.to.0 = span.3 in
    (run_of x.pair span.0, is_made found x span.0 one.1 span.1, record { request = request; telescope = telescope; from = from; to = omega arith })

are_runs_of : (s : Parts) (found : List PairSlices) → IsOrderly s → AreFound s found → AreRunsOf s (runs_of found)
are_runs_of s found o are = record {
  order = runs_in_order s found o are;
  possible = λ run p c h. possible_in s found run p are c h;
  complete = λ p possible. run_with s found p are possible;
}

pub all_found : (s : Parts) (found : List PairSlices) → IsOrderly s → AreFound s found → AreAllStarts s (starts_of (runs_of found))
all_found s found o are = all_starts s (runs_of found) (are_runs_of s found o are)

-- ---- how many

count_of_one : (pair : Pair) (spans : List Span) → count_of (map (run_of pair) spans) ≡ slice_count spans
count_of_one pair [] = refl
count_of_one pair (w ∷ spans) =
    let rest : count_of (map (run_of pair) spans) ≡ slice_count spans = count_of_one pair spans in
    let left : count_of (map (run_of pair) (w ∷ spans)) ≡ (w.to.0 - w.from.0) + count_of (map (run_of pair) spans) =
    sum_by-cons (λ run. run.count) (run_of pair w) (map (run_of pair) spans) in
    let right : slice_count (w ∷ spans) ≡ (w.to.0 - w.from.0) + slice_count spans = sum_by-cons (λ v. v.to.0 - v.from.0) w spans in
    omega arith

pub count_of_runs : (found : List PairSlices) → count_of (runs_of found) ≡ sum_by (λ x. slice_count x.slices) found
count_of_runs [] = refl
count_of_runs (x ∷ found) =
    let rest : count_of (runs_of found) ≡ sum_by (λ y. slice_count y.slices) found = count_of_runs found in
    let one : count_of (runs_of_one x) ≡ slice_count x.slices = count_of_one x.pair x.slices in
    let left : count_of (runs_of (x ∷ found)) ≡ count_of (runs_of_one x) + count_of (runs_of found) =
    sum_by-append (λ run. run.count) (runs_of_one x) (runs_of found) in
    let right : sum_by (λ y. slice_count y.slices) (x ∷ found) ≡ slice_count x.slices + sum_by (λ y. slice_count y.slices) found =
    sum_by-cons (λ y. slice_count y.slices) x found in
    omega arith

pub can_keep : (s : Parts) (found : List PairSlices) (n : ℕ) → IsOrderly s → AreFound s found → n ≡ sum_by (λ x. slice_count x.slices) found
    → n ≤ 1048576 → CanKeep (runs_of found)
can_keep s found n o are e few =
    let count : count_of (runs_of found) ≡ sum_by (λ x. slice_count x.slices) found = count_of_runs found in
    record {
      some = all_of (λ run. 0 < run.count) (runs_of found) (λ run c. some_slices run c);
      slices = all_of (λ run. run.first.0 + run.count ≤ 2 ^ 32) (runs_of found) (λ run c. slices_fit run c);
      order = runs_in_order s found o are;
      few = omega arith;
    }
  where
    span_of : (run : Run) → Contains (runs_of found) run → (x : PairSlices) × (w : Span) × IsRunSpan w × (run_of x.pair w ≡ run)
    span_of run c =
        let made = made_of found run c in
        let x : PairSlices = made.0 in (
          x,
          made.1,
          run_span s made.1 o (lies_within s x made.1 o (All-contains (ArePairSlices s) found x are.each made.2.in_found) made.2.in_slices),
          made.2.same,
        )

    some_slices : (run : Run) → Contains (runs_of found) run → 0 < run.count
    some_slices run c =
        let span = span_of run c in
        let some : span.1.from.0 < span.1.to.0 = span.2.some in
        let same : span.1.to.0 - span.1.from.0 ≡ run.count = ap (λ (r : Run). r.count) span.3 in
        omega arith

    slices_fit : (run : Run) → Contains (runs_of found) run → run.first.0 + run.count ≤ 2 ^ 32
    slices_fit run c =
        let span = span_of run c in
        let some : span.1.from.0 < span.1.to.0 = span.2.some in
        let below : span.1.to.0 < 2 ^ 32 = span.2.below in
        let same : span.1.to.0 - span.1.from.0 ≡ run.count = ap (λ (r : Run). r.count) span.3 in
        let first : span.1.from.0 ≡ run.first.0 = ap (λ (r : Run). r.first.0) span.3 in
        omega arith

-- above the limit the count is that of all starts
pub start_count : (s : Parts) (found : List PairSlices) (n : ℕ) → IsOrderly s → AreFound s found
    → n ≡ sum_by (λ x. slice_count x.slices) found → IsStartCount s n
start_count s found n o are e = (starts_of (runs_of found), (all_found s found o are).all, length_of_starts (runs_of found) ∙ count_of_runs found ∙ sym e)
