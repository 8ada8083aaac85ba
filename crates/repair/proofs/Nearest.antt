-- The earliest start of runs that is apart from a plan.
use Rattle.std.proofs.Common.{◌≡◌, ℕ, ◌+◌, ◌<◌, ◌≤◌, ◌⊎◌, inl, inr, List, length, slice_index_or, Option, Some, None, MatchOption, refl, sym, ◌∙◌, ap}
use Rattle.std.proofs.Common.{subst, arith}
use Rattle.std.proofs.lemmas.List.{get_or_default}
use Rattle.plan_base.specs.declared.parts.Parts.{Parts}
use Rattle.plan_base.specs.declared.number.SliceNo.{SliceNo}
use Rattle.plan_base.specs.declared.claim.Placement.{Placement}
use Rattle.plan_base.specs.Snapshot.{IsOrderly}
use Rattle.plan_base.specs.Starts.{IsPossibleStart, size_of}
use Rattle.plan_base.specs.Saturated.{IsNoLater}
use Rattle.snapshot_starts.specs.declared.run.Run.{Run}
use Rattle.snapshot_starts.specs.Runs.{start_at, IsRunBefore}
use Rattle.repair.specs.Apart.{IsApart, HasSlice, IsPossibleRun, HasNoApart, IsFirstApart, limit_of, IsBetter, HasNoneApart, IsEarliestApart}
use Rattle.repair.specs.declared.entry.Entry.{Entry}
use Rattle.repair.specs.Entries.{IsOfRun, AreRunsFor, IsEntry}

-- p is a start of one of the first n runs
pub record IsOfFirst (runs : List Run) (n : ℕ) (p : Placement) : Type 0 where
  pub run : Run
  pub place : ℕ
  pub below : place < n
  pub within : place < length runs
  pub at : slice_index_or runs place run ≡ run
  pub has : IsOfRun run p

-- the earliest of the starts with P that are apart from the plan, if there is one
abbrev pub IsEarliestOf : Parts → List Placement → (Placement → Type 0) → Option Placement → Type 0
IsEarliestOf s plan P None = (q : Placement) → P q → ¬ (IsApart s plan q)
IsEarliestOf s plan P (Some p) = P p × IsApart s plan p × ((q : Placement) → P q → IsApart s plan q → IsNoLater p q)

last_or_before : (j i : ℕ) → j < i + 1 → (j ≡ i) ⊎ (j < i)
last_or_before j i h = grind arith

below_same_above : (a b : ℕ) → ((a < b) ⊎ (b < a)) ⊎ (a ≡ b)
below_same_above a b = grind arith

same_slice : (a b : SliceNo) → a.0 ≡ b.0 → a ≡ b
same_slice a b e i = record { 0 = e i }

-- a start of a run is its start at its slice
pub start_is : (run : Run) (p : Placement) → IsOfRun run p → start_at run p.slice.0 ≡ p
start_is run p h i = record { request = sym h.request i; telescope = sym h.telescope i; slice = p.slice }

first_more : (runs : List Run) (n : ℕ) (p : Placement) → IsOfFirst runs n p → IsOfFirst runs (n + 1) p
first_more runs n p h = record {
  run = h.run;
  place = h.place;
  below = (let l : h.place < n = h.below in omega arith);
  within = h.within;
  at = h.at;
  has = h.has;
}

-- a start of the first runs is of the last of them or of one before
first_cases : (runs : List Run) (n : ℕ) (run : Run) (p : Placement) → n < length runs → slice_index_or runs n run ≡ run → IsOfFirst runs (n + 1) p
    → IsOfFirst runs n p ⊎ IsOfRun run p
first_cases runs n run p l at h = elim (last_or_before h.place n h.below) [
  | inl last ↦ inr (subst (λ (x : Run). IsOfRun x p) (sym h.at ∙ ap (λ (k : ℕ). slice_index_or runs k h.run) last
      ∙ get_or_default runs n h.run run l ∙ at) h.has)
  | inr before ↦ inl (record { run = h.run; place = h.place; below = before; within = h.within; at = h.at; has = h.has })
]

-- a run after another of the same request is on no lower telescope
rising : (s : Parts) (r : ℕ) (runs : List Run) (n : ℕ) (run : Run) (p : Placement) → AreRunsFor s r runs → n < length runs
    → slice_index_or runs n run ≡ run → IsOfFirst runs n p → p.telescope.0 ≤ run.telescope.0
rising s r runs n run p are l at h =
    let before : IsRunBefore h.run run =
    subst (λ (x : Run). IsRunBefore x run) h.at
    (subst (λ (x : Run). IsRunBefore (slice_index_or runs h.place h.run) x) (get_or_default runs n h.run run l ∙ at)
    (are.order h.place n h.run h.below l)) in
    let first : h.run.request.0 ≡ r = subst (λ (x : Run). x.request.0 ≡ r) h.at (are.request h.place h.run h.within) in
    let second : run.request.0 ≡ r = subst (λ (x : Run). x.request.0 ≡ r) at (are.request n run l) in
    let on : p.telescope.0 ≡ h.run.telescope.0 = ap (λ t. t.0) h.has.telescope in
    elim before [
      | inl less ↦ absurd (omega arith)
      | inr same ↦ elim same.1 [
        | inl lower ↦ omega arith
        | inr also ↦ let equal : h.run.telescope.0 ≡ run.telescope.0 = ap (λ t. t.0) also.0 in omega arith
      ]
    ]

no_later : (p q : Placement) → p.slice.0 ≤ q.slice.0 → p.telescope.0 ≤ q.telescope.0 → IsNoLater p q
no_later p q first second = elim (below_same_above p.slice.0 q.slice.0) [
  | inl either ↦ elim either [ inl less ↦ inl less | inr more ↦ absurd (omega arith) ]
  | inr same ↦ inr (same_slice p.slice q.slice same, second)
]

-- where no start of the run before a slice is apart, one that is apart begins at that slice or later
not_before : (s : Parts) (plan : List Placement) (run : Run) (q : Placement) (k : ℕ) → IsOfRun run q → IsApart s plan q
    → ((j : ℕ) → HasSlice run j → j < k → ¬ (IsApart s plan (start_at run j))) → k ≤ q.slice.0
not_before s plan run q k of apart none = elim (below_same_above q.slice.0 k) [
  | inl either ↦ elim either [
    | inl less ↦ absurd (none q.slice.0 of.slice less (subst (IsApart s plan) (sym (start_is run q of)) apart))
    | inr more ↦ omega arith
  ]
  | inr same ↦ omega arith
]

-- a slice of a possible run lies below the greatest number
slice_below : (s : Parts) (run : Run) (k : ℕ) → IsOrderly s → IsPossibleRun s run → HasSlice run k → k < 4294967295
slice_below s run k orderly possible has =
    let start = possible.possible k has in
    let ends = start.ends in
    let first : s.first.0 ≤ 4223371680 = orderly.ranges.first in
    let slices : s.slices ≤ 1440 = orderly.ranges.slices_most in
    omega arith

no_later_on : (b q p : Placement) → p.slice.0 < b.slice.0 → IsNoLater b q → IsNoLater p q
no_later_on b q p less (inl before) = inl (omega arith)
no_later_on b q p less (inr (same, t)) = let equal : b.slice.0 ≡ q.slice.0 = ap (λ k. k.0) same in inl (omega arith)

-- one run more, where none of its starts is better
kept_none : (s : Parts) (plan : List Placement) (r : ℕ) (runs : List Run) (n : ℕ) (run : Run) → IsOrderly s → AreRunsFor s r runs → n < length runs
    → slice_index_or runs n run ≡ run → IsPossibleRun s run
    → IsEarliestOf s plan (IsOfFirst runs n) None → HasNoApart s plan run 4294967295 → IsEarliestOf s plan (IsOfFirst runs (n + 1)) None
kept_none s plan r runs n run orderly are l at possible before none q of apart = elim (first_cases runs n run q l at of) [
  | inl early ↦ before q early apart
  | inr here ↦ none q.slice.0 here.slice (slice_below s run q.slice.0 orderly possible here.slice) (subst (IsApart s plan) (sym (start_is run q here)) apart)
]

kept_some : (s : Parts) (plan : List Placement) (r : ℕ) (runs : List Run) (n : ℕ) (run : Run) (b : Placement) → AreRunsFor s r runs → n < length runs
    → slice_index_or runs n run ≡ run
    → IsEarliestOf s plan (IsOfFirst runs n) (Some b) → HasNoApart s plan run b.slice.0 → IsEarliestOf s plan (IsOfFirst runs (n + 1)) (Some b)
kept_some s plan r runs n run b are l at (of_b, apart_b, first_b) none = (
  first_more runs n b of_b,
  apart_b,
  λ q of apart. elim (first_cases runs n run q l at of) [
    | inl early ↦ first_b q early apart
    | inr here ↦
        let on : q.telescope.0 ≡ run.telescope.0 = ap (λ t. t.0) here.telescope in
        let lower : b.telescope.0 ≤ run.telescope.0 = rising s r runs n run b are l at of_b in
        no_later b q (not_before s plan run q b.slice.0 here apart none) (omega arith)
  ],
)

kept : (s : Parts) (plan : List Placement) (r : ℕ) (runs : List Run) (n : ℕ) (run : Run) → IsOrderly s → AreRunsFor s r runs → n < length runs
    → slice_index_or runs n run ≡ run → IsPossibleRun s run
    → (best : Option Placement) → IsEarliestOf s plan (IsOfFirst runs n) best → HasNoApart s plan run (limit_of best)
    → IsEarliestOf s plan (IsOfFirst runs (n + 1)) best
kept s plan r runs n run orderly are l at possible None before none = kept_none s plan r runs n run orderly are l at possible before none
kept s plan r runs n run orderly are l at possible (Some b) before none = kept_some s plan r runs n run b are l at before none

-- a start of an earlier run is no earlier than one that begins before the best of them
earlier : (s : Parts) (plan : List Placement) (runs : List Run) (n k : ℕ) (p q : Placement) → p.slice.0 ≡ k → IsOfFirst runs n q → IsApart s plan q
    → (best : Option Placement) → IsEarliestOf s plan (IsOfFirst runs n) best → k < limit_of best → IsNoLater p q
earlier s plan runs n k p q at early apart None none less = absurd (none q early apart)
earlier s plan runs n k p q at early apart (Some b) (of_b, apart_b, first_b) less = no_later_on b q p (omega arith) (first_b q early apart)

-- one run more, where it has a better start
taken : (s : Parts) (plan : List Placement) (runs : List Run) (n : ℕ) (run : Run) (best : Option Placement) (k : ℕ) → n < length runs
    → slice_index_or runs n run ≡ run
    → IsEarliestOf s plan (IsOfFirst runs n) best → IsFirstApart s plan run (limit_of best) k
    → IsEarliestOf s plan (IsOfFirst runs (n + 1)) (Some (start_at run k))
taken s plan runs n run best k l at before first =
    let p : Placement = start_at run k in
    let of_p : IsOfRun run p = record { request = refl; telescope = refl; slice = first.has } in (
      record { run = run; place = n; below = omega arith; within = l; at = at; has = of_p },
      first.apart,
      λ q of apart. elim (first_cases runs n run q l at of) [
        | inl early ↦ earlier s plan runs n k p q refl early apart best before first.below
        | inr here ↦
            let on : q.telescope.0 ≡ run.telescope.0 = ap (λ t. t.0) here.telescope in
            no_later p q (not_before s plan run q k here apart first.first) (omega arith)
      ],
    )

-- one run more
pub better_more : (s : Parts) (plan : List Placement) (r : ℕ) (runs : List Run) (n : ℕ) (run : Run) (best result : Option Placement) → IsOrderly s
    → AreRunsFor s r runs → n < length runs → slice_index_or runs n run ≡ run → IsPossibleRun s run
    → IsEarliestOf s plan (IsOfFirst runs n) best → IsBetter s plan run best result → IsEarliestOf s plan (IsOfFirst runs (n + 1)) result
better_more s plan r runs n run best result orderly are l at possible before better = elim better [
  | inl none ↦ subst (IsEarliestOf s plan (IsOfFirst runs (n + 1))) (sym none.0) (kept s plan r runs n run orderly are l at possible best before none.1)
  | inr found ↦ subst (IsEarliestOf s plan (IsOfFirst runs (n + 1))) (sym found.1) (taken s plan runs n run best found.0 l at before found.2)
]

-- one run more, as a list of runs is gone through
pub run_more : (s : Parts) (plan : List Placement) (e : Entry) (items : List Run) (n : ℕ) (d : Run) (best result : Option Placement) → IsOrderly s
    → IsEntry s e → items ≡ e.runs → n < length items
    → IsEarliestOf s plan (IsOfFirst e.runs n) best → IsBetter s plan (slice_index_or items n d) best result
    → IsEarliestOf s plan (IsOfFirst e.runs (n + 1)) result
run_more s plan e items n d best result orderly entry same l before better =
    let below : n < length e.runs = subst (λ (xs : List Run). n < length xs) same l in
    let run : Run = slice_index_or e.runs n d in
    let at : slice_index_or e.runs n run ≡ run = get_or_default e.runs n run d below in
    better_more s plan e.request.0 e.runs n run best result orderly entry.runs below at (entry.runs.possible n d below) before
    (subst (λ (xs : List Run). IsBetter s plan (slice_index_or xs n d) best result) same better)

-- the size of each run's request
pub size_of_run : (s : Parts) (e : Entry) (items : List Run) (n : ℕ) (d : Run) → IsEntry s e → items ≡ e.runs → n < length items
    → e.size ≡ size_of s (slice_index_or items n d).request.0
size_of_run s e items n d entry same l =
    let below : n < length e.runs = subst (λ (xs : List Run). n < length xs) same l in
    entry.size ∙ ap (size_of s) (sym (entry.runs.request n d below)) ∙ ap (λ (xs : List Run). size_of s (slice_index_or xs n d).request.0) (sym same)

-- each possible start of the request is a start of the runs
pub of_all : (s : Parts) (r : ℕ) (runs : List Run) (n : ℕ) (q : Placement) → AreRunsFor s r runs → length runs ≤ n → q.request.0 ≡ r
    → IsPossibleStart s q → IsOfFirst runs n q
of_all s r runs n q are whole same possible =
    let found = are.complete q same possible in
    record {
      run = found.0;
      place = found.1.0;
      below = (let l : found.1.0 < length runs = found.1.1 in omega arith);
      within = found.1.1;
      at = found.1.2;
      has = found.2;
    }

-- after all runs it is the earliest of the request
pub earliest_of_all : (s : Parts) (plan : List Placement) (r : ℕ) (runs : List Run) (n : ℕ) → AreRunsFor s r runs → length runs ≤ n
    → (best : Option Placement) → IsEarliestOf s plan (IsOfFirst runs n) best
    → MatchOption best (HasNoneApart s plan r) (IsEarliestApart s plan r)
earliest_of_all s plan r runs n are whole None none = λ q same possible apart. none q (of_all s r runs n q are whole same possible) apart
earliest_of_all s plan r runs n are whole (Some p) (of_p, apart_p, first_p) = record {
  same_request = ap (λ x. x.0) of_p.has.request ∙ subst (λ (x : Run). x.request.0 ≡ r) of_p.at (are.request of_p.place of_p.run of_p.within);
  possible = subst (IsPossibleStart s) (start_is of_p.run p of_p.has)
      ((subst (IsPossibleRun s) of_p.at (are.possible of_p.place of_p.run of_p.within)).possible p.slice.0 of_p.has.slice);
  apart = apart_p;
  earliest = λ q same possible apart. first_p q (of_all s r runs n q are whole same possible) apart;
}
