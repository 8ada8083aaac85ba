-- Where a start stands among those of runs.
use Rattle.std.proofs.Common.{◌≡◌, ℕ, zero, suc, ◌+◌, ◌-◌, ◌^◌, ◌<◌, ◌≤◌, inl, inr, List, [], ◌∷◌, ◌++◌, length, take}
use Rattle.std.proofs.Common.{slice_index_or, refl, sym, ◌∙◌, ap, subst, arith}
use Rattle.std.specs.List.Sorted.{IsNonDecreasingBy}
use Rattle.std.proofs.lemmas.Bool.{cases_lt}
use Rattle.std.proofs.lemmas.List.{get_or_default, get_or_append_left, get_or_push, take_all, take_more, take-take}
use Rattle.std.proofs.lemmas.List.Concat.{get_or-flat_map}
use Rattle.std.proofs.lemmas.List.Sums.{sum_by-take-le, sum_by-append}
use Rattle.plan_base.specs.declared.claim.Placement.{Placement}
use Rattle.plan_base.specs.Limits.{most_starts}
use Rattle.snapshot_starts.specs.declared.run.Run.{Run}
use Rattle.snapshot_starts.specs.Runs.{start_at, starts_of_run, starts_of}
use Rattle.snapshot_starts.specs.Kept.{count_of, CanKeep, AreSums, IsCountUpTo}
use Rattle.snapshot_starts.proofs.InRuns.{length_of_run, at_in_run}
use Rattle.snapshot_starts.proofs.RunOrder.{length_of_starts}

taken_rise : (runs : List Run) (i j : ℕ) → i ≤ j → count_of (take i runs) ≤ count_of (take j runs)
taken_rise runs i j le =
    let same : take i (take j runs) ≡ take i runs = take-take i j runs le in
    let less : count_of (take i (take j runs)) ≤ count_of (take j runs) = sum_by-take-le (λ run. run.count) (take j runs) i in
    let e : count_of (take i (take j runs)) ≡ count_of (take i runs) = ap count_of same in
    omega arith

sum_at : (runs : List Run) (sums : List ℕ) (i d : ℕ) → AreSums runs sums → i < length sums → slice_index_or sums i d ≡ count_of (take (i + 1) runs)
sum_at runs sums i d are l = let count : length sums ≡ length runs = are.count in get_or_default sums i d 0 l ∙ are.each i (omega arith)

pub sums_rise : (runs : List Run) (sums : List ℕ) → AreSums runs sums → IsNonDecreasingBy (λ sum. sum) sums
sums_rise runs sums are i j d le l =
    let less : count_of (take (i + 1) runs) ≤ count_of (take (j + 1) runs) = taken_rise runs (i + 1) (j + 1) (omega arith) in
    let left : slice_index_or sums i d ≡ count_of (take (i + 1) runs) = sum_at runs sums i d are (omega arith) in
    let right : slice_index_or sums j d ≡ count_of (take (j + 1) runs) = sum_at runs sums j d are l in
    omega arith

-- the last sum counts all
pub last_sum : (runs : List Run) (sums : List ℕ) (i d : ℕ) → AreSums runs sums → i + 1 ≡ length sums → slice_index_or sums i d ≡ count_of runs
last_sum runs sums i d are last =
    let count : length sums ≡ length runs = are.count in
    sum_at runs sums i d are (omega arith) ∙ ap count_of (take_all (i + 1) runs (omega arith))

pub no_sum : (runs : List Run) (sums : List ℕ) → AreSums runs sums → length sums ≡ 0 → count_of runs ≡ 0
no_sum [] sums are none = refl
no_sum (run ∷ runs) sums are none = let count : length sums ≡ length (run ∷ runs) = are.count in absurd (omega arith)

-- where the start at an index stands
pub record StandsIn (runs : List Run) (index place before : ℕ) : Type 0 where
  pub within : place < length runs
  pub is_before : before ≡ count_of (take place runs)
  pub begun : before ≤ index
  pub not_past : (d : Run) → index - before < (slice_index_or runs place d).count

before_is : (runs : List Run) (sums : List ℕ) (place : ℕ) → AreSums runs sums → place ≤ length sums
    → slice_index_or (0 ∷ sums) place 0 ≡ count_of (take place runs)
before_is runs sums zero are le = refl
before_is runs sums (suc place) are le =
    let same : place + 1 ≡ suc place = omega arith in
    let e : take (place + 1) runs ≡ take (suc place) runs = ap (λ (n : ℕ). take n runs) same in
    sum_at runs sums place 0 are (omega arith) ∙ ap count_of e

begun_before : (sums : List ℕ) (index place : ℕ) → IsCountUpTo sums index place → slice_index_or (0 ∷ sums) place 0 ≤ index
begun_before sums index zero up = omega arith
begun_before sums index (suc place) up = up.up_to place (omega arith)

pub one_more : (runs : List Run) (place : ℕ) (d : Run) → place < length runs
    → count_of (take (place + 1) runs) ≡ count_of (take place runs) + (slice_index_or runs place d).count
one_more runs place d l =
    let more : count_of (take (place + 1) runs) ≡ count_of (take place runs) + count_of (slice_index_or runs place d ∷ []) =
    ap count_of (take_more runs place d l) ∙ sum_by-append (λ run. run.count) (take place runs) (slice_index_or runs place d ∷ []) in
    omega arith

-- the starts of the runs up to one more are few
pub sum_within : (runs : List Run) (i : ℕ) (d : Run) → i < length runs → count_of runs ≤ most_starts
    → count_of (take i runs) + (slice_index_or runs i d).count < 2 ^ 32
sum_within runs i d l few =
    let most : count_of runs ≤ 1048576 = few in
    let more : count_of (take (i + 1) runs) ≡ count_of (take i runs) + (slice_index_or runs i d).count = one_more runs i d l in
    let less : count_of (take (i + 1) runs) ≤ count_of runs = sum_by-take-le (λ run. run.count) runs (i + 1) in
    omega arith

-- one more sum
pub sum_pushed : (runs : List Run) (sums : List ℕ) (i sum : ℕ) → length sums ≡ i → sum ≡ count_of (take (i + 1) runs)
    → ((k : ℕ) → k < i → slice_index_or sums k 0 ≡ count_of (take (k + 1) runs))
    → (k : ℕ) → k < i + 1 → slice_index_or (sums ++ sum ∷ []) k 0 ≡ count_of (take (k + 1) runs)
sum_pushed runs sums i sum long at each k below = elim (cases_lt k i) [
  | inl before ↦ get_or_append_left sums (sum ∷ []) 0 k (omega arith) ∙ each k before
  | inr past ↦
      let here : k ≡ i = omega arith in
      get_or_push sums sum 0 k (omega arith) ∙ at ∙ ap (λ (n : ℕ). count_of (take (n + 1) runs)) (sym here)
]

place_within : (runs : List Run) (sums : List ℕ) (index place : ℕ) → AreSums runs sums → IsCountUpTo sums index place
    → index < count_of runs → place < length sums
place_within runs sums index zero are up l = elim (cases_lt 0 (length sums)) [
  | inl some ↦ some
  | inr none ↦ let zero_count : count_of runs ≡ 0 = no_sum runs sums are (omega arith) in absurd (omega arith)
]
place_within runs sums index (suc place) are up l = elim (cases_lt (suc place) (length sums)) [
  | inl within ↦ within
  | inr past ↦
      let w : suc place ≤ length sums = up.within in
      let all : slice_index_or sums place 0 ≡ count_of runs = last_sum runs sums place 0 are (omega arith) in
      let most : slice_index_or sums place 0 ≤ index = up.up_to place (omega arith) in
      absurd (omega arith)
]

pub stands_in : (runs : List Run) (sums : List ℕ) (index place : ℕ) → AreSums runs sums → IsCountUpTo sums index place
    → index < length (starts_of runs) → StandsIn runs index place (slice_index_or (0 ∷ sums) place 0)
stands_in runs sums index place are up l =
    let all : length (starts_of runs) ≡ count_of runs = length_of_starts runs in
    let within : place < length sums = place_within runs sums index place are up (omega arith) in
    let count : length sums ≡ length runs = are.count in
    let before : slice_index_or (0 ∷ sums) place 0 ≡ count_of (take place runs) = before_is runs sums place are (omega arith) in
    let begun : slice_index_or (0 ∷ sums) place 0 ≤ index = begun_before sums index place up in
    let above : index < slice_index_or sums place 0 = up.above place (omega arith) within in
    let sum : slice_index_or sums place 0 ≡ count_of (take (place + 1) runs) = sum_at runs sums place 0 are within in
    record {
      within = omega arith;
      is_before = before;
      begun = begun;
      not_past = λ d. let more : count_of (take (place + 1) runs) ≡ count_of (take place runs) + (slice_index_or runs place d).count =
          one_more runs place d (omega arith) in omega arith;
    }

-- the start that stands there
pub start_there : (runs : List Run) (index place before : ℕ) (run : Run) (d : Placement) → StandsIn runs index place before
    → run ≡ slice_index_or runs place run → slice_index_or (starts_of runs) index d ≡ start_at run (run.first.0 + (index - before))
start_there runs index place before run d stands at =
    let one : Run = slice_index_or runs place run in
    let begun : before ≤ index = stands.begun in
    let is_before : before ≡ count_of (take place runs) = stands.is_before in
    let past : index - before < one.count = stands.not_past run in
    let j : ℕ = index - before in
    let count : length (starts_of_run one) ≡ one.count = length_of_run one in
    let front : length (starts_of (take place runs)) ≡ count_of (take place runs) = length_of_starts (take place runs) in
    let sum : length (starts_of (take place runs)) + j ≡ index = omega arith in
    let there : slice_index_or (starts_of runs) (length (starts_of (take place runs)) + j) d ≡ slice_index_or (starts_of_run one) j d =
    get_or-flat_map starts_of_run runs place j run d stands.within (omega arith) in
    ap (λ (n : ℕ). slice_index_or (starts_of runs) n d) (sym sum) ∙ there ∙ at_in_run one j d past ∙ ap (λ (r : Run). start_at r (r.first.0 + j)) (sym at)

pub slice_fits : (runs : List Run) (index place before : ℕ) (run : Run) → CanKeep runs → StandsIn runs index place before
    → run ≡ slice_index_or runs place run → run.first.0 + (index - before) < 2 ^ 32
slice_fits runs index place before run can stands at =
    let most : (slice_index_or runs place run).first.0 + (slice_index_or runs place run).count ≤ 2 ^ 32 = can.slices place run stands.within in
    let past : index - before < (slice_index_or runs place run).count = stands.not_past run in
    let first : run.first.0 ≡ (slice_index_or runs place run).first.0 = ap (λ (r : Run). r.first.0) at in
    omega arith

-- the same as a look-up reads it
pub stands_at : (runs : List Run) (sums read : List ℕ) (starts : List Placement) (index place before : ℕ) → AreSums runs sums → read ≡ sums
    → starts_of runs ≡ starts → IsCountUpTo read index place
    → index < length starts → before ≡ slice_index_or (0 ∷ read) place 0 → StandsIn runs index place before
stands_at runs sums read starts index place before are same whole up l e =
    let below : index < length (starts_of runs) = subst (λ (xs : List Placement). index < length xs) (sym whole) l in
    let here : StandsIn runs index place (slice_index_or (0 ∷ sums) place 0) =
    stands_in runs sums index place are (subst (λ (xs : List ℕ). IsCountUpTo xs index place) same up) below in
    subst (StandsIn runs index place) (sym (e ∙ ap (λ (xs : List ℕ). slice_index_or (0 ∷ xs) place 0) same)) here

-- the sum before the end counts all
pub sum_of_all : (runs : List Run) (sums read : List ℕ) (starts : List Placement) (n : ℕ) → AreSums runs sums → read ≡ sums → starts_of runs ≡ starts
    → n ≡ slice_index_or (0 ∷ read) (length read) 0
    → (n ≡ length starts) × (n ≡ count_of runs)
sum_of_all runs sums read starts n are same whole e =
    let count : length sums ≡ length runs = are.count in
    let read_count : length read ≡ length sums = ap (λ (xs : List ℕ). length xs) same in
    let first : n ≡ slice_index_or (0 ∷ sums) (length sums) 0 = e ∙ ap (λ (xs : List ℕ). slice_index_or (0 ∷ xs) (length xs) 0) same in
    let all : n ≡ count_of runs = first ∙ before_is runs sums (length sums) are (omega arith) ∙ ap count_of (take_all (length sums) runs (omega arith)) in
    let counted : length (starts_of runs) ≡ count_of runs = length_of_starts runs in
    let listed : length (starts_of runs) ≡ length starts = ap (λ (xs : List Placement). length xs) whole in
    (omega arith, all)
