-- From the starts of a run to the possible starts of a telescope.
use Rattle.std.proofs.Common.{◌≡◌, ℕ, ◌+◌, ◌-◌, ◌<◌, ◌≤◌, ◌⊎◌, inl, inr, List, [], ◌∷◌, length, slice_index_or, map, Result, Ok, Err, OnOk, All}
use Rattle.std.proofs.Common.{AllPairs, Contains, refl, sym, ◌∙◌, ap, subst, arith}
use Rattle.std.proofs.lemmas.List.{get_or_default}
use Rattle.std.proofs.lemmas.List.Elements.{All-contains, Contains-append_left, Contains-append_right, Contains-append_cases}
use Rattle.plan_base.specs.declared.parts.Parts.{Parts}
use Rattle.plan_base.specs.declared.parts.RequestPart.{RequestPart}
use Rattle.plan_base.specs.declared.number.RequestNo.{RequestNo}
use Rattle.plan_base.specs.declared.claim.Placement.{Placement}
use Rattle.plan_base.specs.declared.span.Span.{Span}
use Rattle.plan_base.specs.Requests.{Listed, listed, place_of, IsKnown, request_value, fade_of, windows_of}
use Rattle.plan_base.specs.Snapshot.{IsOrderly}
use Rattle.plan_base.specs.Starts.{slices_for, size_of, least_of, earliest_slice, faded, IsPossibleStart}
use Rattle.plan_base.proofs.Sizes.{start_size_above}
use Rattle.plan_base.proofs.Known.{known_as}
use Rattle.plan_base.proofs.Orders.{contains_first, contains_cases}
use Rattle.snapshot_starts.specs.declared.run.Run.{Run}
use Rattle.snapshot_starts.specs.Runs.{start_at, starts_of_run, starts_of, IsRunBefore, AreRuns, AreAllStarts}
use Rattle.plan_base.proofs.Pairs.{pairs_append}
use Rattle.snapshot_starts.proofs.InRuns.{IsIn, in_run, from_run, in_starts, from_starts}
use Rattle.interval_solver.specs.declared.start.Start.{Start}
use Rattle.interval_solver.specs.declared.offer.Offer.{Offer}
use Rattle.plan_base.specs.Tables.{IsStartOn, row}
use Rattle.interval_solver.specs.Offers.{IsOffer}
use Rattle.interval_solver.specs.Listings.{start_in, AreAdded, AreAllRuns, IsOfFirst, IsToldBy, IsStartAt, IsListing}
use Rattle.std.specs.Prelude.{HoldsAt}
use Rattle.plan_base.proofs.Here.{IsHere, request_here}

below_or_at : (a b : ℕ) → a < b + 1 → (a < b) ⊎ (a ≡ b)
below_or_at a b h = grind arith

outside_or_within : (k from to : ℕ) → ((k < from) ⊎ (to ≤ k)) ⊎ ((from ≤ k) × (k < to))
outside_or_within k from to = grind arith

-- ---- runs

pub all_runs : (s : Parts) (starts : List Placement) (runs : List Run) → AreAllStarts s starts → AreRuns starts runs → AreAllRuns s runs
all_runs s starts runs all are = record {
  some = λ i d l. (are.greatest i d l).some;
  possible = subst (All (IsPossibleStart s)) (sym are.whole) all.all.possible;
  complete = λ p h. subst (λ (ps : List Placement). Contains ps p) (sym are.whole) (all.all.complete p h);
  order = are.order;
}

-- each start of a run is possible
pub run_possible : (s : Parts) (runs : List Run) (n : ℕ) (run : Run) → AreAllRuns s runs → n < length runs → slice_index_or runs n run ≡ run
    → (p : Placement) → IsIn run p → IsPossibleStart s p
run_possible s runs n run all l at p h = All-contains (IsPossibleStart s) (starts_of runs) p all.possible (in_starts runs run p (n, l, at) h)

start_in_run : (run : Run) (k : ℕ) → run.first.0 ≤ k → k < run.first.0 + run.count → IsIn run (start_at run k)
start_in_run run k from to = record { request = refl; telescope = refl; from = from; to = to }

-- a run lies within the horizon
pub run_within : (s : Parts) (runs : List Run) (n : ℕ) (run : Run) → IsOrderly s → AreAllRuns s runs → n < length runs → slice_index_or runs n run ≡ run
    → (s.first.0 ≤ run.first.0) × (run.first.0 + run.count ≤ s.first.0 + s.slices)
run_within s runs n run orderly all l at =
    let some : 0 < run.count = subst (λ (r : Run). 0 < r.count) at (all.some n run l) in
    let first : IsPossibleStart s (start_at run run.first.0) =
    run_possible s runs n run all l at _ (start_in_run run run.first.0 (omega arith) (omega arith)) in
    let last : IsPossibleStart s (start_at run (run.first.0 + run.count - 1)) =
    run_possible s runs n run all l at _ (start_in_run run (run.first.0 + run.count - 1) (omega arith) (omega arith)) in
    let size : 0 < size_of s run.request.0 = start_size_above s orderly _ last in
    let ends : run.first.0 + run.count - 1 + size_of s run.request.0 ≤ s.first.0 + s.slices = last.ends in
    (first.begins, omega arith)

before_across : (a b : Run) (p q : Placement) → IsRunBefore a b → IsIn a p → IsIn b q → p.telescope.0 ≡ q.telescope.0 → p.slice.0 ≡ q.slice.0
    → p.request.0 < q.request.0
before_across a b p q (inl less) h k t e =
    let left : p.request.0 ≡ a.request.0 = ap (λ r. r.0) h.request in
    let right : q.request.0 ≡ b.request.0 = ap (λ r. r.0) k.request in
    omega arith
before_across a b p q (inr (same, inl less)) h k t e =
    let left : p.telescope.0 ≡ a.telescope.0 = ap (λ r. r.0) h.telescope in
    let right : q.telescope.0 ≡ b.telescope.0 = ap (λ r. r.0) k.telescope in
    absurd (omega arith)
before_across a b p q (inr (same, inr (also, gap))) h k t e =
    let to : p.slice.0 < a.first.0 + a.count = h.to in
    let from : b.first.0 ≤ q.slice.0 = k.from in
    absurd (omega arith)

-- ---- the listing of the first runs

pub first_more : (runs : List Run) (n : ℕ) (p : Placement) → IsOfFirst runs n p → IsOfFirst runs (n + 1) p
first_more runs n p h = record { place = h.place; below = (let b : h.place < n = h.below in omega arith); within = h.within; has = h.has }

at_more : (s : Parts) (t : ℕ) (runs : List Run) (n i : ℕ) (x : Start) → (p : Placement) × IsStartAt s t (IsOfFirst runs n) i x p
    → (p : Placement) × IsStartAt s t (IsOfFirst runs (n + 1)) i x p
at_more s t runs n i x (p, h) = (p, record { start = h.start; holds = first_more runs n p h.holds; at = h.at; told = h.told })

-- nothing is listed yet
pub nothing_listed : (s : Parts) (t : ℕ) (runs : List Run) (rows : List (List Start)) → length rows ≡ s.slices → ((k : ℕ) → row rows k ≡ [])
    → IsListing s t (IsOfFirst runs 0) rows
nothing_listed s t runs rows count empty = record {
  count = count;
  possible = λ i x c. let none : Contains [] x = subst (λ (xs : List Start). Contains xs x) (empty i) c in absurd (omega (arith, none.1));
  complete = λ p start h. let b : h.place < 0 = h.below in absurd (omega arith);
  rising = λ i. subst (AllPairs (λ a b. a.place < b.place)) (sym (empty i)) (λ j k d l m. absurd (omega arith));
}

-- where the run at a place has no start of the telescope, the rows stay
pub listing_stays : (s : Parts) (t n : ℕ) (runs : List Run) (run : Run) (rows : List (List Start)) → n < length runs → slice_index_or runs n run ≡ run
    → ((p : Placement) → IsStartOn s t p → IsIn run p → ⊥)
    → IsListing s t (IsOfFirst runs n) rows → IsListing s t (IsOfFirst runs (n + 1)) rows
listing_stays s t n runs run rows within at never before = record {
  count = before.count;
  possible = λ i x c. at_more s t runs n i x (before.possible i x c);
  complete = λ p start h. elim (below_or_at h.place n h.below) [
    | inl less ↦ before.complete p start (record { place = h.place; below = less; within = h.within; has = h.has })
    | inr same ↦ absurd (never p start
        (from_run run p (subst (λ (r : Run). Contains (starts_of_run r) p) (ap (λ (k : ℕ). slice_index_or runs k run) same ∙ at) (h.has run))))
  ];
  rising = before.rising;
}

-- all runs are listed
pub all_listed : (s : Parts) (t n : ℕ) (runs : List Run) (rows : List (List Start)) → AreAllRuns s runs → length runs ≤ n
    → IsListing s t (IsOfFirst runs n) rows → IsListing s t (IsPossibleStart s) rows
all_listed s t n runs rows all most listing = record {
  count = listing.count;
  possible = λ i x c. let p = listing.possible i x c in (p.0, record { start = p.1.start; holds = p.1.start.possible; at = p.1.at; told = p.1.told });
  complete = λ p start h.
      let found = from_starts runs p (all.complete p h) in
      let l : found.1.0 < length runs = found.1.1 in
      listing.complete p start (record {
        place = found.1.0;
        below = omega arith;
        within = l;
        has = λ d. subst (λ (r : Run). Contains (starts_of_run r) p) (sym (get_or_default runs found.1.0 d found.0 l ∙ found.1.2)) (in_run found.0 p found.2);
      });
  rising = listing.rising;
}

-- what stands at one place has one number
pub same_number : (s : Parts) (a b : ℕ) → IsKnown s a → IsKnown s b → place_of s a ≡ place_of s b → a ≡ b
same_number s a b known also at =
    let x = known_as s a known in
    let y = known_as s b also in
    let one : x.0 ≡ y.0 = sym x.1.at_place ∙ ap (λ (n : ℕ). slice_index_or (listed s) n x.0) at
    ∙ get_or_default (listed s) (place_of s b) x.0 y.0 also ∙ y.1.at_place in
    sym x.1.number ∙ ap (λ (z : Listed). z.request.request.0) one ∙ y.1.number

-- requests rise with their places
pub number_up : (s : Parts) (a b : ℕ) → IsOrderly s → IsKnown s a → IsKnown s b → place_of s a < place_of s b → a < b
number_up s a b orderly known also below =
    let x = known_as s a known in
    let y = known_as s b also in
    let less : (slice_index_or (listed s) (place_of s a) x.0).request.request.0 < (slice_index_or (listed s) (place_of s b) x.0).request.request.0 =
    orderly.requests_rise (place_of s a) (place_of s b) x.0 below also in
    let left : (slice_index_or (listed s) (place_of s a) x.0).request.request.0 ≡ a = ap (λ (z : Listed). z.request.request.0) x.1.at_place ∙ x.1.number in
    let right : (slice_index_or (listed s) (place_of s b) x.0).request.request.0 ≡ b =
    ap (λ (z : Listed). z.request.request.0) (get_or_default (listed s) (place_of s b) x.0 y.0 also ∙ y.1.at_place) ∙ y.1.number in
    omega arith

below_same_above : (a b : ℕ) → ((a < b) ⊎ (b < a)) ⊎ (a ≡ b)
below_same_above a b = grind arith

-- and places with their requests
pub place_up : (s : Parts) (a b : ℕ) → IsOrderly s → IsKnown s a → IsKnown s b → a < b → place_of s a < place_of s b
place_up s a b orderly known also below = elim (below_same_above (place_of s a) (place_of s b)) [
  | inl (inl less) ↦ less
  | inl (inr more) ↦ let above : b < a = number_up s b a orderly also known more in absurd (omega arith)
  | inr same ↦ let one : a ≡ b = same_number s a b known also same in absurd (omega arith)
]

worth_same : (v w f g n m : ℕ) → v ≡ w → f ≡ g → n ≡ m → faded v f n ≡ faded w g m
worth_same v w f g n m a b e = ap (λ (x : ℕ). faded x f n) a ∙ ap (λ (x : ℕ). faded w x n) b ∙ ap (λ (x : ℕ). faded w g x) e

-- a start of the offer tells of the possible start that it is
pub told_by : (s : Parts) (place : ℕ) (q : RequestPart) (o : Offer) (p : Placement) (i : ℕ) → IsHere s place q → IsOffer s.len q place o
    → p.request.0 ≡ q.request.0 → p.slice.0 ≡ s.first.0 + i → IsToldBy s p (start_in o s.first.0 i)
told_by s place q o p i here offer same at =
    let value : o.value ≡ request_value s p.request.0 = offer.value ∙ sym here.value ∙ ap (request_value s) (sym same) in
    let fade : o.fade ≡ fade_of s p.request.0 = offer.fade ∙ sym here.fade ∙ ap (fade_of s) (sym same) in
    let earliest : o.earliest ≡ earliest_slice s p.request.0 = offer.earliest
    ∙ ap (λ (ws : List Span). slices_for s.len (least_of (map (λ w. w.from.0) ws))) (sym here.windows ∙ ap (windows_of s) (sym same)) in
    let size : size_of s p.request.0 ≡ o.size = ap (size_of s) same ∙ ap (slices_for s.len) here.seconds ∙ sym offer.size in
    let delay : s.first.0 + i - o.earliest ≡ p.slice.0 - earliest_slice s p.request.0 = ap (λ (n : ℕ). n - o.earliest) (sym at)
    ∙ ap (λ (n : ℕ). p.slice.0 - n) earliest in
    record {
      place = offer.at ∙ sym here.at ∙ ap (place_of s) (sym same);
      worth = worth_same o.value (request_value s p.request.0) o.fade (fade_of s p.request.0) (s.first.0 + i - o.earliest)
          (p.slice.0 - earliest_slice s p.request.0) value fade delay;
      after = omega arith;
    }

contains_one : (x y : Start) → Contains (x ∷ []) y → y ≡ x
contains_one x y c = elim (contains_cases x y [] c) [ inl e ↦ sym e | inr none ↦ absurd (omega (arith, none.1)) ]

module _ (s : Parts) (t n : ℕ) (runs : List Run) (run : Run) (place : ℕ) (q : RequestPart) (o : Offer) (orderly : IsOrderly s)
    (all : AreAllRuns s runs) (l : n < length runs) (at : slice_index_or runs n run ≡ run)
    (on : run.telescope.0 ≡ t) (here : IsHere s place q) (same : run.request.0 ≡ q.request.0) (offer : IsOffer s.len q place o)
    (old new : List (List Start)) (before : IsListing s t (IsOfFirst runs n) old)
    (added : AreAdded o s.first.0 run.first.0 (run.first.0 + run.count) old new) where
  grows : (i : ℕ) (x : Start) → i < length old → Contains (row old i) x → Contains (row new i) x
  grows i x within c = elim (outside_or_within (s.first.0 + i) run.first.0 (run.first.0 + run.count)) [
    | inl out ↦ subst (λ (xs : List Start). Contains xs x) (sym (added.kept i out)) c
    | inr (from, to) ↦ subst (λ (xs : List Start). Contains xs x) (sym (added.added i within from to))
        (Contains-append_left (row old i) (start_in o s.first.0 i ∷ []) x c)
  ]

  row_below : (p : Placement) → IsPossibleStart s p → p.slice.0 - s.first.0 < length old
  row_below p possible =
      let from : s.first.0 ≤ p.slice.0 = possible.begins in
      let some : 0 < size_of s p.request.0 = start_size_above s orderly p possible in
      let ends : p.slice.0 + size_of s p.request.0 ≤ s.first.0 + s.slices = possible.ends in
      let count : length old ≡ s.slices = before.count in
      omega arith

  within_rows : (i : ℕ) → s.first.0 + i < run.first.0 + run.count → i < length old
  within_rows i to =
      let ends : run.first.0 + run.count ≤ s.first.0 + s.slices = (run_within s runs n run orderly all l at).1 in
      let count : length old ≡ s.slices = before.count in
      omega arith

  here_run : (d : Run) → slice_index_or runs n d ≡ run
  here_run d = get_or_default runs n d run l ∙ at

  new_start : (i : ℕ) → run.first.0 ≤ s.first.0 + i → s.first.0 + i < run.first.0 + run.count
      → IsStartAt s t (IsOfFirst runs (n + 1)) i (start_in o s.first.0 i) (start_at run (s.first.0 + i))
  new_start i from to =
      let is_in : IsIn run (start_at run (s.first.0 + i)) = start_in_run run (s.first.0 + i) from to in
      record {
        start = record { possible = run_possible s runs n run all l at _ is_in; same_telescope = on };
        holds = record {
          place = n;
          below = omega arith;
          within = l;
          has = λ d. subst (λ (r : Run). Contains (starts_of_run r) (start_at run (s.first.0 + i))) (sym (here_run d)) (in_run run _ is_in);
        };
        at = refl;
        told = told_by s place q o (start_at run (s.first.0 + i)) i here offer same refl;
      }

  -- what stood in a row is of a lower place
  lower_place : (i : ℕ) (a : Start) → run.first.0 ≤ s.first.0 + i → s.first.0 + i < run.first.0 + run.count → Contains (row old i) a → a.place < o.place
  lower_place i a from to c =
      let p = before.possible i a c in
      let j : ℕ = p.1.holds.place in
      let m : j < n = p.1.holds.below in
      let earlier : Run = slice_index_or runs j run in
      let pair : IsRunBefore earlier run = subst (IsRunBefore earlier) at (all.order j n run m l) in
      let less : p.0.request.0 < run.request.0 =
      before_across earlier run p.0 (start_at run (s.first.0 + i)) pair (from_run earlier p.0 (p.1.holds.has run))
      (start_in_run run (s.first.0 + i) from to) (p.1.start.same_telescope ∙ sym on) p.1.at in
      let first : a.place ≡ place_of s p.0.request.0 = p.1.told.place in
      let second : o.place ≡ place_of s run.request.0 = offer.at ∙ sym here.at ∙ ap (place_of s) (sym same) in
      let lower : place_of s p.0.request.0 < place_of s run.request.0 =
      place_up s p.0.request.0 run.request.0 orderly p.1.start.possible.known (subst (IsKnown s) (sym same) here.known) less in
      omega arith

  -- the starts of the run at the place are added
  pub listing_more : IsListing s t (IsOfFirst runs (n + 1)) new
  listing_more = record {
    count = added.count ∙ before.count;
    possible = λ i x c. elim (outside_or_within (s.first.0 + i) run.first.0 (run.first.0 + run.count)) [
      | inl out ↦ at_more s t runs n i x (before.possible i x (subst (λ (xs : List Start). Contains xs x) (added.kept i out) c))
      | inr (from, to) ↦ elim (Contains-append_cases (row old i) (start_in o s.first.0 i ∷ []) x
          (subst (λ (xs : List Start). Contains xs x) (added.added i (within_rows i to) from to) c)) [
            | inl earlier ↦ at_more s t runs n i x (before.possible i x earlier)
            | inr last ↦ (
              start_at run (s.first.0 + i),
              subst (λ (y : Start). IsStartAt s t (IsOfFirst runs (n + 1)) i y (start_at run (s.first.0 + i)))
                  (sym (contains_one (start_in o s.first.0 i) x last)) (new_start i from to),
            )
          ]
    ];
    complete = λ p start h. elim (below_or_at h.place n h.below) [
      | inl less ↦
          let x = before.complete p start (record { place = h.place; below = less; within = h.within; has = h.has }) in
          (x.0, grows (p.slice.0 - s.first.0) x.0 (row_below p start.possible) x.1, x.2)
      | inr last ↦
          let is_in : IsIn run p = from_run run p
          (subst (λ (r : Run). Contains (starts_of_run r) p) (ap (λ (k : ℕ). slice_index_or runs k run) last ∙ at) (h.has run)) in
          let begins : s.first.0 ≤ p.slice.0 = start.possible.begins in
          let slice_is : s.first.0 + (p.slice.0 - s.first.0) ≡ p.slice.0 = omega arith in
          let from : run.first.0 ≤ p.slice.0 = is_in.from in
          let to : p.slice.0 < run.first.0 + run.count = is_in.to in (
            start_in o s.first.0 (p.slice.0 - s.first.0),
            subst (λ (xs : List Start). Contains xs (start_in o s.first.0 (p.slice.0 - s.first.0)))
                (sym (added.added (p.slice.0 - s.first.0) (row_below p start.possible) (omega arith) (omega arith)))
                (Contains-append_right (row old (p.slice.0 - s.first.0)) (start_in o s.first.0 (p.slice.0 - s.first.0) ∷ []) _
                (contains_first (start_in o s.first.0 (p.slice.0 - s.first.0)) [])),
            told_by s place q o p (p.slice.0 - s.first.0) here offer (ap (λ (r : RequestNo). r.0) is_in.request ∙ same) (sym slice_is),
          )
    ];
    rising = λ i. elim (outside_or_within (s.first.0 + i) run.first.0 (run.first.0 + run.count)) [
      | inl out ↦ subst (AllPairs (λ a b. a.place < b.place)) (sym (added.kept i out)) (before.rising i)
      | inr (from, to) ↦ subst (AllPairs (λ a b. a.place < b.place)) (sym (added.added i (within_rows i to) from to))
          (pairs_append (λ a b. a.place < b.place) (row old i) (start_in o s.first.0 i ∷ []) (before.rising i) (λ j k d m k_below. absurd (omega arith))
          (λ a b ca cb. subst (λ (y : Start). a.place < y.place) (sym (contains_one (start_in o s.first.0 i) b cb)) (lower_place i a from to ca)))
    ];
  }

-- what follows where a call has succeeded
pub ok_then : {T E : Type 0} (r : Result T E) (A B : Type 0) → (A → B) → OnOk r A → OnOk r B
ok_then (Ok x) A B f a = f a
ok_then (Err e) A B f a = a

-- the request with the number r stands at its place
pub found_here : (s : Parts) (n r : ℕ) (q : RequestPart) → IsOrderly s → IsKnown s r → n ≡ place_of s r
    → HoldsAt (λ x. x.request ≡ q) (listed s) n → IsHere s n q
found_here s n r q orderly known at here = request_here s n q orderly (subst (λ (m : ℕ). m < length (listed s)) (sym at) known) here

pub found_number : (s : Parts) (n r : ℕ) (q : RequestPart) → IsKnown s r → n ≡ place_of s r → IsHere s n q → r ≡ q.request.0
found_number s n r q known at here = same_number s r q.request.0 known here.known (sym at ∙ sym here.at)
