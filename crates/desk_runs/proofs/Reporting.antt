-- A report leaves a sound state.
use Rattle.std.proofs.Common.{◌≡◌, ℕ, ◌+◌, ◌<◌, ◌≤◌, ◌==◌, Bool, true, false, cond, not, ◌||◌, List, [], ◌∷◌, ◌++◌, length, map, filter, All, get_or}
use Rattle.std.proofs.Common.{refl, sym, ◌∙◌, ap, arith, inl, inr}
use Rattle.std.specs.List.{AllZip, list_any, count_by}
use Rattle.std.proofs.lemmas.Bool.{and_parts, or_cases, or_left, or_right, eqb-true, eq-eqb, cases_Bool, cond-true, cond-false}
use Rattle.std.proofs.lemmas.List.Elements.{All-head, All-tail, All-filter, filter_passes}
use Rattle.std.proofs.lemmas.List.Filters.{sum_by-filter_both}
use Rattle.std.proofs.lemmas.List.Sums.{sum_by-append, sum_by-cons}
use Rattle.plan_base.specs.declared.number.RequestNo.{RequestNo}
use Rattle.plan_base.specs.declared.state.RequestState.TheVariants.{Completed}
use Rattle.desk_runs.specs.declared.group.Group.{Group}
use Rattle.desk_runs.specs.declared.group.Request.{Request}
use Rattle.desk_runs.specs.declared.observation.Observation.{Observation}
use Rattle.plan_base.specs.States.{is_pending}
use Rattle.plan_base.specs.Operators.{is_oneof}
use Rattle.desk_runs.specs.Numbers.{is_request, has_request, is_pending_at, is_placed}
use Rattle.desk_runs.specs.Progress.{Progress}
use Rattle.desk_runs.specs.Clock.{has_begun, with_state, change_requests}
use Rattle.desk_runs.specs.Reports.{canceled, completed, without_running, with_completed, reported}
use Rattle.desk_runs.specs.Sound.{IsSound, IsOneOfOnce, IsLater, placed_in}
use Rattle.desk_runs.proofs.Lists.{of_choice}
use Rattle.desk_runs.proofs.Settling.{facts_of}
use Rattle.desk_runs.proofs.Later.{later_completed, numbered_later, once_later}
use Rattle.desk_runs.proofs.Sounds.{any_kept, is_pending_request, has_pending, placed_here, IsReady, settle_sound}
use Rattle.desk_runs.proofs.Single.{change_where, all_later}

-- the running observations of other requests
abbrev pub others : RequestNo → List Observation → List Observation
others number running = filter (λ o. not (o.request.0 == number.0)) running

-- ---- counts

some_counts : {X : Type 0} (q : X → Bool) (xs : List X) → list_any q xs ≡ true → 1 ≤ count_by q xs
some_counts q [] e = cc
some_counts q (x ∷ xs) e =
    let sum : count_by q (x ∷ xs) ≡ cond (q x) 1 0 + count_by q xs = sum_by-cons (λ y. cond (q y) 1 0) x xs in
    elim (or_cases (q x) (list_any q xs) e) [
      | inl here ↦ let f : Bool → ℕ = λ b. cond b 1 0 in let one : f (q x) ≡ 1 = ap f here in omega (arith, one, sum)
      | inr there ↦ let rest : 1 ≤ count_by q xs = some_counts q xs there in omega arith
    ]

-- where a request runs and another of the same group runs, two of the group are observed
two_run : (number : RequestNo) (g : Group) (running : List Observation) (other : RequestNo) → is_placed running number ≡ true
    → has_request number g ≡ true → is_placed (others number running) other ≡ true → has_request other g ≡ true → 2 ≤ placed_in g running
two_run number g running other runs has_it runs_too has_too =
    let q : Observation → Bool = λ o. has_request o.request g in
    let same : Observation → Bool = λ o. o.request.0 == number.0 in
    let both = sum_by-filter_both (λ o. not (same o)) same (λ o. opposite (same o)) (λ o. cond (q o) 1 0) running in
    let one : 1 ≤ count_by q (filter same running) =
    some_counts q (filter same running)
    (any_filter same q running runs
    (λ o e. ap (λ (n : ℕ). list_any (λ r. r.number.0 == n) g.requests) (eqb-true o.request.0 number.0 e) ∙ has_it)) in
    let two : 1 ≤ count_by q (others number running) =
    some_counts q (others number running)
    (any_with (λ o. o.request.0 == other.0) q (others number running) runs_too
    (λ o e. ap (λ (n : ℕ). list_any (λ r. r.number.0 == n) g.requests) (eqb-true o.request.0 other.0 e) ∙ has_too)) in
    omega (arith, both)
  where
    opposite : (b : Bool) → b ≡ not (not b)
    opposite true = refl
    opposite false = refl

    any_with : (p q : Observation → Bool) (os : List Observation) → list_any p os ≡ true → ((o : Observation) → p o ≡ true → q o ≡ true) → list_any q os ≡ true
    any_with p q [] e h = e
    any_with p q (o ∷ os) e h = elim (or_cases (p o) (list_any p os) e) [
      | inl here ↦ or_left (q o) (list_any q os) (h o here)
      | inr there ↦ or_right (q o) (list_any q os) (any_with p q os there h)
    ]

    any_filter : (p q : Observation → Bool) (os : List Observation) → list_any p os ≡ true → ((o : Observation) → p o ≡ true → q o ≡ true)
        → list_any q (filter p os) ≡ true
    any_filter p q [] e h = e
    any_filter p q (o ∷ os) e h = elim (cases_Bool (p o)) [
      | inl hit ↦ ap (list_any q) (cond-true (p o) (o ∷ filter p os) (filter p os) hit) ∙ or_left (q o) (list_any q (filter p os)) (h o hit)
      | inr miss ↦ ap (list_any q) (cond-false (p o) (o ∷ filter p os) (filter p os) miss)
          ∙ any_filter p q os (sym (ap (λ (b : Bool). b || list_any p os) miss) ∙ e) h
    ]

-- ---- other running requests stay pending

number_differs : (number : RequestNo) (running : List Observation) (k : ℕ) (d : Observation) → k < length (others number running)
    → ((get_or (others number running) k d).request.0 == number.0) ≡ false
number_differs number running k d l =
    not_true ((get_or (others number running) k d).request.0 == number.0) (filter_passes (λ o. not (o.request.0 == number.0)) running k d l)
  where
    not_true : (b : Bool) → not b ≡ true → b ≡ false
    not_true true h = cc
    not_true false h = refl

other_stays : (number other : RequestNo) → (other.0 == number.0) ≡ false → (q : Request) → is_pending_request other q ≡ true
    → is_pending_request other (cond (is_request number q) (with_state Completed q) q) ≡ true
other_stays number other ne q e =
    of_choice (λ (r : Request). is_pending_request other r ≡ true) (is_request number q) (with_state Completed q) q
    (λ t.
    let is_other : q.number.0 ≡ other.0 = eqb-true q.number.0 other.0 (and_parts (is_request other q) (is_pending q.state) e).0 in
    let is_this : q.number.0 ≡ number.0 = eqb-true q.number.0 number.0 t in
    let bad : false ≡ true = sym ne ∙ eq-eqb other.0 number.0 (sym is_other ∙ is_this) in cc)
    (λ f. e)

pub pending_has : (other : RequestNo) (qs : List Request) → list_any (is_pending_request other) qs ≡ true → list_any (is_request other) qs ≡ true
pending_has other [] e = e
pending_has other (q ∷ qs) e = elim (or_cases (is_pending_request other q) (list_any (is_pending_request other) qs) e) [
  | inl here ↦ or_left (is_request other q) (list_any (is_request other) qs) (and_parts (is_request other q) (is_pending q.state) here).0
  | inr there ↦ or_right (is_request other q) (list_any (is_request other) qs) (pending_has other qs there)
]

-- another running request of a group stays pending where one is completed, since of a ONEOF no other runs
pending_beside : (number other : RequestNo) (running : List Observation) (g : Group) → is_placed running number ≡ true
    → (is_oneof g.op ≡ true → placed_in g running ≤ 1) → (other.0 == number.0) ≡ false → is_placed (others number running) other ≡ true
    → has_pending other g ≡ true → has_pending other (change_where (has_request number) (completed number) g) ≡ true
pending_beside number other running g runs once ne runs_too e =
    let h : Group = change_requests (is_request number) Completed g in
    let first : has_pending other h ≡ true = any_kept (is_pending_request other) (λ q. cond (is_request number q) (with_state Completed q) q)
    (other_stays number other ne) g.requests e in
    of_choice (λ (x : Group). has_pending other x ≡ true) (has_request number g) (completed number g) g
    (λ has_it. of_choice (λ (x : Group). has_pending other x ≡ true) (is_oneof g.op) (canceled h) h
    (λ one.
    let few : placed_in g running ≤ 1 = once one in
    let many : 2 ≤ placed_in g running = two_run number g running other runs has_it runs_too (pending_has other g.requests e) in
    absurd (omega arith))
    (λ f. first))
    (λ f. e)

pending_all : (number other : RequestNo) (running : List Observation) → is_placed running number ≡ true → (other.0 == number.0) ≡ false
    → is_placed (others number running) other ≡ true
    → (gs : List Group) → All (λ g. is_oneof g.op ≡ true → placed_in g running ≤ 1) gs → is_pending_at gs other ≡ true
    → is_pending_at (map (change_where (has_request number) (completed number)) gs) other ≡ true
pending_all number other running runs ne runs_too [] once e = e
pending_all number other running runs ne runs_too (g ∷ gs) once e =
    let f : Group → Group = change_where (has_request number) (completed number) in
    elim (or_cases (has_pending other g) (is_pending_at gs other) e) [
      | inl here ↦ or_left (has_pending other (f g)) (is_pending_at (map f gs) other)
          (pending_beside number other running g runs (All-head (λ x. is_oneof x.op ≡ true → placed_in x running ≤ 1) g gs once) ne runs_too here)
      | inr there ↦ or_right (has_pending other (f g)) (is_pending_at (map f gs) other)
          (pending_all number other running runs ne runs_too gs (All-tail (λ x. is_oneof x.op ≡ true → placed_in x running ≤ 1) g gs once) there)
    ]

-- ---- ready for the moment

-- no more observations pass a test where some no longer run
pub fewer_running : (p q : Observation → Bool) (kept running : List Observation) → count_by q (kept ++ filter p running) ≤ count_by q (kept ++ running)
fewer_running p q kept running =
    let e1 = sum_by-filter_both p (λ o. not (p o)) (λ o. refl) (λ o. cond (q o) 1 0) running in
    let e2 = sum_by-append (λ o. cond (q o) 1 0) kept running in
    let e3 = sum_by-append (λ o. cond (q o) 1 0) kept (filter p running) in
    omega (arith, e1, e2, e3)

once_running : (gs : List Group) (kept running : List Observation) → IsOneOfOnce gs (kept ++ running)
    → All (λ g. is_oneof g.op ≡ true → placed_in g running ≤ 1) gs
once_running gs kept running h = λ k d l e.
    let g : Group = get_or gs k d in
    let few : placed_in g (kept ++ running) ≤ 1 = h k d l e in
    let sum = sum_by-append (λ o. cond (has_request o.request g) 1 0) kept running in
    omega (arith, sum)

none_begun : (s : Progress) → IsSound s → (T : Observation → Type 0) → All (λ o. has_begun s.len s.moment o ≡ true → T o) s.kept
none_begun s h T = λ k d l e. let no : has_begun s.len s.moment (get_or s.kept k d) ≡ false = (facts_of s h.settled).begun k d l in
    let bad : false ≡ true = sym no ∙ e in cc

-- after a report on a running request
pub ready_failed : (s : Progress) (number : RequestNo) → IsSound s → IsReady (without_running number s)
ready_failed s number h = record {
  numbered = h.numbered;
  running = All-filter (λ o. not (o.request.0 == number.0)) (λ o. is_pending_at s.groups o.request ≡ true) s.running h.running;
  begun = none_begun s h (λ o. is_pending_at s.groups o.request ≡ true);
  once = λ k d l e.
      let g : Group = get_or s.groups k d in
      let few : placed_in g (s.kept ++ s.running) ≤ 1 = h.once k d l e in
      let fewer : placed_in g (s.kept ++ others number s.running) ≤ placed_in g (s.kept ++ s.running) =
      fewer_running (λ o. not (o.request.0 == number.0)) (λ o. has_request o.request g) s.kept s.running in
      omega arith;
}

pub ready_completed : (s : Progress) (number : RequestNo) → IsSound s → is_placed s.running number ≡ true
    → IsReady (with_completed number (without_running number s))
ready_completed s number h runs =
    let gs : List Group = map (change_where (has_request number) (completed number)) s.groups in
    let later : AllZip IsLater s.groups gs = all_later (has_request number) (completed number) (later_completed number) s.groups in
    record {
      numbered = numbered_later s.groups gs later h.numbered;
      running = λ k d l.
          pending_all number (get_or (others number s.running) k d).request s.running runs (number_differs number s.running k d l)
          (placed_here (others number s.running) k d l) s.groups
          (once_running s.groups s.kept s.running h.once)
          (All-filter (λ o. not (o.request.0 == number.0)) (λ o. is_pending_at s.groups o.request ≡ true) s.running h.running k d l);
      begun = none_begun s h (λ o. is_pending_at gs o.request ≡ true);
      once = once_later s.groups gs (s.kept ++ s.running) (s.kept ++ others number s.running) later
          (λ g. fewer_running (λ o. not (o.request.0 == number.0)) (λ o. has_request o.request g) s.kept s.running) h.once;
    }

-- a report on a running request leaves a sound state
pub reported_sound : (s : Progress) (number : RequestNo) (completes : Bool) → IsSound s → is_placed s.running number ≡ true
    → IsSound (reported number completes s)
reported_sound s number true h runs = settle_sound (with_completed number (without_running number s)) (ready_completed s number h runs)
reported_sound s number false h runs = settle_sound (without_running number s) (ready_failed s number h)
