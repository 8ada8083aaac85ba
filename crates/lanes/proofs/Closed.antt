-- What workers have found is put together, and is a planned claim.
use Rattle.std.proofs.Common.{◌≡◌, ℕ, ◌+◌, ◌≤◌, ◌<◌, inl, inr, Bool, cond, List, [], ◌∷◌, ◌++◌, length, sym, ap, subst, ◌∙◌, arith}
use Rattle.std.specs.Prelude.{All, Contains, pos, IsPermutation, ◌==◌}
use Rattle.std.specs.List.Sorted.{IsSortedBy}
use Rattle.std.proofs.lemmas.Int.{ints}
use Rattle.std.proofs.lemmas.Bool.{eq-eqb, ne_eqb}
use Rattle.std.proofs.lemmas.List.Sums.{sum_by-cons}
use Rattle.std.proofs.lemmas.List.{length-append, get_or_append_left}
use Rattle.std.proofs.Math.Seq.{get_or-append_seam}
use mathlib.Core.Logic.{dite}
use native.Mathlib.Decide.{ℕ_discrete, dec_lt}
use Rattle.plan_base.specs.declared.parts.Parts.{Parts}
use Rattle.plan_base.specs.declared.claim.Settings.{Settings}
use Rattle.plan_base.specs.declared.claim.Placement.{Placement}
use Rattle.plan_base.specs.declared.claim.Claim.{Claim}
use Rattle.plan_base.specs.Snapshot.{IsOrderly}
use Rattle.plan_base.specs.Starts.{value_of_plan}
use Rattle.plan_base.specs.Fill.{IsGreedy}
use Rattle.plan_base.specs.Planned.{IsPlanned}
use Rattle.plan_base.proofs.Orders.{contains_cases, contains_first, contains_rest}
use Rattle.board.specs.declared.board.Board.{Board}
use Rattle.board.specs.declared.seat.SeatView.{SeatView}
use Rattle.board.specs.Views.{times, EachOnce}
use Rattle.board.specs.Steps.{joined}
use Rattle.board.specs.Seats.{view}
use Rattle.plan_base.specs.Repaired.{is_listed_before}
use Rattle.lanes.specs.Found.{FoundSeen, bettered}
use Rattle.lanes.specs.Searched.{IsMade, IsMetFor, IsSearched, IsEnded}
use Rattle.lanes.specs.declared.worker.Worker.{Worker}
use Rattle.lanes.specs.Working.{HasDoneWork}
use Rattle.lanes.specs.Solving.{IsInRange, IsNew, HasWorked, IsGathering}
use Rattle.lanes.proofs.Finding.{bound_at_most}
use Rattle.lanes.proofs.Closing.{IsSettled, IsAllFound, worth, planned}
use Rattle.lanes.proofs.Ending.{searched_both, ended_both}
use Rattle.plan_base.proofs.Listings.{listing_feasible, listing_worth, listing_is}

-- what stands in a list is counted, and what is counted stands there
times_from : (n : ℕ) (xs : List ℕ) → Contains xs n → 1 ≤ times n xs
times_from n [] c = absurd (omega (arith, c.1))
times_from n (x ∷ xs) c =
    let split : times n (x ∷ xs) ≡ cond (x == n) 1 0 + times n xs = sum_by-cons (λ z. cond (z == n) 1 0) x xs in
    elim (contains_cases x n xs c) [
      | inl same ↦ (let one : times n (x ∷ xs) ≡ 1 + times n xs = split ∙ ap (λ (b : Bool). cond b 1 0 + times n xs) (eq-eqb x n same) in omega arith)
      | inr rest ↦ (let t = times_from n xs rest in omega arith)
    ]

from_times : (n : ℕ) (xs : List ℕ) → 1 ≤ times n xs → Contains xs n
from_times n [] t = absurd (omega arith)
from_times n (x ∷ xs) t = dite (ℕ_discrete x n)
    (λ same. subst (Contains (x ∷ xs)) same (contains_first x xs))
    (λ other.
    let split : times n (x ∷ xs) ≡ cond (x == n) 1 0 + times n xs = sum_by-cons (λ z. cond (z == n) 1 0) x xs in
    let none : times n (x ∷ xs) ≡ 0 + times n xs = split ∙ ap (λ (b : Bool). cond b 1 0 + times n xs) (ne_eqb x n other) in
    contains_rest x n xs (from_times n xs (omega arith)))

-- the board is closed: what was seen was given, and each number below the count was claimed
pub record IsClosed (v : SeatView) : Type 0 where
  pub bound : v.least_given ≤ v.lowest_seen
  pub value : v.greatest_seen ≤ v.greatest_given
  pub count : ℕ
  pub claimed : EachOnce count (λ number. times number v.claims)

module _ (s : Parts) (settings : Settings) (greedy : List Placement) (v : SeatView) (f : FoundSeen) (orderly : IsOrderly s)
    (range : IsInRange settings) (is_greedy : IsGreedy s greedy)
    (x : IsSearched s settings (value_of_plan s greedy) greedy v f) (ended : IsEnded settings v) (closed : IsClosed v) where
  bound_under : f.bound ≤ v.least_given
  bound_under = elim x.bound_given [
    | inl none ↦ (let m = bound_at_most s settings.workers (IsMade x.made) (value_of_plan s greedy) greedy f orderly x.found in omega arith)
    | inr (c, u, y) ↦ elim x.found.bound [
      | inl none ↦ absurd (none.0 y.lane y.round y.was_made)
      | inr l ↦ (let b = l.least y.lane y.round c u (pos v.least_given) y.was_made y.gives y.is_bound in omega (arith, ints))
    ]
  ]

  value_over : v.greatest_given ≤ f.value
  value_over = elim x.value_given [
    | inl under ↦ (let a = x.found.value.above_opening in omega arith)
    | inr (q, y) ↦ (let a = x.found.value.above y.lane y.round y.prices y.quota_prices q y.was_made y.gives y.repaired in let w = y.worth in omega arith)
  ]

  met : IsMetFor v → f.bound ≤ f.value
  met m = let a = bound_under in let b = value_over in let c = closed.bound in let d = closed.value in omega arith

  was_claimed : (j : ℕ) → Contains v.claims j → j < closed.count
  was_claimed j c = dite (dec_lt j closed.count) (λ yes. yes)
      (λ no. (let none = (closed.claimed j).1 (omega arith) in let some = times_from j v.claims c in absurd (omega arith)))

  claimed_below : (j : ℕ) → j < closed.count → Contains v.claims j
  claimed_below j lt = from_times j v.claims (let one = (closed.claimed j).0 lt in omega arith)

  by_claim : (j : ℕ) → j < settings.lanes → Contains v.claims j → IsSettled s settings (IsMade x.made) (value_of_plan s greedy) f.bound f.value j
  by_claim j lt c = elim (x.lanes j c lt) [
    | inl done ↦ elim done [ inl all ↦ inl all | inr stopped ↦ inr (met stopped.0, λ alone. inl (stopped.1 alone)) ]
    | inr out ↦ inr (met out.0, λ alone. inr (out.1 alone))
  ]

  settled : (j : ℕ) → j < settings.lanes → IsSettled s settings (IsMade x.made) (value_of_plan s greedy) f.bound f.value j
  settled j lt = elim ended [
    | inl (n, beyond, c) ↦ (let below = was_claimed n c in by_claim j lt (claimed_below j (omega arith)))
    | inr seen ↦ dite (dec_lt j closed.count)
        (λ yes. by_claim j lt (claimed_below j yes))
        (λ no. inr (met seen, λ alone. inr (λ i k made. (let below = was_claimed i (x.claimed i k made) in omega arith))))
  ]

  all_found : IsAllFound s settings (IsMade x.made) greedy f
  all_found = record {
    some_lanes = range.some_lanes;
    some_rounds = range.some_rounds;
    is_greedy = is_greedy;
    within = x.within;
    closed = λ j k l m lt. (m.0, m.1, m.2, m.3, (m.4.0, (let a = m.4.1 in omega arith)));
    found = x.found;
    settled = settled;
  }

  -- the claim of what was found is planned
  pub claim_planned : (claim : Claim) → claim.bound ≡ f.bound → claim.prices.0 ≡ f.prices → claim.quota_prices.0 ≡ f.quota_prices → claim.value ≡ f.value
      → IsPermutation f.plan claim.placements → IsSortedBy is_listed_before claim.placements → IsPlanned s settings claim
  claim_planned claim bound prices quota_prices value same sorted =
      planned s settings (IsMade x.made) greedy f orderly all_found claim bound prices quota_prices value
      (listing_is s f.plan claim.placements orderly same x.found.feasible sorted) (listing_feasible s f.plan claim.placements orderly same x.found.feasible)
      (listing_worth s f.plan claim.placements orderly same x.found.feasible ∙ worth s settings (IsMade x.made) greedy f orderly all_found)

pub last_of : {X : Type 0} (P : X → Type 0) (xs ys : List X) (x : X) → xs ≡ ys ++ x ∷ [] → All P xs → P x
last_of P xs ys x is all =
    let long : length (ys ++ x ∷ []) ≡ length ys + 1 = length-append ys (x ∷ []) in
    subst P (get_or-append_seam ys x [] x) (subst (All P) is all (length ys) x (omega arith))

pub rest_of : {X : Type 0} (P : X → Type 0) (xs ys : List X) (x : X) → xs ≡ ys ++ x ∷ [] → All P xs → All P ys
rest_of P xs ys x is all i d lt =
    let long : length (ys ++ x ∷ []) ≡ length ys + 1 = length-append ys (x ∷ []) in
    subst P (get_or_append_left ys (x ∷ []) d i lt) (subst (All P) is all i d (omega arith))

-- one worker's lanes are put to what others have found
pub gathered_one : (L : ℕ) (s : Parts) (settings : Settings) (opening : ℕ) (greedy : List Placement) (v u : SeatView) (f : FoundSeen)
    (w : Worker L) (left : ℕ) → IsOrderly s
    → HasWorked L s settings opening w → IsGathering s settings opening greedy v f (left + 1) → u ≡ joined v (view w.seat)
    → IsGathering s settings opening greedy u (bettered f w.found) left
gathered_one L s settings opening greedy v u f w left orderly worked h is =
    let few : left + 1 ≤ settings.workers = h.most in
    let y : IsSearched s settings opening [] (view w.seat) w.found =
    subst (λ (p : Parts). IsSearched p settings opening [] (view w.seat) w.found) worked.snapshot
    (subst (λ (x : Settings). IsSearched w.steps.snapshot x opening [] (view w.seat) w.found) worked.settings
    (subst (λ (n : ℕ). IsSearched w.steps.snapshot w.settings n [] (view w.seat) w.found) worked.opening worked.done.searched)) in
    let alone : settings.workers ≡ 1 → v.claims ≡ [] = λ one. h.none_yet (omega arith) in
    let ended : IsEnded settings (view w.seat) = subst (λ (x : Settings). IsEnded x (view w.seat)) worked.settings worked.done.ended in
    subst (λ (z : SeatView). IsGathering s settings opening greedy z (bettered f w.found) left) (sym is) (record {
      parts = (let p = h.parts in let a = worked.done.seats in let b = worked.done.no_tickets in omega arith);
      searched = searched_both s settings opening greedy v (view w.seat) f w.found orderly alone h.searched y;
      most = omega arith;
      none_yet = λ all. absurd (omega arith);
      ended = λ less. ended_both s settings opening greedy v (view w.seat) f w.found orderly alone h.searched y (inr ended);
    })

-- a worker that was new has worked
pub has_worked : (L : ℕ) (board : Board) (s : Parts) (settings : Settings) (opening : ℕ) (w u : Worker L) → IsNew L s settings opening w
    → HasDoneWork L board w u → HasWorked L s settings opening u
has_worked L board s settings opening w u new work = record {
  done = work.done;
  snapshot = work.same.snapshot ∙ new.snapshot;
  settings = work.same.settings ∙ new.settings;
  opening = work.same.opening ∙ new.opening;
}
