-- The telescopes of the snapshot, and those of each request.
use Rattle.std.proofs.Common.{◌≡◌, ◌≢◌, ℕ, ◌<◌, ◌≤◌, Bool, true, false, cond, ◌&&◌, subst, List, [], ◌∷◌, length, get_or, map, refl, sym, ◌∙◌, inl, inr, arith}
use Rattle.std.specs.Prelude.{filter, All, AllPairs, Contains}
use Rattle.std.specs.List.{list_any, enumerate_from}
use Rattle.std.proofs.lemmas.Bool.{cases_lt, and_parts, or_cases, eqb-true}
use Rattle.std.proofs.lemmas.List.{length-map, get_or_past}
use Rattle.std.proofs.lemmas.List.Elements.{All-map, All-filter}
use Rattle.std.proofs.lemmas.List.Kept.{AllPairs-filter}
use Rattle.std.proofs.lemmas.List.FromFn.{length-enumerate_from}
use Rattle.std.proofs.lemmas.List.Sums.{length-filter, count_by-le-length}
use Rattle.plan_base.specs.declared.number.TelescopeNo.{TelescopeNo}
use Rattle.plan_base.specs.declared.span.Span.{Span}
use Rattle.plan_base.specs.Snapshot.{IsSortedApart}
use Rattle.plan_base.specs.States.{is_pending}
use Rattle.plan_base.proofs.Lists.{AllPairs-map, length_among}
use Rattle.plan_base.proofs.Members.{pairs_right}
use Rattle.plan_base.proofs.Orders.{contains_first, contains_rest}
use Rattle.site_model.specs.Registry.{TelescopeSeen}
use Rattle.site_model.specs.Calendar.{set_at, IsWithinLimits}
use Rattle.desk_runs.specs.declared.group.Request.{Request}
use Rattle.desk_runs.specs.declared.observation.Observation.{Observation}
use Rattle.desk_runs.specs.Numbers.{is_request, requests_of}
use Rattle.desk_runs.proofs.Moves.{pending_flat}
use Rattle.desk_core.specs.declared.desk.Wanted.{Wanted}
use Rattle.desk_core.specs.Desk.{DeskSeen}
use Rattle.desk_core.specs.Kept.{IsDesk}
use Rattle.desk_core.specs.Asking.{is_fit}
use Rattle.desk_core.specs.DeskSnapshot.{telescope_parts, telescope_part, telescopes_for, is_usable, site_of, observed_on, in_horizon, HasFew, IsSmall}
use Rattle.desk_core.proofs.SnapshotLists.{places_below, places_rise}
use Rattle.desk_core.proofs.SnapshotSpans.{seconds_in, taken_short, observed_short}

-- ---- how many observations run

keeps_step : {X : Type 0} (f : X → ℕ) (x : X) (kept : List X) (n : ℕ) → Contains (map f kept) n → (b : Bool) → Contains (map f (cond b (x ∷ kept) kept)) n
keeps_step f x kept n rest true = contains_rest (f x) n (map f kept) rest
keeps_step f x kept n rest false = rest

-- the number of what passes is one of the numbers of those that are kept
passed_in : {X : Type 0} (f : X → ℕ) (p q : X → Bool) (n : ℕ) → ((x : X) → p x ≡ true → (f x ≡ n) × (q x ≡ true)) → (xs : List X) → list_any p xs ≡ true
    → Contains (map f (filter q xs)) n
passed_in f p q n h [] e = cc
passed_in f p q n h (x ∷ xs) e = elim (or_cases (p x) (list_any p xs) e) [
  | inl here ↦ rw (h x here).1 (subst (Contains (f x ∷ map f (filter q xs))) (h x here).0 (contains_first (f x) (map f (filter q xs))))
  | inr later ↦ keeps_step f x (filter q xs) n (passed_in f p q n h xs later) (q x)
]

-- no more observations run than requests are pending
pub running_few : (d : DeskSeen) → IsDesk d → length d.progress.running ≤ 1024
running_few d h =
    let running = d.progress.running in
    let requests = requests_of d.progress.groups in
    let pending : List Request = filter (λ q. is_pending q.state) requests in
    let distinct : AllPairs (λ a b. a ≢ b) (map (λ o. o.request.0) running)
    = AllPairs-map (λ a b. a ≢ b) (λ (o : Observation). o.request.0) running (pairs_right (λ a b. a.request.0 ≢ b.request.0) d.progress.kept running h.once)
    in
    let each : All (Contains (map (λ q. q.number.0) pending)) (map (λ o. o.request.0) running)
    = All-map (Contains (map (λ q. q.number.0) pending)) (λ (o : Observation). o.request.0) running (λ k e lt.
    let number = (get_or running k e).request in
    passed_in (λ q. q.number.0) (λ q. is_request number q && is_pending q.state) (λ q. is_pending q.state) number.0
    (λ q passes. let both = and_parts (is_request number q) (is_pending q.state) passes in (eqb-true q.number.0 number.0 both.0, both.1))
    requests (sym (pending_flat number d.progress.groups) ∙ h.sound.running k e lt))
    in
    omega (
      arith,
      length_among (map (λ o. o.request.0) running) (map (λ q. q.number.0) pending) distinct each,
      length-map running (λ (o : Observation). o.request.0),
      length-map pending (λ (q : Request). q.number.0),
      length-filter (λ (q : Request). is_pending q.state) requests,
      h.pending,
    )

-- ---- usable times

set_few : (sets : List (List Span)) (n most : ℕ) → All (λ s. length s ≤ most) sets → length (set_at sets n) ≤ most
set_few sets n most few = elim (cases_lt n (length sets)) [
  | inl lt ↦ few n [] lt
  | inr past ↦ let none : set_at sets n ≡ [] = get_or_past sets n [] past in rw none (omega arith)
]

pub usable_sorted : (d : DeskSeen) → All (λ t. IsSortedApart t.usable) (telescope_parts d)
usable_sorted d =
    All-map (λ t. IsSortedApart t.usable) (telescope_part d) (enumerate_from 0 d.network.registry.telescopes)
    (λ k e lt. let p = get_or (enumerate_from 0 d.network.registry.telescopes) k e in (seconds_in d (is_usable d (site_of d p.1) p.0)).sorted)

usable_one : (d : DeskSeen) → IsDesk d → IsWithinLimits d.network.calendar → (site t : ℕ) → length (in_horizon d (is_usable d site t)) ≤ 2048
usable_one d h within site t =
    let night = set_at d.network.calendar.nights site in
    let closed = set_at d.network.calendar.closures t in
    omega (
      arith,
      taken_short d night closed (observed_on d t) (is_usable d site t) (λ x. refl),
      set_few d.network.calendar.nights site 512 within.nights,
      set_few d.network.calendar.closures t 512 within.closures,
      observed_short d t,
      running_few d h,
    )

pub usable_few : (d : DeskSeen) → IsDesk d → IsSmall d.network → All (λ n. n ≤ 2048) (map (λ t. length t.usable) (telescope_parts d))
usable_few d h small =
    All-map (λ n. n ≤ 2048) (λ t. length t.usable) (telescope_parts d)
    (All-map (λ t. length t.usable ≤ 2048) (telescope_part d) (enumerate_from 0 d.network.registry.telescopes)
    (λ k e lt.
    let p = get_or (enumerate_from 0 d.network.registry.telescopes) k e in
    let some : 0 < length d.network.registry.telescopes = omega (arith, length-enumerate_from 0 d.network.registry.telescopes) in
    usable_one d h (small.usable some) (site_of d p.1) p.0))

-- each telescope is one of the snapshot
pub telescope_count : (d : DeskSeen) → length (telescope_parts d) ≡ length d.network.registry.telescopes
telescope_count d = length-map (enumerate_from 0 d.network.registry.telescopes) (telescope_part d) ∙ length-enumerate_from 0 d.network.registry.telescopes

-- ---- the telescopes of a request

pub fits_below : (d : DeskSeen) (w : Wanted) → All (λ t. t.0 < length (telescope_parts d)) (telescopes_for d w)
fits_below d w = rw (telescope_count d) (
    All-map (λ t. t.0 < length d.network.registry.telescopes) (λ p. record { 0 = p.0 })
    (filter (λ p. is_fit w.location w.instrument p.1) (enumerate_from 0 d.network.registry.telescopes))
    (All-filter (λ p. is_fit w.location w.instrument p.1) (λ p. p.0 < length d.network.registry.telescopes)
    (enumerate_from 0 d.network.registry.telescopes) (places_below d.network.registry.telescopes)))

pub fits_rise : (d : DeskSeen) (w : Wanted) → AllPairs (λ t u. t.0 < u.0) (telescopes_for d w)
fits_rise d w =
    AllPairs-map (λ t u. t.0 < u.0) (λ p. record { 0 = p.0 })
    (filter (λ p. is_fit w.location w.instrument p.1) (enumerate_from 0 d.network.registry.telescopes))
    (AllPairs-filter (λ p q. p.0 < q.0) (λ p. is_fit w.location w.instrument p.1) (enumerate_from 0 d.network.registry.telescopes)
    (places_rise d.network.registry.telescopes))

pub fits_few : (d : DeskSeen) (w : Wanted) → HasFew d.network → length (telescopes_for d w) ≤ 32
fits_few d w few =
    let all : List (ℕ × TelescopeSeen) = enumerate_from 0 d.network.registry.telescopes in
    let fit : ℕ × TelescopeSeen → Bool = λ p. is_fit w.location w.instrument p.1 in
    let number : ℕ × TelescopeSeen → TelescopeNo = λ p. record { 0 = p.0 } in
    omega (
      arith,
      length-map (filter fit all) number,
      length-filter fit all,
      count_by-le-length fit all,
      length-enumerate_from 0 d.network.registry.telescopes,
      few.telescopes,
    )
