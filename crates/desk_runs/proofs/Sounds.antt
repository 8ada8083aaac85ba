-- A moment leaves a sound state.
use Rattle.std.proofs.Common.{◌≡◌, ℕ, ◌+◌, ◌<◌, ◌≤◌, ◌==◌, Bool, true, false, cond, not, ◌&&◌, List, [], ◌∷◌, ◌++◌, length, map, filter, All, get_or}
use Rattle.std.proofs.Common.{refl, sym, ◌∙◌, ap, subst, arith, inl, inr}
use Rattle.std.specs.List.{AllZip, list_any, count_by}
use Rattle.std.proofs.lemmas.Bool.{and_parts, and_right, or_cases, or_left, or_right, eqb-true, eq-eqb}
use Rattle.std.proofs.lemmas.List.Elements.{All-append, All-filter, filter_passes}
use Rattle.std.proofs.lemmas.List.Folds.{list_any_at}
use Rattle.std.proofs.lemmas.List.Filters.{sum_by-filter_both}
use Rattle.std.proofs.lemmas.List.Sums.{sum_by-append}
use Rattle.plan_base.specs.declared.number.RequestNo.{RequestNo}
use Rattle.plan_base.specs.declared.number.Sec.{Sec}
use Rattle.plan_base.specs.declared.state.RequestState.TheVariants.{WindowExpired}
use Rattle.desk_runs.specs.declared.group.Group.{Group}
use Rattle.desk_runs.specs.declared.group.Request.{Request}
use Rattle.desk_runs.specs.declared.observation.Observation.{Observation}
use Rattle.plan_base.specs.States.{is_pending}
use Rattle.desk_runs.specs.Numbers.{is_request, has_request, is_pending_at, is_placed}
use Rattle.desk_runs.specs.Progress.{Progress}
use Rattle.desk_runs.specs.Clock.{has_begun, has_ended, beginning, started, stopped, is_waiting, is_past, with_state, change_requests, with_past}
use Rattle.desk_runs.specs.Clock.{is_lost, with_lost, settle, at_moment}
use Rattle.desk_runs.specs.Sound.{IsNumbered, IsSound, IsOneOfOnce, AllPending, IsLater}
use Rattle.desk_runs.proofs.Lists.{of_choice}
use Rattle.desk_runs.proofs.Settling.{facts_of, settle_settles}
use Rattle.desk_runs.specs.Turning.{turned}
use Rattle.desk_runs.proofs.Later.{later_turned, later_map, numbered_later, once_later}

-- ---- a running request stays pending

-- a request that is observed is not waiting
not_waiting : (running : List Observation) (q : Request) → is_placed running q.number ≡ true → is_waiting running q ≡ false
not_waiting running q e = ap (λ (b : Bool). is_pending q.state && not b) e ∙ and_right (is_pending q.state) false refl

not_past : (running : List Observation) (now : Sec) (q : Request) → is_placed running q.number ≡ true → is_past running now q ≡ false
not_past running now q e = and_right _ (is_waiting running q) (not_waiting running q e)

placed_number : (running : List Observation) (number : RequestNo) (q : Request) → is_placed running number ≡ true → is_request number q ≡ true
    → is_placed running q.number ≡ true
placed_number running number q e h = ap (λ (n : ℕ). list_any (λ o. o.request.0 == n) running) (eqb-true q.number.0 number.0 h) ∙ e

-- a test that passes before a map passes after, where the map leaves what passes
pub any_kept : {X : Type 0} (p : X → Bool) (f : X → X) → ((x : X) → p x ≡ true → p (f x) ≡ true) → (xs : List X) → list_any p xs ≡ true
    → list_any p (map f xs) ≡ true
any_kept p f h [] e = e
any_kept p f h (x ∷ xs) e = elim (or_cases (p x) (list_any p xs) e) [
  | inl here ↦ or_left (p (f x)) (list_any p (map f xs)) (h x here)
  | inr there ↦ or_right (p (f x)) (list_any p (map f xs)) (any_kept p f h xs there)
]

-- whether it is a pending request of this number
abbrev pub is_pending_request : RequestNo → Request → Bool
is_pending_request number q = is_request number q && is_pending q.state

kept_by_change : (running : List Observation) (number : RequestNo) (test : Request → Bool)
    → ((q : Request) → is_placed running q.number ≡ true → test q ≡ false) → is_placed running number ≡ true
    → (q : Request) → is_pending_request number q ≡ true → is_pending_request number (cond (test q) (with_state WindowExpired q) q) ≡ true
kept_by_change running number test free placed q e =
    let no : test q ≡ false = free q (placed_number running number q placed (and_parts (is_request number q) (is_pending q.state) e).0) in
    of_choice (λ (r : Request). is_pending_request number r ≡ true) (test q) (with_state WindowExpired q) q
    (λ t. let bad : false ≡ true = sym no ∙ t in cc) (λ f. e)

abbrev pub has_pending : RequestNo → Group → Bool
has_pending number g = list_any (is_pending_request number) g.requests

kept_by_turn : (running : List Observation) (now : Sec) (number : RequestNo) → is_placed running number ≡ true → (g : Group)
    → has_pending number g ≡ true → has_pending number (turned running now g) ≡ true
kept_by_turn running now number placed g e =
    let past : Group = with_past running now g in
    let first : has_pending number past ≡ true =
    any_kept (is_pending_request number) (λ q. cond (is_past running now q) (with_state WindowExpired q) q)
    (kept_by_change running number (is_past running now) (not_past running now) placed) g.requests e in
    of_choice (λ (x : Group). has_pending number x ≡ true) (is_lost past) (change_requests (is_waiting running) WindowExpired past) past
    (λ t. any_kept (is_pending_request number) (λ q. cond (is_waiting running q) (with_state WindowExpired q) q)
    (kept_by_change running number (is_waiting running) (not_waiting running) placed) past.requests first)
    (λ f. first)

-- a request that is running and pending is pending after the two steps on groups
pub pending_after : (running : List Observation) (now : Sec) (gs : List Group) (number : RequestNo) → is_placed running number ≡ true
    → is_pending_at gs number ≡ true → is_pending_at (map (turned running now) gs) number ≡ true
pending_after running now gs number placed e = any_kept (has_pending number) (turned running now) (kept_by_turn running now number placed) gs e

-- ---- what a moment needs

-- groups and requests are numbered, running observations and those that begin are of pending requests, and of a ONEOF only
-- one is observed
pub record IsReady (s : Progress) : Type 0 where
  pub numbered : IsNumbered s.groups
  pub running : AllPending s.groups s.running
  pub begun : All (λ o. has_begun s.len s.moment o ≡ true → is_pending_at s.groups o.request ≡ true) s.kept
  pub once : IsOneOfOnce s.groups (s.kept ++ s.running)

all_kept : {X : Type 0} (P : X → Type 0) (p : X → Bool) (xs : List X) → All (λ x. p x ≡ true → P x) xs → All P (filter p xs)
all_kept P p xs h = λ k d l. All-filter p (λ x. p x ≡ true → P x) xs h k d l (filter_passes p xs k d l)

pub placed_here : (os : List Observation) (k : ℕ) (d : Observation) → k < length os → is_placed os (get_or os k d).request ≡ true
placed_here os k d l = list_any_at (λ o. o.request.0 == (get_or os k d).request.0) os k d l (eq-eqb (get_or os k d).request.0 (get_or os k d).request.0 refl)

running_after : (s : Progress) → IsReady s → AllPending (settle s).groups (settle s).running
running_after s r =
    let running : List Observation = (stopped (started s)).running in
    let before : AllPending s.groups running =
    All-filter (λ o. not (has_ended s.len s.moment o)) (λ o. is_pending_at s.groups o.request ≡ true) (s.running ++ beginning s)
    (All-append (λ o. is_pending_at s.groups o.request ≡ true) s.running (beginning s) r.running
    (all_kept (λ o. is_pending_at s.groups o.request ≡ true) (has_begun s.len s.moment) s.kept r.begun)) in
    λ k d l. subst (λ (gs : List Group). is_pending_at gs (get_or running k d).request ≡ true) (map_twice s running)
    (pending_after running s.moment s.groups (get_or running k d).request (placed_here running k d l) (before k d l))
  where
    map_map : (f h : Group → Group) (gs : List Group) → map (λ g. h (f g)) gs ≡ map h (map f gs)
    map_map f h [] = refl
    map_map f h (g ∷ gs) = ap (λ (l : List Group). h (f g) ∷ l) (map_map f h gs)

    map_twice : (s : Progress) (running : List Observation)
        → map (turned running s.moment) s.groups ≡ map (with_lost running) (map (with_past running s.moment) s.groups)
    map_twice s running = map_map (with_past running s.moment) (with_lost running) s.groups

count_filters : (p q : Observation → Bool) (xs : List Observation) → count_by q (filter p xs) + count_by q (filter (λ o. not (p o)) xs) ≡ count_by q xs
count_filters p q xs = sum_by-filter_both p (λ o. not (p o)) (λ o. refl) (λ o. cond (q o) 1 0) xs

-- no more observations pass a test after a moment
pub fewer_after : (s : Progress) (q : Observation → Bool) → count_by q ((settle s).kept ++ (settle s).running) ≤ count_by q (s.kept ++ s.running)
fewer_after s q =
    let later : List Observation = filter (λ o. not (has_begun s.len s.moment o)) s.kept in
    let e1 = count_filters (has_begun s.len s.moment) q s.kept in
    let e2 = count_filters (has_ended s.len s.moment) q (s.running ++ beginning s) in
    let e3 = count_filters (λ o. is_pending_at (settle s).groups o.request) q later in
    let e4 = sum_by-append (λ o. cond (q o) 1 0) s.running (beginning s) in
    let e5 = sum_by-append (λ o. cond (q o) 1 0) s.kept s.running in
    let e6 = sum_by-append (λ o. cond (q o) 1 0) (settle s).kept (settle s).running in
    omega (arith, e1, e2, e3, e4, e5, e6)

map_both : (f h : Group → Group) (gs : List Group) → map (λ g. h (f g)) gs ≡ map h (map f gs)
map_both f h [] = refl
map_both f h (g ∷ gs) = ap (λ (l : List Group). h (f g) ∷ l) (map_both f h gs)

-- the groups after a moment are the turned ones
pub groups_after : (s : Progress) → (settle s).groups ≡ map (turned (settle s).running s.moment) s.groups
groups_after s = sym (map_both (with_past (settle s).running s.moment) (with_lost (settle s).running) s.groups)

-- what a moment leaves is sound
pub settle_sound : (s : Progress) → IsReady s → IsSound (settle s)
settle_sound s r =
    let later : AllZip IsLater s.groups (settle s).groups =
    subst (AllZip IsLater s.groups) (sym (groups_after s))
    (later_map (turned (settle s).running s.moment) (later_turned (settle s).running s.moment) s.groups) in
    record {
      numbered = numbered_later s.groups (settle s).groups later r.numbered;
      settled = settle_settles s;
      running = running_after s r;
      once = once_later s.groups (settle s).groups (s.kept ++ s.running) ((settle s).kept ++ (settle s).running) later
          (λ g. fewer_after s (λ o. has_request o.request g)) r.once;
    }

-- a sound state is ready for another moment
pub ready_at : (s : Progress) (now : Sec) → IsSound s → IsReady (at_moment now s)
ready_at s now h = record {
  numbered = h.numbered;
  running = h.running;
  begun = λ k d l e. (facts_of s h.settled).pending k d l;
  once = h.once;
}
