-- The change that is found for a report is what it does.
use Rattle.std.proofs.Common.{◌≡◌, ℕ, ◌+◌, ◌<◌, ◌≤◌, ◌==◌, nat_le, Bool, true, false, cond, not, ◌&&◌, ◌||◌, List, [], ◌∷◌, ◌++◌, length, map, filter}
use Rattle.std.proofs.Common.{All, get_or, refl, sym, ◌∙◌, ap, subst, arith, inl, inr, ◌⊎◌, Some}
use Rattle.std.specs.List.{AllZip, list_any, flat_map, fold}
use Rattle.std.proofs.lemmas.Bool.{eqb-true, eq-eqb, false_from_ne_true, or_parts}
use Rattle.std.proofs.lemmas.List.{append-nil, length-map, get_or-map}
use Rattle.std.proofs.lemmas.List.Elements.{All-nil, All-cons, All-head, All-tail, All-weaker, All-filter}
use Rattle.std.proofs.lemmas.List.Folds.{list_any_none}
use Rattle.plan_base.specs.declared.number.RequestNo.{RequestNo}
use Rattle.plan_base.specs.declared.number.Sec.{Sec}
use Rattle.plan_base.specs.declared.state.RequestState.{RequestState}
use Rattle.plan_base.specs.declared.state.RequestState.TheVariants.{Pending, Completed, WindowExpired, Canceled}
use Rattle.desk_runs.specs.declared.change.Change.{Change}
use Rattle.desk_runs.specs.declared.group.Group.{Group}
use Rattle.desk_runs.specs.declared.group.Request.{Request}
use Rattle.desk_runs.specs.declared.observation.Observation.{Observation}
use Rattle.plan_base.specs.States.{is_pending, is_over, is_in}
use Rattle.desk_runs.specs.Numbers.{requests_of, is_request, has_request, group_with, is_pending_at, is_placed}
use Rattle.desk_runs.specs.Progress.{Progress}
use Rattle.desk_runs.specs.Clock.{has_begun, has_ended, is_waiting, is_past, with_state, change_requests, with_past, is_lost, with_lost, became}
use Rattle.desk_runs.specs.Clock.{became_in, settle}
use Rattle.desk_runs.specs.Turning.{turned}
use Rattle.desk_runs.specs.Reports.{completed, without_running, with_completed, reported}
use Rattle.desk_runs.specs.Changes.{put, changed}
use Rattle.desk_runs.specs.Sound.{IsSound, IsLater, AreTold, CanChange}
use Rattle.desk_runs.proofs.Lists.{filter_all, filter_none, passes_opposite}
use Rattle.desk_runs.proofs.Settling.{Facts, facts_of}
use Rattle.desk_runs.proofs.Later.{later_self, later_then, later_completed, later_turned}
use Rattle.desk_runs.proofs.Sounds.{groups_after}
use Rattle.desk_runs.proofs.Places.{IsCountedFrom, counted_from, front_of, back_of, differs}
use Rattle.desk_runs.proofs.Moves.{is_among, became_groups, gathered_by}
use Rattle.desk_runs.proofs.Single.{change_where, pick_step, picked_passes, choose, later_where, all_later, put_one, told_one, drop_one}
use Rattle.desk_runs.proofs.Reporting.{others, reported_sound}

-- ---- the group of the request is picked

none_has : (b : ℕ) (gs : List Group) (number : RequestNo) → IsCountedFrom b (map (λ q. q.number.0) (requests_of gs)) → number.0 ≤ b
    → filter (has_request number) gs ≡ []
none_has b [] number h e = refl
none_has b (g ∷ gs) number h e =
    let free : has_request number g ≡ false = list_any_none (is_request number) g.requests (λ j d l.
    let len : length (map (λ q. q.number.0) g.requests) ≡ length g.requests = length-map g.requests (λ q. q.number.0) in
    let at : get_or (map (λ q. q.number.0) g.requests) j 0 ≡ b + j + 1 = front_of b g gs h j (omega arith) in
    let is : (get_or g.requests j d).number.0 ≡ b + j + 1 = sym (get_or-map (λ q. q.number.0) g.requests j d 0 l) ∙ at in
    differs (get_or g.requests j d).number.0 number.0 (λ same. absurd (omega arith))) in
    ap (λ (v : Bool). cond v (g ∷ filter (has_request number) gs) (filter (has_request number) gs)) free
    ∙ none_has (b + length g.requests) gs number (back_of b g gs h) (omega arith)

-- a number that one of these requests has is at most as many beyond b as they are
has_below : (b : ℕ) (number : RequestNo) (qs : List Request) → IsCountedFrom b (map (λ q. q.number.0) qs) → list_any (is_request number) qs ≡ true
    → number.0 ≤ b + length qs
has_below b number qs h e = at_most (cases_le number.0 (b + length qs))
  where
    cases_le : (m n : ℕ) → (m ≤ n) ⊎ (n < m)
    cases_le m n = grind arith

    at_most : (number.0 ≤ b + length qs) ⊎ (b + length qs < number.0) → number.0 ≤ b + length qs
    at_most (inl low) = low
    at_most (inr high) =
        let none : list_any (is_request number) qs ≡ false = list_any_none (is_request number) qs (λ j d l.
        let len : length (map (λ q. q.number.0) qs) ≡ length qs = length-map qs (λ q. q.number.0) in
        let at : get_or (map (λ q. q.number.0) qs) j 0 ≡ b + j + 1 = h j (omega arith) in
        let is : (get_or qs j d).number.0 ≡ b + j + 1 = sym (get_or-map (λ q. q.number.0) qs j d 0 l) ∙ at in
        differs (get_or qs j d).number.0 number.0 (λ same. absurd (omega arith))) in
        let bad : false ≡ true = sym none ∙ e in cc

picked_with : (b : ℕ) (gs : List Group) (number : RequestNo) (g0 : Group) → IsCountedFrom b (map (λ q. q.number.0) (requests_of gs))
    → group_with gs number ≡ Some g0 → filter (has_request number) gs ≡ g0 ∷ []
picked_with b [] number g0 h e = cc
picked_with b (g ∷ gs) number g0 h e =
    pick_step (has_request number g) g g0 gs (filter (has_request number) gs) (group_with gs number) e
    (λ t. none_has (b + length g.requests) gs number (back_of b g gs h) (has_below b number g.requests (front_of b g gs h) t))
    (λ later. picked_with (b + length g.requests) gs number g0 (back_of b g gs h) later)

-- ---- other groups stay

placed_step : (number other : ℕ) (o : Observation) (os rest : List Observation) (b : Bool) → (other == number) ≡ false → (o.request.0 == number) ≡ b
    → list_any (λ x. x.request.0 == other) rest ≡ list_any (λ x. x.request.0 == other) os
    → list_any (λ x. x.request.0 == other) (cond (not b) (o ∷ rest) rest) ≡ ((o.request.0 == other) || list_any (λ x. x.request.0 == other) os)
placed_step number other o os rest true ne e same =
    let here : o.request.0 ≡ number = eqb-true o.request.0 number e in
    let no : (o.request.0 == other) ≡ false =
    false_from_ne_true (o.request.0 == other)
    (λ t. let bad : false ≡ true = sym ne ∙ eq-eqb other number (sym (eqb-true o.request.0 other t) ∙ here) in cc) in
    same ∙ sym (ap (λ (v : Bool). v || list_any (λ x. x.request.0 == other) os) no)
placed_step number other o os rest false ne e same = ap (λ (v : Bool). (o.request.0 == other) || v) same

placed_among : (number other : ℕ) (os : List Observation) → (other == number) ≡ false
    → list_any (λ o. o.request.0 == other) (filter (λ o. not (o.request.0 == number)) os) ≡ list_any (λ o. o.request.0 == other) os
placed_among number other [] ne = refl
placed_among number other (o ∷ os) ne = placed_step number other o os (filter (λ x. not (x.request.0 == number)) os) (o.request.0 == number) ne refl
    (placed_among number other os ne)

map_agree : (f h : Request → Request) (qs : List Request) → All (λ q. f q ≡ h q) qs → map f qs ≡ map h qs
map_agree f h [] e = refl
map_agree f h (q ∷ qs) e =
    ap (λ (x : Request). x ∷ map f qs) (All-head (λ r. f r ≡ h r) q qs e)
    ∙ ap (λ (l : List Request). h q ∷ l) (map_agree f h qs (All-tail (λ r. f r ≡ h r) q qs e))

none_is : (number : RequestNo) (qs : List Request) → list_any (is_request number) qs ≡ false → All (λ q. is_request number q ≡ false) qs
none_is number [] e = All-nil (λ q. is_request number q ≡ false)
none_is number (q ∷ qs) e = let parts = or_parts (is_request number q) (list_any (is_request number) qs) e in
    All-cons (λ r. is_request number r ≡ false) q qs parts.0 (none_is number qs parts.1)

other_waiting : (number : RequestNo) (running : List Observation) (g : Group) → has_request number g ≡ false
    → All (λ q. is_waiting (others number running) q ≡ is_waiting running q) g.requests
other_waiting number running g free =
    All-weaker (λ q. is_request number q ≡ false) (λ q. is_waiting (others number running) q ≡ is_waiting running q)
    (λ q e. ap (λ (v : Bool). is_pending q.state && not v) (placed_among number.0 q.number.0 running e)) g.requests (none_is number g.requests free)

change_agree : (test other : Request → Bool) (g : Group) → All (λ q. test q ≡ other q) g.requests
    → change_requests test WindowExpired g ≡ change_requests other WindowExpired g
change_agree test other g h =
    ap (λ (rs : List Request). let x : Group = record g { requests = rs } in x)
    (map_agree (λ q. cond (test q) (with_state WindowExpired q) q) (λ q. cond (other q) (with_state WindowExpired q) q) g.requests
    (All-weaker (λ q. test q ≡ other q) (λ q. cond (test q) (with_state WindowExpired q) q ≡ cond (other q) (with_state WindowExpired q) q)
    (λ q e. ap (λ (v : Bool). cond v (with_state WindowExpired q) q) e) g.requests h))

other_turned : (number : RequestNo) (running : List Observation) (now : Sec) (g : Group) → has_request number g ≡ false → with_past running now g ≡ g
    → with_lost running g ≡ g → turned (others number running) now g ≡ g
other_turned number running now g free past lost =
    let waits = other_waiting number running g free in
    let past_too : with_past (others number running) now g ≡ g =
    change_agree (is_past (others number running) now) (is_past running now) g
    (All-weaker (λ q. is_waiting (others number running) q ≡ is_waiting running q)
    (λ q. is_past (others number running) now q ≡ is_past running now q)
    (λ q e. ap (λ (v : Bool). nat_le q.last.0 now.0 && v) e) g.requests waits) ∙ past in
    let lost_too : with_lost (others number running) g ≡ g =
    ap (λ (x : Group). cond (is_lost g) x g) (change_agree (is_waiting (others number running)) (is_waiting running) g waits) ∙ lost in
    ap (with_lost (others number running)) past_too ∙ lost_too

-- ---- what the report does to groups

-- the reported group, completed or not
abbrev pub finished : RequestNo → Bool → Group → Group
finished number completes g = cond completes (completed number g) g

-- and after the moment
abbrev pub settled_group : RequestNo → Bool → Progress → Group → Group
settled_group number completes s g = turned (others number s.running) s.moment (finished number completes g)

pub later_settled : (number : RequestNo) (completes : Bool) (s : Progress) (g : Group) → IsLater g (settled_group number completes s g)
later_settled number completes s g =
    later_then g (finished number completes g) (settled_group number completes s g)
    (elim completes as (λ b. IsLater g (cond b (completed number g) g)) [ true ↦ later_completed number g | false ↦ later_self g ])
    (later_turned (others number s.running) s.moment (finished number completes g))

-- the state before the moment
abbrev pub reported_first : RequestNo → Bool → Progress → Progress
reported_first number completes s = cond completes (with_completed number (without_running number s)) (without_running number s)

pub reported_is : (number : RequestNo) (completes : Bool) (s : Progress) → reported number completes s ≡ settle (reported_first number completes s)
reported_is number true s = refl
reported_is number false s = refl

map_pointwise : (f h : Group → Group) (gs : List Group) → All (λ g. f g ≡ h g) gs → map f gs ≡ map h gs
map_pointwise f h [] e = refl
map_pointwise f h (g ∷ gs) e =
    ap (λ (x : Group). x ∷ map f gs) (All-head (λ x. f x ≡ h x) g gs e)
    ∙ ap (λ (l : List Group). h g ∷ l) (map_pointwise f h gs (All-tail (λ x. f x ≡ h x) g gs e))

map_then : (f h : Group → Group) (gs : List Group) → map h (map f gs) ≡ map (λ g. h (f g)) gs
map_then f h [] = refl
map_then f h (g ∷ gs) = ap (λ (l : List Group). h (f g) ∷ l) (map_then f h gs)

either : (b : Bool) (g : Group) → cond b g g ≡ g
either true g = refl
either false g = refl

turned_where : (number : RequestNo) (completes : Bool) (s : Progress) → Facts s
    → All (λ g. turned (others number s.running) s.moment (cond completes (change_where (has_request number) (completed number) g) g)
    ≡ change_where (has_request number) (settled_group number completes s) g) s.groups
turned_where number completes s f = λ k d l.
    let g : Group = get_or s.groups k d in
    at g (has_request number g) refl (f.past k d l) (f.missed k d l)
  where
    at : (g : Group) (b : Bool) → has_request number g ≡ b → with_past s.running s.moment g ≡ g → with_lost s.running g ≡ g
        → turned (others number s.running) s.moment (cond completes (cond b (completed number g) g) g) ≡ cond b (settled_group number completes s g) g
    at g true e past lost = refl
    at g false e past lost = ap (turned (others number s.running) s.moment) (either completes g) ∙ other_turned number s.running s.moment g e past lost

groups_first : (number : RequestNo) (completes : Bool) (s : Progress)
    → (reported_first number completes s).groups ≡ map (λ g. cond completes (change_where (has_request number) (completed number) g) g) s.groups
groups_first number true s = refl
groups_first number false s = sym (same s.groups)
  where
    same : (gs : List Group) → map (λ g. g) gs ≡ gs
    same [] = refl
    same (g ∷ gs) = ap (λ (l : List Group). g ∷ l) (same gs)

running_first : (number : RequestNo) (completes : Bool) (s : Progress) → (reported_first number completes s).running ≡ others number s.running
running_first number true s = refl
running_first number false s = refl

running_settled : (number : RequestNo) (completes : Bool) (s : Progress) → Facts s
    → (settle (reported_first number completes s)).running ≡ others number s.running
running_settled number true s f = keep number s f
  where
    keep : (number : RequestNo) (s : Progress) → Facts s
        → filter (λ o. not (has_ended s.len s.moment o)) (others number s.running ++ filter (has_begun s.len s.moment) s.kept)
        ≡ others number s.running
    keep number s f =
        ap (λ (l : List Observation). filter (λ o. not (has_ended s.len s.moment o)) (others number s.running ++ l))
        (filter_none (has_begun s.len s.moment) s.kept f.begun)
        ∙ ap (λ (l : List Observation). filter (λ o. not (has_ended s.len s.moment o)) l) (append-nil (others number s.running))
        ∙ filter_all (λ o. not (has_ended s.len s.moment o)) (others number s.running)
        (passes_opposite (has_ended s.len s.moment) (others number s.running)
        (All-filter (λ o. not (o.request.0 == number.0)) (λ o. has_ended s.len s.moment o ≡ false) s.running f.ended))
running_settled number false s f =
    ap (λ (l : List Observation). filter (λ o. not (has_ended s.len s.moment o)) (others number s.running ++ l))
    (filter_none (has_begun s.len s.moment) s.kept f.begun)
    ∙ ap (λ (l : List Observation). filter (λ o. not (has_ended s.len s.moment o)) l) (append-nil (others number s.running))
    ∙ filter_all (λ o. not (has_ended s.len s.moment o)) (others number s.running)
    (passes_opposite (has_ended s.len s.moment) (others number s.running)
    (All-filter (λ o. not (o.request.0 == number.0)) (λ o. has_ended s.len s.moment o ≡ false) s.running f.ended))

moment_first : (number : RequestNo) (completes : Bool) (s : Progress) → (reported_first number completes s).moment ≡ s.moment
moment_first number true s = refl
moment_first number false s = refl

-- only the group of the request changes
pub groups_settled : (number : RequestNo) (completes : Bool) (s : Progress) → Facts s
    → (settle (reported_first number completes s)).groups ≡ map (change_where (has_request number) (settled_group number completes s)) s.groups
groups_settled number completes s f =
    let first : Progress = reported_first number completes s in
    groups_after first
    ∙ ap (λ (r : List Observation). map (turned r first.moment) first.groups) (running_settled number completes s f)
    ∙ ap (λ (m : Sec). map (turned (others number s.running) m) first.groups) (moment_first number completes s)
    ∙ ap (map (turned (others number s.running) s.moment)) (groups_first number completes s)
    ∙ map_then (λ g. cond completes (change_where (has_request number) (completed number) g) g) (turned (others number s.running) s.moment) s.groups
    ∙ map_pointwise (λ g. turned (others number s.running) s.moment (cond completes (change_where (has_request number) (completed number) g) g))
    (change_where (has_request number) (settled_group number completes s)) s.groups (turned_where number completes s f)

kept_settled : (number : RequestNo) (completes : Bool) (s : Progress) → Facts s
    → (settle (reported_first number completes s)).kept
    ≡ filter (λ o. is_pending_at (settle (reported_first number completes s)).groups o.request) s.kept
kept_settled number true s f =
    ap (filter (λ o. is_pending_at (settle (reported_first number true s)).groups o.request))
    (filter_all (λ o. not (has_begun s.len s.moment o)) s.kept (passes_opposite (has_begun s.len s.moment) s.kept f.begun))
kept_settled number false s f =
    ap (filter (λ o. is_pending_at (settle (reported_first number false s)).groups o.request))
    (filter_all (λ o. not (has_begun s.len s.moment o)) s.kept (passes_opposite (has_begun s.len s.moment) s.kept f.begun))

len_settled : (number : RequestNo) (completes : Bool) (s : Progress) → (settle (reported_first number completes s)).len ≡ s.len
len_settled number true s = refl
len_settled number false s = refl

moment_settled : (number : RequestNo) (completes : Bool) (s : Progress) → (settle (reported_first number completes s)).moment ≡ s.moment
moment_settled number true s = refl
moment_settled number false s = refl

-- ---- the change

-- what is found for a report is what it does, and it can be made
pub record IsReport (s : Progress) (number : RequestNo) (completes : Bool) (c : Change) : Type 0 where
  pub does : changed s c ≡ reported number completes s
  pub can : CanChange s c

same_progress : (p q : Progress) → p.len ≡ q.len → p.moment ≡ q.moment → p.groups ≡ q.groups → p.kept ≡ q.kept → p.running ≡ q.running → p ≡ q
same_progress p q a b c d e =
    ap (λ (x : ℕ). let r : Progress = record p { len = x } in r) a
    ∙ ap (λ (x : Sec). let r : Progress = record p { len = q.len; moment = x } in r) b
    ∙ ap (λ (x : List Group). let r : Progress = record p { len = q.len; moment = q.moment; groups = x } in r) c
    ∙ ap (λ (x : List Observation). let r : Progress = record { len = q.len; moment = q.moment; groups = q.groups; kept = x; running = p.running } in r) d
    ∙ ap (λ (x : List Observation). let r : Progress = record { len = q.len; moment = q.moment; groups = q.groups; kept = q.kept; running = x } in r) e

pub report_change : (s : Progress) (number : RequestNo) (completes : Bool) (g0 : Group) (kept : List Observation) (over : List RequestNo) → IsSound s
    → is_placed s.running number ≡ true → group_with s.groups number ≡ Some g0
    → over ≡ became is_over g0.requests (settled_group number completes s g0).requests → kept ≡ filter (λ o. not (is_among o.request over)) s.kept
    → IsReport s number completes (record { now = s.moment; groups = settled_group number completes s g0 ∷ []; kept = kept; running = others number s.running })
report_change s number completes g0 kept over h runs there o k =
    let f : Facts s = facts_of s h.settled in
    let after : Progress = settle (reported_first number completes s) in
    let changes : Group → Group = settled_group number completes s in
    let pick : filter (has_request number) s.groups ≡ g0 ∷ [] =
    picked_with 0 s.groups number g0 (counted_from (map (λ q. q.number.0) (requests_of s.groups)) h.numbered.requests) there in
    let hs : List Group = map (change_where (has_request number) changes) s.groups in
    let groups : fold put s.groups (changes g0 ∷ []) ≡ after.groups =
    put_one (has_request number) changes s.groups g0 (later_settled number completes s) h.numbered pick
    ∙ sym (groups_settled number completes s f) in
    let kept_are : kept ≡ after.kept =
    k ∙ ap (λ (l : List RequestNo). filter (λ x. not (is_among x.request l)) s.kept) o
    ∙ drop_one (has_request number) changes s.groups g0 s.kept (later_settled number completes s) h.numbered pick f.pending
    ∙ ap (λ (l : List Group). filter (λ x. is_pending_at l x.request) s.kept) (sym (groups_settled number completes s f))
    ∙ sym (kept_settled number completes s f) in
    let c : Change = record { now = s.moment; groups = changes g0 ∷ []; kept = kept; running = others number s.running } in
    let does : changed s c ≡ reported number completes s =
    same_progress (changed s c) after (sym (len_settled number completes s)) (sym (moment_settled number completes s)) groups kept_are
    (sym (running_settled number completes s f)) ∙ sym (reported_is number completes s) in
    record {
      does = does;
      can = record {
        later = subst (λ (l : List Group). AllZip IsLater s.groups l) (sym (groups_settled number completes s f) ∙ sym groups)
            (all_later (has_request number) changes (later_settled number completes s) s.groups);
        told =
            subst (λ (l : List Group). AreTold s.groups (changes g0 ∷ []) l) (sym (groups_settled number completes s f) ∙ sym groups)
            (told_one (has_request number) changes s.groups g0 (later_settled number completes s) h.numbered pick);
        sound = subst IsSound (sym does) (reported_sound s number completes h runs);
      };
    }

-- ---- what is told

same_none : (test : RequestState → Bool) → ((x : RequestState) → (is_pending x && test x) ≡ false) → (qs : List Request) → became test qs qs ≡ []
same_none test h [] = refl
same_none test h (q ∷ qs) = ap (λ (b : Bool). cond b (q.number ∷ became test qs qs) (became test qs qs)) (h q.state) ∙ same_none test h qs

not_canceled : (x : RequestState) → (is_pending x && is_in Canceled x) ≡ false
not_canceled Pending = refl
not_canceled Completed = refl
not_canceled WindowExpired = refl
not_canceled Canceled = refl

not_expired : (x : RequestState) → (is_pending x && is_in WindowExpired x) ≡ false
not_expired Pending = refl
not_expired Completed = refl
not_expired WindowExpired = refl
not_expired Canceled = refl

told : (test : RequestState → Bool) → ((x : RequestState) → (is_pending x && test x) ≡ false)
    → (s : Progress) (number : RequestNo) (completes : Bool) (g0 : Group) → IsSound s → group_with s.groups number ≡ Some g0
    → became_in test s.groups (reported number completes s).groups ≡ became test g0.requests (settled_group number completes s g0).requests
told test none s number completes g0 h there =
    let changes : Group → Group = settled_group number completes s in
    let p : Group → Bool = has_request number in
    let pick : filter p s.groups ≡ g0 ∷ [] =
    picked_with 0 s.groups number g0 (counted_from (map (λ q. q.number.0) (requests_of s.groups)) h.numbered.requests) there in
    let gives : Group → List RequestNo = λ g. became test g.requests (change_where p changes g).requests in
    ap (λ (x : Progress). became_in test s.groups x.groups) (reported_is number completes s)
    ∙ ap (became_in test s.groups) (groups_settled number completes s (facts_of s h.settled))
    ∙ became_groups test (change_where p changes) (later_where p changes (later_settled number completes s)) s.groups
    ∙ sym (gathered_by p gives (λ g no. ap (λ (x : Group). became test g.requests x.requests) ((choose p changes g).1 no)
    ∙ same_none test none g.requests) s.groups)
    ∙ ap (flat_map gives) pick ∙ append-nil (gives g0)
    ∙ ap (λ (x : Group). became test g0.requests x.requests) ((choose p changes g0).0 (picked_passes p s.groups g0 pick))

pub told_canceled : (s : Progress) (number : RequestNo) (completes : Bool) (g0 : Group) → IsSound s → group_with s.groups number ≡ Some g0
    → became_in (is_in Canceled) s.groups (reported number completes s).groups ≡ became (is_in Canceled) g0.requests
    (settled_group number completes s g0).requests
told_canceled = told (is_in Canceled) not_canceled

pub told_expired : (s : Progress) (number : RequestNo) (completes : Bool) (g0 : Group) → IsSound s → group_with s.groups number ≡ Some g0
    → became_in (is_in WindowExpired) s.groups (reported number completes s).groups ≡ became (is_in WindowExpired) g0.requests
    (settled_group number completes s g0).requests
told_expired = told (is_in WindowExpired) not_expired

-- the same of what was computed step by step
pub report_found : (s : Progress) (number : RequestNo) (completes : Bool) (g0 after : Group) (over : List RequestNo) (running : List Observation)
    (c : Change) → IsSound s → is_placed s.running number ≡ true → group_with s.groups number ≡ Some g0
    → running ≡ others number s.running → after ≡ turned running s.moment (finished number completes g0) → over ≡ became is_over g0.requests after.requests
    → c ≡ record { now = s.moment; groups = after ∷ []; kept = filter (λ o. not (is_among o.request over)) s.kept; running = running }
    → IsReport s number completes c
report_found s number completes g0 after over running c h runs there r a o e =
    let kept : List Observation = filter (λ x. not (is_among x.request over)) s.kept in
    let is : after ≡ settled_group number completes s g0 = a ∙ ap (λ (l : List Observation). turned l s.moment (finished number completes g0)) r in
    let first : Change = record { now = s.moment; groups = settled_group number completes s g0 ∷ []; kept = kept; running = others number s.running } in
    let same : first ≡ c =
    ap (λ (g : Group). let x : Change = record { now = s.moment; groups = g ∷ []; kept = kept; running = others number s.running } in x) (sym is)
    ∙ ap (λ (l : List Observation). let x : Change = record { now = s.moment; groups = after ∷ []; kept = kept; running = l } in x) (sym r) ∙ sym e in
    subst (IsReport s number completes) same
    (report_change s number completes g0 kept over h runs there (o ∙ ap (λ (g : Group). became is_over g0.requests g.requests) is) refl)

pub told_found : (s : Progress) (number : RequestNo) (completes : Bool) (g0 after : Group) (running : List Observation)
    → running ≡ others number s.running → after ≡ turned running s.moment (finished number completes g0) → after ≡ settled_group number completes s g0
told_found s number completes g0 after running r a = a ∙ ap (λ (l : List Observation). turned l s.moment (finished number completes g0)) r

pub later_finished : (number : RequestNo) (completes : Bool) (running : List Observation) (now : Sec) (g : Group)
    → IsLater g (turned running now (finished number completes g))
later_finished number completes running now g =
    later_then g (finished number completes g) (turned running now (finished number completes g))
    (elim completes as (λ b. IsLater g (cond b (completed number g) g)) [ true ↦ later_completed number g | false ↦ later_self g ])
    (later_turned running now (finished number completes g))
