-- What is told of a moment, and that the change that is looked for is what it does.
use Rattle.std.proofs.Common.{◌≡◌, ◌≢◌, ℕ, suc, ◌+◌, ◌≤◌, ◌==◌, Bool, true, false, cond, not, ◌&&◌, ◌||◌, List, [], ◌∷◌, ◌++◌, length, map, filter}
use Rattle.std.proofs.Common.{All, get_or, refl, sym, ◌∙◌, ap, subst, arith, inl, inr}
use Rattle.std.specs.List.{AllZip, list_any, flat_map, fold}
use Rattle.std.proofs.lemmas.Bool.{and_parts, and_right, and_left, or_cases, eq-eqb, true_from_ne_false, cases_eq}
use Rattle.std.proofs.lemmas.List.Elements.{All-weaker, All-filter, length_all_zip}
use Rattle.std.proofs.lemmas.List.Folds.{list_any_none, list_any-append}
use Rattle.plan_base.proofs.Lists.{filter_within}
use Rattle.plan_base.specs.declared.number.RequestNo.{RequestNo}
use Rattle.plan_base.specs.declared.number.Sec.{Sec}
use Rattle.plan_base.specs.declared.state.RequestState.{RequestState}
use Rattle.desk_runs.specs.declared.group.Group.{Group}
use Rattle.desk_runs.specs.declared.group.Request.{Request}
use Rattle.desk_runs.specs.declared.observation.Observation.{Observation}
use Rattle.plan_base.specs.States.{is_pending, is_over}
use Rattle.desk_runs.specs.States.{is_open}
use Rattle.desk_runs.specs.Numbers.{requests_of, is_request, is_pending_at, is_placed}
use Rattle.desk_runs.specs.Progress.{Progress}
use Rattle.plan_base.specs.declared.number.GroupNo.{GroupNo}
use Rattle.desk_runs.specs.Clock.{has_begun, is_waiting, is_past, is_lost, became, became_in, settle, at_moment}
use Rattle.desk_runs.specs.Turning.{turned, is_touched, groups_of}
use Rattle.desk_runs.specs.declared.change.Change.{Change}
use Rattle.desk_runs.specs.Changes.{put, changed}
use Rattle.desk_runs.specs.Sound.{IsSound, IsNumbered, IsLaterRequest, IsLater, AreTold, CanChange}
use Rattle.desk_runs.proofs.Lists.{of_choice}
use Rattle.desk_runs.proofs.Settling.{facts_of}
use Rattle.desk_runs.proofs.Later.{later_turned, later_map, later_flat}
use Rattle.desk_runs.proofs.Sounds.{groups_after, settle_sound, ready_at}
use Rattle.desk_runs.proofs.Places.{IsCountedFrom, counted_from, counted_head, counted_tail, opened_groups, put_all, differs}
use Rattle.desk_runs.proofs.Turns.{any_false, untouched}
use Rattle.desk_runs.proofs.Told.{told_of}

-- ---- what became of requests, group by group

join_choice : (b : Bool) (n : RequestNo) (u v w : List RequestNo) → u ≡ v ++ w → cond b (n ∷ u) u ≡ cond b (n ∷ v) v ++ w
join_choice true n u v w e = ap (λ (l : List RequestNo). n ∷ l) e
join_choice false n u v w e = e

became_append : (test : RequestState → Bool) (us vs xs ys : List Request) → length us ≡ length vs
    → became test (us ++ xs) (vs ++ ys) ≡ became test us vs ++ became test xs ys
became_append test [] [] xs ys e = refl
became_append test [] (b ∷ vs) xs ys e = absurd (omega arith)
became_append test (a ∷ us) [] xs ys e = absurd (omega arith)
became_append test (a ∷ us) (b ∷ vs) xs ys e =
    join_choice (is_pending a.state && test b.state) b.number (became test (us ++ xs) (vs ++ ys)) (became test us vs) (became test xs ys)
    (became_append test us vs xs ys (omega arith))

-- what became of all requests is what became of those of each group
pub became_groups : (test : RequestState → Bool) (f : Group → Group) → ((g : Group) → IsLater g (f g)) → (gs : List Group)
    → became_in test gs (map f gs) ≡ flat_map (λ g. became test g.requests (f g).requests) gs
became_groups test f h [] = refl
became_groups test f h (g ∷ gs) =
    became_append test g.requests (f g).requests (requests_of gs) (requests_of (map f gs))
    (length_all_zip IsLaterRequest g.requests (f g).requests (h g).requests)
    ∙ ap (λ (l : List RequestNo). became test g.requests (f g).requests ++ l) (became_groups test f h gs)

keep_or_skip : (b : Bool) (g : Group) (gs : List Group) (h : Group → List RequestNo) (rest : List RequestNo) → (b ≡ false → h g ≡ [])
    → flat_map h gs ≡ rest → flat_map h (cond b (g ∷ gs) gs) ≡ h g ++ rest
keep_or_skip true g gs h rest none e = ap (λ (l : List RequestNo). h g ++ l) e
keep_or_skip false g gs h rest none e = e ∙ ap (λ (l : List RequestNo). l ++ rest) (sym (none refl))

-- what all groups give is given by those that pass, where no other gives anything
pub gathered_by : (p : Group → Bool) (h : Group → List RequestNo) → ((g : Group) → p g ≡ false → h g ≡ []) → (gs : List Group)
    → flat_map h (filter p gs) ≡ flat_map h gs
gathered_by p h none [] = refl
gathered_by p h none (g ∷ gs) = keep_or_skip (p g) g (filter p gs) h (flat_map h gs) (none g) (gathered_by p h none gs)

became_stuck : (test : RequestState → Bool) (xs ys : List Request) → All (λ q. is_pending q.state ≡ false) xs → became test xs ys ≡ []
became_stuck test [] ys h = refl
became_stuck test (x ∷ xs) [] h = refl
became_stuck test (x ∷ xs) (y ∷ ys) h =
    let off : (is_pending x.state && test y.state) ≡ false = and_left (is_pending x.state) (test y.state) (h 0 x (omega arith)) in
    ap (λ (b : Bool). cond b (y.number ∷ became test xs ys) (became test xs ys)) off ∙ became_stuck test xs ys (λ k d l. h (suc k) d (omega arith))

-- nothing becomes of the requests of a closed group
pub became_closed : (test : RequestState → Bool) (g h : Group) → is_open g ≡ false → became test g.requests h.requests ≡ []
became_closed test g h e = became_stuck test g.requests h.requests (any_false (λ q. is_pending q.state) g.requests e)

-- a closed group isn't touched
pub closed_untouched : (running : List Observation) (now : Sec) (g : Group) → is_open g ≡ false → is_touched running now g ≡ false
closed_untouched running now g e =
    let idle : All (λ q. is_waiting running q ≡ false) g.requests =
    All-weaker (λ q. is_pending q.state ≡ false) (λ q. is_waiting running q ≡ false)
    (λ q h. and_left (is_pending q.state) (not (is_placed running q.number)) h) g.requests (any_false (λ q. is_pending q.state) g.requests e) in
    let none : list_any (is_waiting running) g.requests ≡ false = list_any_none (is_waiting running) g.requests idle in
    let past : list_any (is_past running now) g.requests ≡ false =
    list_any_none (is_past running now) g.requests
    (All-weaker (λ q. is_waiting running q ≡ false) (λ q. is_past running now q ≡ false)
    (λ q h. and_right _ (is_waiting running q) h) g.requests idle) in
    ap (λ (b : Bool). b || (is_lost g && list_any (is_waiting running) g.requests)) past ∙ and_right (is_lost g) (list_any (is_waiting running) g.requests) none

touched_open : (running : List Observation) (now : Sec) (g : Group) → is_touched running now g ≡ true → is_open g ≡ true
touched_open running now g e = true_from_ne_false (is_open g) (λ closed. let bad : false ≡ true = sym (closed_untouched running now g closed) ∙ e in cc)

-- the touched groups are among the open ones
pub touched_groups : (running : List Observation) (now : Sec) (gs : List Group)
    → filter (is_touched running now) (filter is_open gs) ≡ filter (is_touched running now) gs
touched_groups running now gs = filter_within is_open (is_touched running now) gs (touched_open running now)

-- ---- observations of requests that are no longer pending

-- whether the number is among those
abbrev pub is_among : RequestNo → List RequestNo → Bool
is_among number numbers = list_any (λ r. r.0 == number.0) numbers

pub number_beyond : (b : ℕ) (number : RequestNo) (xs : List Request) → IsCountedFrom b (map (λ q. q.number.0) xs) → number.0 ≤ b
    → (test : Request → Bool) → list_any (λ q. is_request number q && test q) xs ≡ false
number_beyond b number [] h e test = refl
number_beyond b number (x ∷ xs) h e test =
    let first : x.number.0 ≡ b + 1 = counted_head b x.number.0 (map (λ q. q.number.0) xs) h in
    let ne : x.number.0 ≢ number.0 = λ same. absurd (omega arith) in
    ap (λ (v : Bool). (v && test x) || list_any (λ q. is_request number q && test q) xs) (differs x.number.0 number.0 ne)
    ∙ number_beyond (b + 1) number xs (counted_tail b x.number.0 (map (λ q. q.number.0) xs) h) (omega arith) test

-- nor is it among those that became something
became_beyond : (b : ℕ) (number : RequestNo) (test : RequestState → Bool) (xs ys : List Request) → IsCountedFrom b (map (λ q. q.number.0) xs)
    → AllZip IsLaterRequest xs ys → number.0 ≤ b → is_among number (became test xs ys) ≡ false
became_beyond b number test [] ys h z e = refl
became_beyond b number test (x ∷ xs) [] h z e = absurd z
became_beyond b number test (x ∷ xs) (y ∷ ys) h z e =
    let first : x.number.0 ≡ b + 1 = counted_head b x.number.0 (map (λ q. q.number.0) xs) h in
    let same : y.number.0 ≡ x.number.0 = ap (λ (n : RequestNo). n.0) z.0.number in
    let ne : y.number.0 ≢ number.0 = λ e2. absurd (omega arith) in
    let rest : is_among number (became test xs ys) ≡ false =
    became_beyond (b + 1) number test xs ys (counted_tail b x.number.0 (map (λ q. q.number.0) xs) h) z.1 (omega arith) in
    of_choice (λ (l : List RequestNo). is_among number l ≡ false) (is_pending x.state && test y.state) (y.number ∷ became test xs ys) (became test xs ys)
    (λ t. ap (λ (v : Bool). v || is_among number (became test xs ys)) (differs y.number.0 number.0 ne) ∙ rest)
    (λ f. rest)

abbrev pending_in : RequestNo → List Request → Bool
pending_in number qs = list_any (λ q. is_request number q && is_pending q.state) qs

-- the first request has the number: whether it is pending later is whether it isn't among those that are over
over_first : (number : RequestNo) (p : Bool) (tail : Bool) (n : RequestNo) (rest : List RequestNo) → tail ≡ false → is_among number rest ≡ false
    → (n.0 == number.0) ≡ true
    → (p || tail) ≡ not (is_among number (cond (not p) (n ∷ rest) rest))
over_first number true tail n rest t r e = sym (ap not r)
over_first number false tail n rest t r e = t ∙ sym (ap (λ (v : Bool). not (v || is_among number rest)) e)

over_later : (number : RequestNo) (c : Bool) (n : RequestNo) (rest : List RequestNo) → (n.0 == number.0) ≡ false
    → is_among number (cond c (n ∷ rest) rest) ≡ is_among number rest
over_later number true n rest e = ap (λ (v : Bool). v || is_among number rest) e
over_later number false n rest e = refl

pending_or_over : (b : ℕ) (number : RequestNo) (xs ys : List Request) → IsCountedFrom b (map (λ q. q.number.0) xs) → AllZip IsLaterRequest xs ys
    → pending_in number xs ≡ true
    → pending_in number ys ≡ not (is_among number (became is_over xs ys))
pending_or_over b number [] ys h z e = cc
pending_or_over b number (x ∷ xs) [] h z e = absurd z
pending_or_over b number (x ∷ xs) (y ∷ ys) h z e =
    let first : x.number.0 ≡ b + 1 = counted_head b x.number.0 (map (λ q. q.number.0) xs) h in
    let same : y.number.0 ≡ x.number.0 = ap (λ (n : RequestNo). n.0) z.0.number in
    let tail : IsCountedFrom (b + 1) (map (λ q. q.number.0) xs) = counted_tail b x.number.0 (map (λ q. q.number.0) xs) h in
    elim (cases_eq x.number.0 number.0) [
      | inl here ↦
          let low : number.0 ≤ b + 1 = omega arith in
          let none : pending_in number xs ≡ false = number_beyond (b + 1) number xs tail low (λ q. is_pending q.state) in
          let is : (x.number.0 == number.0) ≡ true = eq-eqb x.number.0 number.0 here in
          let pending : is_pending x.state ≡ true = elim (or_cases (is_request number x && is_pending x.state) (pending_in number xs) e) [
            | inl now ↦ (and_parts (is_request number x) (is_pending x.state) now).1
            | inr later ↦ let bad : false ≡ true = sym none ∙ later in cc
          ] in
          let is_too : (y.number.0 == number.0) ≡ true = ap (λ (n : ℕ). n == number.0) same ∙ is in
          let gone : is_among number (became is_over xs ys) ≡ false = became_beyond (b + 1) number is_over xs ys tail z.1 low in
          let none_too : pending_in number ys ≡ false = later_beyond (b + 1) number xs ys tail z.1 low in
          ap (λ (v : Bool). (v && is_pending y.state) || pending_in number ys) is_too
          ∙ over_first number (is_pending y.state) (pending_in number ys) y.number (became is_over xs ys) none_too gone is_too
          ∙ ap (λ (v : Bool). not (is_among number (cond (v && is_over y.state) (y.number ∷ became is_over xs ys) (became is_over xs ys)))) (sym pending)
      | inr there ↦
          let isnt : (x.number.0 == number.0) ≡ false = differs x.number.0 number.0 there in
          let isnt_too : (y.number.0 == number.0) ≡ false = ap (λ (n : ℕ). n == number.0) same ∙ isnt in
          let before : pending_in number xs ≡ true = sym (ap (λ (v : Bool). (v && is_pending x.state) || pending_in number xs) isnt) ∙ e in
          ap (λ (v : Bool). (v && is_pending y.state) || pending_in number ys) isnt_too ∙ pending_or_over (b + 1) number xs ys tail z.1 before
          ∙ ap not (sym (over_later number (is_pending x.state && is_over y.state) y.number (became is_over xs ys) isnt_too))
    ]
  where
    later_beyond : (b : ℕ) (number : RequestNo) (xs ys : List Request) → IsCountedFrom b (map (λ q. q.number.0) xs) → AllZip IsLaterRequest xs ys
        → number.0 ≤ b → pending_in number ys ≡ false
    later_beyond b number [] [] h z e = refl
    later_beyond b number [] (y ∷ ys) h z e = absurd z
    later_beyond b number (x ∷ xs) [] h z e = absurd z
    later_beyond b number (x ∷ xs) (y ∷ ys) h z e =
        let first : x.number.0 ≡ b + 1 = counted_head b x.number.0 (map (λ q. q.number.0) xs) h in
        let same : y.number.0 ≡ x.number.0 = ap (λ (n : RequestNo). n.0) z.0.number in
        let ne : y.number.0 ≢ number.0 = λ e2. absurd (omega arith) in
        ap (λ (v : Bool). (v && is_pending y.state) || pending_in number ys) (differs y.number.0 number.0 ne)
        ∙ later_beyond (b + 1) number xs ys (counted_tail b x.number.0 (map (λ q. q.number.0) xs) h) z.1 (omega arith)

-- whether a request is pending, over all requests and group by group
pub pending_flat : (number : RequestNo) (gs : List Group) → is_pending_at gs number ≡ pending_in number (requests_of gs)
pending_flat number [] = refl
pending_flat number (g ∷ gs) =
    ap (λ (v : Bool). pending_in number g.requests || v) (pending_flat number gs)
    ∙ sym (list_any-append (λ q. is_request number q && is_pending q.state) g.requests (requests_of gs))

pub filter_same : (p q : Observation → Bool) (os : List Observation) → All (λ o. p o ≡ q o) os → filter p os ≡ filter q os
filter_same p q [] h = refl
filter_same p q (o ∷ os) h =
    ap (λ (v : Bool). cond v (o ∷ filter p os) (filter p os)) (h 0 o (omega arith))
    ∙ ap (λ (l : List Observation). cond (q o) (o ∷ l) l) (filter_same p q os (λ k d l. h (suc k) d (omega arith)))

-- dropping observations of requests that are over is dropping those of requests that are no longer pending
pub dropped_by : (gs hs : List Group) (os : List Observation) → IsNumbered gs → AllZip IsLater gs hs → All (λ o. is_pending_at gs o.request ≡ true) os
    → filter (λ o. not (is_among o.request (became_in is_over gs hs))) os ≡ filter (λ o. is_pending_at hs o.request) os
dropped_by gs hs os numbered later pending =
    filter_same (λ o. not (is_among o.request (became_in is_over gs hs))) (λ o. is_pending_at hs o.request) os
    (λ k d l.
    let number : RequestNo = (get_or os k d).request in
    sym (pending_flat number hs
    ∙ pending_or_over 0 number (requests_of gs) (requests_of hs)
    (counted_from (map (λ q. q.number.0) (requests_of gs)) numbered.requests) (later_flat gs hs later)
    (sym (pending_flat number gs) ∙ pending k d l)))

-- ---- what is looked for at a moment

-- the numbers of the open groups
abbrev pub open_numbers : List Group → List GroupNo
open_numbers gs = map (λ g. g.number) (filter is_open gs)

-- what is looked for
abbrev pub found_groups : List Observation → Sec → List Group → List Group
found_groups running now gs = map (turned running now) (filter (is_touched running now) (groups_of gs (open_numbers gs)))

abbrev pub found_over : List Observation → Sec → List Group → List RequestNo
found_over running now gs = flat_map (λ g. became is_over g.requests (turned running now g).requests) (groups_of gs (open_numbers gs))

found_touched : (running : List Observation) (now : Sec) (gs : List Group) → IsNumbered gs
    → found_groups running now gs ≡ map (turned running now) (filter (is_touched running now) gs)
found_touched running now gs n =
    ap (λ (l : List Group). map (turned running now) (filter (is_touched running now) l)) (opened_groups gs n.groups)
    ∙ ap (map (turned running now)) (touched_groups running now gs)

-- the groups that are found, put in their places, are those after the moment
groups_found : (s : Progress) → IsNumbered s.groups → fold put s.groups (found_groups (settle s).running s.moment s.groups) ≡ (settle s).groups
groups_found s n =
    let running : List Observation = (settle s).running in
    ap (fold put s.groups) (found_touched running s.moment s.groups n)
    ∙ put_all (is_touched running s.moment) (turned running s.moment) s.groups (untouched running s.moment)
    (λ g. (later_turned running s.moment g).number) n.groups
    ∙ sym (groups_after s)

-- the requests that are found over are those that the moment ends
pub over_found : (s : Progress) → IsNumbered s.groups → found_over (settle s).running s.moment s.groups ≡ became_in is_over s.groups (settle s).groups
over_found s n =
    let running : List Observation = (settle s).running in
    let gives : Group → List RequestNo = λ g. became is_over g.requests (turned running s.moment g).requests in
    ap (flat_map gives) (opened_groups s.groups n.groups) ∙ gathered_by is_open gives (λ g e. became_closed is_over g (turned running s.moment g) e) s.groups
    ∙ sym (became_groups is_over (turned running s.moment) (later_turned running s.moment) s.groups) ∙ ap (became_in is_over s.groups) (sym (groups_after s))

-- groups only go on
pub later_after : (s : Progress) → AllZip IsLater s.groups (settle s).groups
later_after s = subst (AllZip IsLater s.groups) (sym (groups_after s))
    (later_map (turned (settle s).running s.moment) (later_turned (settle s).running s.moment) s.groups)

-- a change of this moment, these groups and these observations
abbrev pub change_of : Sec → List Group → List Observation → List Observation → Change
change_of now groups kept running = record { now = now; groups = groups; kept = kept; running = running }

-- the change that is found is what the moment does
pub moved : (s : Progress) (now : Sec) (kept running : List Observation) (groups : List Group) (over : List RequestNo) → IsSound s
    → running ≡ (settle (at_moment now s)).running → groups ≡ found_groups running now s.groups
    → over ≡ found_over running now s.groups → kept ≡ filter (λ o. not (is_among o.request over)) (filter (λ o. not (has_begun s.len now o)) s.kept)
    → changed s (change_of now groups kept running) ≡ settle (at_moment now s)
moved s now kept running groups over sound r g o k =
    let t : Progress = at_moment now s in
    let groups_are : fold put s.groups groups ≡ (settle t).groups =
    ap (fold put s.groups) (g ∙ ap (λ (l : List Observation). found_groups l now s.groups) r) ∙ groups_found t sound.numbered in
    let over_are : over ≡ became_in is_over s.groups (settle t).groups = o ∙ ap (λ (l : List Observation). found_over l now s.groups) r
    ∙ over_found t sound.numbered in
    let pending : All (λ x. is_pending_at s.groups x.request ≡ true) (filter (λ x. not (has_begun s.len now x)) s.kept) =
    All-filter (λ x. not (has_begun s.len now x)) (λ x. is_pending_at s.groups x.request ≡ true) s.kept (facts_of s sound.settled).pending in
    let kept_are : kept ≡ (settle t).kept =
    k ∙ ap (λ (l : List RequestNo). filter (λ x. not (is_among x.request l)) (filter (λ x. not (has_begun s.len now x)) s.kept)) over_are
    ∙ dropped_by s.groups (settle t).groups (filter (λ x. not (has_begun s.len now x)) s.kept) sound.numbered (later_after t) pending in
    ap (λ (l : List Group). let p : Progress = record s { moment = now; groups = l; kept = kept; running = running } in p) groups_are
    ∙ ap (λ (l : List Observation). let p : Progress = record s { moment = now; groups = (settle t).groups; kept = l; running = running } in p) kept_are
    ∙ ap (λ (l : List Observation). let p : Progress = record s { moment = now; groups = (settle t).groups; kept = (settle t).kept; running = l } in p) r

-- what is told as expired is what the moment ends
pub told_over : (s : Progress) (now : Sec) (running : List Observation) (over : List RequestNo) → IsSound s
    → running ≡ (settle (at_moment now s)).running → over ≡ found_over running now s.groups
    → over ≡ became_in is_over s.groups (settle (at_moment now s)).groups
told_over s now running over sound r o = o ∙ ap (λ (l : List Observation). found_over l now s.groups) r ∙ over_found (at_moment now s) sound.numbered

-- and it can be made
pub can_move : (s : Progress) (now : Sec) (c : Change) → IsSound s → changed s c ≡ settle (at_moment now s)
    → c.groups ≡ found_groups (settle (at_moment now s)).running now s.groups → CanChange s c
can_move s now c sound e g =
    let t : Progress = at_moment now s in
    let running : List Observation = (settle t).running in
    record {
      later = subst (λ (p : Progress). AllZip IsLater s.groups p.groups) (sym e) (later_after t);
      told =
          subst (λ (p : Progress). AreTold s.groups c.groups p.groups) (sym e)
          (told_of (is_touched running now) (turned running now) s.groups c.groups (settle t).groups sound.numbered
          (λ x. (later_turned running now x).number) (untouched running now)
          (g ∙ found_touched running now s.groups sound.numbered) (groups_after t));
      sound = subst IsSound (sym e) (settle_sound t (ready_at s now sound));
    }
