-- After a moment, a report or a withdrawal what is over stays as it is.
use Rattle.std.proofs.Common.{◌≡◌, ℕ, ◌+◌, ◌≤◌, Bool, true, false, cond, not, ◌&&◌, List, [], ◌∷◌, ◌++◌, length, map, All, get_or, refl, sym, ◌∙◌, ap}
use Rattle.std.proofs.Common.{subst, arith, inl, inr}
use Rattle.std.specs.List.{AllZip, list_any}
use Rattle.std.proofs.lemmas.Bool.{and_parts, or_cases, eqb-true}
use Rattle.std.proofs.lemmas.List.{length-append, length-map, get_or-map, get_or_append_left, get_or-append-add}
use Rattle.std.proofs.lemmas.List.Elements.{All-nil, All-cons, All-head, All-tail, All-weaker}
use Rattle.plan_base.specs.declared.number.GroupNo.{GroupNo}
use Rattle.plan_base.specs.declared.number.RequestNo.{RequestNo}
use Rattle.plan_base.specs.declared.number.Sec.{Sec}
use Rattle.plan_base.specs.declared.state.RequestState.{RequestState}
use Rattle.plan_base.specs.declared.state.RequestState.TheVariants.{WindowExpired, Completed, Canceled}
use Rattle.plan_base.specs.States.{is_pending}
use Rattle.desk_runs.specs.declared.group.Group.{Group}
use Rattle.desk_runs.specs.declared.group.Request.{Request}
use Rattle.desk_runs.specs.declared.observation.Observation.{Observation}
use Rattle.plan_base.specs.Operators.{is_oneof}
use Rattle.desk_runs.specs.Numbers.{requests_of, is_group, is_request, has_request, is_pending_at, is_placed}
use Rattle.desk_runs.specs.Progress.{Progress}
use Rattle.desk_runs.specs.Clock.{is_waiting, is_past, with_state, change_requests, with_past, is_lost, with_lost, settle, at_moment}
use Rattle.desk_runs.specs.Turning.{turned}
use Rattle.desk_runs.specs.Reports.{canceled, completed, without_running, with_completed, reported, withdrawn}
use Rattle.desk_runs.specs.Sound.{IsSound}
use Rattle.desk_runs.specs.Laws.{IsOverStill, StaysOver}
use Rattle.desk_runs.proofs.Lists.{of_choice, all_of}
use Rattle.desk_runs.proofs.Sounds.{groups_after}
use Rattle.desk_runs.proofs.Places.{IsCountedFrom, counted_from, counted_head, counted_tail}
use Rattle.desk_runs.proofs.Moves.{number_beyond, pending_flat}
use Rattle.desk_runs.proofs.Single.{change_where}
use Rattle.desk_runs.proofs.Known.{placed_pending}

-- ---- requests

-- in another state where it passes, which only a pending one does
over_choice : (b : Bool) (state : RequestState) (q : Request) → (b ≡ true → is_pending q.state ≡ true) → IsOverStill q (cond b (with_state state q) q)
over_choice true state q h = λ over. let bad : true ≡ false = sym (h refl) ∙ over in cc
over_choice false state q h = λ over. refl

-- only pending ones pass
abbrev OnlyPending : (Request → Bool) → Request → Type 0
OnlyPending test q = test q ≡ true → is_pending q.state ≡ true

over_requests : (test : Request → Bool) (state : RequestState) (qs : List Request) → All (OnlyPending test) qs
    → AllZip IsOverStill qs (map (λ q. cond (test q) (with_state state q) q) qs)
over_requests test state [] h = tt
over_requests test state (q ∷ qs) h =
    (over_choice (test q) state q (All-head (OnlyPending test) q qs h), over_requests test state qs (All-tail (OnlyPending test) q qs h))

over_same : (qs : List Request) → AllZip IsOverStill qs qs
over_same [] = tt
over_same (q ∷ qs) = (λ over. refl, over_same qs)

over_twice : (q r t : Request) → IsOverStill q r → IsOverStill r t → IsOverStill q t
over_twice q r t h k = λ over. let first : r.state ≡ q.state = h over in k (ap is_pending first ∙ over) ∙ first

over_lists : (xs ys zs : List Request) → AllZip IsOverStill xs ys → AllZip IsOverStill ys zs → AllZip IsOverStill xs zs
over_lists [] [] [] h k = tt
over_lists [] [] (z ∷ zs) h k = absurd k
over_lists [] (y ∷ ys) zs h k = absurd h
over_lists (x ∷ xs) [] zs h k = absurd h
over_lists (x ∷ xs) (y ∷ ys) [] h k = absurd k
over_lists (x ∷ xs) (y ∷ ys) (z ∷ zs) h k = (over_twice x y z h.0 k.0, over_lists xs ys zs h.1 k.1)

over_join : (us vs xs ys : List Request) → AllZip IsOverStill us vs → AllZip IsOverStill xs ys → AllZip IsOverStill (us ++ xs) (vs ++ ys)
over_join [] [] xs ys h k = k
over_join [] (b ∷ vs) xs ys h k = absurd h
over_join (a ∷ us) [] xs ys h k = absurd h
over_join (a ∷ us) (b ∷ vs) xs ys h k = (h.0, over_join us vs xs ys h.1 k)

-- ---- groups

abbrev IsOverIn : Group → Group → Type 0
IsOverIn g h = AllZip IsOverStill g.requests h.requests

waiting_pending : (running : List Observation) (q : Request) → OnlyPending (is_waiting running) q
waiting_pending running q e = (and_parts (is_pending q.state) (not (is_placed running q.number)) e).0

past_pending : (running : List Observation) (now : Sec) (q : Request) → OnlyPending (is_past running now) q
past_pending running now q e = waiting_pending running q (and_parts _ (is_waiting running q) e).1

over_turned : (running : List Observation) (now : Sec) (g : Group) → IsOverIn g (turned running now g)
over_turned running now g =
    let past : Group = with_past running now g in
    over_lists g.requests past.requests (with_lost running past).requests
    (over_requests (is_past running now) WindowExpired g.requests (all_of (OnlyPending (is_past running now)) g.requests (past_pending running now)))
    (of_choice (λ (x : Group). IsOverIn past x) (is_lost past) (change_requests (is_waiting running) WindowExpired past) past
    (λ t. over_requests (is_waiting running) WindowExpired past.requests (all_of (OnlyPending (is_waiting running)) past.requests (waiting_pending running)))
    (λ f. over_same past.requests))

over_canceled : (g : Group) → IsOverIn g (canceled g)
over_canceled g = over_requests (λ q. is_pending q.state) Canceled g.requests (all_of (OnlyPending (λ q. is_pending q.state)) g.requests (λ q e. e))

over_completed : (number : RequestNo) (g : Group) → All (OnlyPending (is_request number)) g.requests → IsOverIn g (completed number g)
over_completed number g h =
    let done : Group = change_requests (is_request number) Completed g in
    let first : IsOverIn g done = over_requests (is_request number) Completed g.requests h in
    of_choice (λ (x : Group). IsOverIn g x) (is_oneof g.op) (canceled done) done
    (λ t. over_lists g.requests done.requests (canceled done).requests first (over_canceled done)) (λ f. first)

over_map : (f : Group → Group) (gs : List Group) → All (λ g. IsOverIn g (f g)) gs → AllZip IsOverStill (requests_of gs) (requests_of (map f gs))
over_map f [] h = tt
over_map f (g ∷ gs) h =
    over_join g.requests (f g).requests (requests_of gs) (requests_of (map f gs)) (All-head (λ x. IsOverIn x (f x)) g gs h)
    (over_map f gs (All-tail (λ x. IsOverIn x (f x)) g gs h))

-- ---- a moment and a withdrawal

over_after : (s : Progress) → StaysOver s (settle s)
over_after s =
    let turns : Group → Group = turned (settle s).running s.moment in
    subst (λ (gs : List Group). AllZip IsOverStill (requests_of s.groups) (requests_of gs)) (sym (groups_after s))
    (over_map turns s.groups (all_of (λ g. IsOverIn g (turns g)) s.groups (over_turned (settle s).running s.moment)))

pub moment_leaves_over : (s : Progress) (now : Sec) → StaysOver s (settle (at_moment now s))
moment_leaves_over s now = over_after (at_moment now s)

-- where what a test picks is changed
over_where : (p : Group → Bool) (f : Group → Group) (g : Group) → IsOverIn g (f g) → IsOverIn g (change_where p f g)
over_where p f g h = of_choice (λ (x : Group). IsOverIn g x) (p g) (f g) g (λ t. h) (λ n. over_same g.requests)

pub withdrawal_leaves_over : (s : Progress) (number : GroupNo) → StaysOver s (withdrawn number s)
withdrawal_leaves_over s number =
    over_map (change_where (is_group number) canceled) s.groups
    (all_of (λ g. IsOverIn g (change_where (is_group number) canceled g)) s.groups (λ g. over_where (is_group number) canceled g (over_canceled g)))

-- ---- a report

-- no request further on has the number
none_further : (b : ℕ) (number : RequestNo) (xs : List Request) → IsCountedFrom b (map (λ q. q.number.0) xs) → number.0 ≤ b
    → All (OnlyPending (is_request number)) xs
none_further b number xs h low = λ k d l is.
    let len : length (map (λ q. q.number.0) xs) ≡ length xs = length-map xs (λ q. q.number.0) in
    let at : get_or (map (λ q. q.number.0) xs) k 0 ≡ b + k + 1 = h k (omega arith) in
    let stands : (get_or xs k d).number.0 ≡ b + k + 1 = sym (get_or-map (λ q. q.number.0) xs k d 0 l) ∙ at in
    let same : (get_or xs k d).number.0 ≡ number.0 = eqb-true (get_or xs k d).number.0 number.0 is in
    absurd (omega arith)

-- where the request with the number is pending, no other has the number
only_pending : (b : ℕ) (number : RequestNo) (xs : List Request) → IsCountedFrom b (map (λ q. q.number.0) xs)
    → list_any (λ q. is_request number q && is_pending q.state) xs ≡ true → All (OnlyPending (is_request number)) xs
only_pending b number [] h e = All-nil (OnlyPending (is_request number))
only_pending b number (x ∷ xs) h e =
    let first : x.number.0 ≡ b + 1 = counted_head b x.number.0 (map (λ q. q.number.0) xs) h in
    let tail : IsCountedFrom (b + 1) (map (λ q. q.number.0) xs) = counted_tail b x.number.0 (map (λ q. q.number.0) xs) h in
    elim (or_cases (is_request number x && is_pending x.state) (list_any (λ q. is_request number q && is_pending q.state) xs) e) [
      | inl here ↦
          let parts = and_parts (is_request number x) (is_pending x.state) here in
          let same : x.number.0 ≡ number.0 = eqb-true x.number.0 number.0 parts.0 in
          let low : number.0 ≤ b + 1 = omega arith in
          All-cons (OnlyPending (is_request number)) x xs (λ is. parts.1) (none_further (b + 1) number xs tail low)
      | inr there ↦
          All-cons (OnlyPending (is_request number)) x xs
          (λ is.
          let same : x.number.0 ≡ number.0 = eqb-true x.number.0 number.0 is in
          let low : number.0 ≤ b + 1 = omega arith in
          let bad : false ≡ true = sym (number_beyond (b + 1) number xs tail low (λ q. is_pending q.state)) ∙ there in cc)
          (only_pending (b + 1) number xs tail there)
    ]

-- what holds of all requests holds of those of each group
each_group : (P : Request → Type 0) (gs : List Group) → All P (requests_of gs) → All (λ g. All P g.requests) gs
each_group P [] h = All-nil (λ g. All P g.requests)
each_group P (g ∷ gs) h =
    let len : length (g.requests ++ requests_of gs) ≡ length g.requests + length (requests_of gs) = length-append g.requests (requests_of gs) in
    All-cons (λ x. All P x.requests) g gs
    (λ k d l. subst P (get_or_append_left g.requests (requests_of gs) d k l) (h k d (omega arith)))
    (each_group P gs (λ k d l. subst P (get_or-append-add g.requests (requests_of gs) k d) (h (length g.requests + k) d (omega arith))))

-- of the requests with the number of a running one all are pending
running_pending : (s : Progress) (number : RequestNo) → IsSound s → is_placed s.running number ≡ true
    → All (λ g. All (OnlyPending (is_request number)) g.requests) s.groups
running_pending s number h runs =
    let pending : is_pending_at s.groups number ≡ true = placed_pending s.groups s.running number h.running runs in
    each_group (OnlyPending (is_request number)) s.groups
    (only_pending 0 number (requests_of s.groups) (counted_from (map (λ q. q.number.0) (requests_of s.groups)) h.numbered.requests)
    (sym (pending_flat number s.groups) ∙ pending))

pub report_leaves_over : (s : Progress) (number : RequestNo) (completes : Bool) → IsSound s → is_placed s.running number ≡ true
    → StaysOver s (reported number completes s)
report_leaves_over s number true h runs =
    let done : Progress = with_completed number (without_running number s) in
    let changes : Group → Group = change_where (has_request number) (completed number) in
    let first : StaysOver s done =
    over_map changes s.groups
    (All-weaker (λ g. All (OnlyPending (is_request number)) g.requests) (λ g. IsOverIn g (changes g))
    (λ g all. over_where (has_request number) (completed number) g (over_completed number g all)) s.groups (running_pending s number h runs)) in
    over_lists (requests_of s.groups) (requests_of done.groups) (requests_of (settle done).groups) first (over_after done)
report_leaves_over s number false h runs = over_after (without_running number s)
