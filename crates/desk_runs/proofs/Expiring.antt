-- A moment ends requests in one way alone: they become window expired.
use Rattle.std.proofs.Common.{◌≡◌, Bool, true, false, cond, ◌&&◌, List, [], ◌∷◌, ◌++◌, map, refl, sym, ◌∙◌, ap}
use Rattle.std.specs.List.{flat_map}
use Rattle.plan_base.specs.declared.number.RequestNo.{RequestNo}
use Rattle.plan_base.specs.declared.number.Sec.{Sec}
use Rattle.plan_base.specs.declared.state.RequestState.{RequestState}
use Rattle.plan_base.specs.declared.state.RequestState.TheVariants.{Pending, Completed, WindowExpired, Canceled}
use Rattle.plan_base.specs.States.{is_pending, is_over, is_window_expired}
use Rattle.desk_runs.specs.declared.group.Group.{Group}
use Rattle.desk_runs.specs.declared.group.Request.{Request}
use Rattle.desk_runs.specs.declared.observation.Observation.{Observation}
use Rattle.desk_runs.specs.Clock.{is_waiting, is_past, with_state, change_requests, with_past, is_lost, became, became_in, settle}
use Rattle.desk_runs.specs.Progress.{Progress}
use Rattle.desk_runs.specs.Turning.{turned}
use Rattle.desk_runs.proofs.Later.{later_turned}
use Rattle.desk_runs.proofs.Moves.{became_groups}
use Rattle.desk_runs.proofs.Sounds.{groups_after}

-- whether a pending request is over then is whether it is window expired
abbrev EndsAlike : Request → Request → Type 0
EndsAlike q r = (is_pending q.state && is_over r.state) ≡ (is_pending q.state && is_window_expired r.state)

stays : (s : RequestState) → (is_pending s && is_over s) ≡ (is_pending s && is_window_expired s)
stays Pending = refl
stays Completed = refl
stays WindowExpired = refl
stays Canceled = refl

-- a request that is window expired where the test holds
abbrev expired_where : Bool → Request → Request
expired_where b q = cond b (with_state WindowExpired q) q

alike_once : (a : Bool) (q : Request) → EndsAlike q (expired_where a q)
alike_once true q = refl
alike_once false q = stays q.state

alike_twice : (a b : Bool) (q : Request) → EndsAlike q (expired_where b (expired_where a q))
alike_twice a true q = refl
alike_twice a false q = alike_once a q

-- one request more of those that are told
told_more : (q r : Request) (ends expires : List RequestNo) → EndsAlike q r → ends ≡ expires
    → cond (is_pending q.state && is_over r.state) (r.number ∷ ends) ends ≡ cond (is_pending q.state && is_window_expired r.state) (r.number ∷ expires) expires
told_more q r ends expires alike same =
    ap (λ (b : Bool). cond b (r.number ∷ ends) ends) alike
    ∙ ap (λ (l : List RequestNo). cond (is_pending q.state && is_window_expired r.state) (r.number ∷ l) l) same

-- requests that are changed where one test holds, or one and then another
told_once : (a : Request → Bool) (qs : List Request) → let rs = map (λ q. expired_where (a q) q) qs in
    became is_over qs rs ≡ became is_window_expired qs rs
told_once a [] = refl
told_once a (q ∷ qs) = told_more q (expired_where (a q) q) _ _ (alike_once (a q) q) (told_once a qs)

told_twice : (a b : Request → Bool) (qs : List Request) → let rs = map (λ q. expired_where (b q) q) (map (λ q. expired_where (a q) q) qs) in
    became is_over qs rs ≡ became is_window_expired qs rs
told_twice a b [] = refl
told_twice a b (q ∷ qs) = told_more q (expired_where (b (expired_where (a q) q)) (expired_where (a q) q)) _ _
    (alike_twice (a q) (b (expired_where (a q) q)) q) (told_twice a b qs)

told_of_group : (running : List Observation) (now : Sec) (g : Group)
    → became is_over g.requests (turned running now g).requests ≡ became is_window_expired g.requests (turned running now g).requests
told_of_group running now g = by (is_lost (with_past running now g))
  where
    by : (b : Bool) → let h = cond b (change_requests (is_waiting running) WindowExpired (with_past running now g)) (with_past running now g) in
        became is_over g.requests h.requests ≡ became is_window_expired g.requests h.requests
    by true = told_twice (is_past running now) (is_waiting running) g.requests
    by false = told_once (is_past running now) g.requests

-- the requests that a moment ends are those that it has become window expired
pub expired_only : (s : Progress) → became_in is_over s.groups (settle s).groups ≡ became_in is_window_expired s.groups (settle s).groups
expired_only s =
    let f : Group → Group = turned (settle s).running s.moment in
    ap (became_in is_over s.groups) (groups_after s) ∙ became_groups is_over f (later_turned (settle s).running s.moment) s.groups ∙ each s.groups
    ∙ sym (became_groups is_window_expired f (later_turned (settle s).running s.moment) s.groups)
    ∙ sym (ap (became_in is_window_expired s.groups) (groups_after s))
  where
    each : (gs : List Group) → flat_map (λ g. became is_over g.requests (turned (settle s).running s.moment g).requests) gs
        ≡ flat_map (λ g. became is_window_expired g.requests (turned (settle s).running s.moment g).requests) gs
    each [] = refl
    each (g ∷ gs) = ap (λ (l : List RequestNo). l ++ flat_map (λ g. became is_over g.requests (turned (settle s).running s.moment g).requests) gs)
        (told_of_group (settle s).running s.moment g)
        ∙ ap (λ (l : List RequestNo). became is_window_expired g.requests (turned (settle s).running s.moment g).requests ++ l) (each gs)
