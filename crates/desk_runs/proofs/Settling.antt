-- A moment settles the state: what it does once it would not do again.
use Rattle.std.proofs.Common.{◌≡◌, Bool, true, false, cond, not, nat_le, List, ◌++◌, map, filter, All, refl, sym, ◌∙◌, ap, subst}
use Rattle.std.proofs.lemmas.List.{append-nil}
use Rattle.std.proofs.lemmas.List.Elements.{All-map, All-weaker, All-filter, filter_passes}
use Rattle.std.proofs.lemmas.List.Folds.{map_fixed}
use Rattle.plan_base.specs.declared.number.Sec.{Sec}
use Rattle.plan_base.specs.declared.state.RequestState.{RequestState}
use Rattle.plan_base.specs.declared.state.RequestState.TheVariants.{WindowExpired}
use Rattle.desk_runs.specs.declared.group.Group.{Group}
use Rattle.desk_runs.specs.declared.group.Request.{Request}
use Rattle.desk_runs.specs.declared.observation.Observation.{Observation}
use Rattle.desk_runs.specs.Numbers.{is_pending_at}
use Rattle.desk_runs.specs.Progress.{Progress}
use Rattle.desk_runs.specs.Clock.{has_begun, has_ended, beginning, started, stopped, is_waiting, is_past, with_state, change_requests, with_past}
use Rattle.desk_runs.specs.Clock.{is_lost, with_lost, expired, lost, dropped, settle}
use Rattle.desk_runs.proofs.Lists.{filter_all, filter_none, fails_after, passes_opposite, and_false, of_choice, all_of}

-- a request in this state where it passes
pub changed_request : (Request → Bool) → RequestState → Request → Request
changed_request test state q = cond (test q) (with_state state q) q

-- where no request passes, the group stays
pub change_none : (test : Request → Bool) (state : RequestState) (g : Group) → All (λ q. test q ≡ false) g.requests → change_requests test state g ≡ g
change_none test state g h =
    ap (λ (rs : List Request). let r : Group = record g { requests = rs } in r)
    (map_fixed (λ q. cond (test q) (with_state state q) q) g.requests
    (All-weaker (λ q. test q ≡ false) (λ q. cond (test q) (with_state state q) q ≡ q)
    (λ q e. of_choice (λ (r : Request). r ≡ q) (test q) (with_state state q) q (λ t. let bad : false ≡ true = sym e ∙ t in
    cc) (λ f. refl)) g.requests h))

-- a request that was expired where it was past is no longer past
past_done : (running : List Observation) (now : Sec) (q : Request) → is_past running now (cond (is_past running now q) (with_state WindowExpired q) q) ≡ false
past_done running now q = of_choice (λ (r : Request). is_past running now r ≡ false) (is_past running now q) (with_state WindowExpired q) q
    (λ t. and_false (nat_le q.last.0 now.0)) (λ f. f)

-- nor is it past once it was expired where it was waiting
past_stays : (running : List Observation) (now : Sec) (q : Request) → is_past running now q ≡ false
    → is_past running now (cond (is_waiting running q) (with_state WindowExpired q) q) ≡ false
past_stays running now q e = of_choice (λ (r : Request). is_past running now r ≡ false) (is_waiting running q) (with_state WindowExpired q) q
    (λ t. and_false (nat_le q.last.0 now.0)) (λ f. e)

waiting_done : (running : List Observation) (q : Request) → is_waiting running (cond (is_waiting running q) (with_state WindowExpired q) q) ≡ false
waiting_done running q = of_choice (λ (r : Request). is_waiting running r ≡ false) (is_waiting running q) (with_state WindowExpired q) q (λ t. refl) (λ f. f)

-- of a group whose past requests were expired none is past
pub none_past : (running : List Observation) (now : Sec) (g : Group) → All (λ q. is_past running now q ≡ false) (with_past running now g).requests
none_past running now g = All-map (λ q. is_past running now q ≡ false) (λ q. cond (is_past running now q) (with_state WindowExpired q) q) g.requests
    (all_of (λ q. is_past running now (cond (is_past running now q) (with_state WindowExpired q) q) ≡ false) g.requests (past_done running now))

none_past_later : (running : List Observation) (now : Sec) (g : Group) → All (λ q. is_past running now q ≡ false) g.requests
    → All (λ q. is_past running now q ≡ false) (with_lost running g).requests
none_past_later running now g h =
    of_choice (λ (x : Group). All (λ q. is_past running now q ≡ false) x.requests) (is_lost g) (change_requests (is_waiting running) WindowExpired g) g
    (λ t. All-map (λ q. is_past running now q ≡ false) (λ q. cond (is_waiting running q) (with_state WindowExpired q) q) g.requests
    (All-weaker (λ q. is_past running now q ≡ false)
    (λ q. is_past running now (cond (is_waiting running q) (with_state WindowExpired q) q) ≡ false) (past_stays running now) g.requests h))
    (λ f. h)

-- where none waits, a lost group stays
pub lost_none : (running : List Observation) (g : Group) → All (λ q. is_waiting running q ≡ false) g.requests → with_lost running g ≡ g
lost_none running g h = of_choice (λ (x : Group). x ≡ g) (is_lost g) (change_requests (is_waiting running) WindowExpired g) g
    (λ t. change_none (is_waiting running) WindowExpired g h) (λ f. refl)

-- a group that isn't lost stays
pub lost_not : (running : List Observation) (g : Group) → is_lost g ≡ false → with_lost running g ≡ g
lost_not running g e = of_choice (λ (x : Group). x ≡ g) (is_lost g) (change_requests (is_waiting running) WindowExpired g) g
    (λ t. let bad : false ≡ true = sym e ∙ t in cc) (λ f. refl)

-- the two steps on groups would do nothing more
pub past_fixed : (running : List Observation) (now : Sec) (g : Group)
    → with_past running now (with_lost running (with_past running now g)) ≡ with_lost running (with_past running now g)
past_fixed running now g = change_none (is_past running now) WindowExpired (with_lost running (with_past running now g))
    (none_past_later running now (with_past running now g) (none_past running now g))

pub lost_fixed : (running : List Observation) (g : Group) → with_lost running (with_lost running g) ≡ with_lost running g
lost_fixed running g =
    of_choice (λ (x : Group). with_lost running x ≡ x) (is_lost g) (change_requests (is_waiting running) WindowExpired g) g
    (λ t. lost_none running (change_requests (is_waiting running) WindowExpired g)
    (All-map (λ q. is_waiting running q ≡ false) (λ q. cond (is_waiting running q) (with_state WindowExpired q) q) g.requests
    (all_of (λ q. is_waiting running (cond (is_waiting running q) (with_state WindowExpired q) q) ≡ false) g.requests (waiting_done running))))
    (λ f. lost_not running g f)

-- what is so of a settled state, step by step
pub record Facts (s : Progress) : Type 0 where
  pub begun : All (λ o. has_begun s.len s.moment o ≡ false) s.kept
  pub ended : All (λ o. has_ended s.len s.moment o ≡ false) s.running
  pub past : All (λ g. with_past s.running s.moment g ≡ g) s.groups
  pub missed : All (λ g. with_lost s.running g ≡ g) s.groups
  pub pending : All (λ o. is_pending_at s.groups o.request ≡ true) s.kept

started_is : (s : Progress) → Facts s → started s ≡ s
started_is s f =
    ap (λ (k : List Observation). let r : Progress = record s { kept = k; running = s.running ++ beginning s } in
    r) (filter_all (λ o. not (has_begun s.len s.moment o)) s.kept (passes_opposite (has_begun s.len s.moment) s.kept f.begun))
    ∙ ap (λ (k : List Observation). let r : Progress = record s { running = k } in
    r) (ap (λ (l : List Observation). s.running ++ l) (filter_none (has_begun s.len s.moment) s.kept f.begun) ∙ append-nil s.running)

stopped_is : (s : Progress) → Facts s → stopped s ≡ s
stopped_is s f = ap (λ (k : List Observation). let r : Progress = record s { running = k } in
    r) (filter_all (λ o. not (has_ended s.len s.moment o)) s.running (passes_opposite (has_ended s.len s.moment) s.running f.ended))

expired_is : (s : Progress) → Facts s → expired s ≡ s
expired_is s f = ap (λ (k : List Group). let r : Progress = record s { groups = k } in r) (map_fixed (with_past s.running s.moment) s.groups f.past)

lost_is : (s : Progress) → Facts s → lost s ≡ s
lost_is s f = ap (λ (k : List Group). let r : Progress = record s { groups = k } in r) (map_fixed (with_lost s.running) s.groups f.missed)

dropped_is : (s : Progress) → Facts s → dropped s ≡ s
dropped_is s f = ap (λ (k : List Observation). let r : Progress = record s { kept = k } in
    r) (filter_all (λ o. is_pending_at s.groups o.request) s.kept f.pending)

-- where each step would do nothing, the state is settled
pub settled_by : (s : Progress) → Facts s → settle s ≡ s
settled_by s f =
    ap (λ (x : Progress). dropped (lost (expired (stopped x)))) (started_is s f) ∙ ap (λ (x : Progress). dropped (lost (expired x))) (stopped_is s f)
    ∙ ap (λ (x : Progress). dropped (lost x)) (expired_is s f) ∙ ap dropped (lost_is s f) ∙ dropped_is s f

-- after a moment each step would do nothing
pub facts_after : (s : Progress) → Facts (settle s)
facts_after s =
    let running : List Observation = (stopped (started s)).running in
    record {
      begun = All-filter (λ o. is_pending_at (settle s).groups o.request) (λ o. has_begun s.len s.moment o ≡ false)
          (filter (λ o. not (has_begun s.len s.moment o)) s.kept) (fails_after (has_begun s.len s.moment) s.kept);
      ended = fails_after (has_ended s.len s.moment) (started s).running;
      past = All-map (λ g. with_past running s.moment g ≡ g) (with_lost running) (map (with_past running s.moment) s.groups)
          (All-map (λ g. with_past running s.moment (with_lost running g) ≡ with_lost running g) (with_past running s.moment) s.groups
          (all_of (λ g. with_past running s.moment (with_lost running (with_past running s.moment g))
          ≡ with_lost running (with_past running s.moment g)) s.groups (past_fixed running s.moment)));
      missed = All-map (λ g. with_lost running g ≡ g) (with_lost running) (map (with_past running s.moment) s.groups)
          (all_of (λ g. with_lost running (with_lost running g) ≡ with_lost running g)
          (map (with_past running s.moment) s.groups) (lost_fixed running));
      pending = filter_passes (λ o. is_pending_at (settle s).groups o.request) (filter (λ o. not (has_begun s.len s.moment o)) s.kept);
    }

-- a moment settles
pub settle_settles : (s : Progress) → settle (settle s) ≡ settle s
settle_settles s = settled_by (settle s) (facts_after s)

-- in a settled state each step would do nothing
pub facts_of : (s : Progress) → settle s ≡ s → Facts s
facts_of s e = subst Facts e (facts_after s)
