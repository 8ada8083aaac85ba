-- A withdrawal leaves a sound state.
use Rattle.std.proofs.Common.{◌≡◌, ℕ, ◌≤◌, Bool, true, false, cond, not, List, [], ◌∷◌, ◌++◌, map, filter, All, get_or, refl, sym, ◌∙◌, ap, subst}
use Rattle.std.proofs.Common.{arith, inl, inr, Some}
use Rattle.std.specs.List.{AllZip, list_any, count_by, fold}
use Rattle.std.proofs.lemmas.Bool.{and_left, and_right, or_cases, or_left, or_right, eqb-true, cases_Bool, cond-true, cond-false, false_from_ne_true}
use Rattle.std.proofs.lemmas.List.Elements.{All-nil, All-cons, All-head, All-tail, All-map, All-weaker, All-filter, filter_passes}
use Rattle.std.proofs.lemmas.List.Folds.{list_any_none}
use Rattle.std.proofs.lemmas.List.Filters.{sum_by-filter_both}
use Rattle.std.proofs.lemmas.List.Sums.{sum_by-append}
use Rattle.plan_base.specs.declared.number.GroupNo.{GroupNo}
use Rattle.plan_base.specs.declared.number.RequestNo.{RequestNo}
use Rattle.plan_base.specs.declared.number.Sec.{Sec}
use Rattle.plan_base.specs.declared.state.RequestState.TheVariants.{WindowExpired, Canceled}
use Rattle.desk_runs.specs.declared.change.Change.{Change}
use Rattle.desk_runs.specs.declared.group.Group.{Group}
use Rattle.desk_runs.specs.declared.group.Request.{Request}
use Rattle.desk_runs.specs.declared.observation.Observation.{Observation}
use Rattle.plan_base.specs.States.{is_pending, is_over}
use Rattle.desk_runs.specs.Numbers.{is_group, group_at, is_request, has_request, is_pending_at, is_placed}
use Rattle.desk_runs.specs.Progress.{Progress}
use Rattle.desk_runs.specs.Clock.{has_begun, is_waiting, is_past, with_state, with_past, with_lost, became}
use Rattle.desk_runs.specs.Reports.{canceled, withdrawn}
use Rattle.desk_runs.specs.Changes.{put, changed}
use Rattle.desk_runs.specs.Sound.{IsSound, IsIdle, IsWithdrawable, IsLater, AreTold, CanChange}
use Rattle.desk_runs.proofs.Lists.{of_choice, all_of}
use Rattle.desk_runs.proofs.Settling.{change_none, lost_none, Facts, facts_of, settled_by}
use Rattle.desk_runs.proofs.Later.{later_canceled, numbered_later, once_later}
use Rattle.desk_runs.proofs.Sounds.{is_pending_request, has_pending, placed_here}
use Rattle.desk_runs.proofs.Places.{counted_from}
use Rattle.desk_runs.proofs.Moves.{is_among}
use Rattle.desk_runs.proofs.Single.{change_where, all_later, picked_from, put_one, told_one, drop_one}

-- none of a canceled group's requests is pending
none_pending : (g : Group) → All (λ q. is_pending q.state ≡ false) (canceled g).requests
none_pending g =
    All-map (λ q. is_pending q.state ≡ false) (λ q. cond (is_pending q.state) (with_state Canceled q) q) g.requests
    (all_of (λ q. is_pending (cond (is_pending q.state) (with_state Canceled q) q).state ≡ false) g.requests
    (λ q. of_choice (λ (r : Request). is_pending r.state ≡ false) (is_pending q.state) (with_state Canceled q) q (λ t. refl) (λ f. f)))

none_waiting : (running : List Observation) (g : Group) → All (λ q. is_waiting running q ≡ false) (canceled g).requests
none_waiting running g = All-weaker (λ q. is_pending q.state ≡ false) (λ q. is_waiting running q ≡ false)
    (λ q e. and_left (is_pending q.state) (not (is_placed running q.number)) e) (canceled g).requests (none_pending g)

past_canceled : (running : List Observation) (now : Sec) (g : Group) → with_past running now (canceled g) ≡ canceled g
past_canceled running now g =
    change_none (is_past running now) WindowExpired (canceled g)
    (All-weaker (λ q. is_waiting running q ≡ false) (λ q. is_past running now q ≡ false) (λ q e. and_right _ (is_waiting running q) e)
    (canceled g).requests (none_waiting running g))

lost_canceled : (running : List Observation) (g : Group) → with_lost running (canceled g) ≡ canceled g
lost_canceled running g = lost_none running (canceled g) (none_waiting running g)

-- what is fixed for each group stays so where one is canceled
fixed_where : (T : Group → Group) (p : Group → Bool) → ((g : Group) → T (canceled g) ≡ canceled g) → (gs : List Group) → All (λ g. T g ≡ g) gs
    → All (λ g. T g ≡ g) (map (change_where p canceled) gs)
fixed_where T p h gs fixed =
    All-map (λ g. T g ≡ g) (change_where p canceled) gs
    (All-weaker (λ g. T g ≡ g) (λ g. T (change_where p canceled g) ≡ change_where p canceled g)
    (λ g e. of_choice (λ (x : Group). T x ≡ x) (p g) (canceled g) g (λ t. h g) (λ f. e)) gs fixed)

-- the facts of a settled state after a withdrawal
pub withdrawn_facts : (s : Progress) (n : GroupNo) → Facts s → Facts (withdrawn n s)
withdrawn_facts s n f = record {
  begun = All-filter (λ o. is_pending_at (withdrawn n s).groups o.request) (λ o. has_begun s.len s.moment o ≡ false) s.kept f.begun;
  ended = f.ended;
  past = fixed_where (with_past s.running s.moment) (is_group n) (past_canceled s.running s.moment) s.groups f.past;
  missed = fixed_where (with_lost s.running) (is_group n) (lost_canceled s.running) s.groups f.missed;
  pending = filter_passes (λ o. is_pending_at (withdrawn n s).groups o.request) s.kept;
}

idle_has_none : (running : List Observation) (number : RequestNo) (qs : List Request) → is_placed running number ≡ true
    → All (λ q. is_placed running q.number ≡ false) qs → list_any (is_pending_request number) qs ≡ false
idle_has_none running number qs placed idle =
    list_any_none (is_pending_request number) qs
    (All-weaker (λ q. is_placed running q.number ≡ false) (λ q. is_pending_request number q ≡ false)
    (λ q none. and_left (is_request number q) (is_pending q.state) (false_from_ne_true (is_request number q)
    (λ is. let bad : false ≡ true = sym none ∙ ap (λ (n : ℕ). is_placed running (record { 0 = n })) (eqb-true q.number.0 number.0 is) ∙ placed in cc))) qs idle)

-- a running request stays pending where an idle group is canceled
pending_where : (running : List Observation) (number : RequestNo) (p : Group → Bool) → is_placed running number ≡ true → (gs : List Group)
    → All (λ g. p g ≡ true → IsIdle running g) gs → is_pending_at gs number ≡ true → is_pending_at (map (change_where p canceled) gs) number ≡ true
pending_where running number p placed [] idle e = e
pending_where running number p placed (g ∷ gs) idle e = elim (or_cases (has_pending number g) (is_pending_at gs number) e) [
  | inl here ↦
      or_left (has_pending number (change_where p canceled g)) (is_pending_at (map (change_where p canceled) gs) number)
      (of_choice (λ (x : Group). has_pending number x ≡ true) (p g) (canceled g) g
      (λ t. let bad : false ≡ true = sym (idle_has_none running number g.requests placed (All-head (λ x. p x ≡ true → IsIdle running x) g gs idle t))
      ∙ here in cc) (λ f. here))
  | inr there ↦
      or_right (has_pending number (change_where p canceled g)) (is_pending_at (map (change_where p canceled) gs) number)
      (pending_where running number p placed gs (All-tail (λ x. p x ≡ true → IsIdle running x) g gs idle) there)
]

-- no more observations pass a test where some are no longer kept
pub fewer_kept : (p q : Observation → Bool) (kept running : List Observation) → count_by q (filter p kept ++ running) ≤ count_by q (kept ++ running)
fewer_kept p q kept running =
    let e1 = sum_by-filter_both p (λ o. not (p o)) (λ o. refl) (λ o. cond (q o) 1 0) kept in
    let e2 = sum_by-append (λ o. cond (q o) 1 0) kept running in
    let e3 = sum_by-append (λ o. cond (q o) 1 0) (filter p kept) running in
    omega (arith, e1, e2, e3)

-- a withdrawal of a group of which no request runs leaves a sound state
pub withdrawn_sound : (s : Progress) (n : GroupNo) → IsSound s → All (λ g. is_group n g ≡ true → IsIdle s.running g) s.groups → IsSound (withdrawn n s)
withdrawn_sound s n h idle =
    let later : AllZip IsLater s.groups (withdrawn n s).groups = all_later (is_group n) canceled later_canceled s.groups in
    record {
      numbered = numbered_later s.groups (withdrawn n s).groups later h.numbered;
      settled = settled_by (withdrawn n s) (withdrawn_facts s n (facts_of s h.settled));
      running = λ k d l. pending_where s.running (get_or s.running k d).request (is_group n) (placed_here s.running k d l) s.groups idle (h.running k d l);
      once = once_later s.groups (withdrawn n s).groups (s.kept ++ s.running) ((withdrawn n s).kept ++ s.running) later
          (λ g. fewer_kept (λ o. is_pending_at (withdrawn n s).groups o.request) (λ o. has_request o.request g) s.kept s.running) h.once;
    }

picked_idle : (p : Group → Bool) (gs : List Group) (g0 : Group) (running : List Observation) → filter p gs ≡ g0 ∷ [] → IsIdle running g0
    → All (λ g. p g ≡ true → IsIdle running g) gs
picked_idle p [] g0 running e idle = All-nil (λ g. p g ≡ true → IsIdle running g)
picked_idle p (g ∷ gs) g0 running e idle = elim (cases_Bool (p g)) [
  | inl hit ↦
      let parts : g ∷ filter p gs ≡ g0 ∷ [] = sym (cond-true (p g) (g ∷ filter p gs) (filter p gs) hit) ∙ e in
      let same : g ≡ g0 = cc in
      let none : filter p gs ≡ [] = cc in
      All-cons (λ x. p x ≡ true → IsIdle running x) g gs (λ t. subst (IsIdle running) (sym same) idle) (none_idle p gs running none)
  | inr miss ↦
      All-cons (λ x. p x ≡ true → IsIdle running x) g gs (λ t. let bad : false ≡ true = sym miss ∙ t in cc)
      (picked_idle p gs g0 running (sym (cond-false (p g) (g ∷ filter p gs) (filter p gs) miss) ∙ e) idle)
]
  where
    none_idle : (p : Group → Bool) (gs : List Group) (running : List Observation) → filter p gs ≡ [] → All (λ g. p g ≡ true → IsIdle running g) gs
    none_idle p [] running e = All-nil (λ g. p g ≡ true → IsIdle running g)
    none_idle p (g ∷ gs) running e = elim (cases_Bool (p g)) [
      | inl hit ↦ let bad : g ∷ filter p gs ≡ [] = sym (cond-true (p g) (g ∷ filter p gs) (filter p gs) hit) ∙ e in cc
      | inr miss ↦
          All-cons (λ x. p x ≡ true → IsIdle running x) g gs (λ t. let bad : false ≡ true = sym miss ∙ t in cc)
          (none_idle p gs running (sym (cond-false (p g) (g ∷ filter p gs) (filter p gs) miss) ∙ e))
    ]

-- the change that is found for a withdrawal is what it does, and it can be made
pub record IsWithdrawal (s : Progress) (n : GroupNo) (c : Change) : Type 0 where
  pub does : changed s c ≡ withdrawn n s
  pub can : CanChange s c

pub withdrawal : (s : Progress) (n : GroupNo) (g0 : Group) (kept : List Observation) (over : List RequestNo) → IsSound s
    → group_at s.groups n ≡ Some g0 → IsIdle s.running g0 → over ≡ became is_over g0.requests (canceled g0).requests
    → kept ≡ filter (λ o. not (is_among o.request over)) s.kept
    → IsWithdrawal s n (record { now = s.moment; groups = canceled g0 ∷ []; kept = kept; running = s.running })
withdrawal s n g0 kept over h at idle o k =
    let pick : filter (is_group n) s.groups ≡ g0 ∷ [] = picked_from 0 s.groups n g0 (counted_from (map (λ g. g.number.0) s.groups) h.numbered.groups) at in
    let groups : fold put s.groups (canceled g0 ∷ []) ≡ (withdrawn n s).groups = put_one (is_group n) canceled s.groups g0 later_canceled h.numbered pick in
    let kept_are : kept ≡ (withdrawn n s).kept =
    k ∙ ap (λ (l : List RequestNo). filter (λ x. not (is_among x.request l)) s.kept) o
    ∙ drop_one (is_group n) canceled s.groups g0 s.kept later_canceled h.numbered pick (facts_of s h.settled).pending in
    let c : Change = record { now = s.moment; groups = canceled g0 ∷ []; kept = kept; running = s.running } in
    let does : changed s c ≡ withdrawn n s =
    ap (λ (l : List Group). let p : Progress = record s { groups = l; kept = kept } in p) groups
    ∙ ap (λ (l : List Observation). let p : Progress = record s { groups = (withdrawn n s).groups; kept = l } in p) kept_are in
    record {
      does = does;
      can = record {
        later = subst (λ (p : Progress). AllZip IsLater s.groups p.groups) (sym does) (all_later (is_group n) canceled later_canceled s.groups);
        told = subst (λ (p : Progress). AreTold s.groups (canceled g0 ∷ []) p.groups) (sym does)
            (told_one (is_group n) canceled s.groups g0 later_canceled h.numbered pick);
        sound = subst IsSound (sym does) (withdrawn_sound s n h (picked_idle (is_group n) s.groups g0 s.running pick idle));
      };
    }

-- the same of what was computed step by step
pub withdrawal_found : (s : Progress) (n : GroupNo) (g0 after : Group) (over : List RequestNo) (running : List Observation) (c : Change) → IsSound s
    → group_at s.groups n ≡ Some g0 → IsIdle s.running g0 → after ≡ canceled g0
    → over ≡ became is_over g0.requests after.requests → running ≡ s.running
    → c ≡ record { now = s.moment; groups = after ∷ []; kept = filter (λ o. not (is_among o.request over)) s.kept; running = running } → IsWithdrawal s n c
withdrawal_found s n g0 after over running c h at idle a o r e =
    let kept : List Observation = filter (λ x. not (is_among x.request over)) s.kept in
    let first : Change = record { now = s.moment; groups = canceled g0 ∷ []; kept = kept; running = s.running } in
    let same : first ≡ c =
    ap (λ (g : Group). let x : Change = record { now = s.moment; groups = g ∷ []; kept = kept; running = s.running } in x) (sym a)
    ∙ ap (λ (l : List Observation). let x : Change = record { now = s.moment; groups = after ∷ []; kept = kept; running = l } in x) (sym r) ∙ sym e in
    subst (IsWithdrawal s n) same (withdrawal s n g0 kept over h at idle (o ∙ ap (λ (g : Group). became is_over g0.requests g.requests) a) refl)

-- the group that is there is the one that was found
pub idle_found : (s : Progress) (n : GroupNo) (g : Group) → IsWithdrawable n s → group_at s.groups n ≡ Some g → IsIdle s.running g
idle_found s n g w e = let both : Some w.group ≡ Some g = sym w.there ∙ e in let same : w.group ≡ g = cc in subst (IsIdle s.running) same w.idle

-- a withdrawal that may be made leaves a sound state
pub withdrawable_sound : (s : Progress) (n : GroupNo) → IsSound s → IsWithdrawable n s → IsSound (withdrawn n s)
withdrawable_sound s n h w =
    let pick : filter (is_group n) s.groups ≡ w.group ∷ [] =
    picked_from 0 s.groups n w.group (counted_from (map (λ g. g.number.0) s.groups) h.numbered.groups) w.there in
    withdrawn_sound s n h (picked_idle (is_group n) s.groups w.group s.running pick w.idle)
