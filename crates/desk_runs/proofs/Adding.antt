-- A new group, or a publication, leaves a sound state.
use Rattle.std.proofs.Common.{◌≡◌, ◌≢◌, ℕ, zero, suc, ◌+◌, ◌-◌, ◌<◌, ◌≤◌, nat_le, Bool, true, false, ◌&&◌, ◌||◌, List, [], ◌∷◌, ◌++◌, length, map}
use Rattle.std.proofs.Common.{filter, All, get_or, replicate, refl, sym, ◌∙◌, ap, subst, arith, inl, inr, ◌⊎◌}
use Rattle.std.specs.List.{list_any}
use Rattle.std.proofs.lemmas.Bool.{leb-true, cases_lt, or_left, and_left, false_from_ne_true}
use Rattle.std.proofs.lemmas.List.{append-nil, append_assoc, length-append, length-map, map-append, get_or-map, get_or_append_left, get_or-append_right}
use Rattle.std.proofs.lemmas.List.Concat.{flat_map-append}
use Rattle.std.proofs.lemmas.List.Elements.{All-append, All-cons, All-nil, filter-append}
use Rattle.std.proofs.lemmas.List.Folds.{list_any_none, list_any-append}
use Rattle.std.proofs.lemmas.List.Sums.{length-filter}
use Rattle.plan_base.specs.declared.number.RequestNo.{RequestNo}
use Rattle.plan_base.specs.declared.number.Sec.{Sec}
use Rattle.plan_base.specs.declared.parts.Op.{Op}
use Rattle.plan_base.specs.declared.state.RequestState.TheVariants.{WindowExpired}
use Rattle.desk_runs.specs.declared.group.Ask.{Ask}
use Rattle.desk_runs.specs.declared.group.Group.{Group}
use Rattle.desk_runs.specs.declared.group.Request.{Request}
use Rattle.desk_runs.specs.declared.observation.Observation.{Observation}
use Rattle.plan_base.specs.States.{is_pending, is_window_expired}
use Rattle.plan_base.specs.Operators.{is_and, is_oneof}
use Rattle.desk_runs.specs.States.{is_open}
use Rattle.desk_runs.specs.Numbers.{requests_of, is_request, has_request, is_pending_at}
use Rattle.desk_runs.specs.Progress.{Progress}
use Rattle.desk_runs.specs.Clock.{is_past, with_past, with_lost}
use Rattle.desk_runs.specs.Adding.{requests_from, next_group, with_group, with_kept, CanPublish}
use Rattle.desk_runs.specs.Owners.{owners_from}
use Rattle.desk_runs.specs.Sound.{IsCounted, IsNumbered, IsSound, AllPending, placed_in}
use Rattle.desk_runs.proofs.Lists.{filter_none}
use Rattle.desk_runs.proofs.Settling.{change_none, lost_not, Facts, facts_of, settled_by}
use Rattle.desk_runs.proofs.Places.{IsCountedFrom, differs}
use Rattle.desk_runs.proofs.Moves.{pending_flat}

-- ---- publications

-- a publication that may be made leaves a sound state
pub published_sound : (s : Progress) (kept : List Observation) → IsSound s → CanPublish kept s → IsSound (with_kept kept s)
published_sound s kept h p =
    let f : Facts s = facts_of s h.settled in
    record {
      numbered = h.numbered;
      settled = settled_by (with_kept kept s) (record { begun = p.begun; ended = f.ended; past = f.past; missed = f.missed; pending = p.pending });
      running = h.running;
      once = p.once;
    }

-- ---- numbers of a new group

counted_more : (xs ys : List ℕ) → IsCounted xs → IsCountedFrom (length xs) ys → IsCounted (xs ++ ys)
counted_more xs ys h k = λ i l.
    let len : length (xs ++ ys) ≡ length xs + length ys = length-append xs ys in
    elim (cases_lt i (length xs)) [
      | inl low ↦ get_or_append_left xs ys 0 i low ∙ h i low
      | inr high ↦
          let at : get_or (xs ++ ys) i 0 ≡ get_or ys (i - length xs) 0 = get_or-append_right xs ys (length xs) i 0 refl high in
          let is : get_or ys (i - length xs) 0 ≡ length xs + (i - length xs) + 1 = k (i - length xs) (omega arith) in
          omega arith
    ]

counted_cons : (b : ℕ) (xs : List ℕ) → IsCountedFrom (b + 1) xs → IsCountedFrom b ((b + 1) ∷ xs)
counted_cons b xs h zero l = omega arith
counted_cons b xs h (suc i) l = let rest : get_or xs i 0 ≡ b + 1 + i + 1 = h i (omega arith) in omega arith

requests_counted : (b : ℕ) (asks : List Ask) → IsCountedFrom b (map (λ q. q.number.0) (requests_from (b + 1) asks))
requests_counted b [] = λ i l. absurd (omega arith)
requests_counted b (ask ∷ asks) = counted_cons b (map (λ q. q.number.0) (requests_from (b + 1 + 1) asks)) (requests_counted (b + 1) asks)

requests_push : (gs : List Group) (g : Group) → requests_of (gs ++ g ∷ []) ≡ requests_of gs ++ g.requests
requests_push gs g = flat_map-append (λ x. x.requests) gs (g ∷ []) ∙ ap (λ (l : List Request). requests_of gs ++ l) (append-nil g.requests)

pub added_numbered : (op : Op) (asks : List Ask) (s : Progress) → IsNumbered s.groups → IsNumbered (with_group op asks s).groups
added_numbered op asks s h =
    let g : Group = next_group op asks s in
    record {
      groups =
          subst IsCounted (sym (map-append (λ x. x.number.0) s.groups (g ∷ [])))
          (counted_more (map (λ x. x.number.0) s.groups) (g.number.0 ∷ []) h.groups
          (subst (λ (n : ℕ). IsCountedFrom n (g.number.0 ∷ [])) (sym (length-map s.groups (λ x. x.number.0))) (one (length s.groups))));
      requests =
          subst IsCounted (sym (ap (map (λ q. q.number.0)) (requests_push s.groups g) ∙ map-append (λ q. q.number.0) (requests_of s.groups) g.requests))
          (counted_more (map (λ q. q.number.0) (requests_of s.groups)) (map (λ q. q.number.0) g.requests) h.requests
          (subst (λ (n : ℕ). IsCountedFrom n (map (λ q. q.number.0) g.requests)) (sym (length-map (requests_of s.groups) (λ q. q.number.0)))
          (requests_counted (length (requests_of s.groups)) asks)));
    }
  where
    one : (n : ℕ) → IsCountedFrom n ((n + 1) ∷ [])
    one n zero l = omega arith
    one n (suc i) l = absurd (omega arith)

-- ---- a new group is settled

all_new : (T : Request → Type 0) (n : ℕ) (asks : List Ask) → ((q : Request) → is_pending q.state ≡ true → is_window_expired q.state ≡ false → T q)
    → All T (requests_from n asks)
all_new T n [] h = All-nil T
all_new T n (ask ∷ asks) h = All-cons T _ (requests_from (n + 1) asks) (h _ refl refl) (all_new T (n + 1) asks h)

never_past : (running : List Observation) (now : Sec) (n : ℕ) (asks : List Ask) → All (λ a. now.0 < a.last.0) asks
    → All (λ q. is_past running now q ≡ false) (requests_from n asks)
never_past running now n [] h = All-nil (λ q. is_past running now q ≡ false)
never_past running now n (ask ∷ asks) h =
    All-cons (λ q. is_past running now q ≡ false) _ (requests_from (n + 1) asks)
    (and_left (nat_le ask.last.0 now.0) _
    (false_from_ne_true (nat_le ask.last.0 now.0) (λ t. let low : ask.last.0 ≤ now.0 = leb-true ask.last.0 now.0 t in
    let high : now.0 < ask.last.0 = h 0 ask (omega arith) in absurd (omega arith))))
    (never_past running now (n + 1) asks (λ k d l. h (suc k) d (omega arith)))

pub new_past : (op : Op) (asks : List Ask) (s : Progress) → All (λ a. s.moment.0 < a.last.0) asks
    → with_past s.running s.moment (next_group op asks s) ≡ next_group op asks s
new_past op asks s h = change_none (is_past s.running s.moment) WindowExpired (next_group op asks s)
    (never_past s.running s.moment (length (requests_of s.groups) + 1) asks h)

pub new_lost : (op : Op) (asks : List Ask) (s : Progress) → with_lost s.running (next_group op asks s) ≡ next_group op asks s
new_lost op asks s =
    lost_not s.running (next_group op asks s)
    (and_none (is_and op) _ (list_any_none (λ q. is_window_expired q.state) (next_group op asks s).requests
    (all_new (λ q. is_window_expired q.state ≡ false) (length (requests_of s.groups) + 1) asks (λ q p e. e))))
  where
    and_none : (a b : Bool) → b ≡ false → (a && b) ≡ false
    and_none true b e = e
    and_none false b e = refl

-- ---- none of its requests is observed

-- a pending request has a number of one that is there
pub pending_low : (gs : List Group) (number : RequestNo) → IsNumbered gs → is_pending_at gs number ≡ true → number.0 ≤ length (requests_of gs)
pending_low gs number h e = by (cases_lt (length (requests_of gs)) number.0)
  where
    by : (length (requests_of gs) < number.0) ⊎ (number.0 ≤ length (requests_of gs)) → number.0 ≤ length (requests_of gs)
    by (inr low) = low
    by (inl high) =
        let none : is_pending_at gs number ≡ false = pending_flat number gs
        ∙ list_any_none (λ q. is_request number q && is_pending q.state) (requests_of gs) (λ k d l.
        let len : length (map (λ q. q.number.0) (requests_of gs)) ≡ length (requests_of gs) = length-map (requests_of gs) (λ q. q.number.0) in
        let at : get_or (map (λ q. q.number.0) (requests_of gs)) k 0 ≡ k + 1 = h.requests k (omega arith) in
        let is : (get_or (requests_of gs) k d).number.0 ≡ k + 1 = sym (get_or-map (λ q. q.number.0) (requests_of gs) k d 0 l) ∙ at in
        and_left (is_request number (get_or (requests_of gs) k d)) _
        (differs (get_or (requests_of gs) k d).number.0 number.0 (λ same. absurd (omega arith)))) in
        let bad : false ≡ true = sym none ∙ e in cc

-- a new group has none of the requests before it
pub new_free : (b : ℕ) (asks : List Ask) (number : RequestNo) → number.0 ≤ b → list_any (is_request number) (requests_from (b + 1) asks) ≡ false
new_free b [] number low = refl
new_free b (ask ∷ asks) number low =
    let ne : b + 1 ≢ number.0 = λ same. absurd (omega arith) in
    ap (λ (v : Bool). v || list_any (is_request number) (requests_from (b + 1 + 1) asks)) (differs (b + 1) number.0 ne)
    ∙ new_free (b + 1) asks number (omega arith)

none_placed : (op : Op) (asks : List Ask) (s : Progress) (os : List Observation) → IsNumbered s.groups → AllPending s.groups os
    → placed_in (next_group op asks s) os ≤ 1
none_placed op asks s os h pending =
    let g : Group = next_group op asks s in
    let none : filter (λ o. has_request o.request g) os ≡ [] =
    filter_none (λ o. has_request o.request g) os
    (λ k d l. new_free (length (requests_of s.groups)) asks (get_or os k d).request
    (pending_low s.groups (get_or os k d).request h (pending k d l))) in
    let count : placed_in g os ≡ 0 = sym (length-filter (λ o. has_request o.request g) os) ∙ ap length none in
    omega arith

more_pending : (gs : List Group) (g : Group) (os : List Observation) → AllPending gs os → AllPending (gs ++ g ∷ []) os
more_pending gs g os h = λ k d l.
    let number : RequestNo = (get_or os k d).request in
    list_any-append (λ x. list_any (λ q. is_request number q && is_pending q.state) x.requests) gs (g ∷ [])
    ∙ or_left (is_pending_at gs number) (is_pending_at (g ∷ []) number) (h k d l)

-- a new group whose windows have not passed leaves a sound state
pub added_sound : (op : Op) (asks : List Ask) (s : Progress) → IsSound s → All (λ a. s.moment.0 < a.last.0) asks → IsSound (with_group op asks s)
added_sound op asks s h late =
    let g : Group = next_group op asks s in
    let f : Facts s = facts_of s h.settled in
    record {
      numbered = added_numbered op asks s h.numbered;
      settled = settled_by (with_group op asks s) (record {
        begun = f.begun;
        ended = f.ended;
        past = All-append (λ x. with_past s.running s.moment x ≡ x) s.groups (g ∷ []) f.past
            (All-cons (λ x. with_past s.running s.moment x ≡ x) g [] (new_past op asks s late) (All-nil (λ x. with_past s.running s.moment x ≡ x)));
        missed = All-append (λ x. with_lost s.running x ≡ x) s.groups (g ∷ []) f.missed
            (All-cons (λ x. with_lost s.running x ≡ x) g [] (new_lost op asks s) (All-nil (λ x. with_lost s.running x ≡ x)));
        pending = more_pending s.groups g s.kept f.pending;
      });
      running = more_pending s.groups g s.running h.running;
      once = All-append (λ x. is_oneof x.op ≡ true → placed_in x (s.kept ++ s.running) ≤ 1) s.groups (g ∷ []) h.once
          (All-cons (λ x. is_oneof x.op ≡ true → placed_in x (s.kept ++ s.running) ≤ 1) g []
          (λ e. none_placed op asks s (s.kept ++ s.running) h.numbered
          (All-append (λ o. is_pending_at s.groups o.request ≡ true) s.kept s.running f.pending h.running))
          (All-nil (λ x. is_oneof x.op ≡ true → placed_in x (s.kept ++ s.running) ≤ 1)));
    }

-- ---- what is kept of it

pub opened_more : (op : Op) (asks : List Ask) (s : Progress) → 1 ≤ length asks
    → map (λ g. g.number) (filter is_open (with_group op asks s).groups) ≡ map (λ g. g.number) (filter is_open s.groups)
    ++ (next_group op asks s).number ∷ []
opened_more op [] s some = absurd (omega arith)
opened_more op (ask ∷ asks) s some =
    let g : Group = next_group op (ask ∷ asks) s in
    ap (map (λ x. x.number)) (filter-append is_open s.groups (g ∷ [])) ∙ map-append (λ x. x.number) (filter is_open s.groups) (g ∷ [])

constant : {X : Type 0} (i : ℕ) (xs : List X) → map (λ x. i) xs ≡ replicate (length xs) i
constant i [] = refl
constant i (x ∷ xs) = ap (λ (l : List ℕ). i ∷ l) (constant i xs)

pub owners_more : (i : ℕ) (gs : List Group) (g : Group) → owners_from i (gs ++ g ∷ []) ≡ owners_from i gs ++ replicate (length g.requests) (i + length gs)
owners_more i [] g =
    let place : i ≡ i + 0 = omega arith in
    append-nil (map (λ q. i) g.requests) ∙ constant i g.requests ∙ ap (replicate (length g.requests)) place
owners_more i (x ∷ gs) g =
    let place : i + 1 + length gs ≡ i + suc (length gs) = omega arith in
    ap (λ (l : List ℕ). map (λ q. i) x.requests ++ l)
    (owners_more (i + 1) gs g ∙ ap (λ (n : ℕ). owners_from (i + 1) gs ++ replicate (length g.requests) n) place)
    ∙ sym (append_assoc (map (λ q. i) x.requests) (owners_from (i + 1) gs) (replicate (length g.requests) (i + suc (length gs))))

pub requests_more : (op : Op) (asks : List Ask) (s : Progress)
    → length (requests_of (with_group op asks s).groups) ≡ length (requests_of s.groups) + length asks
requests_more op asks s =
    ap length (requests_push s.groups (next_group op asks s)) ∙ length-append (requests_of s.groups) (next_group op asks s).requests
    ∙ ap (λ (n : ℕ). length (requests_of s.groups) + n) (asked (length (requests_of s.groups) + 1) asks)
  where
    asked : (n : ℕ) (asks : List Ask) → length (requests_from n asks) ≡ length asks
    asked n [] = refl
    asked n (ask ∷ asks) = ap suc (asked (n + 1) asks)

pub asked_length : (n : ℕ) (asks : List Ask) → length (requests_from n asks) ≡ length asks
asked_length n [] = refl
asked_length n (ask ∷ asks) = ap suc (asked_length (n + 1) asks)

pub groups_more : (op : Op) (asks : List Ask) (s : Progress) → length (with_group op asks s).groups ≡ length s.groups + 1
groups_more op asks s = length-append s.groups (next_group op asks s ∷ [])
