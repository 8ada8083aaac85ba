-- A request that is completed was pending and is over then, so none is completed twice.
use Rattle.std.proofs.Common.{◌≡◌, ◌≢◌, ◌∙◌, ap, sym, subst, ℕ, ◌+◌, ◌<◌, ◌≤◌, Bool, true, false, cond, ◌&&◌, List, [], ◌∷◌, ◌++◌, length, map}
use Rattle.std.proofs.Common.{get_or, All, Option, Some, None, arith, inl, inr, refl}
use Rattle.std.specs.List.{AllZip, list_any}
use Rattle.std.specs.Option.{IfSome}
use Rattle.std.proofs.lemmas.Bool.{and_parts, or_cases, or_parts, eqb-true, eq-eqb, false_from_ne_true}
use Rattle.std.proofs.lemmas.Grind.{flat_map-append}
use Rattle.std.proofs.lemmas.List.{length-append, length-map, get_or-map}
use Rattle.std.proofs.lemmas.List.Elements.{All-nil, All-cons, All-head, All-tail, All-append, All-map}
use Rattle.plan_base.specs.declared.number.RequestNo.{RequestNo}
use Rattle.plan_base.specs.declared.parts.Op.{Op}
use Rattle.plan_base.specs.declared.state.RequestState.TheVariants.{Completed}
use Rattle.plan_base.specs.States.{is_pending}
use Rattle.desk_runs.specs.Adding.{requests_from, next_group, with_group}
use Rattle.desk_runs.specs.Clock.{change_requests, with_state, settle}
use Rattle.desk_runs.specs.declared.group.Ask.{Ask}
use Rattle.desk_runs.specs.declared.group.Group.{Group}
use Rattle.desk_runs.specs.declared.group.Request.{Request}
use Rattle.desk_runs.specs.Numbers.{requests_of, is_request, has_request, is_pending_at, is_placed}
use Rattle.desk_runs.specs.Progress.{Progress}
use Rattle.desk_runs.specs.Reports.{canceled, completed, without_running, with_completed, reported}
use Rattle.desk_runs.specs.Sound.{IsSound, IsLaterRequest, IsLater}
use Rattle.plan_base.specs.Operators.{is_oneof}
use Rattle.desk_runs.proofs.GoingOn.{report_goes_on}
use Rattle.desk_runs.proofs.Known.{placed_pending}
use Rattle.desk_runs.proofs.Later.{later_canceled, later_completed}
use Rattle.desk_runs.proofs.Moves.{later_after}
use Rattle.desk_runs.proofs.Opened.{as_many_requests}
use Rattle.desk_runs.proofs.Places.{counted_from}
use Rattle.desk_runs.proofs.Single.{all_later}

-- ---- requests that are over

-- none of these with this number is pending
abbrev AreOver : RequestNo → List Request → Type 0
AreOver n qs = All (λ q. q.number.0 ≡ n.0 → is_pending q.state ≡ false) qs

-- the request with this number is there, and isn't pending
pub record IsOverIn (gs : List Group) (n : RequestNo) : Type 0 where
  pub there : n.0 ≤ length (requests_of gs)
  pub over : All (λ g. AreOver n g.requests) gs

-- it stays so
requests_stay : (n : RequestNo) (qs rs : List Request) → AllZip IsLaterRequest qs rs → AreOver n qs → AreOver n rs
requests_stay n [] [] z h = h
requests_stay n [] (r ∷ rs) z h = absurd z
requests_stay n (q ∷ qs) [] z h = absurd z
requests_stay n (q ∷ qs) (r ∷ rs) z h =
    All-cons (λ x. x.number.0 ≡ n.0 → is_pending x.state ≡ false) r rs
    (λ same. false_from_ne_true (is_pending r.state) (λ pending.
    let was : is_pending q.state ≡ false =
    All-head (λ x. x.number.0 ≡ n.0 → is_pending x.state ≡ false) q qs h (ap (λ (m : RequestNo). m.0) (sym z.0.number) ∙ same) in
    let bad : true ≡ false = sym pending ∙ ap is_pending (z.0.pending pending) ∙ was in
    cc))
    (requests_stay n qs rs z.1 (All-tail (λ x. x.number.0 ≡ n.0 → is_pending x.state ≡ false) q qs h))

groups_stay : (n : RequestNo) (gs hs : List Group) → AllZip IsLater gs hs → All (λ g. AreOver n g.requests) gs → All (λ g. AreOver n g.requests) hs
groups_stay n [] [] z h = h
groups_stay n [] (x ∷ hs) z h = absurd z
groups_stay n (g ∷ gs) [] z h = absurd z
groups_stay n (g ∷ gs) (x ∷ hs) z h =
    All-cons (λ y. AreOver n y.requests) x hs (requests_stay n g.requests x.requests z.0.requests (All-head (λ y. AreOver n y.requests) g gs h))
    (groups_stay n gs hs z.1 (All-tail (λ y. AreOver n y.requests) g gs h))

pub later_stay : (gs hs : List Group) (n : RequestNo) → AllZip IsLater gs hs → IsOverIn gs n → IsOverIn hs n
later_stay gs hs n z h =
    let same : length (requests_of hs) ≡ length (requests_of gs) = as_many_requests gs hs z in
    let low : n.0 ≤ length (requests_of gs) = h.there in
    record { there = omega (arith, same, low); over = groups_stay n gs hs z h.over }

-- new requests have other numbers
new_over : (n : RequestNo) (b : ℕ) (asks : List Ask) → n.0 < b → AreOver n (requests_from b asks)
new_over n b [] low = All-nil (λ q. q.number.0 ≡ n.0 → is_pending q.state ≡ false)
new_over n b (ask ∷ asks) low =
    All-cons (λ q. q.number.0 ≡ n.0 → is_pending q.state ≡ false) _ (requests_from (b + 1) asks) (λ same. absurd (omega (arith, low, same)))
    (new_over n (b + 1) asks (omega (arith, low)))

pub added_stay : (op : Op) (asks : List Ask) (s : Progress) (n : RequestNo) → IsOverIn s.groups n → IsOverIn (with_group op asks s).groups n
added_stay op asks s n h =
    let g : Group = next_group op asks s in
    let low : n.0 ≤ length (requests_of s.groups) = h.there in
    let all : length (requests_of (s.groups ++ g ∷ [])) ≡ length (requests_of s.groups ++ requests_of (g ∷ [])) =
    ap length (flat_map-append (λ (x : Group). x.requests) s.groups (g ∷ [])) in
    let sum : length (requests_of s.groups ++ requests_of (g ∷ [])) ≡ length (requests_of s.groups) + length (requests_of (g ∷ [])) =
    length-append (requests_of s.groups) (requests_of (g ∷ [])) in
    record {
      there = omega (arith, low, all, sum);
      over = All-append (λ x. AreOver n x.requests) s.groups (g ∷ []) h.over
          (All-cons (λ x. AreOver n x.requests) g [] (new_over n (length (requests_of s.groups) + 1) asks (omega (arith, low)))
          (All-nil (λ x. AreOver n x.requests)));
    }

-- ---- what an entry completes

-- what it completes, if anything, isn't over before, and is then; and what is over stays so
pub record Completes (o : Option RequestNo) (before after : List Group) : Type 0 where
  pub fresh : (n : RequestNo) → IsOverIn before n → IfSome o (λ m. n ≢ m)
  pub over : IfSome o (IsOverIn after)
  pub stay : (n : RequestNo) → IsOverIn before n → IsOverIn after n

pub none_completed : (before after : List Group) → ((n : RequestNo) → IsOverIn before n → IsOverIn after n) → Completes None before after
none_completed before after stay = record { fresh = λ n h. tt; over = tt; stay = stay }

-- where an element passes, what follows from each that passes holds
any_then : {X : Type 0} (B : Type 0) (test : X → Bool) (xs : List X) → list_any test xs ≡ true → All (λ x. test x ≡ true → B) xs → B
any_then B test [] e h = absurd (cc)
any_then B test (x ∷ xs) e h = elim (or_cases (test x) (list_any test xs) e) [
  | inl here ↦ All-head (λ y. test y ≡ true → B) x xs h here
  | inr there ↦ any_then B test xs there (All-tail (λ y. test y ≡ true → B) x xs h)
]

-- a request that is pending
abbrev is_waiting : RequestNo → Request → Bool
is_waiting n q = is_request n q && is_pending q.state

-- isn't over
not_both : (gs : List Group) (n : RequestNo) → is_pending_at gs n ≡ true → All (λ g. AreOver n g.requests) gs → ⊥
not_both gs n e h =
    any_then ⊥ (λ g. list_any (is_waiting n) g.requests) gs e
    (λ k d l some. any_then ⊥ (is_waiting n) (get_or gs k d).requests some (λ i c m both.
    let q : Request = get_or (get_or gs k d).requests i c in
    let parts = and_parts (is_request n q) (is_pending q.state) both in
    let over : is_pending q.state ≡ false = h k d l i c m (eqb-true q.number.0 n.0 parts.0) in
    let bad : true ≡ false = sym parts.1 ∙ over in
    cc))

-- the requests of each group, where it is so of all requests
in_front : {X : Type 0} (P : X → Type 0) (xs ys : List X) → All P (xs ++ ys) → All P xs × All P ys
in_front P [] ys h = (All-nil P, h)
in_front P (x ∷ xs) ys h =
    let rest : All P xs × All P ys = in_front P xs ys (All-tail P x (xs ++ ys) h) in
    (All-cons P x xs (All-head P x (xs ++ ys) h) rest.0, rest.1)

in_groups : (P : Request → Type 0) (gs : List Group) → All P (requests_of gs) → All (λ g. All P g.requests) gs
in_groups P [] h = All-nil (λ g. All P g.requests)
in_groups P (g ∷ gs) h =
    let parts : All P g.requests × All P (requests_of gs) = in_front P g.requests (requests_of gs) h in
    All-cons (λ x. All P x.requests) g gs parts.0 (in_groups P gs parts.1)

-- it is one of the requests
pending_there : (s : Progress) (n : RequestNo) → IsSound s → is_pending_at s.groups n ≡ true → n.0 ≤ length (requests_of s.groups)
pending_there s n h e =
    any_then (n.0 ≤ length (requests_of s.groups)) (λ g. list_any (is_waiting n) g.requests) s.groups e
    (λ k d l some. any_then (n.0 ≤ length (requests_of s.groups)) (is_waiting n) (get_or s.groups k d).requests some (λ i c m both.
    let q : Request = get_or (get_or s.groups k d).requests i c in
    let same : q.number.0 ≡ n.0 = eqb-true q.number.0 n.0 (and_parts (is_request n q) (is_pending q.state) both).0 in
    let low : q.number.0 ≤ length (requests_of s.groups) = in_groups (λ x. x.number.0 ≤ length (requests_of s.groups)) s.groups numbers k d l i c m in
    omega (arith, same, low)))
  where
    numbers : All (λ q. q.number.0 ≤ length (requests_of s.groups)) (requests_of s.groups)
    numbers = λ k d l.
        let count : length (map (λ (q : Request). q.number.0) (requests_of s.groups)) ≡ length (requests_of s.groups) =
        length-map (requests_of s.groups) (λ q. q.number.0) in
        let at : get_or (map (λ (q : Request). q.number.0) (requests_of s.groups)) k 0 ≡ 0 + k + 1 =
        counted_from (map (λ q. q.number.0) (requests_of s.groups)) h.numbered.requests k (omega (arith, count, l)) in
        let is : get_or (map (λ (q : Request). q.number.0) (requests_of s.groups)) k 0 ≡ (get_or (requests_of s.groups) k d).number.0 =
        get_or-map (λ (q : Request). q.number.0) (requests_of s.groups) k d 0 l in
        omega (arith, at, is, l)

-- ---- a request that is completed

none_numbered : (n : RequestNo) (qs : List Request) → list_any (is_request n) qs ≡ false → AreOver n qs
none_numbered n [] e = All-nil (λ q. q.number.0 ≡ n.0 → is_pending q.state ≡ false)
none_numbered n (q ∷ qs) e =
    let parts = or_parts (is_request n q) (list_any (is_request n) qs) e in
    All-cons (λ x. x.number.0 ≡ n.0 → is_pending x.state ≡ false) q qs
    (λ same. let bad : true ≡ false = sym (eq-eqb q.number.0 n.0 same) ∙ parts.0 in absurd (cc)) (none_numbered n qs parts.1)

one_over : (n : RequestNo) (q : Request) → (let r : Request = cond (is_request n q) (with_state Completed q) q in r.number.0 ≡ n.0 → is_pending r.state ≡ false)
one_over n q = by (is_request n q) refl
  where
    by : (b : Bool) → is_request n q ≡ b → (let r : Request = cond b (with_state Completed q) q in r.number.0 ≡ n.0 → is_pending r.state ≡ false)
    by true e same = refl
    by false e same = let bad : true ≡ false = sym (eq-eqb q.number.0 n.0 same) ∙ e in absurd (cc)

first_over : (n : RequestNo) (g : Group) → AreOver n (change_requests (is_request n) Completed g).requests
first_over n g =
    All-map (λ q. q.number.0 ≡ n.0 → is_pending q.state ≡ false) (λ q. cond (is_request n q) (with_state Completed q) q) g.requests
    (λ k d l. one_over n (get_or g.requests k d))

group_over : (n : RequestNo) (g : Group) → AreOver n (completed n g).requests
group_over n g = by (change_requests (is_request n) Completed g) (is_oneof g.op) (first_over n g)
  where
    by : (h : Group) (b : Bool) → AreOver n h.requests → AreOver n (cond b (canceled h) h).requests
    by h true first = requests_stay n h.requests (canceled h).requests (later_canceled h).requests first
    by h false first = first

completed_over : (n : RequestNo) (gs : List Group) → All (λ g. AreOver n g.requests) (map (λ g. cond (has_request n g) (completed n g) g) gs)
completed_over n gs = All-map (λ g. AreOver n g.requests) (λ g. cond (has_request n g) (completed n g) g) gs (λ k d l. either (get_or gs k d))
  where
    either : (g : Group) → AreOver n (cond (has_request n g) (completed n g) g).requests
    either g = by (has_request n g) refl
      where
        by : (b : Bool) → has_request n g ≡ b → AreOver n (cond b (completed n g) g).requests
        by true e = group_over n g
        by false e = none_numbered n g.requests e

-- a report on a running request completes it
pub report_completes : (s : Progress) (n : RequestNo) → IsSound s → is_placed s.running n ≡ true → Completes (Some n) s.groups (reported n true s).groups
report_completes s n h placed =
    let pending : is_pending_at s.groups n ≡ true = placed_pending s.groups s.running n h.running placed in
    let t : Progress = with_completed n (without_running n s) in
    let same : length (requests_of t.groups) ≡ length (requests_of s.groups) =
    as_many_requests s.groups t.groups (all_later (has_request n) (completed n) (later_completed n) s.groups) in
    let low : n.0 ≤ length (requests_of s.groups) = pending_there s n h pending in
    record {
      fresh = λ m over same. not_both s.groups n pending (subst (IsOverIn s.groups) same over).over;
      over = later_stay t.groups (settle t).groups n (later_after t) (record { there = omega (arith, same, low); over = completed_over n s.groups });
      stay = λ m over. later_stay s.groups (reported n true s).groups m (report_goes_on s n true).later over;
    }
