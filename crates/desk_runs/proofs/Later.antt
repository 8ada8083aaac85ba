-- Groups that go on: their numbers stay, and so do those of their requests.
use Rattle.std.proofs.Common.{◌≡◌, ℕ, ◌+◌, ◌≤◌, ◌==◌, Bool, true, false, cond, ◌||◌, List, [], ◌∷◌, ◌++◌, length, map, refl, sym, ◌∙◌, ap, subst, arith}
use Rattle.std.specs.List.{AllZip, list_any, count_by}
use Rattle.std.proofs.lemmas.List.{map-append}
use Rattle.std.proofs.lemmas.List.Elements.{All-cons, All-head, All-tail, All-nil, filter_agree}
use Rattle.std.proofs.lemmas.List.Sums.{length-filter}
use Rattle.plan_base.specs.declared.number.RequestNo.{RequestNo}
use Rattle.plan_base.specs.declared.number.Sec.{Sec}
use Rattle.plan_base.specs.declared.state.RequestState.{RequestState}
use Rattle.plan_base.specs.declared.state.RequestState.TheVariants.{WindowExpired, Completed, Canceled}
use Rattle.desk_runs.specs.declared.group.Group.{Group}
use Rattle.desk_runs.specs.declared.group.Request.{Request}
use Rattle.desk_runs.specs.declared.observation.Observation.{Observation}
use Rattle.plan_base.specs.States.{is_pending}
use Rattle.plan_base.specs.Operators.{is_oneof}
use Rattle.desk_runs.specs.Numbers.{requests_of, is_request, has_request}
use Rattle.desk_runs.specs.Clock.{is_waiting, is_past, with_state, change_requests, with_past, is_lost, with_lost}
use Rattle.desk_runs.specs.Turning.{turned}
use Rattle.desk_runs.specs.Reports.{canceled, completed}
use Rattle.desk_runs.specs.Sound.{IsCounted, IsNumbered, IsLaterRequest, IsLater, IsOneOfOnce, placed_in}
use Rattle.desk_runs.specs.Owners.{owners_from}
use Rattle.desk_runs.proofs.Lists.{of_choice}

-- ---- later

later_choice : (b : Bool) (state : RequestState) (q : Request) → is_pending state ≡ false → IsLaterRequest q (cond b (with_state state q) q)
later_choice true state q e = record { number = refl; seconds = refl; last = refl; pending = λ p. let bad : false ≡ true = sym e ∙ p in cc }
later_choice false state q e = record { number = refl; seconds = refl; last = refl; pending = λ p. refl }

later_requests : (test : Request → Bool) (state : RequestState) (qs : List Request) → is_pending state ≡ false
    → AllZip IsLaterRequest qs (map (λ q. cond (test q) (with_state state q) q) qs)
later_requests test state [] e = tt
later_requests test state (q ∷ qs) e = (later_choice (test q) state q e, later_requests test state qs e)

pub later_change : (test : Request → Bool) (state : RequestState) (g : Group) → is_pending state ≡ false → IsLater g (change_requests test state g)
later_change test state g e = record { number = refl; op = refl; requests = later_requests test state g.requests e }

later_same : (qs : List Request) → AllZip IsLaterRequest qs qs
later_same [] = tt
later_same (q ∷ qs) = (record { number = refl; seconds = refl; last = refl; pending = λ p. refl }, later_same qs)

pub later_self : (g : Group) → IsLater g g
later_self g = record { number = refl; op = refl; requests = later_same g.requests }

later_twice : (q r t : Request) → IsLaterRequest q r → IsLaterRequest r t → IsLaterRequest q t
later_twice q r t h k = record {
  number = k.number ∙ h.number;
  seconds = k.seconds ∙ h.seconds;
  last = k.last ∙ h.last;
  pending = λ p. let same : t.state ≡ r.state = k.pending p in same ∙ h.pending (ap is_pending (sym same) ∙ p);
}

later_lists : (xs ys zs : List Request) → AllZip IsLaterRequest xs ys → AllZip IsLaterRequest ys zs → AllZip IsLaterRequest xs zs
later_lists [] [] [] h k = tt
later_lists [] [] (z ∷ zs) h k = absurd k
later_lists [] (y ∷ ys) zs h k = absurd h
later_lists (x ∷ xs) [] zs h k = absurd h
later_lists (x ∷ xs) (y ∷ ys) [] h k = absurd k
later_lists (x ∷ xs) (y ∷ ys) (z ∷ zs) h k = (later_twice x y z h.0 k.0, later_lists xs ys zs h.1 k.1)

pub later_then : (g h i : Group) → IsLater g h → IsLater h i → IsLater g i
later_then g h i a b = record { number = b.number ∙ a.number; op = b.op ∙ a.op; requests = later_lists g.requests h.requests i.requests a.requests b.requests }

-- lists of groups, each the same or later
pub later_selves : (gs : List Group) → AllZip IsLater gs gs
later_selves [] = tt
later_selves (g ∷ gs) = (later_self g, later_selves gs)

pub later_groups : (gs hs is : List Group) → AllZip IsLater gs hs → AllZip IsLater hs is → AllZip IsLater gs is
later_groups [] [] [] h k = tt
later_groups [] [] (i ∷ is) h k = absurd k
later_groups [] (y ∷ ys) is h k = absurd h
later_groups (x ∷ xs) [] is h k = absurd h
later_groups (x ∷ xs) (y ∷ ys) [] h k = absurd k
later_groups (x ∷ xs) (y ∷ ys) (i ∷ is) h k = (later_then x y i h.0 k.0, later_groups xs ys is h.1 k.1)

pub later_turned : (running : List Observation) (now : Sec) (g : Group) → IsLater g (turned running now g)
later_turned running now g =
    let past : Group = with_past running now g in
    later_then g past (with_lost running past) (later_change (is_past running now) WindowExpired g refl)
    (of_choice (λ (x : Group). IsLater past x) (is_lost past) (change_requests (is_waiting running) WindowExpired past) past
    (λ t. later_change (is_waiting running) WindowExpired past refl) (λ f. later_self past))

pub later_canceled : (g : Group) → IsLater g (canceled g)
later_canceled g = later_change (λ q. is_pending q.state) Canceled g refl

pub later_completed : (number : RequestNo) (g : Group) → IsLater g (completed number g)
later_completed number g =
    let h : Group = change_requests (is_request number) Completed g in
    let first : IsLater g h = later_change (is_request number) Completed g refl in
    of_choice (λ (x : Group). IsLater g x) (is_oneof g.op) (canceled h) h (λ t. later_then g h (canceled h) first (later_canceled h)) (λ f. first)

-- each of a list, and what a function that goes on makes of it
pub later_map : (f : Group → Group) → ((g : Group) → IsLater g (f g)) → (gs : List Group) → AllZip IsLater gs (map f gs)
later_map f h [] = tt
later_map f h (g ∷ gs) = (h g, later_map f h gs)

-- the requests of later groups are later
pub later_flat : (gs hs : List Group) → AllZip IsLater gs hs → AllZip IsLaterRequest (requests_of gs) (requests_of hs)
later_flat [] [] z = tt
later_flat [] (h ∷ hs) z = absurd z
later_flat (g ∷ gs) [] z = absurd z
later_flat (g ∷ gs) (h ∷ hs) z = zip_join g.requests h.requests (requests_of gs) (requests_of hs) z.0.requests (later_flat gs hs z.1)
  where
    zip_join : (us vs xs ys : List Request) → AllZip IsLaterRequest us vs → AllZip IsLaterRequest xs ys → AllZip IsLaterRequest (us ++ xs) (vs ++ ys)
    zip_join [] [] xs ys h k = k
    zip_join [] (b ∷ vs) xs ys h k = absurd h
    zip_join (a ∷ us) [] xs ys h k = absurd h
    zip_join (a ∷ us) (b ∷ vs) xs ys h k = (h.0, zip_join us vs xs ys h.1 k)

-- ---- numbers stay

request_numbers : (xs ys : List Request) → AllZip IsLaterRequest xs ys → map (λ q. q.number.0) ys ≡ map (λ q. q.number.0) xs
request_numbers [] [] h = refl
request_numbers [] (y ∷ ys) h = absurd h
request_numbers (x ∷ xs) [] h = absurd h
request_numbers (x ∷ xs) (y ∷ ys) h =
    ap (λ (n : ℕ). n ∷ map (λ q. q.number.0) ys) (ap (λ (r : RequestNo). r.0) h.0.number) ∙ ap (λ (l : List ℕ). x.number.0 ∷ l) (request_numbers xs ys h.1)

pub group_numbers : (gs hs : List Group) → AllZip IsLater gs hs → map (λ g. g.number.0) hs ≡ map (λ g. g.number.0) gs
group_numbers [] [] h = refl
group_numbers [] (y ∷ ys) h = absurd h
group_numbers (x ∷ xs) [] h = absurd h
group_numbers (x ∷ xs) (y ∷ ys) h = ap (λ (n : ℕ). n ∷ map (λ g. g.number.0) ys) (ap (λ r. r.0) h.0.number)
    ∙ ap (λ (l : List ℕ). x.number.0 ∷ l) (group_numbers xs ys h.1)

pub all_numbers : (gs hs : List Group) → AllZip IsLater gs hs → map (λ q. q.number.0) (requests_of hs) ≡ map (λ q. q.number.0) (requests_of gs)
all_numbers [] [] h = refl
all_numbers [] (y ∷ ys) h = absurd h
all_numbers (x ∷ xs) [] h = absurd h
all_numbers (x ∷ xs) (y ∷ ys) h =
    map-append (λ q. q.number.0) y.requests (requests_of ys)
    ∙ ap (λ (l : List ℕ). l ++ map (λ q. q.number.0) (requests_of ys)) (request_numbers x.requests y.requests h.0.requests)
    ∙ ap (λ (l : List ℕ). map (λ q. q.number.0) x.requests ++ l) (all_numbers xs ys h.1)
    ∙ sym (map-append (λ q. q.number.0) x.requests (requests_of xs))

pub numbered_later : (gs hs : List Group) → AllZip IsLater gs hs → IsNumbered gs → IsNumbered hs
numbered_later gs hs h n = record {
  groups = subst IsCounted (sym (group_numbers gs hs h)) n.groups;
  requests = subst IsCounted (sym (all_numbers gs hs h)) n.requests;
}

-- ---- a request of a later group is one of the group

has_in : (number : RequestNo) (xs ys : List Request) → AllZip IsLaterRequest xs ys → list_any (is_request number) ys ≡ list_any (is_request number) xs
has_in number [] [] h = refl
has_in number [] (y ∷ ys) h = absurd h
has_in number (x ∷ xs) [] h = absurd h
has_in number (x ∷ xs) (y ∷ ys) h =
    ap (λ (r : RequestNo). (r.0 == number.0) || list_any (is_request number) ys) h.0.number
    ∙ ap (λ (b : Bool). (x.number.0 == number.0) || b) (has_in number xs ys h.1)

pub has_later : (number : RequestNo) (g h : Group) → IsLater g h → has_request number h ≡ has_request number g
has_later number g h later = has_in number g.requests h.requests later.requests

-- two tests that agree count the same
pub count_same : {X : Type 0} (p q : X → Bool) → ((x : X) → p x ≡ q x) → (xs : List X) → count_by p xs ≡ count_by q xs
count_same p q h xs = sym (length-filter p xs) ∙ ap length (filter_agree p q h xs) ∙ length-filter q xs

pub placed_later : (g h : Group) → IsLater g h → (os : List Observation) → placed_in h os ≡ placed_in g os
placed_later g h later os = count_same (λ o. has_request o.request h) (λ o. has_request o.request g) (λ o. has_later o.request g h later) os

-- of a ONEOF at most one request is observed later, where of each group no more are
pub once_later : (gs hs : List Group) (before after : List Observation) → AllZip IsLater gs hs
    → ((g : Group) → placed_in g after ≤ placed_in g before) → IsOneOfOnce gs before → IsOneOfOnce hs after
once_later [] [] before after h less once = All-nil (λ g. is_oneof g.op ≡ true → placed_in g after ≤ 1)
once_later [] (y ∷ ys) before after h less once = absurd h
once_later (x ∷ xs) [] before after h less once = absurd h
once_later (x ∷ xs) (y ∷ ys) before after h less once =
    All-cons (λ g. is_oneof g.op ≡ true → placed_in g after ≤ 1) y ys
    (λ e.
    let few : placed_in x before ≤ 1 = All-head (λ g. is_oneof g.op ≡ true → placed_in g before ≤ 1) x xs once (ap is_oneof (sym h.0.op) ∙ e) in
    let fewer : placed_in x after ≤ placed_in x before = less x in
    let same : placed_in y after ≡ placed_in x after = placed_later x y h.0 after in
    omega arith)
    (once_later xs ys before after h.1 less (All-tail (λ g. is_oneof g.op ≡ true → placed_in g before ≤ 1) x xs once))

-- ---- owners stay

owners_same : (i : ℕ) (xs ys : List Request) → AllZip IsLaterRequest xs ys → map (λ q. i) ys ≡ map (λ q. i) xs
owners_same i [] [] h = refl
owners_same i [] (y ∷ ys) h = absurd h
owners_same i (x ∷ xs) [] h = absurd h
owners_same i (x ∷ xs) (y ∷ ys) h = ap (λ (l : List ℕ). i ∷ l) (owners_same i xs ys h.1)

pub owners_later : (i : ℕ) (gs hs : List Group) → AllZip IsLater gs hs → owners_from i hs ≡ owners_from i gs
owners_later i [] [] h = refl
owners_later i [] (y ∷ ys) h = absurd h
owners_later i (x ∷ xs) [] h = absurd h
owners_later i (x ∷ xs) (y ∷ ys) h =
    ap (λ (l : List ℕ). l ++ owners_from (i + 1) ys) (owners_same i x.requests y.requests h.0.requests)
    ∙ ap (λ (l : List ℕ). map (λ q. i) x.requests ++ l) (owners_later (i + 1) xs ys h.1)
