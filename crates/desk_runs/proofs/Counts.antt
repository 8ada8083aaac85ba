-- How many requests are pending, and how often one is observed.
use Rattle.std.proofs.Common.{◌≡◌, ◌≢◌, ℕ, zero, suc, ◌+◌, ◌<◌, ◌≤◌, ◌^◌, ◌==◌, Bool, true, false, cond, ◌||◌, List, [], ◌∷◌, length, map, filter, All}
use Rattle.std.proofs.Common.{get_or, sum_by, refl, sym, ◌∙◌, ap, subst, arith, inl, inr}
use Rattle.std.specs.List.{AllZip, list_any, count_by}
use Rattle.std.proofs.lemmas.Bool.{or_parts, or_cases, cases_Bool, eqb-true, eq-eqb}
use Rattle.std.proofs.lemmas.List.Folds.{list_any_at}
use Rattle.std.proofs.lemmas.List.Sums.{sum_by-append, sum_by-cons, sum_by_push, count_by-le-length}
use Rattle.plan_base.specs.declared.number.GroupNo.{GroupNo}
use Rattle.plan_base.specs.declared.parts.Op.{Op}
use Rattle.plan_base.specs.declared.state.RequestState.TheVariants.{Pending}
use Rattle.plan_base.specs.States.{is_pending}
use Rattle.desk_runs.specs.declared.group.Ask.{Ask}
use Rattle.desk_runs.specs.declared.group.Group.{Group}
use Rattle.desk_runs.specs.declared.group.Request.{Request}
use Rattle.desk_runs.specs.declared.observation.Observation.{Observation}
use Rattle.desk_runs.specs.States.{is_open}
use Rattle.desk_runs.specs.Numbers.{requests_of}
use Rattle.desk_runs.specs.Owners.{pending_count, pending_of}
use Rattle.desk_runs.specs.Progress.{Progress}
use Rattle.desk_runs.specs.Turning.{group_of, groups_of, is_open_at}
use Rattle.desk_runs.specs.Adding.{requests_from, next_group, with_group}
use Rattle.desk_runs.specs.Sound.{IsCounted, IsNumbered, IsLaterRequest, IsLater, IsObservedAtMostOnce}
use Rattle.desk_runs.proofs.Later.{later_flat}
use Rattle.desk_runs.proofs.Places.{opened_groups, differs}
use Rattle.desk_runs.proofs.Opened.{opened_after, open_in_range, as_many_requests}

-- ---- counts

-- where none passes, none is counted
pub none_count : {X : Type 0} (p : X → Bool) (xs : List X) → list_any p xs ≡ false → count_by p xs ≡ 0
none_count p [] e = refl
none_count p (x ∷ xs) e =
    let parts = or_parts (p x) (list_any p xs) e in
    let sum : count_by p (x ∷ xs) ≡ cond (p x) 1 0 + count_by p xs = sum_by-cons (λ y. cond (p y) 1 0) x xs in
    let f : Bool → ℕ = λ b. cond b 1 0 in
    let first : f (p x) ≡ 0 = ap f parts.0 in
    let rest : count_by p xs ≡ 0 = none_count p xs parts.1 in
    omega (arith, sum, first)

-- where one passes, one is counted at least
pub some_count : {X : Type 0} (p : X → Bool) (xs : List X) → list_any p xs ≡ true → 1 ≤ count_by p xs
some_count p [] e = cc
some_count p (x ∷ xs) e =
    let sum : count_by p (x ∷ xs) ≡ cond (p x) 1 0 + count_by p xs = sum_by-cons (λ y. cond (p y) 1 0) x xs in
    elim (or_cases (p x) (list_any p xs) e) [
      | inl here ↦ let f : Bool → ℕ = λ b. cond b 1 0 in let one : f (p x) ≡ 1 = ap f here in omega (arith, one, sum)
      | inr there ↦ let rest : 1 ≤ count_by p xs = some_count p xs there in omega arith
    ]

-- ---- pending requests

-- those of all groups are those of each
pub pending_sum : (gs : List Group) → pending_count gs ≡ sum_by pending_of gs
pending_sum [] = refl
pending_sum (g ∷ gs) =
    sum_by-append (λ q. cond (is_pending q.state) 1 0) g.requests (requests_of gs) ∙ ap (λ (n : ℕ). pending_of g + n) (pending_sum gs)
    ∙ sym (sum_by-cons pending_of g gs)

sum_open : (b : Bool) (g : Group) (gs : List Group) (n : ℕ) → (b ≡ false → pending_of g ≡ 0) → sum_by pending_of gs ≡ n
    → sum_by pending_of (cond b (g ∷ gs) gs) ≡ pending_of g + n
sum_open true g gs n none e = sum_by-cons pending_of g gs ∙ ap (λ (m : ℕ). pending_of g + m) e
sum_open false g gs n none e = let zero_here : pending_of g ≡ 0 = none refl in omega arith

-- only open groups have any
open_sum : (gs : List Group) → sum_by pending_of (filter is_open gs) ≡ sum_by pending_of gs
open_sum [] = refl
open_sum (g ∷ gs) =
    sum_open (is_open g) g (filter is_open gs) (sum_by pending_of gs) (none_count (λ q. is_pending q.state) g.requests) (open_sum gs)
    ∙ sym (sum_by-cons pending_of g gs)

sum_map : (gs : List Group) (ns : List GroupNo) → sum_by pending_of (groups_of gs ns) ≡ sum_by (λ n. pending_of (group_of gs n)) ns
sum_map gs [] = refl
sum_map gs (n ∷ ns) =
    sum_by-cons pending_of (group_of gs n) (groups_of gs ns) ∙ ap (λ (m : ℕ). pending_of (group_of gs n) + m) (sum_map gs ns)
    ∙ sym (sum_by-cons (λ m. pending_of (group_of gs m)) n ns)

-- counting those of the open groups counts all
pub counted_open : (gs : List Group) (ns : List GroupNo) → IsCounted (map (λ g. g.number.0) gs) → ns ≡ map (λ g. g.number) (filter is_open gs)
    → sum_by (λ n. pending_of (group_of gs n)) ns ≡ pending_count gs
counted_open gs ns h e =
    ap (sum_by (λ n. pending_of (group_of gs n))) e ∙ sym (sum_map gs (map (λ g. g.number) (filter is_open gs)))
    ∙ ap (sum_by pending_of) (opened_groups gs h) ∙ open_sum gs ∙ sym (pending_sum gs)

-- there are no more than requests
pub pending_most : (gs : List Group) → pending_count gs ≤ length (requests_of gs)
pending_most gs = count_by-le-length (λ q. is_pending q.state) (requests_of gs)

-- what is counted once groups have gone on: the numbers are of groups that are there, and those of their requests that are
-- pending are all that are
pub record Recounted (hs : List Group) (ns : List GroupNo) : Type 0 where
  pub there : All (λ n. (1 ≤ n.0) × (n.0 ≤ length hs)) ns
  pub few : sum_by (λ n. pending_of (group_of hs n)) ns < 2 ^ 32
  pub all : sum_by (λ n. pending_of (group_of hs n)) ns ≡ pending_count hs

pub recounted : (gs hs : List Group) (before ns : List GroupNo) → AllZip IsLater gs hs → IsNumbered hs → length (requests_of gs) < 2 ^ 32
    → before ≡ map (λ g. g.number) (filter is_open gs) → ns ≡ filter (is_open_at hs) before → Recounted hs ns
recounted gs hs before ns later numbered few e k =
    let opened : ns ≡ map (λ g. g.number) (filter is_open hs) = opened_after gs hs before ns later numbered e k in
    let all : sum_by (λ n. pending_of (group_of hs n)) ns ≡ pending_count hs = counted_open hs ns numbered.groups opened in
    let most : pending_count hs ≤ length (requests_of hs) = pending_most hs in
    let same : length (requests_of hs) ≡ length (requests_of gs) = as_many_requests gs hs later in
    record {
      there = subst (All (λ n. (1 ≤ n.0) × (n.0 ≤ length hs))) (sym opened) (open_in_range hs numbered.groups);
      few = omega (arith, all, most, same, few);
      all = all;
    }

all_pending : (n : ℕ) (asks : List Ask) → count_by (λ q. is_pending q.state) (requests_from n asks) ≡ length asks
all_pending n [] = refl
all_pending n (ask ∷ asks) =
    let rest : count_by (λ q. is_pending q.state) (requests_from (n + 1) asks) ≡ length asks = all_pending (n + 1) asks in
    let first : Request = record { number = record { 0 = n }; seconds = ask.seconds; last = ask.last; state = Pending } in
    let sum : count_by (λ q. is_pending q.state) (requests_from n (ask ∷ asks)) ≡ 1 + count_by (λ q. is_pending q.state)
    (requests_from (n + 1) asks) = sum_by-cons (λ (q : Request). cond (is_pending q.state) 1 0) first (requests_from (n + 1) asks) in
    omega (arith, rest, sum)

-- all of a new group
pub pending_more : (op : Op) (asks : List Ask) (s : Progress) → pending_count (with_group op asks s).groups ≡ pending_count s.groups + length asks
pending_more op asks s =
    pending_sum (with_group op asks s).groups ∙ sum_by_push pending_of s.groups (next_group op asks s)
    ∙ ap (λ (n : ℕ). n + pending_of (next_group op asks s)) (sym (pending_sum s.groups))
    ∙ ap (λ (n : ℕ). pending_count s.groups + n) (all_pending (length (requests_of s.groups) + 1) asks)

no_more : (a b : Bool) → (b ≡ true → a ≡ true) → cond b 1 0 ≤ cond a 1 0
no_more true true h = omega arith
no_more true false h = omega arith
no_more false false h = omega arith
no_more false true h = let bad : false ≡ true = h refl in cc

fewer_requests : (xs ys : List Request) → AllZip IsLaterRequest xs ys → count_by (λ q. is_pending q.state) ys ≤ count_by (λ q. is_pending q.state) xs
fewer_requests [] [] z = omega arith
fewer_requests [] (y ∷ ys) z = absurd z
fewer_requests (x ∷ xs) [] z = absurd z
fewer_requests (x ∷ xs) (y ∷ ys) z =
    let rest : count_by (λ q. is_pending q.state) ys ≤ count_by (λ q. is_pending q.state) xs = fewer_requests xs ys z.1 in
    let first : cond (is_pending y.state) 1 0 ≤ cond (is_pending x.state) 1 0 =
    no_more (is_pending x.state) (is_pending y.state) (λ e. ap is_pending (sym (z.0.pending e)) ∙ e) in
    let before = sum_by-cons (λ (q : Request). cond (is_pending q.state) 1 0) x xs in
    let after = sum_by-cons (λ (q : Request). cond (is_pending q.state) 1 0) y ys in
    omega (arith, rest, first, before, after)

-- none becomes pending
pub fewer_pending : (gs hs : List Group) → AllZip IsLater gs hs → pending_count hs ≤ pending_count gs
fewer_pending gs hs z = fewer_requests (requests_of gs) (requests_of hs) (later_flat gs hs z)

-- ---- observations of a request

-- how often a request is observed
abbrev pub times_of : ℕ → List Observation → ℕ
times_of n os = count_by (λ o. o.request.0 == n) os

-- apart from the first, none is of the same request
apart : (o : Observation) (os : List Observation) (n : ℕ) → o.request.0 ≡ n
    → ((k : ℕ) (d : Observation) → k < length os → o.request.0 ≢ (get_or os k d).request.0) → list_any (λ x. x.request.0 == n) os ≡ false
apart o [] n e h = refl
apart o (x ∷ xs) n e h =
    let other : x.request.0 ≢ n = λ same. h 0 x (omega arith) (e ∙ sym same) in
    ap (λ (b : Bool). b || list_any (λ y. y.request.0 == n) xs) (differs x.request.0 n other) ∙ apart o xs n e (λ k d l. h (suc k) d (omega arith))

-- where no request is observed twice, each is at most once
pub once_counts : (os : List Observation) (n : ℕ) → IsObservedAtMostOnce os → times_of n os ≤ 1
once_counts [] n h = omega arith
once_counts (o ∷ os) n h =
    let p : Observation → Bool = λ x. x.request.0 == n in
    let f : Bool → ℕ = λ b. cond b 1 0 in
    let sum : times_of n (o ∷ os) ≡ f (o.request.0 == n) + times_of n os = sum_by-cons (λ x. cond (p x) 1 0) o os in
    elim (cases_Bool (o.request.0 == n)) [
      | inl here ↦
          let one : f (o.request.0 == n) ≡ 1 = ap f here in
          let none : times_of n os ≡ 0 = none_count p os (apart o os n (eqb-true o.request.0 n here) (λ k d l. h 0 (suc k) d (omega arith) (omega arith))) in
          omega (arith, sum, one, none)
      | inr there ↦
          let zero_here : f (o.request.0 == n) ≡ 0 = ap f there in
          let rest : times_of n os ≤ 1 = once_counts os n (λ i j d l m. h (suc i) (suc j) d (omega arith) (omega arith)) in
          omega (arith, sum, zero_here, rest)
    ]

-- and the other way round
pub counts_once : (os : List Observation) → ((n : ℕ) → times_of n os ≤ 1) → IsObservedAtMostOnce os
counts_once [] h i j d l m = absurd (omega arith)
counts_once (o ∷ os) h i zero d l m = absurd (omega arith)
counts_once (o ∷ os) h zero (suc j) d l m = λ same.
    let n : ℕ = o.request.0 in
    let p : Observation → Bool = λ x. x.request.0 == n in
    let f : Bool → ℕ = λ b. cond b 1 0 in
    let sum : times_of n (o ∷ os) ≡ f (o.request.0 == n) + times_of n os = sum_by-cons (λ x. cond (p x) 1 0) o os in
    let one : f (o.request.0 == n) ≡ 1 = ap f (eq-eqb n n refl) in
    let within : j < length os = omega arith in
    let there : 1 ≤ times_of n os = some_count p os (list_any_at p os j d within (eq-eqb (get_or os j d).request.0 n (sym same))) in
    let most : times_of n (o ∷ os) ≤ 1 = h n in
    absurd (omega (arith, sum, one, there, most))
counts_once (o ∷ os) h (suc i) (suc j) d l m =
    counts_once os
    (λ n.
    let f : Bool → ℕ = λ b. cond b 1 0 in
    let sum : times_of n (o ∷ os) ≡ f (o.request.0 == n) + times_of n os = sum_by-cons (λ x. cond (x.request.0 == n) 1 0) o os in
    let most : times_of n (o ∷ os) ≤ 1 = h n in
    omega (arith, sum, most)) i j d (omega arith) (omega arith)

-- so none is observed twice where none is observed more often than before
pub once_fewer : (before after : List Observation) → ((n : ℕ) → times_of n after ≤ times_of n before) → IsObservedAtMostOnce before → IsObservedAtMostOnce after
once_fewer before after less h = counts_once after (λ n. let most : times_of n before ≤ 1 = once_counts before n h in
    let fewer : times_of n after ≤ times_of n before = less n in omega (arith, most, fewer))
