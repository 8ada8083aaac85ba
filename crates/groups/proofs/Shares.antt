-- Sums over the placements of a plan, with one more or one less.
use Rattle.std.proofs.Common.{◌≡◌, ◌≢◌, ℕ, ◌+◌, ◌<◌, ◌⊎◌, inl, inr, Bool, cond, not, List, [], ◌∷◌, ◌++◌, length, drop, slice_index_or, sum_by, All}
use Rattle.std.proofs.Common.{Contains, refl, sym, ◌∙◌, ap, subst, arith}
use Rattle.std.proofs.lemmas.Bool.Decides.{eqb_tells}
use Rattle.std.proofs.lemmas.List.Elements.{All-nil, All-cons, All-head, All-tail, All-contains}
use Rattle.std.proofs.lemmas.List.Sums.{sum_by-cons, sum_by_push, sum_by-drop_more}
use Rattle.std.proofs.lemmas.List.{get_or_default}
use Rattle.plan_base.specs.declared.claim.Placement.{Placement}
use Rattle.plan_base.specs.Feasible.{requests_of, IsEachOnce}
use Rattle.plan_base.proofs.Orders.{contains_cases, contains_first, contains_rest, pairs_head, pairs_tail}
use Rattle.plan_base.proofs.Lists.{contains_map}
use Rattle.groups.specs.Building.{without}

pub sum_zero : {X : Type 0} (f : X → ℕ) (xs : List X) → sum_by f xs ≡ 0 → All (λ x. f x ≡ 0) xs
sum_zero f [] e = All-nil (λ x. f x ≡ 0)
sum_zero f (x ∷ xs) e =
    let more : sum_by f (x ∷ xs) ≡ f x + sum_by f xs = sum_by-cons f x xs in
    All-cons (λ y. f y ≡ 0) x xs (omega arith) (sum_zero f xs (omega arith))

pub zero_sum : {X : Type 0} (f : X → ℕ) (xs : List X) → All (λ x. f x ≡ 0) xs → sum_by f xs ≡ 0
zero_sum f [] a = refl
zero_sum f (x ∷ xs) a =
    let more : sum_by f (x ∷ xs) ≡ f x + sum_by f xs = sum_by-cons f x xs in
    let first : f x ≡ 0 = All-head (λ y. f y ≡ 0) x xs a in
    let rest : sum_by f xs ≡ 0 = zero_sum f xs (All-tail (λ y. f y ≡ 0) x xs a) in
    omega arith

none_or_above : (n : ℕ) → (n ≡ 0) ⊎ (0 < n)
none_or_above n = grind arith

-- a sum above 0 has an element that gives more than 0
pub sum_above : {X : Type 0} (f : X → ℕ) (xs : List X) → 0 < sum_by f xs → (x : X) × Contains xs x × (0 < f x)
sum_above f [] l = absurd (omega arith)
sum_above f (x ∷ xs) l =
    let more : sum_by f (x ∷ xs) ≡ f x + sum_by f xs = sum_by-cons f x xs in
    elim (none_or_above (f x)) [
      | inl none ↦ let rest = sum_above f xs (omega arith) in (rest.0, contains_rest x rest.0 xs rest.1, rest.2)
      | inr some ↦ (x, contains_first x xs, some)
    ]

-- the placements of a plan are those of another and p
abbrev pub AddsUp : List Placement → Placement → List Placement → Type 0
AddsUp less p more = (f : Placement → ℕ) → sum_by f more ≡ sum_by f less + f p

pub adds_up_push : (plan : List Placement) (p : Placement) → AddsUp plan p (plan ++ p ∷ [])
adds_up_push plan p f = sum_by_push f plan p

pub adds_up_rest : (plan : List Placement) (i : ℕ) (d : Placement) → i < length plan → AddsUp (drop (i + 1) plan) (slice_index_or plan i d) (drop i plan)
adds_up_rest plan i d l f = let more : sum_by f (drop i plan) ≡ f (slice_index_or plan i d) + sum_by f (drop (i + 1) plan) =
    sum_by-drop_more f plan i d l in omega arith

-- a plan without a request that it doesn't place
kept_whole : (r : ℕ) (plan : List Placement) → All (λ x. r ≢ x) (requests_of plan) → without r plan ≡ plan
kept_whole r [] a = refl
kept_whole r (p ∷ plan) a =
    let differs : r ≢ p.request.0 = All-head (λ x. r ≢ x) p.request.0 (requests_of plan) a in
    let rest : without r plan ≡ plan = kept_whole r plan (All-tail (λ x. r ≢ x) p.request.0 (requests_of plan) a) in
    elim (eqb_tells p.request.0 r) [
      | inl same ↦ absurd (differs (sym same.1))
      | inr other ↦ ap (λ (b : Bool). cond (not b) (p ∷ without r plan) (without r plan)) other.0 ∙ ap (λ (ps : List Placement). p ∷ ps) rest
    ]

pub not_placed : (r : ℕ) (plan : List Placement) → ¬ (Contains (requests_of plan) r) → without r plan ≡ plan
not_placed r plan absent = kept_whole r plan
    (λ i d l e. absent (i, l, subst (λ (n : ℕ). slice_index_or (requests_of plan) i n ≡ n) (sym e) (default_self i d l)))
  where
    default_self : (i d : ℕ) → i < length (requests_of plan) → slice_index_or (requests_of plan) i (slice_index_or (requests_of plan) i d)
        ≡ slice_index_or (requests_of plan) i d
    default_self i d l = get_or_default (requests_of plan) i (slice_index_or (requests_of plan) i d) d l

-- without one of its placements a plan has all others
pub adds_up_without : (plan : List Placement) (p : Placement) → IsEachOnce plan → Contains plan p → AddsUp (without p.request.0 plan) p plan
adds_up_without [] p once has f = absurd (omega (arith, has.1))
adds_up_without (q ∷ plan) p once has f =
    let more : sum_by f (q ∷ plan) ≡ f q + sum_by f plan = sum_by-cons f q plan in
    let head : All (λ x. q.request.0 ≢ x) (requests_of plan) = pairs_head (λ a b. a ≢ b) q.request.0 (requests_of plan) once in
    elim (eqb_tells q.request.0 p.request.0) [
      | inl same ↦
          let kept : without p.request.0 plan ≡ plan = kept_whole p.request.0 plan (subst (λ (r : ℕ). All (λ x. r ≢ x) (requests_of plan)) same.1 head) in
          let gone : sum_by f (without p.request.0 (q ∷ plan)) ≡ sum_by f plan =
          ap (λ (b : Bool). sum_by f (cond (not b) (q ∷ without p.request.0 plan) (without p.request.0 plan))) same.0 ∙ ap (sum_by f) kept in
          let it : q ≡ p = elim (contains_cases q p plan has) [
            | inl e ↦ e
            | inr later ↦ absurd (All-contains (λ x. q.request.0 ≢ x) (requests_of plan) p.request.0 head (contains_map (λ x. x.request.0) plan p later) same.1)
          ]
          in
          let gives : f q ≡ f p = ap f it in
          omega arith
      | inr other ↦
          let there : Contains plan p = elim (contains_cases q p plan has) [
            | inl e ↦ absurd (other.1 (ap (λ (x : Placement). x.request.0) e))
            | inr later ↦ later
          ]
          in
          let rest : sum_by f plan ≡ sum_by f (without p.request.0 plan) + f p =
          adds_up_without plan p (pairs_tail (λ a b. a ≢ b) q.request.0 (requests_of plan) once) there f in
          let stays : sum_by f (without p.request.0 (q ∷ plan)) ≡ sum_by f (q ∷ without p.request.0 plan) =
          ap (λ (b : Bool). sum_by f (cond (not b) (q ∷ without p.request.0 plan) (without p.request.0 plan))) other.0 in
          let first : sum_by f (q ∷ without p.request.0 plan) ≡ f q + sum_by f (without p.request.0 plan) = sum_by-cons f q (without p.request.0 plan) in
          omega arith
    ]
