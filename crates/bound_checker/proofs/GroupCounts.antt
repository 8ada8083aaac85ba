-- Counts of the requests that a plan places of each group.
use Rattle.std.proofs.Common.{◌≡◌, ◌≢◌, ℕ, zero, suc, ◌+◌, ◌<◌, ◌≤◌, ◌⊎◌, inl, inr, Bool, true, false, cond, ◌==◌, List, [], ◌∷◌, ◌++◌, length, map}
use Rattle.std.proofs.Common.{filter, take, replicate, slice_get, get_or, slice_index_or, slice_set, Option, Some, None, option_map, count_by, sum_by}
use Rattle.std.proofs.Common.{All, AllPairs, Contains, refl, sym, ◌∙◌, ap, subst, arith}
use Rattle.std.specs.Prelude.{HoldsAt}
use Rattle.std.proofs.lemmas.Bool.{eqb-true, eq-eqb, ne_eqb}
use Rattle.std.proofs.lemmas.Bool.Decides.{eqb_tells}
use Rattle.std.proofs.lemmas.Option.{slice_get_within, slice_get-get_or, get_or_from_slice_get, slice_get-map}
use Rattle.std.proofs.lemmas.List.{length-set, length-replicate, length-map, get_or_past, get_or-replicate, get_or-set_other, get_or-set_same}
use Rattle.std.proofs.lemmas.List.{get_or_default, get_or-map}
use Rattle.std.proofs.lemmas.List.Sums.{sum_by-cons, count_by_more_no, count_by_more_yes, count_by-le-length}
use Rattle.std.proofs.lemmas.List.Elements.{All-nil, All-cons, All-map, All-filter, All-contains, Contains-get_or, filter_passes}
use Rattle.std.proofs.lemmas.List.Kept.{AllPairs-cons, AllPairs-filter}
use Rattle.plan_base.specs.declared.parts.Parts.{Parts}
use Rattle.plan_base.specs.declared.parts.GroupPart.{GroupPart}
use Rattle.plan_base.specs.declared.parts.Op.{Op}
use Rattle.plan_base.specs.declared.parts.Op.TheVariants.{Single, OneOf, And}
use Rattle.plan_base.specs.declared.claim.Placement.{Placement}
use Rattle.plan_base.specs.Requests.{IsKnown, group_of, IsOf, IsKind, members, members_of, AllOrNone}
use Rattle.plan_base.specs.Snapshot.{IsOrderly}
use Rattle.plan_base.specs.Feasible.{requests_of, AreOfOneOneOf, IsEachOnce, IsOneofOnce, IsAndWhole}
use Rattle.plan_base.specs.Verdict.{IsTwiceAt, IsPartialAt}
use Rattle.plan_base.proofs.Members.{are_members}
use Rattle.plan_base.proofs.Lists.{contains_filter, length_among}
use Rattle.plan_base.proofs.Orders.{contains_cases, contains_first, contains_rest}
use Rattle.bound_checker.specs.Claims.{IsEachKnown, placed_in, AreGroupCounts, IsTwice, IsPartial, HoldsOfGroup}
use Rattle.bound_checker.proofs.Marks.{placed_at}

-- where Q doesn't hold of the group and the count that are read there
pub not_there : (Q : GroupPart → ℕ → Type 0) (groups : List GroupPart) (counts : List ℕ) (g n : ℕ) (x : GroupPart) → x ≡ slice_index_or groups g x
    → n ≡ slice_index_or counts g 0 → ¬ (Q x n) → ¬ (HoldsOfGroup Q groups counts g)
not_there Q groups counts g n x at read not (y, here, holds) =
    let same : y ≡ x = sym (get_or_from_slice_get groups g y x here) ∙ sym at in
    not (subst (λ (z : GroupPart). Q z n) same (subst (Q y) (sym read) holds))

pub there : (Q : GroupPart → ℕ → Type 0) (groups : List GroupPart) (counts : List ℕ) (g n : ℕ) (x : GroupPart) → g < length groups
    → x ≡ slice_index_or groups g x → n ≡ slice_index_or counts g 0 → Q x n → HoldsOfGroup Q groups counts g
there Q groups counts g n x l at read holds = (x, slice_get-get_or groups g x l ∙ ap Some (sym at), subst (Q x) read holds)

-- no place beyond the groups has one
pub none_beyond : (Q : GroupPart → ℕ → Type 0) (groups : List GroupPart) (counts : List ℕ) (n : ℕ) → length groups ≤ n
    → ((g : ℕ) → g < n → ¬ (HoldsOfGroup Q groups counts g)) → (g : ℕ) → ¬ (HoldsOfGroup Q groups counts g)
none_beyond Q groups counts n all none g (y, here, holds) = none g (let within : g < length groups = slice_get_within groups g y here in
    omega arith) (y, here, holds)

below_or_from : (k n : ℕ) → (k < n) ⊎ (n ≤ k)
below_or_from k n = grind arith

pub none_counted : (n k : ℕ) → get_or {A = ℕ} (replicate n 0) k 0 ≡ 0
none_counted n k = elim (below_or_from k n) [
  | inl l ↦ get_or-replicate n k 0 0 l
  | inr past ↦ get_or_past (replicate n 0) k 0 (let count : length {A = ℕ} (replicate n 0) ≡ n = length-replicate n 0 in omega arith)
]

pub counts_none : (s : Parts) (counts : List ℕ) → counts ≡ replicate (length s.groups) 0 → AreGroupCounts s [] counts
counts_none s counts e = record {
  groups = ap (λ (xs : List ℕ). length xs) e ∙ length-replicate (length s.groups) 0;
  each = λ g. ap (λ (xs : List ℕ). slice_index_or xs g 0) e ∙ none_counted (length s.groups) g;
}

pub counts_more : (s : Parts) (plan : List Placement) (n g v : ℕ) (counts : List ℕ) → n < length plan → g ≡ group_of s (placed_at plan n).request.0
    → g < length s.groups → v ≡ slice_index_or counts g 0
    → AreGroupCounts s (take n plan) counts → AreGroupCounts s (take (n + 1) plan) (slice_set counts g (v + 1))
counts_more s plan n g v counts l own within read are = record {
  groups = length-set counts g (v + 1) ∙ are.groups;
  each = λ h. elim (eqb_tells h g) [
    | inl same ↦
        let test : (group_of s (placed_at plan n).request.0 == h) ≡ true = eq-eqb _ h (sym own ∙ sym same.1) in
        let more : placed_in s (take (n + 1) plan) h ≡ placed_in s (take n plan) h + 1 = count_by_more_yes (λ p. group_of s p.request.0 == h) plan n _ l test in
        let now : slice_index_or (slice_set counts g (v + 1)) h 0 ≡ v + 1 = ap (λ (k : ℕ). slice_index_or (slice_set counts g (v + 1)) k 0) same.1
        ∙ get_or-set_same counts g (v + 1) 0 (let count = are.groups in omega arith) in
        let old : v ≡ placed_in s (take n plan) h = read ∙ ap (λ (k : ℕ). slice_index_or counts k 0) (sym same.1) ∙ are.each h in
        now ∙ ap (λ (k : ℕ). k + 1) old ∙ sym more
    | inr other ↦
        let test : (group_of s (placed_at plan n).request.0 == h) ≡ false = ne_eqb _ h (λ e. other.1 (sym e ∙ sym own)) in
        let more : placed_in s (take (n + 1) plan) h ≡ placed_in s (take n plan) h = count_by_more_no (λ p. group_of s p.request.0 == h) plan n _ l test in
        get_or-set_other counts g h (v + 1) 0 other.1 ∙ are.each h ∙ sym more
  ];
}

-- ---- places of a list that pass a test

count_first : {X : Type 0} (p : X → Bool) (x : X) (xs : List X) → p x ≡ true → count_by p (x ∷ xs) ≡ suc (count_by p xs)
count_first p x xs e = let more : count_by p (x ∷ xs) ≡ cond (p x) 1 0 + count_by p xs = sum_by-cons (λ y. cond (p y) 1 0) x xs in
    let one : cond {A = ℕ} (p x) 1 0 ≡ 1 = ap (λ (b : Bool). cond {A = ℕ} b 1 0) e in omega arith

count_rest : {X : Type 0} (p : X → Bool) (x : X) (xs : List X) → p x ≡ false → count_by p (x ∷ xs) ≡ count_by p xs
count_rest p x xs e = let more : count_by p (x ∷ xs) ≡ cond (p x) 1 0 + count_by p xs = sum_by-cons (λ y. cond (p y) 1 0) x xs in
    let none : cond {A = ℕ} (p x) 1 0 ≡ 0 = ap (λ (b : Bool). cond {A = ℕ} b 1 0) e in omega arith

true_or_false : (b : Bool) → (b ≡ true) ⊎ (b ≡ false)
true_or_false true = inl refl
true_or_false false = inr refl

-- an element that passes stands at a place
one_place : {X : Type 0} (p : X → Bool) (xs : List X) → 1 ≤ count_by p xs → (i : ℕ) × (x : X) × (slice_get xs i ≡ Some x) × (p x ≡ true)
one_place p [] l = absurd (omega arith)
one_place p (x ∷ xs) l = elim (true_or_false (p x)) [
  | inl passes ↦ (0, x, refl, passes)
  | inr other ↦ let e = count_rest p x xs other in let rest = one_place p xs (omega arith) in (suc rest.0, rest.1, rest.2, rest.3)
]

-- two that pass stand at two places
two_places : {X : Type 0} (p : X → Bool) (xs : List X) → 2 ≤ count_by p xs → (i j : ℕ) × (x y : X) × (i < j) × (slice_get xs i ≡ Some x)
    × (slice_get xs j ≡ Some y) × (p x ≡ true) × (p y ≡ true)
two_places p [] l = absurd (omega arith)
two_places p (x ∷ xs) l = elim (true_or_false (p x)) [
  | inl passes ↦ let e = count_first p x xs passes in let rest = one_place p xs (omega arith) in
      (0, suc rest.0, x, rest.1, omega arith, refl, rest.2, passes, rest.3)
  | inr other ↦ let e = count_rest p x xs other in let rest = two_places p xs (omega arith) in
      (suc rest.0, suc rest.1, rest.2, rest.3, omega (arith, rest.4), rest.5, rest.6, rest.7, rest.8)
]

count_one : {X : Type 0} (p : X → Bool) (xs : List X) (i : ℕ) (x : X) → slice_get xs i ≡ Some x → p x ≡ true → 1 ≤ count_by p xs
count_one p [] i x e passes = cc
count_one p (y ∷ xs) zero x e passes = let same : y ≡ x = cc in let first = count_first p y xs (ap p same ∙ passes) in omega arith
count_one p (y ∷ xs) (suc i) x e passes = let rest = count_one p xs i x e passes in
    let more : count_by p (y ∷ xs) ≡ cond (p y) 1 0 + count_by p xs = sum_by-cons (λ z. cond (p z) 1 0) y xs in omega arith

count_two : {X : Type 0} (p : X → Bool) (xs : List X) (i j : ℕ) (x y : X) → i < j → slice_get xs i ≡ Some x → slice_get xs j ≡ Some y → p x ≡ true
    → p y ≡ true → 2 ≤ count_by p xs
count_two p [] i j x y l e f a b = cc
count_two p (z ∷ xs) i zero x y l e f a b = absurd (omega arith)
count_two p (z ∷ xs) zero (suc j) x y l e f a b = let same : z ≡ x = cc in let first = count_first p z xs (ap p same ∙ a) in
    let rest = count_one p xs j y f b in omega arith
count_two p (z ∷ xs) (suc i) (suc j) x y l e f a b =
    let rest = count_two p xs i j x y (omega arith) e f a b in
    let more : count_by p (z ∷ xs) ≡ cond (p z) 1 0 + count_by p xs = sum_by-cons (λ v. cond (p v) 1 0) z xs in omega arith

-- ---- a plan's groups

read_request : (plan : List Placement) (i : ℕ) (p : Placement) → slice_get plan i ≡ Some p → slice_get (requests_of plan) i ≡ Some p.request.0
read_request plan i p e = slice_get-map (λ x. x.request.0) plan i ∙ ap (λ (o : Option Placement). option_map (λ x. x.request.0) o) e

request_read : (plan : List Placement) (i r : ℕ) → slice_get (requests_of plan) i ≡ Some r → (p : Placement) × (slice_get plan i ≡ Some p) × (p.request.0 ≡ r)
request_read [] i r e = cc
request_read (p ∷ plan) zero r e = (p, refl, cc)
request_read (p ∷ plan) (suc i) r e = request_read plan i r e

abbrev pub some_group : GroupPart
some_group = record { group = record { 0 = 0 }; op = Single; requests = []; quota = None }

-- a place at which a group is of a kind other than SINGLE is one of the groups'
pub kind_within : (s : Parts) (k : Op) (g : ℕ) → (Single ≡ k → ⊥) → IsKind s k g → g < length s.groups
kind_within s k g other kind = elim (below_or_from g (length s.groups)) [
  | inl l ↦ l
  | inr past ↦ absurd (other (ap (λ (x : GroupPart). x.op) (sym (get_or_past s.groups g some_group past)) ∙ kind some_group))
]

pub kind_of : (s : Parts) (k : Op) (g : ℕ) (x : GroupPart) → slice_get s.groups g ≡ Some x → x.op ≡ k → IsKind s k g
kind_of s k g x here is d = ap (λ (y : GroupPart). y.op) (get_or_from_slice_get s.groups g x d here) ∙ is

module _ (s : Parts) (plan : List Placement) (counts : List ℕ) (o : IsOrderly s) (known : IsEachKnown s plan) (are : AreGroupCounts s plan counts) where
  in_group : ℕ → Placement → Bool
  in_group g p = group_of s p.request.0 == g

  of_read : (g i : ℕ) (p : Placement) → slice_get plan i ≡ Some p → (group_of s p.request.0 == g) ≡ true → IsOf s g p.request.0
  of_read g i p here test = (
    subst (λ (q : Placement). IsKnown s q.request.0) (get_or_from_slice_get plan i p p here)
        (known i p (slice_get_within plan i p here)),
    eqb-true _ g test,
  )

  pub twice_at : (g : ℕ) → HoldsOfGroup IsTwice s.groups counts g → IsTwiceAt s (requests_of plan) g
  twice_at g (x, here, (one_of, two)) =
      let count : slice_index_or counts g 0 ≡ placed_in s plan g = are.each g in
      let found = two_places (λ p. group_of s p.request.0 == g) plan (omega arith) in (
        kind_of s OneOf g x here one_of,
        found.0,
        found.1,
        found.2.request.0,
        found.3.request.0,
        found.4,
        read_request plan found.0 found.2 found.5,
        read_request plan found.1 found.3 found.6,
        of_read g found.0 found.2 found.5 found.7,
        of_read g found.1 found.3 found.6 found.8,
      )

  pub at_twice : (g : ℕ) → IsTwiceAt s (requests_of plan) g → HoldsOfGroup IsTwice s.groups counts g
  at_twice g (kind, i, j, a, b, l, e, f, of_a, of_b) =
      let p = request_read plan i a e in
      let q = request_read plan j b f in
      let count : slice_index_or counts g 0 ≡ placed_in s plan g = are.each g in
      let two = count_two (λ x. group_of s x.request.0 == g) plan i j p.0 q.0 l p.1 q.1 (eq-eqb _ g (ap (group_of s) p.2 ∙ of_a.1))
      (eq-eqb _ g (ap (group_of s) q.2 ∙ of_b.1)) in
      let within : g < length s.groups = kind_within s OneOf g (λ bad. cc) kind in
      (slice_index_or s.groups g some_group, slice_get-get_or s.groups g some_group within, (kind some_group, omega arith))

  -- where no ONEOF is placed twice, no two requests are of one
  pub oneof_once : ((g : ℕ) → ¬ (HoldsOfGroup IsTwice s.groups counts g)) → IsOneofOnce s plan
  oneof_once none i j d l m (g, kind, of_a, of_b) =
      none g (at_twice g (kind, i, j, _, _, l, slice_get-get_or (requests_of plan) i d (omega arith), slice_get-get_or (requests_of plan) j d m, of_a, of_b))
