-- A filled plan is feasible, where it began so, and saturated.
use Rattle.std.proofs.Common.{◌≡◌, ◌≢◌, ℕ, zero, suc, ◌+◌, ◌<◌, ◌≤◌, ◌⊎◌, inl, inr, Bool, true, false, cond, ◌==◌, List, [], ◌∷◌, ◌++◌, length}
use Rattle.std.proofs.Common.{slice_index_or, Option, Some, None, All, AllPairs, Contains, length-append, refl, sym, ◌∙◌, ap, subst, arith}
use Rattle.std.proofs.lemmas.Bool.{eqb-true}
use Rattle.std.proofs.lemmas.List.{get_or_default}
use Rattle.std.proofs.lemmas.List.Elements.{All-nil, All-head, All-tail, All-cons, All-contains, All-weaker, Contains-append_left}
use Rattle.std.proofs.lemmas.List.Elements.{Contains-append_cases, Contains-push_cases, Contains-get_or}
use Rattle.plan_base.specs.declared.parts.Parts.{Parts}
use Rattle.plan_base.specs.declared.parts.GroupPart.{GroupPart}
use Rattle.plan_base.specs.declared.parts.Op.{Op}
use Rattle.plan_base.specs.declared.parts.Op.TheVariants.{Single, Many, OneOf, And}
use Rattle.plan_base.specs.declared.claim.Placement.{Placement}
use Rattle.plan_base.specs.Requests.{quota_of, seconds_of, IsOf, IsKind, members, AllOrNone}
use Rattle.plan_base.specs.Snapshot.{IsOrderly}
use Rattle.plan_base.specs.Starts.{ShareSlice}
use Rattle.plan_base.specs.Feasible.{requests_of, AreOfOneOneOf, is_quota, quota_seconds, quota_at, IsFeasible}
use Rattle.plan_base.specs.FeasibleSoFar.{IsFeasibleSoFar}
use Rattle.plan_base.specs.Saturated.{IsFree, HasNoFree, HasNonePlaced, IsUntouched, TakesEach, IsSaturated}
use Rattle.plan_base.specs.Fill.{TriesOne, TriesEach, TriesUntilOne, VisitsGroup, VisitsEach, PassesTo}
use Rattle.plan_base.proofs.Orders.{contains_cases, contains_first, contains_rest, pairs_head, pairs_tail}
use Rattle.plan_base.proofs.GroupKinds.{kind_of, one_kind, some_member}
use Rattle.plan_base.proofs.Known.{group_known}
use Rattle.plan_base.proofs.Members.{is_of_member, member_is_of, members_rise}
use Rattle.plan_base.proofs.Tables.{share_symmetric}
use Rattle.plan_base.proofs.Adding.{feasible_from_whole, so_far_from_feasible, requests_push, FitsPlan, so_far_push}

-- a number is in a list or not
contains_or_not : (xs : List ℕ) (x : ℕ) → Contains xs x ⊎ (¬ (Contains xs x))
contains_or_not [] x = inr (λ c. omega (arith, c.1))
contains_or_not (y ∷ ys) x = elim (same_or_not y x) [
  | inl e ↦ inl (subst (Contains (y ∷ ys)) e (contains_first y ys))
  | inr n ↦ elim (contains_or_not ys x) [
    | inl c ↦ inl (contains_rest y x ys c)
    | inr m ↦ inr (λ c. elim (contains_cases y x ys c) [ inl e ↦ n e | inr d ↦ m d ])
  ]
]
  where
    same_or_not : (a b : ℕ) → (a ≡ b) ⊎ (a ≢ b)
    same_or_not a b = grind arith

-- none of the numbers is in a list, or one is
none_or_one : (xs ms : List ℕ) → All (λ r. ¬ (Contains xs r)) ms ⊎ ((r : ℕ) × Contains ms r × Contains xs r)
none_or_one xs [] = inl (All-nil (λ r. ¬ (Contains xs r)))
none_or_one xs (m ∷ ms) = elim (contains_or_not xs m) [
  | inl c ↦ inr (m, contains_first m ms, c)
  | inr n ↦ elim (none_or_one xs ms) [
    | inl none ↦ inl (All-cons (λ r. ¬ (Contains xs r)) m ms n none)
    | inr one ↦ inr (one.0, contains_rest m one.0 ms one.1, one.2)
  ]
]

-- of a ONEOF and an AND
not_both : OneOf ≢ And
not_both e = cc

quota_room : (q n m d : ℕ) (o : Option ℕ) → (o ≡ Some q → n + d ≤ m) → n ≤ m → n + cond (is_quota q o) d 0 ≤ m
quota_room q n m d None free within = omega arith
quota_room q n m d (Some p) free within = by (p == q) (λ e. free (ap (λ (k : ℕ). Some k) (eqb-true p q e)))
  where
    by : (b : Bool) → (b ≡ true → n + d ≤ m) → n + cond b d 0 ≤ m
    by true h = h refl
    by false h = omega arith

-- a free start of an unplaced request fits, where nothing of its ONEOF is placed
pub fits_free : (s : Parts) (plan : List Placement) (p : Placement) → IsFeasibleSoFar s plan → IsFree s plan p → ¬ (Contains (requests_of plan) p.request.0)
    → All (λ r. ¬ (AreOfOneOneOf s r p.request.0)) (requests_of plan) → FitsPlan s plan p
fits_free s plan p feasible free unplaced apart = record {
  unplaced = λ i d l e. unplaced (i, l, get_or_default (requests_of plan) i p.request.0 d l ∙ e);
  apart = All-weaker (λ q. ¬ (ShareSlice s p q)) (λ q. ¬ (ShareSlice s q p)) (λ q h share. h (share_symmetric s q p share)) plan free.apart;
  oneof_free = apart;
  quota_free = λ q l. quota_room q (quota_seconds s q (requests_of plan)) (quota_at s q) (seconds_of s p.request.0) (quota_of s p.request.0)
      (free.within_quota q) (feasible.within_quotas q l);
}

-- one more request leaves whole what it isn't of
whole_push : (s : Parts) (plan : List Placement) (p : Placement) (g : ℕ) → (IsOf s g p.request.0 → ⊥) → AllOrNone s g (requests_of plan)
    → AllOrNone s g (requests_of (plan ++ p ∷ []))
whole_push s plan p g other (inl all) =
    inl (λ r of. subst (λ (rs : List ℕ). Contains rs r) (sym (requests_push plan p))
    (Contains-append_left (requests_of plan) (p.request.0 ∷ []) r (all r of)))
whole_push s plan p g other (inr none) = inr (λ r of c.
    elim (Contains-push_cases (requests_of plan) p.request.0 r (subst (λ (rs : List ℕ). Contains rs r) (requests_push plan p) c)) [
      | inl d ↦ none r of d
      | inr e ↦ other (subst (IsOf s g) (sym e) of)
    ])

-- no request of a group of another kind is of one ONEOF with any
outside_oneofs : (s : Parts) (plan : List Placement) (g r : ℕ) (k : Op) → IsKind s k g → k ≢ OneOf → IsOf s g r
    → All (λ a. ¬ (AreOfOneOneOf s a r)) (requests_of plan)
outside_oneofs s plan g r k kind other of i d l (h, one_of, left, right) =
    let same : h ≡ g = sym right.1 ∙ of.1 in
    other (one_kind s k OneOf g (subst (λ (n : ℕ). n < length s.groups) of.1 (group_known s r of.0)) kind (subst (IsKind s OneOf) same one_of))

-- nor with any placed where nothing of its own ONEOF is placed
pub outside_untouched : (s : Parts) (plan : List Placement) (g r : ℕ) → HasNonePlaced s plan g → IsOf s g r
    → All (λ a. ¬ (AreOfOneOneOf s a r)) (requests_of plan)
outside_untouched s plan g r none of i d l (h, one_of, left, right) =
    let same : h ≡ g = sym right.1 ∙ of.1 in
    let in_group : Contains (members s g) (slice_index_or (requests_of plan) i d) =
    member_is_of s g _ (subst (λ (n : ℕ). IsOf s n (slice_index_or (requests_of plan) i d)) same left) in
    All-contains (λ a. ¬ (Contains (requests_of plan) a)) (members s g) _ none in_group (Contains-get_or (requests_of plan) i d l)

module _ (s : Parts) (orderly : IsOrderly s) where
  -- a free start of an unplaced request outside every AND can be added
  feasible_push : (plan : List Placement) (p : Placement) (g : ℕ) (k : Op) → IsFeasible s plan → IsFree s plan p → IsOf s g p.request.0 → IsKind s k g → k ≢ And
      → ¬ (Contains (requests_of plan) p.request.0) → All (λ r. ¬ (AreOfOneOneOf s r p.request.0)) (requests_of plan) → IsFeasible s (plan ++ p ∷ [])
  feasible_push plan p g k feasible free of kind other unplaced apart =
      let so_far = so_far_from_feasible s plan feasible in
      feasible_from_whole s (plan ++ p ∷ []) (so_far_push s plan p so_far free.possible (fits_free s plan p so_far free unplaced apart))
      (λ h is_and. whole_push s plan p h (λ of_h.
      let same : h ≡ g = sym of_h.1 ∙ of.1 in
      other (one_kind s k And g (subst (λ (n : ℕ). n < length s.groups) of.1 (group_known s p.request.0 of.0)) kind
      (subst (IsKind s And) same is_and))) (feasible.and_whole h is_and))

  one_feasible : (plan after : List Placement) (g r : ℕ) (k : Op) → IsKind s k g → k ≢ And → k ≢ OneOf → IsOf s g r → IsFeasible s plan
      → TriesOne s plan r after → IsFeasible s after
  one_feasible plan after g r k kind no_and no_oneof of feasible (inl (c, e)) = subst (IsFeasible s) (sym e) feasible
  one_feasible plan after g r k kind no_and no_oneof of feasible (inr (n, inl (p, earliest, e))) =
      let of_p : IsOf s g p.request.0 = subst (IsOf s g) (sym earliest.same_request) of in
      subst (IsFeasible s) (sym e)
      (feasible_push plan p g k feasible earliest.free of_p kind no_and (λ c. n (subst (Contains (requests_of plan)) earliest.same_request c))
      (outside_oneofs s plan g p.request.0 k kind no_oneof of_p))
  one_feasible plan after g r k kind no_and no_oneof of feasible (inr (n, inr (none, e))) = subst (IsFeasible s) (sym e) feasible

  each_feasible : (plan after : List Placement) (g : ℕ) (rs : List ℕ) (k : Op) → IsKind s k g → k ≢ And → k ≢ OneOf → All (IsOf s g) rs
      → IsFeasible s plan → TriesEach s plan rs after → IsFeasible s after
  each_feasible plan after g [] k kind no_and no_oneof of feasible e = subst (IsFeasible s) (sym e) feasible
  each_feasible plan after g (r ∷ rs) k kind no_and no_oneof of feasible (next, one, rest) =
      each_feasible next after g rs k kind no_and no_oneof (All-tail (IsOf s g) r rs of)
      (one_feasible plan next g r k kind no_and no_oneof (All-head (IsOf s g) r rs of) feasible one) rest

  until_feasible : (plan after : List Placement) (g : ℕ) (rs : List ℕ) → IsKind s OneOf g → HasNonePlaced s plan g → All (IsOf s g) rs
      → IsFeasible s plan → TriesUntilOne s plan rs after → IsFeasible s after
  until_feasible plan after g [] kind none of feasible e = subst (IsFeasible s) (sym e) feasible
  until_feasible plan after g (r ∷ rs) kind none of feasible (inl (p, earliest, e)) =
      let of_p : IsOf s g p.request.0 = subst (IsOf s g) (sym earliest.same_request) (All-head (IsOf s g) r rs of) in
      subst (IsFeasible s) (sym e)
      (feasible_push plan p g OneOf feasible earliest.free of_p kind not_both
      (All-contains (λ a. ¬ (Contains (requests_of plan) a)) (members s g) p.request.0 none (member_is_of s g p.request.0 of_p))
      (outside_untouched s plan g p.request.0 none of_p))
  until_feasible plan after g (r ∷ rs) kind none of feasible (inr (nothing, rest)) =
      until_feasible plan after g rs kind none (All-tail (IsOf s g) r rs of) feasible rest

  -- what is taken one after another of an AND is placed in that order
  taken_requests : (plan after : List Placement) (rs : List ℕ) → TakesEach s plan rs after → requests_of after ≡ requests_of plan ++ rs
  taken_requests plan after [] e = ap requests_of e ∙ sym (append_nothing (requests_of plan))
    where
      append_nothing : (xs : List ℕ) → xs ++ [] ≡ xs
      append_nothing [] = refl
      append_nothing (x ∷ xs) = ap (λ (ys : List ℕ). x ∷ ys) (append_nothing xs)
  taken_requests plan after (r ∷ rs) (p, earliest, rest) =
      taken_requests (plan ++ p ∷ []) after rs rest
      ∙ ap (λ (xs : List ℕ). xs ++ rs) (requests_push plan p ∙ ap (λ (n : ℕ). requests_of plan ++ n ∷ []) earliest.same_request)
      ∙ append_in (requests_of plan) r rs
    where
      append_in : (xs : List ℕ) (y : ℕ) (ys : List ℕ) → (xs ++ y ∷ []) ++ ys ≡ xs ++ y ∷ ys
      append_in [] y ys = refl
      append_in (x ∷ xs) y ys = ap (λ (zs : List ℕ). x ∷ zs) (append_in xs y ys)

  taken_so_far : (plan after : List Placement) (g : ℕ) (rs : List ℕ) → IsKind s And g → All (IsOf s g) rs → AllPairs (λ a b. a < b) rs
      → All (λ r. ¬ (Contains (requests_of plan) r)) rs → IsFeasibleSoFar s plan → TakesEach s plan rs after → IsFeasibleSoFar s after
  taken_so_far plan after g [] kind of rise none feasible e = subst (IsFeasibleSoFar s) (sym e) feasible
  taken_so_far plan after g (r ∷ rs) kind of rise none feasible (p, earliest, rest) =
      let of_p : IsOf s g p.request.0 = subst (IsOf s g) (sym earliest.same_request) (All-head (IsOf s g) r rs of) in
      let unplaced : ¬ (Contains (requests_of plan) p.request.0) = subst (λ (n : ℕ). ¬ (Contains (requests_of plan) n)) (sym earliest.same_request)
      (All-head (λ x. ¬ (Contains (requests_of plan) x)) r rs none) in
      let more = so_far_push s plan p feasible earliest.free.possible
      (fits_free s plan p feasible earliest.free unplaced (outside_oneofs s plan g p.request.0 And kind (λ e. not_both (sym e)) of_p)) in
      taken_so_far (plan ++ p ∷ []) after g rs kind (All-tail (IsOf s g) r rs of) (pairs_tail (λ a b. a < b) r rs rise)
      (λ i d l c. elim (Contains-push_cases (requests_of plan) p.request.0 (slice_index_or rs i d)
      (subst (λ (xs : List ℕ). Contains xs (slice_index_or rs i d)) (requests_push plan p) c)) [
        | inl had ↦ All-tail (λ x. ¬ (Contains (requests_of plan) x)) r rs none i d l had
        | inr same ↦ let less : r < slice_index_or rs i d = pairs_head (λ a b. a < b) r rs rise i d l in
            let at : p.request.0 ≡ r = earliest.same_request in absurd (omega arith)
      ]) more rest

  -- an AND that is taken whole is whole, and the others stay so
  taken_feasible : (plan after : List Placement) (g : ℕ) → IsKind s And g → HasNonePlaced s plan g → IsFeasible s plan
      → TakesEach s plan (members s g) after → IsFeasible s after
  taken_feasible plan after g kind none feasible takes =
      let requests : requests_of after ≡ requests_of plan ++ members s g = taken_requests plan after (members s g) takes in
      let of : All (IsOf s g) (members s g) = λ i d l. is_of_member s g _ orderly (Contains-get_or (members s g) i d l) in
      feasible_from_whole s after (taken_so_far plan after g (members s g) kind of (members_rise s g orderly) none (so_far_from_feasible s plan feasible) takes)
      (λ h is_and. subst (AllOrNone s h) (sym requests) (whole h (feasible.and_whole h is_and)))
    where
      same_or_not : (a b : ℕ) → (a ≡ b) ⊎ (a ≢ b)
      same_or_not a b = grind arith

      right_of : (xs ys : List ℕ) (x : ℕ) → Contains ys x → Contains (xs ++ ys) x
      right_of [] ys x c = c
      right_of (z ∷ xs) ys x c = contains_rest z x (xs ++ ys) (right_of xs ys x c)

      by : (h : ℕ) → (h ≡ g) ⊎ (h ≢ g) → AllOrNone s h (requests_of plan) → AllOrNone s h (requests_of plan ++ members s g)
      by h (inl same) before = inl (λ r of. right_of (requests_of plan) (members s g) r (member_is_of s g r (subst (λ (n : ℕ). IsOf s n r) same of)))
      by h (inr other) (inl all) = inl (λ r of. Contains-append_left (requests_of plan) (members s g) r (all r of))
      by h (inr other) (inr nothing) = inr (λ r of c. elim (Contains-append_cases (requests_of plan) (members s g) r c) [
        | inl d ↦ nothing r of d
        | inr m ↦ other (sym of.1 ∙ (is_of_member s g r orderly m).1)
      ])

      whole : (h : ℕ) → AllOrNone s h (requests_of plan) → AllOrNone s h (requests_of plan ++ members s g)
      whole h before = by h (same_or_not h g) before

  visit_feasible : (plan after : List Placement) (g : ℕ) → g < length s.groups → IsFeasible s plan → VisitsGroup s plan g after → IsFeasible s after
  visit_feasible plan after g below feasible visit = let kind = kind_of s g below in by kind.0 kind.1
    where
      of : All (IsOf s g) (members s g)
      of i d l = is_of_member s g _ orderly (Contains-get_or (members s g) i d l)

      by_placed : (k : Op) → IsKind s k g → IsKind s OneOf g ⊎ IsKind s And g → (HasNonePlaced s plan g → IsFeasible s after) → IsFeasible s after
      by_placed k kind either when_none = elim (none_or_one (requests_of plan) (members s g)) [
        | inl none ↦ when_none none
        | inr one ↦ subst (IsFeasible s)
            (sym (visit.served either (λ none. All-contains (λ a. ¬ (Contains (requests_of plan) a)) (members s g) one.0 none one.1 one.2))) feasible
      ]

      by : (k : Op) → IsKind s k g → IsFeasible s after
      by Single kind = each_feasible plan after g (members s g) Single kind (λ e. cc) (λ e. cc) of feasible (visit.alone (inl kind))
      by Many kind = each_feasible plan after g (members s g) Many kind (λ e. cc) (λ e. cc) of feasible (visit.alone (inr kind))
      by OneOf kind = by_placed OneOf kind (inl kind) (λ none. let order = visit.untouched (kind, none) in
          until_feasible plan after g order.0 kind none order.1.members feasible order.2)
      by And kind = by_placed And kind (inr kind) (λ none. elim (visit.absent (kind, none)) [
        | inl takes ↦ taken_feasible plan after g kind none feasible takes
        | inr same ↦ subst (IsFeasible s) (sym same.1) feasible
      ])

  visits_feasible : (plan after : List Placement) (gs : List ℕ) → All (λ g. g < length s.groups) gs → IsFeasible s plan
      → VisitsEach s plan gs after → IsFeasible s after
  visits_feasible plan after [] below feasible e = subst (IsFeasible s) (sym e) feasible
  visits_feasible plan after (g ∷ gs) below feasible (next, visit, rest) =
      visits_feasible next after gs (All-tail (λ h. h < length s.groups) g gs below)
      (visit_feasible plan next g (All-head (λ h. h < length s.groups) g gs below) feasible visit) rest

  pub filled_feasible : (plan after : List Placement) (passes : List (List Placement)) → IsFeasible s plan → PassesTo s plan passes after → IsFeasible s after
  filled_feasible plan after [] feasible (e, pass) = subst (IsFeasible s) (sym e) feasible
  filled_feasible plan after (next ∷ passes) feasible ((order, is_order, visits), differ, rest) =
      filled_feasible next after passes (visits_feasible plan next order is_order.places feasible visits) rest

  -- a visit leaves the plan as it is, or makes it longer
  abbrev Grows : List Placement → List Placement → Type 0
  Grows plan after = (after ≡ plan) ⊎ (length plan < length after)

  longer : (plan : List Placement) (p : Placement) → length plan < length (plan ++ p ∷ [])
  longer plan p = let count : length (plan ++ p ∷ []) ≡ length plan + 1 = length-append plan (p ∷ []) in omega arith

  grows_on : (plan next after : List Placement) → Grows plan next → Grows next after → Grows plan after
  grows_on plan next after (inl e) (inl f) = inl (f ∙ e)
  grows_on plan next after (inl e) (inr l) = inr (subst (λ (xs : List Placement). length xs < length after) e l)
  grows_on plan next after (inr l) (inl f) = inr (subst (λ (xs : List Placement). length plan < length xs) (sym f) l)
  grows_on plan next after (inr l) (inr m) = inr (omega arith)

  one_grows : (plan after : List Placement) (r : ℕ) → TriesOne s plan r after → Grows plan after
  one_grows plan after r (inl (c, e)) = inl e
  one_grows plan after r (inr (n, inl (p, earliest, e))) = inr (subst (λ (xs : List Placement). length plan < length xs) (sym e) (longer plan p))
  one_grows plan after r (inr (n, inr (none, e))) = inl e

  each_grows : (plan after : List Placement) (rs : List ℕ) → TriesEach s plan rs after → Grows plan after
  each_grows plan after [] e = inl e
  each_grows plan after (r ∷ rs) (next, one, rest) = grows_on plan next after (one_grows plan next r one) (each_grows next after rs rest)

  until_grows : (plan after : List Placement) (rs : List ℕ) → TriesUntilOne s plan rs after → Grows plan after
  until_grows plan after [] e = inl e
  until_grows plan after (r ∷ rs) (inl (p, earliest, e)) = inr (subst (λ (xs : List Placement). length plan < length xs) (sym e) (longer plan p))
  until_grows plan after (r ∷ rs) (inr (none, rest)) = until_grows plan after rs rest

  taken_longer : (plan after : List Placement) (rs : List ℕ) → TakesEach s plan rs after → length after ≡ length plan + length rs
  taken_longer plan after [] e = let count : length after ≡ length plan = ap (λ (xs : List Placement). length xs) e in omega arith
  taken_longer plan after (r ∷ rs) (p, earliest, rest) =
      let count : length (plan ++ p ∷ []) ≡ length plan + 1 = length-append plan (p ∷ []) in
      let more = taken_longer (plan ++ p ∷ []) after rs rest in
      omega arith

  visit_grows : (plan after : List Placement) (g : ℕ) → g < length s.groups → VisitsGroup s plan g after → Grows plan after
  visit_grows plan after g below visit = let kind = kind_of s g below in by kind.0 kind.1
    where
      by_placed : (k : Op) → IsKind s k g → IsKind s OneOf g ⊎ IsKind s And g → (HasNonePlaced s plan g → Grows plan after) → Grows plan after
      by_placed k kind either when_none = elim (none_or_one (requests_of plan) (members s g)) [
        | inl none ↦ when_none none
        | inr one ↦ inl (visit.served either (λ none. All-contains (λ a. ¬ (Contains (requests_of plan) a)) (members s g) one.0 none one.1 one.2))
      ]

      by : (k : Op) → IsKind s k g → Grows plan after
      by Single kind = each_grows plan after (members s g) (visit.alone (inl kind))
      by Many kind = each_grows plan after (members s g) (visit.alone (inr kind))
      by OneOf kind = by_placed OneOf kind (inl kind) (λ none. let order = visit.untouched (kind, none) in until_grows plan after order.0 order.2)
      by And kind = by_placed And kind (inr kind) (λ none. elim (visit.absent (kind, none)) [
        | inl takes ↦ let count = taken_longer plan after (members s g) takes in let some = some_member s g orderly below in inr (omega arith)
        | inr same ↦ inl same.1
      ])

  visits_grow : (plan after : List Placement) (gs : List ℕ) → All (λ g. g < length s.groups) gs → VisitsEach s plan gs after → Grows plan after
  visits_grow plan after [] below e = inl e
  visits_grow plan after (g ∷ gs) below (next, visit, rest) =
      grows_on plan next after (visit_grows plan next g (All-head (λ h. h < length s.groups) g gs below) visit)
      (visits_grow next after gs (All-tail (λ h. h < length s.groups) g gs below) rest)

  -- where two steps lead back to the plan, neither changes it
  stays : (plan next : List Placement) → Grows plan next → Grows next plan → next ≡ plan
  stays plan next (inl e) back = e
  stays plan next (inr l) (inl f) = sym f
  stays plan next (inr l) (inr m) = absurd (omega arith)

  -- a pass that adds nothing changes nothing at any group
  visits_still : (plan : List Placement) (gs : List ℕ) → All (λ g. g < length s.groups) gs → VisitsEach s plan gs plan → All (λ g. VisitsGroup s plan g plan) gs
  visits_still plan [] below e = All-nil (λ g. VisitsGroup s plan g plan)
  visits_still plan (g ∷ gs) below (next, visit, rest) =
      let later = All-tail (λ h. h < length s.groups) g gs below in
      let same : next ≡ plan = stays plan next (visit_grows plan next g (All-head (λ h. h < length s.groups) g gs below) visit)
      (visits_grow next plan gs later rest) in
      All-cons (λ h. VisitsGroup s plan h plan) g gs (subst (λ (xs : List Placement). VisitsGroup s plan g xs) same visit)
      (visits_still plan gs later (subst (λ (xs : List Placement). VisitsEach s xs gs plan) same rest))

  not_longer : (plan : List Placement) (p : Placement) → plan ≡ plan ++ p ∷ [] → ⊥
  not_longer plan p e = let more = longer plan p in let same : length plan ≡ length (plan ++ p ∷ []) = ap (λ (xs : List Placement). length xs) e in omega arith

  each_still : (plan : List Placement) (rs : List ℕ) → TriesEach s plan rs plan → All (λ r. Contains (requests_of plan) r ⊎ HasNoFree s plan r) rs
  each_still plan [] e = All-nil (λ r. Contains (requests_of plan) r ⊎ HasNoFree s plan r)
  each_still plan (r ∷ rs) (next, one, rest) =
      let same : next ≡ plan = stays plan next (one_grows plan next r one) (each_grows next plan rs rest) in
      All-cons (λ x. Contains (requests_of plan) x ⊎ HasNoFree s plan x) r rs (still (subst (λ (xs : List Placement). TriesOne s plan r xs) same one))
      (each_still plan rs (subst (λ (xs : List Placement). TriesEach s xs rs plan) same rest))
    where
      still : TriesOne s plan r plan → Contains (requests_of plan) r ⊎ HasNoFree s plan r
      still (inl (c, e)) = inl c
      still (inr (n, inl (p, earliest, e))) = absurd (not_longer plan p e)
      still (inr (n, inr (none, e))) = inr none

  until_still : (plan : List Placement) (rs : List ℕ) → TriesUntilOne s plan rs plan → All (HasNoFree s plan) rs
  until_still plan [] e = All-nil (HasNoFree s plan)
  until_still plan (r ∷ rs) (inl (p, earliest, e)) = absurd (not_longer plan p e)
  until_still plan (r ∷ rs) (inr (none, rest)) = All-cons (HasNoFree s plan) r rs none (until_still plan rs rest)

  -- where no visit changes it, nothing can be added
  still_saturated : (plan : List Placement) → ((g : ℕ) → g < length s.groups → VisitsGroup s plan g plan) → IsSaturated s plan
  still_saturated plan visit = record {
    alone = λ g p kind of unplaced free. none_free g p kind of unplaced p refl free;
    whole = λ g after absent takes. elim ((visit g (and_below g absent.0)).absent absent) [
      | inl taken ↦ let count = taken_longer plan plan (members s g) taken in let some = some_member s g orderly (and_below g absent.0) in absurd (omega arith)
      | inr nothing ↦ nothing.0 after takes
    ];
  }
    where
      -- a group that is an AND is one of the snapshot's
      and_below : (g : ℕ) → IsKind s And g → g < length s.groups
      and_below g kind = within (below_or_not g (length s.groups))
        where
          below_or_not : (a b : ℕ) → (a < b) ⊎ (b ≤ a)
          below_or_not a b = grind arith

          past : (xs : List GroupPart) (i : ℕ) (d : GroupPart) → length xs ≤ i → slice_index_or xs i d ≡ d
          past [] i d l = refl
          past (x ∷ xs) zero d l = absurd (omega arith)
          past (x ∷ xs) (suc i) d l = past xs i d (omega arith)

          other : GroupPart
          other = record { group = record { 0 = 0 }; op = Single; requests = []; quota = None }

          within : (g < length s.groups) ⊎ (length s.groups ≤ g) → g < length s.groups
          within (inl l) = l
          within (inr l) = let bad : Single ≡ And = sym (ap (λ (x : GroupPart). x.op) (past s.groups g other l)) ∙ kind other in cc

      none_free : (g : ℕ) (p : Placement) → (IsKind s Single g ⊎ IsKind s Many g) ⊎ IsUntouched s plan g → IsOf s g p.request.0
          → ¬ (Contains (requests_of plan) p.request.0) → HasNoFree s plan p.request.0
      none_free g p (inl kind) of unplaced =
          let below : g < length s.groups = subst (λ (n : ℕ). n < length s.groups) of.1 (group_known s p.request.0 of.0) in
          elim (All-contains (λ r. Contains (requests_of plan) r ⊎ HasNoFree s plan r) (members s g) p.request.0
          (each_still plan (members s g) ((visit g below).alone kind)) (member_is_of s g p.request.0 of)) [
            | inl c ↦ absurd (unplaced c)
            | inr none ↦ none
          ]
      none_free g p (inr untouched) of unplaced =
          let below : g < length s.groups = subst (λ (n : ℕ). n < length s.groups) of.1 (group_known s p.request.0 of.0) in
          let order = (visit g below).untouched untouched in
          All-contains (HasNoFree s plan) order.0 p.request.0 (until_still plan order.0 order.2) (order.1.complete p.request.0 of)

  pub filled_saturated : (plan after : List Placement) (passes : List (List Placement)) → PassesTo s plan passes after → IsSaturated s after
  filled_saturated plan after [] (e, (order, is_order, visits)) =
      subst (IsSaturated s) (sym e) (still_saturated plan
      (λ g below. All-contains (λ h. VisitsGroup s plan h plan) order g (visits_still plan order is_order.places visits)
      (is_order.complete g below)))
  filled_saturated plan after (next ∷ passes) (pass, differ, rest) = filled_saturated next after passes rest
