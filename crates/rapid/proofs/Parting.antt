-- What stays of a plan where something has to go for a start.
use Rattle.std.proofs.Common.{◌≡◌, ◌≢◌, ℕ, ◌+◌, ◌≤◌, inl, inr, Bool, true, false, cond, not, ◌==◌, ◌&&◌, List, [], ◌∷◌, ◌++◌, filter, slice_index_or}
use Rattle.std.proofs.Common.{All, Contains, Some, None, Option, refl, sym, ◌∙◌, ap, subst, arith}
use Rattle.std.specs.Bool.{Decides}
use Rattle.std.specs.List.{list_any}
use Rattle.std.proofs.lemmas.Bool.{cases_Bool, and_parts, and_from, not_from_false, not-true, eqb-true, eq-eqb, both_ways}
use Rattle.std.proofs.lemmas.Bool.Decides.{same_from_decides, Decides-not}
use Rattle.std.proofs.lemmas.List.Folds.{Any-from_list_any, list_any-from_Any}
use Rattle.std.proofs.lemmas.List.Elements.{All-contains, All-contains_itself, All-filter, filter_passes, Contains-get_or, Contains-append_left}
use Rattle.std.proofs.lemmas.List.Elements.{Contains-push_cases}
use Rattle.plan_base.specs.declared.parts.Parts.{Parts}
use Rattle.plan_base.specs.declared.parts.Op.{Op}
use Rattle.plan_base.specs.declared.parts.Op.TheVariants.{Single, OneOf, And}
use Rattle.plan_base.specs.declared.claim.Placement.{Placement}
use Rattle.plan_base.specs.Requests.{IsKnown, group_of, quota_of, seconds_of, IsOf, IsKind, AllOrNone}
use Rattle.plan_base.specs.Snapshot.{IsOrderly}
use Rattle.plan_base.specs.Starts.{IsPossibleStart, ShareSlice}
use Rattle.plan_base.specs.Feasible.{requests_of, is_quota, quota_seconds, quota_at, IsFeasible}
use Rattle.plan_base.specs.FeasibleSoFar.{IsFeasibleSoFar}
use Rattle.plan_base.proofs.Adding.{FitsPlan, feasible_from_whole, so_far_from_feasible, so_far_push, fits_from_push, requests_push}
use Rattle.plan_base.proofs.Known.{quota_known}
use Rattle.plan_base.proofs.Lists.{contains_filter, contains_map}
use Rattle.plan_base.proofs.Members.{contains_from_map}
use Rattle.plan_base.proofs.Rebates.{one_kind}
use Rattle.plan_base.proofs.Removing.{so_far_filter}
use Rattle.plan_base.proofs.Tables.{share_symmetric}
use Rattle.rapid.specs.Displaced.{HasToGo, IsPart, Displaces}
use Rattle.rapid.proofs.Appended.{same_filters}

-- those of which P holds are one list
pub one_part : {X : Type 0} (P : X → Type 0) (xs ys zs : List X) → IsPart P xs ys → IsPart P xs zs → ys ≡ zs
one_part P xs ys zs a b = a.those
    ∙ same_filters a.test b.test xs
    (λ i d l. same_from_decides (a.test (slice_index_or xs i d)) (b.test (slice_index_or xs i d)) (a.tells i d l) (b.tells i d l)) ∙ sym b.those

-- what a filter keeps is in the list, and passes
pub kept_in : {X : Type 0} (test : X → Bool) (xs : List X) (x : X) → Contains (filter test xs) x → Contains xs x × (test x ≡ true)
kept_in test xs x c = (
  All-contains (Contains xs) (filter test xs) x (All-filter test (Contains xs) xs (All-contains_itself xs)) c,
  All-contains (λ y. test y ≡ true) (filter test xs) x (filter_passes test xs) c,
)

and_single : And ≢ Single
and_single e = cc

one_of_single : OneOf ≢ Single
one_of_single e = cc

quota_room : (q n m d : ℕ) (o : Option ℕ) → (o ≡ Some q → n + d ≤ m) → n ≤ m → n + cond (is_quota q o) d 0 ≤ m
quota_room q n m d None free within = omega arith
quota_room q n m d (Some p) free within = by (p == q) (λ e. free (ap (λ (k : ℕ). Some k) (eqb-true p q e)))
  where
    by : (b : Bool) → (b ≡ true → n + d ≤ m) → n + cond b d 0 ≤ m
    by true h = h refl
    by false h = omega arith

room_of : (q n m d : ℕ) (o : Option ℕ) → o ≡ Some q → n + cond (is_quota q o) d 0 ≤ m → n + d ≤ m
room_of q n m d None e h = cc
room_of q n m d (Some p) e h = by (p == q) (eq-eqb p q (some_same e)) h
  where
    some_same : Some p ≡ Some q → p ≡ q
    some_same e = cc

    by : (b : Bool) → b ≡ true → n + cond b d 0 ≤ m → n + d ≤ m
    by true e h = h
    by false e h = cc

module _ (s : Parts) (plan : List Placement) (p : Placement) (o : IsOrderly s) (feasible : IsFeasible s plan) (possible : IsPossibleStart s p)
    (single : IsKind s Single (group_of s p.request.0)) (unplaced : ¬ (Contains (requests_of plan) p.request.0))
    (test : Placement → Bool) (tells : All (λ q. Decides (test q) (HasToGo s plan p q)) plan) where
  abbrev gone : List Placement
  gone = filter test plan

  abbrev kept : List Placement
  kept = filter (λ q. not (test q)) plan

  pub parting : Displaces s plan p gone kept
  parting = record {
    go = record { test = test; tells = tells; those = refl };
    stay = record { test = λ q. not (test q); tells = λ i d l. Decides-not (test (slice_index_or plan i d)) (tells i d l); those = refl };
  }

  stays : (q : Placement) → Contains kept q → Contains plan q × (test q ≡ false)
  stays q c = let both = kept_in (λ x. not (test x)) plan q c in (both.0, not-true (test q) both.1)

  tell : (q : Placement) → Contains plan q → Decides (test q) (HasToGo s plan p q)
  tell q c = All-contains (λ x. Decides (test x) (HasToGo s plan p x)) plan q tells c

  -- the start is of no ONEOF and of no AND
  of_none : (k : Op) (g : ℕ) → k ≢ Single → IsKind s k g → IsOf s g p.request.0 → ⊥
  of_none k g other kind of = other (one_kind s g k Single kind (subst (IsKind s Single) of.1 single))

  so_far : IsFeasibleSoFar s kept
  so_far = so_far_filter s (λ q. not (test q)) plan (so_far_from_feasible s plan feasible)

  apart : (q : Placement) → Contains kept q → ¬ (ShareSlice s q p)
  apart q c share = both_ways (test q) (stays q c).1 ((tell q (stays q c).0).1 (inl (share_symmetric s q p share)))

  not_kept : (q : Placement) → Contains kept q → q.request.0 ≢ p.request.0
  not_kept q c e = unplaced (subst (Contains (requests_of plan)) e (contains_map (λ x. x.request.0) plan q (stays q c).0))

  kept_request : (r : ℕ) → Contains (requests_of kept) r → (q : Placement) × Contains kept q × (q.request.0 ≡ r)
  kept_request r c = contains_from_map (λ x. x.request.0) kept r c

  -- where one of an AND's placements has to go, so has each other
  goes_too : (g : ℕ) (a q : Placement) → IsKind s And g → IsOf s g a.request.0 → IsOf s g q.request.0 → Contains plan a
      → HasToGo s plan p a → HasToGo s plan p q
  goes_too g a q kind of_a of_q (k, l, e) (inl share) = inr (k, a, l, e, (share, (g, kind, of_a, of_q)))
  goes_too g a q kind of_a of_q c (inr (k, b, l, e, (share, (h, kind_h, of_b, of_h)))) =
      let same : h ≡ g = sym of_h.1 ∙ of_a.1 in
      inr (k, b, l, e, (share, (g, kind, subst (λ (n : ℕ). IsOf s n b.request.0) same of_b, of_q)))

  abbrev in_group : ℕ → Placement → Bool
  in_group g q = test q && (group_of s q.request.0 == g)

  placed_request : (g r : ℕ) (q : Placement) → q.request.0 ≡ r → IsOf s g r → IsOf s g q.request.0
  placed_request g r q e of = subst (IsOf s g) (sym e) of

  none_left : (g : ℕ) → IsKind s And g → list_any (in_group g) plan ≡ true → (r : ℕ) → IsOf s g r → ¬ (Contains (requests_of (kept ++ p ∷ [])) r)
  none_left g kind any r of c =
      let found = Any-from_list_any (in_group g) plan any in
      let a : Placement = found.1 in
      let a_in : Contains plan a = (found.0, found.2, found.3) in
      let both = and_parts (test a) (group_of s a.request.0 == g) found.4 in
      let of_a : IsOf s g a.request.0 = ((feasible_known a a_in), eqb-true (group_of s a.request.0) g both.1) in
      let goes : HasToGo s plan p a = (tell a a_in).0 both.0 in
      elim (Contains-push_cases (requests_of kept) p.request.0 r (subst (λ (rs : List ℕ). Contains rs r) (requests_push kept p) c)) [
        | inl d ↦
            let q = kept_request r d in
            both_ways (test q.0) (stays q.0 q.1).1 ((tell q.0 (stays q.0 q.1).0).1 (goes_too g a q.0 kind of_a (placed_request g r q.0 q.2 of) a_in goes))
        | inr e ↦ of_none And g and_single kind (subst (IsOf s g) (sym e) of)
      ]
    where
      feasible_known : (a : Placement) → Contains plan a → IsKnown s a.request.0
      feasible_known a c = (All-contains (IsPossibleStart s) plan a feasible.possible c).known

  all_left : (g : ℕ) → list_any (in_group g) plan ≡ false → ((r : ℕ) → IsOf s g r → Contains (requests_of plan) r) → (r : ℕ) → IsOf s g r
      → Contains (requests_of (kept ++ p ∷ [])) r
  all_left g none all r of =
      let q = contains_from_map (λ x. x.request.0) plan r (all r of) in
      let group : group_of s q.0.request.0 ≡ g = ap (group_of s) q.2 ∙ of.1 in
      let stay : test q.0 ≡ false = elim (cases_Bool (test q.0)) [
        | inl goes ↦ absurd (both_ways (list_any (in_group g) plan) none
            (list_any-from_Any (in_group g) plan
            (q.1.0, q.0, q.1.1, q.1.2, and_from (test q.0) (group_of s q.0.request.0 == g) goes (eq-eqb (group_of s q.0.request.0) g group))))
        | inr not_gone ↦ not_gone
      ] in
      let there : Contains kept q.0 = contains_filter (λ x. not (test x)) plan q.0 q.1 (not_from_false (test q.0) stay) in
      subst (λ (rs : List ℕ). Contains rs r) (sym (requests_push kept p))
      (Contains-append_left (requests_of kept) (p.request.0 ∷ []) r (subst (Contains (requests_of kept)) q.2 (contains_map (λ x. x.request.0) kept q.0 there)))

  none_more : (g : ℕ) → IsKind s And g → ((r : ℕ) → IsOf s g r → ¬ (Contains (requests_of plan) r)) → (r : ℕ) → IsOf s g r
      → ¬ (Contains (requests_of (kept ++ p ∷ [])) r)
  none_more g kind none r of c = elim (Contains-push_cases (requests_of kept) p.request.0 r (subst (λ (rs : List ℕ). Contains rs r) (requests_push kept p) c)) [
    | inl d ↦ let q = kept_request r d in none r of (subst (Contains (requests_of plan)) q.2 (contains_map (λ x. x.request.0) plan q.0 (stays q.0 q.1).0))
    | inr e ↦ of_none And g and_single kind (subst (IsOf s g) (sym e) of)
  ]

  whole : (g : ℕ) → IsKind s And g → AllOrNone s g (requests_of plan) → AllOrNone s g (requests_of (kept ++ p ∷ []))
  whole g kind (inl all) = elim (cases_Bool (list_any (in_group g) plan)) [ inl any ↦ inr (none_left g kind any) | inr none ↦ inl (all_left g none all) ]
  whole g kind (inr none) = inr (none_more g kind none)

  -- what stays of the plan, with the start, is feasible where the start's seconds can be added within its quota
  pub feasible_with : ((q : ℕ) → quota_of s p.request.0 ≡ Some q → quota_seconds s q (requests_of kept) + seconds_of s p.request.0 ≤ quota_at s q)
      → IsFeasible s (kept ++ p ∷ [])
  feasible_with room = feasible_from_whole s (kept ++ p ∷ []) (so_far_push s kept p so_far possible fits) (λ g kind. whole g kind (feasible.and_whole g kind))
    where
      fits : FitsPlan s kept p
      fits = record {
        unplaced = λ i d l e. (let q = kept_request (slice_index_or (requests_of kept) i d) (Contains-get_or (requests_of kept) i d l) in
            not_kept q.0 q.1 (q.2 ∙ e));
        apart = λ i d l. apart (slice_index_or kept i d) (Contains-get_or kept i d l);
        oneof_free = λ i d l (g, kind, left, right). of_none OneOf g one_of_single kind right;
        quota_free = λ q l. quota_room q (quota_seconds s q (requests_of kept)) (quota_at s q) (seconds_of s p.request.0) (quota_of s p.request.0)
            (room q) (so_far.within_quotas q l);
      }

  -- and only there
  pub room_where : IsFeasible s (kept ++ p ∷ []) → (q : ℕ) → quota_of s p.request.0 ≡ Some q
      → quota_seconds s q (requests_of kept) + seconds_of s p.request.0 ≤ quota_at s q
  room_where f q e =
      let fits = fits_from_push s kept p (so_far_from_feasible s (kept ++ p ∷ []) f) in
      room_of q (quota_seconds s q (requests_of kept)) (quota_at s q) (seconds_of s p.request.0) (quota_of s p.request.0) e
      (fits.quota_free q (quota_known s p.request.0 o possible.known q e))
