-- What a visit of a group of each kind does.
use Rattle.std.proofs.Common.{true, false, ◌≡◌, ◌≢◌, ℕ, zero, suc, ◌+◌, ◌<◌, ◌≤◌, ◌⊎◌, inl, inr, List, [], ◌∷◌, ◌++◌, length, drop, take}
use Rattle.std.proofs.Common.{slice_index_or, All, AllPairs, Contains, add-one, refl, sym, ◌∙◌, ap, subst, arith}
use Rattle.std.proofs.lemmas.List.{drop_more, drop_all, length_push, take-append-le, length-map, get_or-map}
use Rattle.std.proofs.lemmas.List.Elements.{All-head, All-tail, Contains-push_cases}
use Rattle.plan_base.specs.declared.parts.Parts.{Parts}
use Rattle.plan_base.specs.declared.parts.Op.{Op}
use Rattle.plan_base.specs.declared.parts.Op.TheVariants.{Single, Many, OneOf, And}
use Rattle.plan_base.specs.declared.claim.Placement.{Placement}
use Rattle.plan_base.specs.Requests.{IsKind, members}
use Rattle.plan_base.specs.Feasible.{requests_of}
use Rattle.plan_base.specs.Saturated.{HasNoFree, HasNonePlaced, IsEarliestFree, TakesEach}
use Rattle.plan_base.specs.Fill.{TriesOne, TriesEach, TriesUntilOne, TakesAllOrNone, IsMemberOrder, VisitsGroup, VisitsEach, IsPass, IsFilled}
use Rattle.plan_base.proofs.Adding.{requests_push}
use Rattle.plan_base.proofs.OneFill.{one_earliest}
use Rattle.plan_base.proofs.Orders.{pairs_tail}
use Rattle.plan_base.proofs.Rebates.{one_kind}
use Rattle.repair.specs.declared.entry.Entry.{Entry}
use Rattle.repair.specs.Entries.{numbers_of}
use Rattle.repair.specs.Steps.{AddsSome}

-- the requests that are left from the i-th on
pub numbers_left : (entries : List Entry) (i : ℕ) (e : Entry) → i < length entries → e ≡ slice_index_or entries i e
    → numbers_of (drop i entries) ≡ e.request.0 ∷ numbers_of (drop (i + 1) entries)
numbers_left entries i e l is = ap numbers_of (drop_more entries i e l ∙ ap (λ (x : Entry). x ∷ drop (i + 1) entries) (sym is))

pub none_left : (entries : List Entry) (i : ℕ) → length entries ≤ i → numbers_of (drop i entries) ≡ []
none_left entries i l = ap numbers_of (drop_all i entries l)

-- what holds of all the requests holds of the i-th
pub at_entry : (P : ℕ → Type 0) (entries : List Entry) (i : ℕ) (e : Entry) → All P (numbers_of entries) → i < length entries
    → e ≡ slice_index_or entries i e → P e.request.0
at_entry P entries i e all l is =
    let count : length (numbers_of entries) ≡ length entries = length-map entries (λ x. x.request.0) in
    subst P (get_or-map (λ x. x.request.0) entries i e 0 l ∙ ap (λ (x : Entry). x.request.0) (sym is)) (all i 0 (omega arith))

-- no request stands twice among those that are left
pub once_left : (entries : List Entry) (i : ℕ) → AllPairs (λ a b. a ≢ b) (numbers_of entries) → AllPairs (λ a b. a ≢ b) (numbers_of (drop i entries))
once_left entries zero once = once
once_left [] (suc i) once = once
once_left (x ∷ xs) (suc i) once = once_left xs i (pairs_tail (λ a b. a ≢ b) x.request.0 (numbers_of xs) once)

-- ---- one after another

pub tries_more : (s : Parts) (start plan next : List Placement) (entries : List Entry) (i : ℕ) (e : Entry) → i < length entries
    → e ≡ slice_index_or entries i e → TriesOne s plan e.request.0 next
    → ((after : List Placement) → TriesEach s plan (numbers_of (drop i entries)) after → TriesEach s start (numbers_of entries) after)
    → (after : List Placement) → TriesEach s next (numbers_of (drop (i + 1) entries)) after → TriesEach s start (numbers_of entries) after
tries_more s start plan next entries i e l is one so_far after rest =
    so_far after (subst (λ (rs : List ℕ). TriesEach s plan rs after) (sym (numbers_left entries i e l is)) (next, one, rest))

pub tries_all : (s : Parts) (start plan : List Placement) (entries : List Entry) (i : ℕ) → length entries ≤ i
    → ((after : List Placement) → TriesEach s plan (numbers_of (drop i entries)) after → TriesEach s start (numbers_of entries) after)
    → TriesEach s start (numbers_of entries) plan
tries_all s start plan entries i l so_far = so_far plan (subst (λ (rs : List ℕ). TriesEach s plan rs plan) (sym (none_left entries i l)) refl)

-- ---- until one is placed

pub until_more : (s : Parts) (plan : List Placement) (entries : List Entry) (i : ℕ) (e : Entry) → i < length entries → e ≡ slice_index_or entries i e
    → HasNoFree s plan e.request.0
    → ((after : List Placement) → TriesUntilOne s plan (numbers_of (drop i entries)) after → TriesUntilOne s plan (numbers_of entries) after)
    → (after : List Placement) → TriesUntilOne s plan (numbers_of (drop (i + 1) entries)) after → TriesUntilOne s plan (numbers_of entries) after
until_more s plan entries i e l is none so_far after rest =
    so_far after (subst (λ (rs : List ℕ). TriesUntilOne s plan rs after) (sym (numbers_left entries i e l is)) (inr (none, rest)))

pub until_placed : (s : Parts) (plan next : List Placement) (entries : List Entry) (i : ℕ) (e : Entry) → i < length entries
    → e ≡ slice_index_or entries i e → (p : Placement) × IsEarliestFree s plan e.request.0 p × (next ≡ plan ++ p ∷ [])
    → ((after : List Placement) → TriesUntilOne s plan (numbers_of (drop i entries)) after → TriesUntilOne s plan (numbers_of entries) after)
    → TriesUntilOne s plan (numbers_of entries) next
until_placed s plan next entries i e l is placed so_far =
    so_far next (subst (λ (rs : List ℕ). TriesUntilOne s plan rs next) (sym (numbers_left entries i e l is)) (inl placed))

pub until_all : (s : Parts) (plan : List Placement) (entries : List Entry) (i : ℕ) → length entries ≤ i
    → ((after : List Placement) → TriesUntilOne s plan (numbers_of (drop i entries)) after → TriesUntilOne s plan (numbers_of entries) after)
    → TriesUntilOne s plan (numbers_of entries) plan
until_all s plan entries i l so_far = so_far plan (subst (λ (rs : List ℕ). TriesUntilOne s plan rs plan) (sym (none_left entries i l)) refl)

-- ---- all or none

-- what is taken of the first entries of an AND, and what is left to take
pub record IsTaken (s : Parts) (start plan : List Placement) (entries : List Entry) (i : ℕ) : Type 0 where
  pub front : take (length start) plan ≡ start
  pub count : length plan ≡ length start + i
  pub on : (after : List Placement) → TakesEach s plan (numbers_of (drop i entries)) after → TakesEach s start (numbers_of entries) after
  pub back : (after : List Placement) → TakesEach s start (numbers_of entries) after → TakesEach s plan (numbers_of (drop i entries)) after
  pub unplaced : All (λ r. ¬ (Contains (requests_of plan) r)) (numbers_of (drop i entries))

-- what is left when all that was added is taken out again
pub left_over : (new next plan start : List Placement) (n : ℕ) → new ≡ take n next → next ≡ plan → n ≡ length start
    → take (length start) plan ≡ start → new ≡ start
left_over new next plan start n is same count front = is ∙ ap (λ (xs : List Placement). take n xs) same ∙ ap (λ (k : ℕ). take k plan) count ∙ front

pub taken_none : (s : Parts) (start : List Placement) (entries : List Entry) → take (length start) start ≡ start
    → All (λ r. ¬ (Contains (requests_of start) r)) (numbers_of entries) → IsTaken s start start entries 0
taken_none s start entries whole unplaced =
    record { front = whole; count = omega arith; on = λ after takes. takes; back = λ after takes. takes; unplaced = unplaced }

pub taken_more : (s : Parts) (start plan next : List Placement) (entries : List Entry) (i : ℕ) (e : Entry) → i < length entries
    → e ≡ slice_index_or entries i e → AllPairs (λ a b. a ≢ b) (numbers_of (drop i entries))
    → (p : Placement) × IsEarliestFree s plan e.request.0 p × (next ≡ plan ++ p ∷ []) → IsTaken s start plan entries i → IsTaken s start next entries (i + 1)
taken_more s start plan next entries i e l is once (p, earliest, added) taken =
    let left : numbers_of (drop i entries) ≡ e.request.0 ∷ numbers_of (drop (i + 1) entries) = numbers_left entries i e l is in
    let more : length (plan ++ p ∷ []) ≡ length plan + 1 = length_push plan p in
    let longer : length next ≡ length (plan ++ p ∷ []) = ap (λ (xs : List Placement). length xs) added in
    let count : length plan ≡ length start + i = taken.count in
    record {
      front = ap (λ (xs : List Placement). take (length start) xs) added ∙ take-append-le (length start) plan (p ∷ []) (omega arith) ∙ taken.front;
      count = omega arith;
      on = λ after rest. taken.on after
          (subst (λ (rs : List ℕ). TakesEach s plan rs after) (sym left)
          (p, earliest, subst (λ (xs : List Placement). TakesEach s xs (numbers_of (drop (i + 1) entries)) after) added rest));
      back = λ after takes.
          let here : TakesEach s plan (e.request.0 ∷ numbers_of (drop (i + 1) entries)) after =
          subst (λ (rs : List ℕ). TakesEach s plan rs after) left (taken.back after takes) in
          let same : here.0 ≡ p = one_earliest s plan e.request.0 here.0 p here.1 earliest in
          subst (λ (xs : List Placement). TakesEach s xs (numbers_of (drop (i + 1) entries)) after)
          (ap (λ (q : Placement). plan ++ q ∷ []) same ∙ sym added) here.2;
      unplaced = λ k d below has.
          let both : All (λ r. ¬ (Contains (requests_of plan) r)) (e.request.0 ∷ numbers_of (drop (i + 1) entries)) =
          subst (All (λ r. ¬ (Contains (requests_of plan) r))) left taken.unplaced in
          let pairs : AllPairs (λ a b. a ≢ b) (e.request.0 ∷ numbers_of (drop (i + 1) entries)) = subst (AllPairs (λ a b. a ≢ b)) left once in
          let r : ℕ = slice_index_or (numbers_of (drop (i + 1) entries)) k d in
          let in_more : Contains (requests_of plan ++ p.request.0 ∷ []) r =
          subst (λ (rs : List ℕ). Contains rs r) (ap requests_of added ∙ requests_push plan p) has in
          elim (Contains-push_cases (requests_of plan) p.request.0 r in_more) [
            | inl old ↦ All-tail (λ x. ¬ (Contains (requests_of plan) x)) e.request.0 (numbers_of (drop (i + 1) entries)) both k d below old
            | inr same ↦ pairs 0 (k + 1) d (omega arith) (omega arith) (sym earliest.same_request ∙ same ∙ shifted k d)
          ];
    }
  where
    shifted : (k d : ℕ) → slice_index_or (numbers_of (drop (i + 1) entries)) k d ≡ slice_index_or (e.request.0 ∷ numbers_of (drop (i + 1) entries)) (k + 1) d
    shifted k d = rw (add-one k) refl

pub next_unplaced : (s : Parts) (start plan : List Placement) (entries : List Entry) (i : ℕ) (e : Entry) → i < length entries
    → e ≡ slice_index_or entries i e → IsTaken s start plan entries i → ¬ (Contains (requests_of plan) e.request.0)
next_unplaced s start plan entries i e l is taken =
    All-head (λ r. ¬ (Contains (requests_of plan) r)) e.request.0 (numbers_of (drop (i + 1) entries))
    (subst (All (λ r. ¬ (Contains (requests_of plan) r))) (numbers_left entries i e l is) taken.unplaced)

pub taken_all : (s : Parts) (start plan : List Placement) (entries : List Entry) (i : ℕ) → length entries ≤ i → IsTaken s start plan entries i
    → TakesAllOrNone s start (numbers_of entries) plan
taken_all s start plan entries i l taken = inl (taken.on plan (subst (λ (rs : List ℕ). TakesEach s plan rs plan) (sym (none_left entries i l)) refl))

pub taken_not : (s : Parts) (start plan : List Placement) (entries : List Entry) (i : ℕ) (e : Entry) → i < length entries
    → e ≡ slice_index_or entries i e → HasNoFree s plan e.request.0 → IsTaken s start plan entries i
    → TakesAllOrNone s start (numbers_of entries) start
taken_not s start plan entries i e l is none taken = inr (
  λ after takes.
      let here : TakesEach s plan (e.request.0 ∷ numbers_of (drop (i + 1) entries)) after =
      subst (λ (rs : List ℕ). TakesEach s plan rs after) (numbers_left entries i e l is) (taken.back after takes) in
      none here.0 here.1.same_request here.1.free,
  refl,
)

-- ---- groups

pub visit_alone : (s : Parts) (plan after : List Placement) (g : ℕ) (k : Op) (rs : List ℕ) → IsKind s k g → k ≢ OneOf → k ≢ And → rs ≡ members s g
    → TriesEach s plan rs after → VisitsGroup s plan g after
visit_alone s plan after g k rs kind no_oneof no_and same tries = record {
  alone = λ either. subst (λ (xs : List ℕ). TriesEach s plan xs after) same tries;
  untouched = λ h. absurd (no_oneof (one_kind s g k OneOf kind h.0));
  absent = λ h. absurd (no_and (one_kind s g k And kind h.0));
  served = λ either. absurd (elim either [ inl h ↦ no_oneof (one_kind s g k OneOf kind h) | inr h ↦ no_and (one_kind s g k And kind h) ]);
}

not_alone : (s : Parts) (g : ℕ) (k : Op) → IsKind s k g → k ≢ Single → k ≢ Many → ¬ (IsKind s Single g ⊎ IsKind s Many g)
not_alone s g k kind no_single no_many either = elim either [ inl h ↦ no_single (one_kind s g k Single kind h) | inr h ↦ no_many (one_kind s g k Many kind h) ]

one_of_not_and : OneOf ≢ And
one_of_not_and e = cc

and_not_one_of : And ≢ OneOf
and_not_one_of e = cc

one_of_alone : (s : Parts) (g : ℕ) → IsKind s OneOf g → ¬ (IsKind s Single g ⊎ IsKind s Many g)
one_of_alone s g kind = not_alone s g OneOf kind (λ e. cc) (λ e. cc)

and_alone : (s : Parts) (g : ℕ) → IsKind s And g → ¬ (IsKind s Single g ⊎ IsKind s Many g)
and_alone s g kind = not_alone s g And kind (λ e. cc) (λ e. cc)

pub visit_served : (s : Parts) (plan : List Placement) (g : ℕ) (k : Op) → IsKind s k g → k ≢ Single → k ≢ Many → ¬ (HasNonePlaced s plan g)
    → VisitsGroup s plan g plan
visit_served s plan g k kind no_single no_many some = record {
  alone = λ either. absurd (not_alone s g k kind no_single no_many either);
  untouched = λ h. absurd (some h.1);
  absent = λ h. absurd (some h.1);
  served = λ either none. refl;
}

pub visit_untouched : (s : Parts) (plan after : List Placement) (g : ℕ) (order : List ℕ) → IsKind s OneOf g → HasNonePlaced s plan g
    → IsMemberOrder s g order → TriesUntilOne s plan order after → VisitsGroup s plan g after
visit_untouched s plan after g order kind none is_order tries = record {
  alone = λ either. absurd (one_of_alone s g kind either);
  untouched = λ h. (order, is_order, tries);
  absent = λ h. absurd (one_of_not_and (one_kind s g OneOf And kind h.0));
  served = λ either some. absurd (some none);
}

pub visit_absent : (s : Parts) (plan after : List Placement) (g : ℕ) (rs : List ℕ) → IsKind s And g → HasNonePlaced s plan g → rs ≡ members s g
    → TakesAllOrNone s plan rs after → VisitsGroup s plan g after
visit_absent s plan after g rs kind none same takes = record {
  alone = λ either. absurd (and_alone s g kind either);
  untouched = λ h. absurd (and_not_one_of (one_kind s g And OneOf kind h.0));
  absent = λ h. subst (λ (xs : List ℕ). TakesAllOrNone s plan xs after) same takes;
  served = λ either some. absurd (some none);
}

-- ---- passes

pub visits_more : (s : Parts) (start plan next : List Placement) (order : List ℕ) (i g : ℕ) → i < length order → g ≡ slice_index_or order i g
    → VisitsGroup s plan g next
    → ((after : List Placement) → VisitsEach s plan (drop i order) after → VisitsEach s start order after)
    → (after : List Placement) → VisitsEach s next (drop (i + 1) order) after → VisitsEach s start order after
visits_more s start plan next order i g l is visit so_far after rest =
    so_far after (subst (λ (gs : List ℕ). VisitsEach s plan gs after) (sym (drop_more order i g l ∙ ap (λ (x : ℕ). x ∷ drop (i + 1) order) (sym is)))
    (next, visit, rest))

pub visits_all : (s : Parts) (start plan : List Placement) (order : List ℕ) (i : ℕ) → length order ≤ i
    → ((after : List Placement) → VisitsEach s plan (drop i order) after → VisitsEach s start order after) → VisitsEach s start order plan
visits_all s start plan order i l so_far = so_far plan (subst (λ (gs : List ℕ). VisitsEach s plan gs plan) (sym (drop_all i order l)) refl)

-- a pass that adds something, and then what it takes to fill the plan
pub filled_more : (s : Parts) (plan next after : List Placement) → IsPass s plan next → AddsSome true plan next → IsFilled s next after → IsFilled s plan after
filled_more s plan next after pass longer filled = (
  next ∷ filled.0,
  (
    pass,
    (λ same. let equal : length next ≡ length plan = ap (λ (xs : List Placement). length xs) same in
        let more : length plan < length next = longer in omega arith),
    filled.1,
  ),
)

-- a pass that adds nothing
pub filled_still : (s : Parts) (plan next : List Placement) → IsPass s plan next → AddsSome false plan next → IsFilled s plan next
filled_still s plan next pass same = ([], (same, subst (IsPass s plan) same pass))
