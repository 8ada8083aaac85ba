-- ANDs that are added whole, and starts that are added one by one.
use Rattle.std.proofs.Common.{◌≡◌, ◌≢◌, ℕ, suc, ◌+◌, ◌<◌, ◌≤◌, ◌⊎◌, inl, inr, true, false, ◌==◌, List, [], ◌∷◌, ◌++◌, length, map, take, drop}
use Rattle.std.proofs.Common.{slice_index_or, Option, Some, None, find, All, AllPairs, Contains, refl, sym, ◌∙◌, ap, subst, arith}
use Rattle.std.specs.List.{enumerate_from}
use Rattle.std.proofs.lemmas.List.{drop_more, drop_all, length_push, take-append-le, take_more, take_all, map_push, append-nil, append_assoc}
use Rattle.std.proofs.lemmas.List.{map-append, length-map, get_or-map}
use Rattle.std.proofs.lemmas.List.FromFn.{get_or-enumerate_from}
use Rattle.std.proofs.lemmas.List.Elements.{All-nil, All-cons, All-head, All-tail, Contains-append_left, Contains-append_right, Contains-append_cases}
use Rattle.std.proofs.lemmas.List.Elements.{Contains-push_cases}
use Rattle.plan_base.specs.declared.parts.Parts.{Parts}
use Rattle.plan_base.specs.declared.parts.GroupPart.{GroupPart}
use Rattle.plan_base.specs.declared.parts.Op.TheVariants.{Single, And}
use Rattle.plan_base.specs.declared.claim.Placement.{Placement}
use Rattle.plan_base.specs.Requests.{group_of, IsOf, IsKind, members, AllOrNone}
use Rattle.plan_base.specs.Snapshot.{IsOrderly}
use Rattle.plan_base.specs.Starts.{IsPossibleStart, ShareSlice}
use Rattle.plan_base.specs.Feasible.{requests_of, AreOfOneOneOf, quota_seconds, quota_at, IsFeasible}
use Rattle.plan_base.specs.FeasibleSoFar.{IsFeasibleSoFar}
use Rattle.plan_base.specs.Repaired.{first_starts, AddsWholes, group_places, AddsEach}
use Rattle.plan_base.proofs.Adding.{feasible_from_whole, so_far_from_feasible, requests_push, pairs_of_first, quota_seconds_push}
use Rattle.plan_base.proofs.Members.{is_of_member, member_is_of}
use Rattle.groups.proofs.Keeping.{found_placement}
use Rattle.repair.specs.declared.entry.Entry.{Entry}
use Rattle.repair.specs.declared.ranked.Ranked.{Ranked}
use Rattle.repair.specs.Entries.{numbers_of}
use Rattle.repair.specs.Repairs.{AddsWhole, AddsFirst, AddsFirsts, AddsAllOrNone, PlacesAllOrNone, AddsOne, start_of}
use Rattle.repair.proofs.Visiting.{numbers_left, none_left}

-- ---- plans without what was added last

pub all_left : {X : Type 0} (P : X → Type 0) (xs ys : List X) → All P (xs ++ ys) → All P xs
all_left P [] ys a = All-nil P
all_left P (x ∷ xs) ys a = All-cons P x xs (All-head P x (xs ++ ys) a) (all_left P xs ys (All-tail P x (xs ++ ys) a))

-- a plan that is feasible so far is so without its last placement
pub so_far_last : (s : Parts) (plan : List Placement) (p : Placement) → IsFeasibleSoFar s (plan ++ p ∷ []) → IsFeasibleSoFar s plan
so_far_last s plan p f =
    let rs : requests_of (plan ++ p ∷ []) ≡ requests_of plan ++ p.request.0 ∷ [] = requests_push plan p in
    record {
      possible = all_left (IsPossibleStart s) plan (p ∷ []) f.possible;
      once = pairs_of_first (λ a b. a ≢ b) (requests_of plan) p.request.0 (subst (AllPairs (λ a b. a ≢ b)) rs f.once);
      disjoint = pairs_of_first (λ a b. ¬ (ShareSlice s a b)) plan p f.disjoint;
      oneof_once = pairs_of_first (λ a b. ¬ (AreOfOneOneOf s a b)) (requests_of plan) p.request.0
          (subst (AllPairs (λ a b. ¬ (AreOfOneOneOf s a b))) rs f.oneof_once);
      within_quotas = λ q l.
          let more : quota_seconds s q (requests_of plan ++ p.request.0 ∷ []) ≡ quota_seconds s q (requests_of plan) + _ =
          quota_seconds_push s q (requests_of plan) p.request.0 in
          let within : quota_seconds s q (requests_of plan ++ p.request.0 ∷ []) ≤ quota_at s q =
          subst (λ (xs : List ℕ). quota_seconds s q xs ≤ quota_at s q) rs (f.within_quotas q l) in
          omega arith;
    }

-- and without any number of the last
pub so_far_front : (s : Parts) (xs ys : List Placement) → IsFeasibleSoFar s (xs ++ ys) → IsFeasibleSoFar s xs
so_far_front s xs [] f = subst (IsFeasibleSoFar s) (append-nil xs) f
so_far_front s xs (y ∷ ys) f = so_far_last s xs y (so_far_front s (xs ++ y ∷ []) ys (subst (IsFeasibleSoFar s) (sym (append_assoc xs (y ∷ []) ys)) f))

-- ---- the first starts of requests

pub firsts_from_adds : (s : Parts) (starts plan : List Placement) (rs : List ℕ) (after : List Placement) → IsFeasibleSoFar s plan
    → AddsFirsts s starts plan rs after
    → (firsts : List Placement) × (map (λ p. Some p) firsts ≡ first_starts starts rs) × IsFeasibleSoFar s (plan ++ firsts) × (after ≡ plan ++ firsts)
firsts_from_adds s starts plan [] after so_far e = ([], refl, subst (IsFeasibleSoFar s) (sym (append-nil plan)) so_far, e ∙ sym (append-nil plan))
firsts_from_adds s starts plan (r ∷ rs) after so_far (p, first, fits, rest) =
    let more = firsts_from_adds s starts (plan ++ p ∷ []) rs after fits rest in
    let joined : (plan ++ p ∷ []) ++ more.0 ≡ plan ++ (p ∷ more.0) = append_assoc plan (p ∷ []) more.0 in (
      p ∷ more.0,
      ap (λ (o : Option Placement). o ∷ map (λ q. Some q) more.0) (sym first)
          ∙ ap (λ (os : List (Option Placement)). find (λ q. q.request.0 == r) starts ∷ os) more.1,
      subst (IsFeasibleSoFar s) joined more.2,
      more.3 ∙ joined,
    )

-- the first of two lists that are the same, and what follows it
pub same_head : (x y : Option Placement) (xs ys : List (Option Placement)) → x ∷ xs ≡ y ∷ ys → x ≡ y
same_head x y xs ys e = ap (λ (os : List (Option Placement)). slice_index_or os 0 x) e

pub same_tail : (x y : Option Placement) (xs ys : List (Option Placement)) → x ∷ xs ≡ y ∷ ys → xs ≡ ys
same_tail x y xs ys e = ap (λ (os : List (Option Placement)). drop 1 os) e

pub not_empty : (x : Option Placement) (xs : List (Option Placement)) → x ∷ xs ≡ [] → ⊥
not_empty x xs e = omega (arith, ap (λ (os : List (Option Placement)). length os) e)

pub adds_from_firsts : (s : Parts) (starts plan : List Placement) (rs : List ℕ) (firsts : List Placement)
    → map (λ p. Some p) firsts ≡ first_starts starts rs → IsFeasibleSoFar s (plan ++ firsts) → AddsFirsts s starts plan rs (plan ++ firsts)
adds_from_firsts s starts plan [] [] e f = append-nil plan
adds_from_firsts s starts plan [] (p ∷ ps) e f = absurd (not_empty (Some p) (map (λ q. Some q) ps) e)
adds_from_firsts s starts plan (r ∷ rs) [] e f = absurd (not_empty (find (λ q. q.request.0 == r) starts) (first_starts starts rs) (sym e))
adds_from_firsts s starts plan (r ∷ rs) (p ∷ ps) e f =
    let joined : (plan ++ p ∷ []) ++ ps ≡ plan ++ (p ∷ ps) = append_assoc plan (p ∷ []) ps in
    let whole : IsFeasibleSoFar s ((plan ++ p ∷ []) ++ ps) = subst (IsFeasibleSoFar s) (sym joined) f in (
      p,
      sym (same_head (Some p) (find (λ q. q.request.0 == r) starts) (map (λ q. Some q) ps) (first_starts starts rs) e),
      so_far_front s (plan ++ p ∷ []) ps whole,
      subst (AddsFirsts s starts (plan ++ p ∷ []) rs) joined
          (adds_from_firsts s starts (plan ++ p ∷ []) rs ps
          (same_tail (Some p) (find (λ q. q.request.0 == r) starts) (map (λ q. Some q) ps) (first_starts starts rs) e) whole),
    )

pub firsts_requests : (starts : List Placement) (rs : List ℕ) (firsts : List Placement) → map (λ p. Some p) firsts ≡ first_starts starts rs
    → requests_of firsts ≡ rs
firsts_requests starts [] [] e = refl
firsts_requests starts [] (p ∷ ps) e = absurd (not_empty (Some p) (map (λ q. Some q) ps) e)
firsts_requests starts (r ∷ rs) [] e = absurd (not_empty (find (λ q. q.request.0 == r) starts) (first_starts starts rs) (sym e))
firsts_requests starts (r ∷ rs) (p ∷ ps) e =
    let first : find (λ q. q.request.0 == r) starts ≡ Some p =
    sym (same_head (Some p) (find (λ q. q.request.0 == r) starts) (map (λ q. Some q) ps) (first_starts starts rs) e) in
    let others : map (λ q. Some q) ps ≡ first_starts starts rs = same_tail (Some p) (find (λ q. q.request.0 == r) starts) (map (λ q. Some q) ps)
    (first_starts starts rs) e in
    let number : p.request.0 ≡ r = (found_placement r starts p first).1 in
    ap (λ (n : ℕ). n ∷ requests_of ps) number ∙ ap (λ (ns : List ℕ). r ∷ ns) (firsts_requests starts rs ps others)

-- ---- ANDs stay whole

same_or_not : (a b : ℕ) → (a ≡ b) ⊎ (a ≢ b)
same_or_not a b = grind arith

whole_by : (s : Parts) (rs : List ℕ) (g h : ℕ) → IsOrderly s → (h ≡ g) ⊎ (h ≢ g) → AllOrNone s h rs → AllOrNone s h (rs ++ members s g)
whole_by s rs g h orderly (inl same) before =
    inl (λ r of. Contains-append_right rs (members s g) r (member_is_of s g r (subst (λ (n : ℕ). IsOf s n r) same of)))
whole_by s rs g h orderly (inr other) (inl all) = inl (λ r of. Contains-append_left rs (members s g) r (all r of))
whole_by s rs g h orderly (inr other) (inr nothing) = inr (λ r of c. elim (Contains-append_cases rs (members s g) r c) [
  | inl d ↦ nothing r of d
  | inr m ↦ other (sym of.1 ∙ (is_of_member s g r orderly m).1)
])

-- with all requests of an AND more the plan stays feasible
pub feasible_whole : (s : Parts) (plan firsts : List Placement) (g : ℕ) → IsOrderly s → IsFeasible s plan → IsFeasibleSoFar s (plan ++ firsts)
    → requests_of firsts ≡ members s g → IsFeasible s (plan ++ firsts)
feasible_whole s plan firsts g orderly feasible so_far requests =
    let all : requests_of (plan ++ firsts) ≡ requests_of plan ++ members s g = map-append (λ p. p.request.0) plan firsts
    ∙ ap (λ (rs : List ℕ). requests_of plan ++ rs) requests in
    feasible_from_whole s (plan ++ firsts) so_far
    (λ h kind. subst (AllOrNone s h) (sym all) (whole_by s (requests_of plan) g h orderly (same_or_not h g) (feasible.and_whole h kind)))

-- an AND is added whole where its first starts are all added
pub adds_whole : (s : Parts) (starts plan : List Placement) (g : ℕ) (rs : List ℕ) (after : List Placement) → IsOrderly s → IsKind s And g
    → IsFeasible s plan → rs ≡ members s g → AddsAllOrNone s starts plan rs after → AddsWhole s starts plan g after
adds_whole s starts plan g rs after orderly kind feasible same (inl adds) =
    let found = firsts_from_adds s starts plan rs after (so_far_from_feasible s plan feasible) adds in
    let requests : requests_of found.0 ≡ members s g = firsts_requests starts rs found.0 found.1 ∙ same in
    let whole : IsFeasible s (plan ++ found.0) = feasible_whole s plan found.0 g orderly feasible found.2 requests in
    inl (found.0, record { kind = kind; each_first = found.1 ∙ ap (first_starts starts) same; feasible = whole }, found.3)
adds_whole s starts plan g rs after orderly kind feasible same (inr (none, e)) =
    inr (
      λ firsts can. none (plan ++ firsts)
          (adds_from_firsts s starts plan rs firsts (can.each_first ∙ ap (first_starts starts) (sym same))
          (so_far_from_feasible s (plan ++ firsts) can.feasible)),
      e,
    )

-- and the plan stays feasible
pub places_feasible : (s : Parts) (plan : List Placement) (g : ℕ) (rs : List ℕ) (after : List Placement) → IsOrderly s → IsFeasible s plan
    → rs ≡ members s g → PlacesAllOrNone s plan rs after → IsFeasible s after
places_feasible s plan g rs after orderly feasible same (inl (so_far, requests)) =
    let all : requests_of after ≡ requests_of plan ++ members s g = requests ∙ ap (λ (ns : List ℕ). requests_of plan ++ ns) same in
    feasible_from_whole s after so_far
    (λ h kind. subst (AllOrNone s h) (sym all) (whole_by s (requests_of plan) g h orderly (same_or_not h g) (feasible.and_whole h kind)))
places_feasible s plan g rs after orderly feasible same (inr e) = subst (IsFeasible s) (sym e) feasible

-- and a group of another kind isn't
pub adds_other : (s : Parts) (starts plan : List Placement) (g : ℕ) → ¬ (IsKind s And g) → AddsWhole s starts plan g plan
adds_other s starts plan g other = inr (λ firsts can. other can.kind, refl)

-- ---- one first start after another

-- what is added of the first entries, and what is left to add
pub record IsAdded (s : Parts) (starts start plan : List Placement) (entries : List Entry) (i : ℕ) : Type 0 where
  pub on : (after : List Placement) → AddsFirsts s starts plan (numbers_of (drop i entries)) after → AddsFirsts s starts start (numbers_of entries) after
  pub back : (after : List Placement) → AddsFirsts s starts start (numbers_of entries) after → AddsFirsts s starts plan (numbers_of (drop i entries)) after

pub added_none : (s : Parts) (starts start : List Placement) (entries : List Entry) → IsAdded s starts start start entries 0
added_none s starts start entries = record { on = λ after adds. adds; back = λ after adds. adds }

pub added_more : (s : Parts) (starts start plan next : List Placement) (entries : List Entry) (i : ℕ) (e : Entry) (first : Option Placement)
    → i < length entries → e ≡ slice_index_or entries i e → first ≡ find (λ q. q.request.0 == e.request.0) starts
    → AddsFirst s plan first true next → IsAdded s starts start plan entries i → IsAdded s starts start next entries (i + 1)
added_more s starts start plan next entries i e first l is found (p, some, fits, adds) added =
    let left : numbers_of (drop i entries) ≡ e.request.0 ∷ numbers_of (drop (i + 1) entries) = numbers_left entries i e l is in
    let own : find (λ q. q.request.0 == e.request.0) starts ≡ Some p = sym found ∙ some in
    record {
      on = λ after rest. added.on after
          (subst (λ (rs : List ℕ). AddsFirsts s starts plan rs after) (sym left)
          (p, own, fits, subst (λ (xs : List Placement). AddsFirsts s starts xs (numbers_of (drop (i + 1) entries)) after) adds rest));
      back = λ after takes.
          let here : AddsFirsts s starts plan (e.request.0 ∷ numbers_of (drop (i + 1) entries)) after =
          subst (λ (rs : List ℕ). AddsFirsts s starts plan rs after) left (added.back after takes) in
          let both : Some here.0 ≡ Some p = sym here.1 ∙ own in
          let same : here.0 ≡ p = cc in
          subst (λ (xs : List Placement). AddsFirsts s starts xs (numbers_of (drop (i + 1) entries)) after)
          (ap (λ (q : Placement). plan ++ q ∷ []) same ∙ sym adds) here.3;
    }

pub added_all : (s : Parts) (starts start plan : List Placement) (entries : List Entry) (i : ℕ) → length entries ≤ i
    → IsAdded s starts start plan entries i → AddsAllOrNone s starts start (numbers_of entries) plan
added_all s starts start plan entries i l added =
    inl (added.on plan (subst (λ (rs : List ℕ). AddsFirsts s starts plan rs plan) (sym (none_left entries i l)) refl))

pub added_not : (s : Parts) (starts start plan next : List Placement) (entries : List Entry) (i : ℕ) (e : Entry) (first : Option Placement)
    → i < length entries → e ≡ slice_index_or entries i e → first ≡ find (λ q. q.request.0 == e.request.0) starts
    → AddsFirst s plan first false next → IsAdded s starts start plan entries i → AddsAllOrNone s starts start (numbers_of entries) start
added_not s starts start plan next entries i e first l is found (none, same) added = inr (
  λ after adds.
      let here : AddsFirsts s starts plan (e.request.0 ∷ numbers_of (drop (i + 1) entries)) after =
      subst (λ (rs : List ℕ). AddsFirsts s starts plan rs after) (numbers_left entries i e l is) (added.back after adds) in
      none here.0 (found ∙ here.1) here.2,
  refl,
)

-- ---- all groups

places_at : (s : Parts) (i : ℕ) → i < length (group_places s) → slice_index_or (group_places s) i i ≡ i
places_at s i l =
    let d : ℕ × GroupPart = (i, record { group = record { 0 = 0 }; op = Single; requests = []; quota = None }) in
    let count : length (group_places s) ≡ length (enumerate_from 0 s.groups) = length-map (enumerate_from 0 s.groups) (λ x. x.0) in
    let all : length (enumerate_from 0 s.groups) ≡ length s.groups = length_from 0 s.groups in
    get_or-map (λ x. x.0) (enumerate_from 0 s.groups) i d i (omega arith)
    ∙ ap (λ (x : ℕ × GroupPart). x.0) (get_or-enumerate_from 0 s.groups i d (omega arith)) ∙ plus i
  where
    plus : (n : ℕ) → 0 + n ≡ n
    plus n = omega arith

    length_from : (n : ℕ) (xs : List GroupPart) → length (enumerate_from n xs) ≡ length xs
    length_from n [] = refl
    length_from n (x ∷ xs) = ap (λ (m : ℕ). suc m) (length_from (n + 1) xs)

pub count_places : (s : Parts) → length (group_places s) ≡ length s.groups
count_places s = length-map (enumerate_from 0 s.groups) (λ x. x.0) ∙ length_from 0 s.groups
  where
    length_from : (n : ℕ) (xs : List GroupPart) → length (enumerate_from n xs) ≡ length xs
    length_from n [] = refl
    length_from n (x ∷ xs) = ap (λ (m : ℕ). suc m) (length_from (n + 1) xs)

pub wholes_more : (s : Parts) (starts start plan next : List Placement) (g : ℕ) → g < length s.groups → AddsWhole s starts plan g next
    → ((after : List Placement) → AddsWholes s starts plan (drop g (group_places s)) after → AddsWholes s starts start (group_places s) after)
    → (after : List Placement) → AddsWholes s starts next (drop (g + 1) (group_places s)) after → AddsWholes s starts start (group_places s) after
wholes_more s starts start plan next g l adds so_far after rest =
    let count : length (group_places s) ≡ length s.groups = count_places s in
    let left : drop g (group_places s) ≡ g ∷ drop (g + 1) (group_places s) = drop_more (group_places s) g g (omega arith)
    ∙ ap (λ (n : ℕ). n ∷ drop (g + 1) (group_places s)) (places_at s g (omega arith)) in
    so_far after (subst (λ (gs : List ℕ). AddsWholes s starts plan gs after) (sym left) (elim adds [
      | inl whole ↦ inl (whole.0, whole.1, subst (λ (xs : List Placement). AddsWholes s starts xs (drop (g + 1) (group_places s)) after) whole.2 rest)
      | inr none ↦ inr (none.0, subst (λ (xs : List Placement). AddsWholes s starts xs (drop (g + 1) (group_places s)) after) none.1 rest)
    ]))

pub wholes_all : (s : Parts) (starts start plan : List Placement) (g : ℕ) → length s.groups ≤ g
    → ((after : List Placement) → AddsWholes s starts plan (drop g (group_places s)) after → AddsWholes s starts start (group_places s) after)
    → AddsWholes s starts start (group_places s) plan
wholes_all s starts start plan g l so_far = let count = count_places s in
    so_far plan (subst (λ (gs : List ℕ). AddsWholes s starts plan gs plan) (sym (drop_all g (group_places s) (omega arith))) refl)

-- ---- single starts

-- a start of a request outside every AND that can be added so far leaves the plan feasible
pub feasible_more : (s : Parts) (plan : List Placement) (p : Placement) → IsFeasible s plan → IsFeasibleSoFar s (plan ++ p ∷ [])
    → ¬ (IsKind s And (group_of s p.request.0)) → IsFeasible s (plan ++ p ∷ [])
feasible_more s plan p feasible so_far outside = feasible_from_whole s (plan ++ p ∷ []) so_far (λ h kind. more h kind (feasible.and_whole h kind))
  where
    more : (h : ℕ) → IsKind s And h → AllOrNone s h (requests_of plan) → AllOrNone s h (requests_of (plan ++ p ∷ []))
    more h kind (inl all) = inl (λ r of. subst (λ (rs : List ℕ). Contains rs r) (sym (requests_push plan p))
        (Contains-append_left (requests_of plan) (p.request.0 ∷ []) r (all r of)))
    more h kind (inr none) = inr (λ r of c.
        elim (Contains-push_cases (requests_of plan) p.request.0 r (subst (λ (rs : List ℕ). Contains rs r) (requests_push plan p) c)) [
          | inl d ↦ none r of d
          | inr e ↦ outside (subst (IsKind s And) (sym of.1 ∙ ap (group_of s) (sym e)) kind)
        ])

pub adds_more : (s : Parts) (start plan : List Placement) (ordered : List Placement) (i : ℕ) (p : Placement) → i < length ordered
    → slice_index_or ordered i p ≡ p → IsFeasible s (plan ++ p ∷ [])
    → ((after : List Placement) → AddsEach s plan (drop i ordered) after → AddsEach s start ordered after)
    → (after : List Placement) → AddsEach s (plan ++ p ∷ []) (drop (i + 1) ordered) after → AddsEach s start ordered after
adds_more s start plan ordered i p l is feasible so_far after rest =
    so_far after (subst (λ (ps : List Placement). AddsEach s plan ps after)
    (sym (drop_more ordered i p l ∙ ap (λ (x : Placement). x ∷ drop (i + 1) ordered) is)) (inl (feasible, rest)))

pub adds_not : (s : Parts) (start plan : List Placement) (ordered : List Placement) (i : ℕ) (p : Placement) → i < length ordered
    → slice_index_or ordered i p ≡ p → ¬ (IsFeasible s (plan ++ p ∷ []))
    → ((after : List Placement) → AddsEach s plan (drop i ordered) after → AddsEach s start ordered after)
    → (after : List Placement) → AddsEach s plan (drop (i + 1) ordered) after → AddsEach s start ordered after
adds_not s start plan ordered i p l is not_feasible so_far after rest =
    so_far after (subst (λ (ps : List Placement). AddsEach s plan ps after)
    (sym (drop_more ordered i p l ∙ ap (λ (x : Placement). x ∷ drop (i + 1) ordered) is)) (inr (not_feasible, rest)))

pub adds_all : (s : Parts) (start plan : List Placement) (ordered : List Placement) (i : ℕ) → length ordered ≤ i
    → ((after : List Placement) → AddsEach s plan (drop i ordered) after → AddsEach s start ordered after) → AddsEach s start ordered plan
adds_all s start plan ordered i l so_far = so_far plan (subst (λ (ps : List Placement). AddsEach s plan ps plan) (sym (drop_all i ordered l)) refl)

-- ---- what is placed of the first entries

-- the plan has what it began with, and the requests of the first i entries
pub record IsGrown (start plan : List Placement) (entries : List Entry) (i : ℕ) : Type 0 where
  pub front : take (length start) plan ≡ start
  pub fits : length start ≤ length plan
  pub requests : requests_of plan ≡ requests_of start ++ numbers_of (take i entries)

pub grown_none : (start : List Placement) (entries : List Entry) → take (length start) start ≡ start → IsGrown start start entries 0
grown_none start entries whole = record { front = whole; fits = omega arith; requests = sym (append-nil (requests_of start)) }

pub grown_more : (start plan next : List Placement) (entries : List Entry) (i : ℕ) (e : Entry) (p : Placement) → i < length entries
    → e ≡ slice_index_or entries i e → p.request.0 ≡ e.request.0 → next ≡ plan ++ p ∷ [] → IsGrown start plan entries i
    → IsGrown start next entries (i + 1)
grown_more start plan next entries i e p l is own adds grown =
    let more : length (plan ++ p ∷ []) ≡ length plan + 1 = length_push plan p in
    let longer : length next ≡ length (plan ++ p ∷ []) = ap (λ (xs : List Placement). length xs) adds in
    let fits : length start ≤ length plan = grown.fits in
    let number : slice_index_or entries i e ≡ e = sym is in
    record {
      front = ap (λ (xs : List Placement). take (length start) xs) adds ∙ take-append-le (length start) plan (p ∷ []) fits ∙ grown.front;
      fits = omega arith;
      requests = ap requests_of adds ∙ requests_push plan p ∙ ap (λ (n : ℕ). requests_of plan ++ n ∷ []) own
          ∙ ap (λ (ns : List ℕ). ns ++ e.request.0 ∷ []) grown.requests
          ∙ append_assoc (requests_of start) (numbers_of (take i entries)) (e.request.0 ∷ [])
          ∙ ap (λ (ns : List ℕ). requests_of start ++ ns)
          (sym (ap numbers_of (take_more entries i e l ∙ ap (λ (x : Entry). take i entries ++ x ∷ []) number)
          ∙ map_push (λ x. x.request.0) (take i entries) e));
    }

pub grown_all : (s : Parts) (start plan : List Placement) (entries : List Entry) (i : ℕ) → length entries ≤ i → IsFeasibleSoFar s plan
    → IsGrown start plan entries i → PlacesAllOrNone s start (numbers_of entries) plan
grown_all s start plan entries i l so_far grown =
    inl (so_far, grown.requests ∙ ap (λ (es : List Entry). requests_of start ++ numbers_of es) (take_all i entries l))

-- a start that was tried
pub one_more : (s : Parts) (start plan next : List Placement) (ordered : List Placement) (i : ℕ) (p : Placement) → i < length ordered
    → slice_index_or ordered i p ≡ p → AddsOne s plan p next
    → ((after : List Placement) → AddsEach s plan (drop i ordered) after → AddsEach s start ordered after)
    → (after : List Placement) → AddsEach s next (drop (i + 1) ordered) after → AddsEach s start ordered after
one_more s start plan next ordered i p l is one so_far after rest = elim one [
  | inl added ↦ adds_more s start plan ordered i p l is added.0 so_far after
      (subst (λ (xs : List Placement). AddsEach s xs (drop (i + 1) ordered) after) added.1 rest)
  | inr left ↦ adds_not s start plan ordered i p l is left.0 so_far after
      (subst (λ (xs : List Placement). AddsEach s xs (drop (i + 1) ordered) after) left.1 rest)
]

-- the start of the i-th rank
pub start_at_rank : (ranked : List Ranked) (i : ℕ) (d : Ranked) → i < length ranked
    → slice_index_or (map start_of ranked) i (start_of (slice_index_or ranked i d)) ≡ start_of (slice_index_or ranked i d)
start_at_rank ranked i d l = get_or-map start_of ranked i d (start_of (slice_index_or ranked i d)) l

pub count_ranks : (ranked : List Ranked) → length (map start_of ranked) ≡ length ranked
count_ranks ranked = length-map ranked start_of

-- what holds of all starts that are ranked holds of the i-th
pub at_rank : (P : Placement → Type 0) (ranked : List Ranked) (i : ℕ) (d : Ranked) → All P (map start_of ranked) → i < length ranked
    → P (start_of (slice_index_or ranked i d))
at_rank P ranked i d all l = subst P (start_at_rank ranked i d l) (all i (start_of (slice_index_or ranked i d)) (let count = count_ranks ranked in omega arith))

pub possible_at : (s t : Parts) (ranked : List Ranked) (i : ℕ) (d : Ranked) → t ≡ s → All (IsPossibleStart s) (map start_of ranked)
    → i < length ranked → IsPossibleStart t (start_of (slice_index_or ranked i d))
possible_at s t ranked i d same all l = subst (λ (p : Parts). IsPossibleStart p (start_of (slice_index_or ranked i d))) (sym same)
    (at_rank (IsPossibleStart s) ranked i d all l)

pub outside_at : (s t : Parts) (ranked : List Ranked) (i : ℕ) (d : Ranked) → t ≡ s
    → All (λ p. ¬ (IsKind s And (group_of s p.request.0))) (map start_of ranked) → i < length ranked
    → ¬ (IsKind t And (group_of t (slice_index_or ranked i d).request.0))
outside_at s t ranked i d same all l =
    subst (λ (p : Parts). ¬ (IsKind p And (group_of p (slice_index_or ranked i d).request.0))) (sym same)
    (at_rank (λ q. ¬ (IsKind s And (group_of s q.request.0))) ranked i d all l)

-- one ranked start more
pub rank_more : (s t : Parts) (start plan next : List Placement) (ranked : List Ranked) (i : ℕ) (d : Ranked) → t ≡ s → i < length ranked
    → AddsOne t plan (start_of (slice_index_or ranked i d)) next
    → ((after : List Placement) → AddsEach s plan (drop i (map start_of ranked)) after → AddsEach s start (map start_of ranked) after)
    → (after : List Placement) → AddsEach s next (drop (i + 1) (map start_of ranked)) after → AddsEach s start (map start_of ranked) after
rank_more s t start plan next ranked i d same l one so_far =
    one_more s start plan next (map start_of ranked) i (start_of (slice_index_or ranked i d)) (let count = count_ranks ranked in
    omega arith) (start_at_rank ranked i d l)
    (subst (λ (p : Parts). AddsOne p plan (start_of (slice_index_or ranked i d)) next) same one) so_far
