-- Of all starts of a request, which share no slices with one another, only the one that is tried first can be added.
use Rattle.std.proofs.Common.{◌≡◌, ◌≢◌, ℕ, suc, ◌+◌, ◌<◌, ◌≤◌, ◌⊎◌, inl, inr, ◌==◌, List, [], ◌∷◌, ◌++◌, map, slice_index_or, Some, find, All}
use Rattle.std.proofs.Common.{AllPairs, Contains, IsPermutation, filter, sum_by, sym, ◌∙◌, ap, subst, arith}
use Rattle.std.proofs.lemmas.List.{get_or_default, append-nil, append_assoc, map-append}
use Rattle.std.proofs.lemmas.List.Elements.{All-nil, All-cons, All-tail, All-append, All-push, All-contains, Contains-push, Contains-append_left, filter-append}
use Rattle.std.proofs.lemmas.List.Kept.{AllPairs-cons}
use Rattle.std.proofs.lemmas.List.Sorted.{All-permutation, IsPermutation-refl, IsPermutation-trans, IsPermutation-cons, IsPermutation-to_front}
use Rattle.std.proofs.lemmas.List.Sorted.{IsPermutation-append_left}
use Rattle.std.proofs.lemmas.List.Sums.{sum_by-append}
use Rattle.plan_base.specs.declared.parts.Parts.{Parts}
use Rattle.plan_base.specs.declared.parts.Op.TheVariants.{And}
use Rattle.plan_base.specs.declared.number.RequestNo.{RequestNo}
use Rattle.plan_base.specs.declared.number.TelescopeNo.{TelescopeNo}
use Rattle.plan_base.specs.declared.claim.Placement.{Placement}
use Rattle.plan_base.specs.Requests.{group_of, seconds_of, quota_of, IsKind}
use Rattle.plan_base.specs.Starts.{IsPossibleStart, ShareSlice, worth_at}
use Rattle.plan_base.specs.Feasible.{requests_of, AreOfOneOneOf, is_quota, quota_seconds, quota_at, IsDisjoint, IsFeasible}
use Rattle.plan_base.specs.Repaired.{first_starts, AddsWholes, AddsEach, IsTriedBefore}
use Rattle.plan_base.proofs.Adding.{FitsPlan, fits_from_push, so_far_push, so_far_from_feasible, seconds_towards}
use Rattle.plan_base.proofs.Lists.{contains_map}
use Rattle.plan_base.proofs.Orders.{contains_cases, contains_first, contains_rest, pairs_head, pairs_tail}
use Rattle.plan_base.proofs.Tables.{share_symmetric}
use Rattle.groups.proofs.Keeping.{found_placement}
use Rattle.repair.proofs.Adding.{feasible_more, all_left, same_head, same_tail, not_empty}

-- ---- any list of different elements can be put in order

module _ {X : Type 0} (R : X → X → Type 0) (joins : (x y z : X) → R x y → R y z → R x z) where
  -- a list in order, with one element more
  with_one : (x : X) (xs : List X) → AllPairs R xs → All (λ y. R x y ⊎ R y x) xs → (ys : List X) × IsPermutation (x ∷ xs) ys × AllPairs R ys
  with_one x [] rising compared = (x ∷ [], IsPermutation-refl (x ∷ []), AllPairs-cons R x [] (All-nil (R x)) rising)
  with_one x (y ∷ ys) rising compared = elim (compared 0 y (omega arith)) [
    | inl before ↦ (
      x ∷ y ∷ ys,
      IsPermutation-refl (x ∷ y ∷ ys),
      AllPairs-cons R x (y ∷ ys) (All-cons (R x) y ys before (λ k d l. joins x y (slice_index_or ys k d) before (pairs_head R y ys rising k d l))) rising,
    )
    | inr after ↦
        let rest = with_one x ys (pairs_tail R y ys rising) (λ k d l. compared (suc k) d (omega arith)) in (
          y ∷ rest.0,
          IsPermutation-trans (x ∷ y ∷ ys) (y ∷ x ∷ ys) (y ∷ rest.0)
              (IsPermutation-append_left ys (x ∷ y ∷ []) (y ∷ x ∷ []) (IsPermutation-to_front (x ∷ []) y))
              (IsPermutation-cons y (x ∷ ys) rest.0 rest.1),
          AllPairs-cons R y rest.0 (All-permutation (R y) (x ∷ ys) rest.0 rest.1 (All-cons (R y) x ys after (pairs_head R y ys rising))) rest.2,
        )
  ]

  pub in_order : (xs : List X) → AllPairs (λ x y. R x y ⊎ R y x) xs → (ys : List X) × IsPermutation xs ys × AllPairs R ys
  in_order [] compared = ([], IsPermutation-refl [], λ i j d l m. absurd (omega arith))
  in_order (x ∷ xs) compared =
      let rest = in_order xs (pairs_tail (λ x y. R x y ⊎ R y x) x xs compared) in
      let found = with_one x rest.0 rest.2 (All-permutation (λ y. R x y ⊎ R y x) xs rest.0 rest.1 (pairs_head (λ x y. R x y ⊎ R y x) x xs compared)) in
      (found.0, IsPermutation-trans (x ∷ xs) (x ∷ rest.0) found.0 (IsPermutation-cons x xs rest.0 rest.1) found.1, found.2)

-- ---- the order in which starts are tried

same_request : (a b : RequestNo) → a.0 ≡ b.0 → a ≡ b
same_request a b e i = record { 0 = e i }

same_telescope : (a b : TelescopeNo) → a.0 ≡ b.0 → a ≡ b
same_telescope a b e i = record { 0 = e i }

pub same_start : (p q : Placement) → p.request.0 ≡ q.request.0 → p.telescope.0 ≡ q.telescope.0 → p.slice.0 ≡ q.slice.0 → p ≡ q
same_start p q r t k i = record { request = record { 0 = r i }; telescope = record { 0 = t i }; slice = record { 0 = k i } }

-- a comes before b by the numbers alone
abbrev IsNumberedBefore : Parts → Placement → Placement → Type 0
IsNumberedBefore s a b =
    (worth_at s b < worth_at s a)
    ⊎ ((worth_at s a ≡ worth_at s b)
    × ((a.request.0 < b.request.0) ⊎ ((a.request.0 ≡ b.request.0)
    × ((a.telescope.0 < b.telescope.0) ⊎ ((a.telescope.0 ≡ b.telescope.0) × (a.slice.0 < b.slice.0))))))

numbered : (s : Parts) (a b : Placement) → IsTriedBefore s a b → IsNumberedBefore s a b
numbered s a b (inl h) = inl h
numbered s a b (inr (e, inl h)) = inr (e, inl h)
numbered s a b (inr (e, inr (r, inl h))) = inr (e, inr (ap (λ (x : RequestNo). x.0) r, inl h))
numbered s a b (inr (e, inr (r, inr (t, h)))) = inr (e, inr (ap (λ (x : RequestNo). x.0) r, inr (ap (λ (x : TelescopeNo). x.0) t, h)))

pub tried_by_numbers : (s : Parts) (a b : Placement) → IsNumberedBefore s a b → IsTriedBefore s a b
tried_by_numbers s a b (inl h) = inl h
tried_by_numbers s a b (inr (e, inl h)) = inr (e, inl h)
tried_by_numbers s a b (inr (e, inr (r, inl h))) = inr (e, inr (same_request a.request b.request r, inl h))
tried_by_numbers s a b (inr (e, inr (r, inr (t, h)))) = inr (e, inr (same_request a.request b.request r, inr (same_telescope a.telescope b.telescope t, h)))

-- four numbers in turn
abbrev IsBelow : ℕ → ℕ → ℕ → ℕ → ℕ → ℕ → ℕ → ℕ → Type 0
IsBelow w r t k v q u l = (v < w) ⊎ ((w ≡ v) × ((r < q) ⊎ ((r ≡ q) × ((t < u) ⊎ ((t ≡ u) × (k < l))))))

below_joins : (w r t k v q u l x p y m : ℕ) → IsBelow w r t k v q u l → IsBelow v q u l x p y m → IsBelow w r t k x p y m
below_joins w r t k v q u l x p y m a b = grind arith

below_itself : (w r t k : ℕ) → ¬ (IsBelow w r t k w r t k)
below_itself w r t k (inl h) = omega arith
below_itself w r t k (inr (e, inl h)) = omega arith
below_itself w r t k (inr (e, inr (f, inl h))) = omega arith
below_itself w r t k (inr (e, inr (f, inr (g, h)))) = omega arith

pub tried_joins : (s : Parts) (a b c : Placement) → IsTriedBefore s a b → IsTriedBefore s b c → IsTriedBefore s a c
tried_joins s a b c h k = tried_by_numbers s a c
    (below_joins (worth_at s a) a.request.0 a.telescope.0 a.slice.0 (worth_at s b) b.request.0 b.telescope.0 b.slice.0
    (worth_at s c) c.request.0 c.telescope.0 c.slice.0 (numbered s a b h) (numbered s b c k))

pub tried_itself : (s : Parts) (a : Placement) → ¬ (IsTriedBefore s a a)
tried_itself s a h = below_itself (worth_at s a) a.request.0 a.telescope.0 a.slice.0 (numbered s a a h)

tried_turned : (s : Parts) (a b : Placement) → IsTriedBefore s a b → ¬ (IsTriedBefore s b a)
tried_turned s a b h k = tried_itself s a (tried_joins s a b a h k)

-- of two different starts one is tried before the other
pub tried_or_turned : (s : Parts) (a b : Placement) → a ≢ b → IsTriedBefore s a b ⊎ IsTriedBefore s b a
tried_or_turned s a b other = elim (three (worth_at s b) (worth_at s a)) [
  | inl (inl h) ↦ inl (inl h)
  | inl (inr h) ↦ inr (inl h)
  | inr e ↦ elim (three a.request.0 b.request.0) [
    | inl (inl h) ↦ inl (inr (sym e, inl h))
    | inl (inr h) ↦ inr (inr (e, inl h))
    | inr r ↦ elim (three a.telescope.0 b.telescope.0) [
      | inl (inl h) ↦ inl (tried_by_numbers s a b (inr (sym e, inr (r, inl h))))
      | inl (inr h) ↦ inr (tried_by_numbers s b a (inr (e, inr (sym r, inl h))))
      | inr t ↦ elim (three a.slice.0 b.slice.0) [
        | inl (inl h) ↦ inl (tried_by_numbers s a b (inr (sym e, inr (r, inr (t, h)))))
        | inl (inr h) ↦ inr (tried_by_numbers s b a (inr (e, inr (sym r, inr (sym t, h)))))
        | inr k ↦ absurd (other (same_start a b r t k))
      ]
    ]
  ]
]
  where
    three : (m n : ℕ) → ((m < n) ⊎ (n < m)) ⊎ (m ≡ n)
    three m n = grind arith

-- ---- what can't be added later either

-- whatever is added to the plan before, the start can't be added
abbrev pub IsBlocked : Parts → List Placement → Placement → Type 0
IsBlocked s plan z = (more : List Placement) → ¬ (IsFeasible s ((plan ++ more) ++ z ∷ []))

blocked_now : (s : Parts) (plan : List Placement) (z : Placement) → IsBlocked s plan z → ¬ (IsFeasible s (plan ++ z ∷ []))
blocked_now s plan z blocked = subst (λ (xs : List Placement). ¬ (IsFeasible s (xs ++ z ∷ []))) (append-nil plan) (blocked [])

blocked_more : (s : Parts) (plan : List Placement) (p z : Placement) → IsBlocked s plan z → IsBlocked s (plan ++ p ∷ []) z
blocked_more s plan p z blocked more =
    subst (λ (xs : List Placement). ¬ (IsFeasible s (xs ++ z ∷ []))) (sym (append_assoc plan (p ∷ []) more)) (blocked (p ∷ more))

-- a request that is placed isn't placed again
blocked_placed : (s : Parts) (plan : List Placement) (p z : Placement) → p.request.0 ≡ z.request.0 → IsBlocked s (plan ++ p ∷ []) z
blocked_placed s plan p z same more feasible =
    let whole : List Placement = (plan ++ p ∷ []) ++ more in
    let fits : FitsPlan s whole z = fits_from_push s whole z (so_far_from_feasible s (whole ++ z ∷ []) feasible) in
    All-contains (λ r. r ≢ z.request.0) (requests_of whole) p.request.0 fits.unplaced
    (contains_map (λ q. q.request.0) whole p (Contains-append_left (plan ++ p ∷ []) more p (Contains-push plan p))) same

-- two different elements of a list, in whatever order
two_of : {X : Type 0} (R : X → X → Type 0) → ((x y : X) → R x y → R y x) → (xs : List X) → AllPairs R xs → (x y : X) → Contains xs x
    → Contains xs y → x ≢ y → R x y
two_of R turn xs pairs x y (i, l, e) (j, m, f) other = elim (three i j) [
  | inl (inl less) ↦ subst (λ z. R z y) e (subst (λ z. R (slice_index_or xs i x) z) (get_or_default xs j x y m ∙ f) (pairs i j x less m))
  | inl (inr more) ↦ turn y x (subst (λ z. R z x) f (subst (λ z. R (slice_index_or xs j y) z) (get_or_default xs i y x l ∙ e) (pairs j i y more l)))
  | inr same ↦ absurd (other (sym e ∙ ap (λ (k : ℕ). slice_index_or xs k x) same ∙ get_or_default xs j x y m ∙ f))
]
  where
    three : (m n : ℕ) → ((m < n) ⊎ (n < m)) ⊎ (m ≡ n)
    three m n = grind arith

quota_more : (s : Parts) (q : ℕ) (rs ns : List ℕ) → quota_seconds s q rs ≤ quota_seconds s q (rs ++ ns)
quota_more s q rs ns =
    let both : quota_seconds s q (rs ++ ns) ≡ quota_seconds s q rs + quota_seconds s q ns =
    ap (λ (xs : List ℕ). sum_by (seconds_of s) xs) (filter-append (λ r. is_quota q (quota_of s r)) rs ns)
    ∙ sum_by-append (seconds_of s) (filter (λ r. is_quota q (quota_of s r)) rs) (filter (λ r. is_quota q (quota_of s r)) ns) in
    omega arith

-- what is known of starts of which some make a plan, and of which one is tried next
pub record IsNext (s : Parts) (starts plan : List Placement) (p : Placement) : Type 0 where
  pub feasible : IsFeasible s plan
  pub disjoint : IsDisjoint s starts
  pub within : All (Contains starts) plan
  pub one : Contains starts p
  pub possible : IsPossibleStart s p
  pub outside : ¬ (IsKind s And (group_of s p.request.0))

-- a start of the same request can't be added where this one can't
blocked_left : (s : Parts) (starts plan : List Placement) (p z : Placement) → IsNext s starts plan p → p.request.0 ≡ z.request.0
    → ¬ (IsFeasible s (plan ++ p ∷ [])) → IsBlocked s plan z
blocked_left s starts plan p z next same not_feasible more feasible =
    let whole : List Placement = plan ++ more in
    let fits : FitsPlan s whole z = fits_from_push s whole z (so_far_from_feasible s (whole ++ z ∷ []) feasible) in
    let both : requests_of whole ≡ requests_of plan ++ requests_of more = map-append (λ q. q.request.0) plan more in
    let front : (P : ℕ → Type 0) → All P (requests_of whole) → All P (requests_of plan) =
    λ P all. all_left P (requests_of plan) (requests_of more) (subst (All P) both all) in
    let unplaced : All (λ r. r ≢ p.request.0) (requests_of plan) =
    subst (λ (n : ℕ). All (λ r. r ≢ n) (requests_of plan)) (sym same) (front (λ r. r ≢ z.request.0) fits.unplaced) in
    not_feasible (feasible_more s plan p next.feasible (so_far_push s plan p (so_far_from_feasible s plan next.feasible) next.possible (record {
      unplaced = unplaced;
      apart = λ k d l. two_of (λ a b. ¬ (ShareSlice s a b)) (λ a b apart share. apart (share_symmetric s b a share)) starts next.disjoint
          (slice_index_or plan k d) p (next.within k d l) next.one
          (λ e. All-contains (λ r. r ≢ p.request.0) (requests_of plan) (slice_index_or plan k d).request.0 unplaced
          (contains_map (λ q. q.request.0) plan (slice_index_or plan k d) (k, l, get_or_default plan k (slice_index_or plan k d) d l))
          (ap (λ (q : Placement). q.request.0) e));
      oneof_free = subst (λ (n : ℕ). All (λ r. ¬ (AreOfOneOneOf s r n)) (requests_of plan)) (sym same)
          (front (λ r. ¬ (AreOfOneOneOf s r z.request.0)) fits.oneof_free);
      quota_free = λ q l.
          let all : quota_seconds s q (requests_of whole) ≡ quota_seconds s q (requests_of plan ++ requests_of more) = ap (quota_seconds s q) both in
          let least : quota_seconds s q (requests_of plan) ≤ quota_seconds s q (requests_of plan ++ requests_of more) =
          quota_more s q (requests_of plan) (requests_of more) in
          let share : seconds_towards s q p.request.0 ≡ seconds_towards s q z.request.0 = ap (seconds_towards s q) same in
          let within : quota_seconds s q (requests_of whole) + seconds_towards s q z.request.0 ≤ quota_at s q = fits.quota_free q l in
          omega arith;
    })) next.outside)

-- ---- the starts that are tried first are enough

-- what is known of starts in the order in which they are tried, and of those among them that are tried first, where some make a plan
pub record AreEnough (s : Parts) (starts plan ordered foremost : List Placement) : Type 0 where
  pub feasible : IsFeasible s plan
  pub disjoint : IsDisjoint s starts
  pub within : All (Contains starts) plan
  pub from : All (Contains starts) ordered
  pub possible : All (IsPossibleStart s) ordered
  pub outside : All (λ p. ¬ (IsKind s And (group_of s p.request.0))) ordered
  pub falling : AllPairs (IsTriedBefore s) ordered
  pub also : AllPairs (IsTriedBefore s) foremost
  pub among : (z : Placement) → Contains foremost z → Contains ordered z
  pub cover : (z : Placement) → Contains ordered z
      → IsBlocked s plan z ⊎ ((b : Placement) × Contains foremost b × (b.request.0 ≡ z.request.0) × ((b ≡ z) ⊎ IsTriedBefore s b z))

next_of : (s : Parts) (starts plan : List Placement) (p : Placement) (ps bs : List Placement) → AreEnough s starts plan (p ∷ ps) bs → IsNext s starts plan p
next_of s starts plan p ps bs are = record {
  feasible = are.feasible;
  disjoint = are.disjoint;
  within = are.within;
  one = are.from 0 p (omega arith);
  possible = are.possible 0 p (omega arith);
  outside = are.outside 0 p (omega arith);
}

-- the first that is tried isn't among the later ones
not_later : (s : Parts) (p : Placement) (ps : List Placement) → AllPairs (IsTriedBefore s) (p ∷ ps) → (z : Placement) → Contains ps z → ¬ (p ≡ z)
not_later s p ps falling z c e =
    tried_itself s z (subst (λ (x : Placement). IsTriedBefore s x z) e
    (All-contains (IsTriedBefore s p) ps z (pairs_head (IsTriedBefore s) p ps falling) c))

rest_of : (p z : Placement) (ps : List Placement) → Contains (p ∷ ps) z → ¬ (p ≡ z) → Contains ps z
rest_of p z ps c other = elim (contains_cases p z ps c) [ inl e ↦ absurd (other e) | inr d ↦ d ]

-- after the first is tried
after_first : (s : Parts) (starts plan next : List Placement) (p : Placement) (ps bs : List Placement) → AreEnough s starts plan (p ∷ ps) (p ∷ bs)
    → IsFeasible s next → All (Contains starts) next
    → ((z : Placement) → IsBlocked s plan z → IsBlocked s next z) → ((z : Placement) → p.request.0 ≡ z.request.0 → IsBlocked s next z)
    → AreEnough s starts next ps bs
after_first s starts plan next p ps bs are feasible within kept tried = record {
  feasible = feasible;
  disjoint = are.disjoint;
  within = within;
  from = All-tail (Contains starts) p ps are.from;
  possible = All-tail (IsPossibleStart s) p ps are.possible;
  outside = All-tail (λ q. ¬ (IsKind s And (group_of s q.request.0))) p ps are.outside;
  falling = pairs_tail (IsTriedBefore s) p ps are.falling;
  also = pairs_tail (IsTriedBefore s) p bs are.also;
  among = λ z c. rest_of p z ps (are.among z (contains_rest p z bs c)) (not_later s p bs are.also z c);
  cover = λ z c. elim (are.cover z (contains_rest p z ps c)) [
    | inl blocked ↦ inl (kept z blocked)
    | inr found ↦ elim (contains_cases p found.0 bs found.1) [
      | inl e ↦ inl (tried z (ap (λ (q : Placement). q.request.0) e ∙ found.2))
      | inr d ↦ inr (found.0, d, found.2, found.3)
    ]
  ];
}

-- where the first isn't among those that are tried first, it is blocked
first_blocked : (s : Parts) (starts plan : List Placement) (p : Placement) (ps bs : List Placement) → AreEnough s starts plan (p ∷ ps) bs
    → ((z : Placement) → Contains bs z → Contains ps z) → IsBlocked s plan p
first_blocked s starts plan p ps bs are later = elim (are.cover p (contains_first p ps)) [
  | inl blocked ↦ blocked
  | inr found ↦
      let before : IsTriedBefore s p found.0 = All-contains (IsTriedBefore s p) ps found.0 (pairs_head (IsTriedBefore s) p ps are.falling)
      (later found.0 found.1) in
      elim found.3 [
        | inl e ↦ absurd (tried_itself s p (subst (IsTriedBefore s p) e before))
        | inr turned ↦ absurd (tried_turned s p found.0 before turned)
      ]
]

-- and the rest goes on without it
without_first : (s : Parts) (starts plan : List Placement) (p : Placement) (ps bs : List Placement) → AreEnough s starts plan (p ∷ ps) bs
    → ((z : Placement) → Contains bs z → Contains ps z) → AreEnough s starts plan ps bs
without_first s starts plan p ps bs are later = record {
  feasible = are.feasible;
  disjoint = are.disjoint;
  within = are.within;
  from = All-tail (Contains starts) p ps are.from;
  possible = All-tail (IsPossibleStart s) p ps are.possible;
  outside = All-tail (λ q. ¬ (IsKind s And (group_of s q.request.0))) p ps are.outside;
  falling = pairs_tail (IsTriedBefore s) p ps are.falling;
  also = are.also;
  among = later;
  cover = λ z c. are.cover z (contains_rest p z ps c);
}

-- adding those that are tried first, one after another, is adding all
pub each_by_foremost : (s : Parts) (starts plan ordered foremost after : List Placement) → AreEnough s starts plan ordered foremost
    → AddsEach s plan foremost after → AddsEach s plan ordered after
each_by_foremost s starts plan [] [] after are adds = adds
each_by_foremost s starts plan [] (b ∷ bs) after are adds = absurd (omega (arith, (are.among b (contains_first b bs)).1))
each_by_foremost s starts plan (p ∷ ps) [] after are adds =
    let later : (z : Placement) → Contains [] z → Contains ps z = λ z c. absurd (omega (arith, c.1)) in
    inr (
      blocked_now s plan p (first_blocked s starts plan p ps [] are later),
      each_by_foremost s starts plan ps [] after (without_first s starts plan p ps [] are later) adds,
    )
each_by_foremost s starts plan (p ∷ ps) (b ∷ bs) after are adds = elim (contains_cases p b ps (are.among b (contains_first b bs))) [
  | inl e ↦
      let same : AreEnough s starts plan (p ∷ ps) (p ∷ bs) = subst (λ (x : Placement). AreEnough s starts plan (p ∷ ps) (x ∷ bs)) (sym e) are in
      elim (subst (λ (x : Placement). AddsEach s plan (x ∷ bs) after) (sym e) adds) [
        | inl added ↦ inl (
          added.0,
          each_by_foremost s starts (plan ++ p ∷ []) ps bs after
              (after_first s starts plan (plan ++ p ∷ []) p ps bs same added.0
              (All-push (Contains starts) plan p are.within (are.from 0 p (omega arith))) (blocked_more s plan p) (blocked_placed s plan p))
              added.1,
        )
        | inr left ↦ inr (
          left.0,
          each_by_foremost s starts plan ps bs after
              (after_first s starts plan plan p ps bs same are.feasible are.within (λ z blocked. blocked)
              (λ z own. blocked_left s starts plan p z (next_of s starts plan p ps (b ∷ bs) are) own left.0)) left.1,
        )
      ]
  | inr d ↦
      let later : (z : Placement) → Contains (b ∷ bs) z → Contains ps z = λ z c. rest_of p z ps (are.among z c) (λ same. elim (contains_cases b z bs c) [
        | inl e ↦ not_later s p ps are.falling b d (same ∙ sym e)
        | inr k ↦ tried_turned s p b (All-contains (IsTriedBefore s p) ps b (pairs_head (IsTriedBefore s) p ps are.falling) d)
            (subst (IsTriedBefore s b) (sym same) (All-contains (IsTriedBefore s b) bs z (pairs_head (IsTriedBefore s) b bs are.also) k))
      ]) in
      inr (
        blocked_now s plan p (first_blocked s starts plan p ps (b ∷ bs) are later),
        each_by_foremost s starts plan ps (b ∷ bs) after (without_first s starts plan p ps (b ∷ bs) are later) adds,
      )
]

-- ---- whole ANDs are made of the starts

firsts_within : (starts : List Placement) (rs : List ℕ) (firsts : List Placement) → map (λ p. Some p) firsts ≡ first_starts starts rs
    → All (Contains starts) firsts
firsts_within starts rs [] e = All-nil (Contains starts)
firsts_within starts [] (p ∷ ps) e = absurd (not_empty (Some p) (map (λ q. Some q) ps) e)
firsts_within starts (r ∷ rs) (p ∷ ps) e = All-cons (Contains starts) p ps
    (found_placement r starts p (sym (same_head (Some p) (find (λ q. q.request.0 == r) starts) (map (λ q. Some q) ps) (first_starts starts rs) e))).0
    (firsts_within starts rs ps (same_tail (Some p) (find (λ q. q.request.0 == r) starts) (map (λ q. Some q) ps) (first_starts starts rs) e))

pub wholes_within : (s : Parts) (starts plan : List Placement) (gs : List ℕ) (after : List Placement) → All (Contains starts) plan
    → AddsWholes s starts plan gs after → All (Contains starts) after
wholes_within s starts plan [] after within is = subst (All (Contains starts)) (sym is) within
wholes_within s starts plan (g ∷ gs) after within (inl (firsts, can, rest)) =
    wholes_within s starts (plan ++ firsts) gs after
    (All-append (Contains starts) plan firsts within (firsts_within starts _ firsts can.each_first)) rest
wholes_within s starts plan (g ∷ gs) after within (inr (cannot, rest)) = wholes_within s starts plan gs after within rest
