-- Ranked starts, sorted, are in the order in which they are tried.
use Rattle.std.proofs.Common.{◌≡◌, ◌≢◌, ℕ, ◌+◌, ◌<◌, ◌≤◌, ◌⊎◌, inl, inr, Bool, true, false, not, List, [], ◌∷◌, ◌++◌, length, slice_index_or, All}
use Rattle.std.proofs.Common.{AllPairs, None, Ordering, Less, Equal, refl, sym, ◌∙◌, ap, subst, arith}
use Rattle.std.specs.Cmp.{nat_cmp_is}
use Rattle.std.specs.Ordering.{is_lt, nat_cmp, ordering_then}
use Rattle.std.proofs.lemmas.Bool.{cases_eq, cases_lt}
use Rattle.std.proofs.lemmas.Map.Keys.{ge_from_not_lt}
use Rattle.std.proofs.lemmas.List.{get_or-map, length_push}
use Rattle.std.proofs.lemmas.List.Elements.{All-filter, filter_passes}
use Rattle.plan_base.specs.declared.parts.Parts.{Parts}
use Rattle.plan_base.specs.declared.parts.GroupPart.{GroupPart}
use Rattle.plan_base.specs.declared.parts.Op.{Op}
use Rattle.plan_base.specs.declared.parts.Op.TheVariants.{And}
use Rattle.plan_base.specs.declared.claim.Placement.{Placement}
use Rattle.plan_base.specs.Requests.{group_of, IsKind}
use Rattle.plan_base.specs.Snapshot.{IsOrderly}
use Rattle.plan_base.specs.Starts.{IsPossibleStart, ShareSlice, size_of}
use Rattle.plan_base.specs.Feasible.{IsDisjoint}
use Rattle.plan_base.specs.Operators.{is_and}
use Rattle.plan_base.specs.Repaired.{outside_ands}
use Rattle.plan_base.specs.Round.{op_at}
use Rattle.plan_base.proofs.Known.{group_known}
use Rattle.plan_base.proofs.Sizes.{start_size_above}
use Rattle.repair.specs.declared.ranked.Ranked.{Ranked}
use Rattle.repair.specs.Repairs.{IsRankedBefore}

-- ---- outside every AND

pub outside_possible : (s : Parts) (starts : List Placement) → All (IsPossibleStart s) starts → All (IsPossibleStart s) (outside_ands s starts)
outside_possible s starts possible = All-filter (λ p. not (is_and (op_at s (group_of s p.request.0)))) (IsPossibleStart s) starts possible

and_is : (k : Op) → k ≡ And → is_and k ≡ true
and_is k e = ap is_and e

pub not_false : (b : Bool) → not b ≡ true → b ≡ false
not_false true e = cc
not_false false e = refl

pub not_true : (b : Bool) → not b ≡ false → b ≡ true
not_true true e = refl
not_true false e = cc

op_here : (s : Parts) (g : ℕ) → g < length s.groups → IsKind s And g → op_at s g ≡ And
op_here s g below kind =
    let d : GroupPart = record { group = record { 0 = 0 }; op = And; requests = []; quota = None } in
    get_or-map (λ x. x.op) s.groups g d _ below ∙ kind d

-- the request of such a start is of no AND
pub outside_kind : (s : Parts) (starts : List Placement) → All (IsPossibleStart s) starts
    → All (λ p. ¬ (IsKind s And (group_of s p.request.0))) (outside_ands s starts)
outside_kind s starts possible k d l kind =
    let p : Placement = slice_index_or (outside_ands s starts) k d in
    let known = (outside_possible s starts possible k d l).known in
    let outside : is_and (op_at s (group_of s p.request.0)) ≡ false =
    not_false _ (filter_passes (λ q. not (is_and (op_at s (group_of s q.request.0)))) starts k d l) in
    let below = group_known s p.request.0 known in
    let op : op_at s (group_of s p.request.0) ≡ And = op_here s (group_of s p.request.0) below kind in
    let inside : is_and (op_at s (group_of s p.request.0)) ≡ true = and_is _ op in
    let bad : true ≡ false = sym inside ∙ outside in
    cc

-- ---- the order

-- one key: the first number is above the second, or they are equal and the rest isn't less
key_cases : (a b : ℕ) (rest : Ordering) → is_lt (ordering_then (nat_cmp a b) rest) ≡ false → (b < a) ⊎ ((a ≡ b) × (is_lt rest ≡ false))
key_cases a b rest h = elim (cases_lt b a) [
  | inl less ↦ inl less
  | inr le ↦ elim (cases_eq a b) [
    | inl same ↦
        let tie : Equal ≡ nat_cmp a b = nat_cmp_is a b Equal same in
        inr (same, subst (λ (o : Ordering). is_lt (ordering_then o rest) ≡ false) (sym tie) h)
    | inr other ↦
        let less : Less ≡ nat_cmp a b = nat_cmp_is a b Less (omega arith) in
        let bad : true ≡ false = subst (λ (o : Ordering). is_lt (ordering_then o rest) ≡ false) (sym less) h in
        cc
  ]
]

-- b isn't before a: so a is before b, or is it
pub not_less : (a b : Ranked) → is_lt
    (ordering_then (nat_cmp a.worth.0 b.worth.0)
    (ordering_then (nat_cmp b.request.0 a.request.0) (ordering_then (nat_cmp b.telescope.0 a.telescope.0) (nat_cmp b.slice.0 a.slice.0)))) ≡ false
    → IsRankedBefore a b
not_less a b h = elim (key_cases a.worth.0 b.worth.0 _ h) [
  | inl worth ↦ inl worth
  | inr tie ↦ elim (key_cases b.request.0 a.request.0 _ tie.1) [
    | inl request ↦ inr (tie.0, inl request)
    | inr also ↦ elim (key_cases b.telescope.0 a.telescope.0 _ also.1) [
      | inl telescope ↦ inr (tie.0, inr (sym also.0, inl telescope))
      | inr last ↦ inr (tie.0, inr (sym also.0, inr (sym last.0, ge_from_not_lt b.slice.0 a.slice.0 last.1)))
    ]
  ]
]

pub ranks_join : (a b c : Ranked) → IsRankedBefore a b → IsRankedBefore b c → IsRankedBefore a c
ranks_join a b c ab bc = elim ab [
  | inl x ↦ elim bc [ inl y ↦ inl (omega arith) | inr y ↦ let e = y.0 in inl (omega arith) ]
  | inr x ↦ let d = x.0 in elim bc [
    | inl y ↦ inl (omega arith)
    | inr y ↦ let e = y.0 in elim x.1 [
      | inl u ↦ elim y.1 [ inl v ↦ inr (omega arith, inl (omega arith)) | inr v ↦ let f = v.0 in inr (omega arith, inl (omega arith)) ]
      | inr u ↦ let g = u.0 in elim y.1 [
        | inl v ↦ inr (omega arith, inl (omega arith))
        | inr v ↦ let f = v.0 in elim u.1 [
          | inl w ↦ elim v.1 [
            | inl z ↦ inr (omega arith, inr (omega arith, inl (omega arith)))
            | inr z ↦ let k = z.0 in
                inr (omega arith, inr (omega arith, inl (omega arith)))
          ]
          | inr w ↦ let i = w.0 in let m = w.1 in
              elim v.1 [
                | inl z ↦ inr (omega arith, inr (omega arith, inl (omega arith)))
                | inr z ↦ let k = z.0 in let n = z.1 in
                    inr (omega arith, inr (omega arith, inr (omega arith, omega arith)))
              ]
        ]
      ]
    ]
  ]
]

-- starts that share no slice are different
pub different : (s : Parts) (starts : List Placement) → IsOrderly s → All (IsPossibleStart s) starts → IsDisjoint s starts → AllPairs (λ a b. a ≢ b) starts
different s starts orderly possible disjoint i j d l m e =
    let a : Placement = slice_index_or starts i d in
    let some : 0 < size_of s a.request.0 = start_size_above s orderly a (possible i d (omega arith)) in
    disjoint i j d l m (subst (ShareSlice s a) e (refl, a.slice.0, (omega arith, omega arith), (omega arith, omega arith)))

-- ---- how many are listed

pub few_pushed : (items more : List Ranked) (x : Ranked) (n : ℕ) → more ≡ items ++ x ∷ [] → length items ≤ n → length more ≤ n + 1
few_pushed items more x n pushed few =
    let one : length (items ++ x ∷ []) ≡ length items + 1 = length_push items x in
    let same : length more ≡ length (items ++ x ∷ []) = ap (λ (xs : List Ranked). length xs) pushed in
    omega arith
