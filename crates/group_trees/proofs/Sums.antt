-- The greatest sums over choices, built up node by node.
use Rattle.std.proofs.Common.{◌≡◌, ◌≢◌, ℕ, suc, ◌+◌, ◌*◌, ◌≤◌, ◌<◌, ◌⊎◌, inl, inr, ℤ, pos, neg_ℤ, ◌+ℤ◌, ◌≤ℤ◌, List, [], ◌∷◌, ◌++◌, length, All, refl, sym, ◌∙◌}
use Rattle.std.proofs.Common.{ap, subst, arith}
use Rattle.std.proofs.Math.Nat.{suc-mul}
use Rattle.std.proofs.lemmas.Int.{ints}
use Rattle.std.proofs.lemmas.List.{append-nil, get_or_past}
use Rattle.std.proofs.Common.{slice_index_or}
use Rattle.plan_base.specs.declared.parts.Parts.{Parts}
use Rattle.plan_base.specs.Sums.{total}
use Rattle.plan_base.specs.Requests.{place_of}
use Rattle.plan_base.specs.Bound.{price}
use Rattle.plan_base.specs.NetPrices.{IsNetInRange}
use Rattle.plan_base.specs.Verdict.{IsPriceInRange}
use Rattle.plan_base.proofs.RoundPrices.{IsUpTo}
use Rattle.plan_base.proofs.Totals.{total_append}
use Rattle.group_trees.specs.declared.rebate.Greatest.{Greatest}
use Rattle.group_trees.specs.Trees.{Node, leaf, one_of, all_of, Nodes, none, and_then}
use Rattle.group_trees.specs.Choices.{IsTreeChoice, IsUnion, IsOfOne, IsWhole}
use Rattle.group_trees.specs.Rebates.{IsGreatest}
use Rattle.group_trees.specs.Pairs.{IsSome, IsPair, IsSum, AreSums, IsJoined}
use Rattle.group_trees.proofs.Choices.{no_choice}

-- the same choices have the same greatest sum
pub greatest_same : (P Q : List ℕ → Type 0) (c : ℕ → ℤ) (b : ℤ) → ((choice : List ℕ) → P choice → Q choice)
    → ((choice : List ℕ) → Q choice → P choice) → IsGreatest P c b → IsGreatest Q c b
greatest_same P Q c b f g h = record { reached = (h.reached.0, f h.reached.0 h.reached.1, h.reached.2); bound = λ choice q. h.bound choice (g choice q) }

-- the larger of two, where each choice is of one kind or the other
pub greatest_of_either : (P Q R : List ℕ → Type 0) (c : ℕ → ℤ) (x y z : ℤ)
    → ((choice : List ℕ) → P choice → R choice) → ((choice : List ℕ) → Q choice → R choice) → ((choice : List ℕ) → R choice → P choice ⊎ Q choice)
    → IsGreatest P c x → IsGreatest Q c y → x ≤ℤ z → y ≤ℤ z → (z ≡ x) ⊎ (z ≡ y) → IsGreatest R c z
greatest_of_either P Q R c x y z f g split hx hy lx ly one = record {
  reached = elim one [
    | inl e ↦ (hx.reached.0, f hx.reached.0 hx.reached.1, hx.reached.2 ∙ sym e)
    | inr e ↦ (hy.reached.0, g hy.reached.0 hy.reached.1, hy.reached.2 ∙ sym e)
  ];
  bound = λ choice r. elim (split choice r) [
    | inl p ↦ let most : total c choice ≤ℤ x = hx.bound choice p in omega (arith, ints)
    | inr q ↦ let most : total c choice ≤ℤ y = hy.bound choice q in omega (arith, ints)
  ];
}

-- the union of a choice of one kind and a choice of another
abbrev pub IsJoint : (List ℕ → Type 0) → (List ℕ → Type 0) → List ℕ → Type 0
IsJoint P Q choice = (first rest : List ℕ) × (choice ≡ first ++ rest) × P first × Q rest

joint_total : (c : ℕ → ℤ) (choice first rest : List ℕ) → choice ≡ first ++ rest → total c choice ≡ total c first +ℤ total c rest
joint_total c choice first rest e = ap (total c) e ∙ total_append c first rest

-- what two kinds give together
pub greatest_of_joint : (P Q : List ℕ → Type 0) (c : ℕ → ℤ) (x y z : ℤ) → IsGreatest P c x → IsGreatest Q c y → z ≡ x +ℤ y → IsGreatest (IsJoint P Q) c z
greatest_of_joint P Q c x y z hx hy e = record {
  reached = (
    hx.reached.0 ++ hy.reached.0,
    (hx.reached.0, hy.reached.0, refl, hx.reached.1, hy.reached.1),
    (
        let left : total c hx.reached.0 ≡ x = hx.reached.2 in
        let right : total c hy.reached.0 ≡ y = hy.reached.2 in
        let both : total c (hx.reached.0 ++ hy.reached.0) ≡ total c hx.reached.0 +ℤ total c hy.reached.0 = total_append c hx.reached.0 hy.reached.0 in
        omega (arith, ints)
        ),
  );
  bound = λ choice (first, rest, f, p, q).
      let left : total c first ≤ℤ x = hx.bound first p in
      let right : total c rest ≤ℤ y = hy.bound rest q in
      let both : total c choice ≡ total c first +ℤ total c rest = joint_total c choice first rest f in
      omega (arith, ints);
}

joint_empty : (choice first rest : List ℕ) → choice ≡ first ++ rest → choice ≢ [] → (first ≢ []) ⊎ (rest ≢ [])
joint_empty choice [] rest e some = inr (λ empty. some (e ∙ empty))
joint_empty choice (x ∷ first) rest e some = inl (λ empty. cc)

append_some : (first rest : List ℕ) → first ≢ [] → first ++ rest ≢ []
append_some [] rest some = absurd (some refl)
append_some (x ∷ first) rest some = λ empty. cc

append_some_right : (first rest : List ℕ) → rest ≢ [] → first ++ rest ≢ []
append_some_right [] rest some = some
append_some_right (x ∷ first) rest some = λ empty. cc

-- a union that isn't empty has one part that isn't
pub greatest_of_some_joint : (P Q : List ℕ → Type 0) (c : ℕ → ℤ) (x y z : ℤ) → IsGreatest (IsJoint (IsSome P) Q) c x
    → IsGreatest (IsJoint P (IsSome Q)) c y → x ≤ℤ z → y ≤ℤ z → (z ≡ x) ⊎ (z ≡ y)
    → IsGreatest (IsSome (IsJoint P Q)) c z
greatest_of_some_joint P Q c x y z hx hy lx ly one =
    greatest_of_either (IsJoint (IsSome P) Q) (IsJoint P (IsSome Q)) (IsSome (IsJoint P Q)) c x y z
    (λ choice (first, rest, e, (some, p), q). (subst (λ (xs : List ℕ). xs ≢ []) (sym e) (append_some first rest some), (first, rest, e, p, q)))
    (λ choice (first, rest, e, p, (some, q)). (subst (λ (xs : List ℕ). xs ≢ []) (sym e) (append_some_right first rest some), (first, rest, e, p, q)))
    (λ choice (some, (first, rest, e, p, q)). elim (joint_empty choice first rest e some) [
      | inl left ↦ inl (first, rest, e, (left, p), q)
      | inr right ↦ inr (first, rest, e, p, (right, q))
    ])
    hx hy lx ly one

-- ---- a node beside others

pub pair_more : (t : Node) (ts : Nodes) (c : ℕ → ℤ) (first rest x : Greatest) → IsPair (IsTreeChoice t) c first → IsPair (IsUnion ts) c rest
    → IsJoined first rest x → IsPair (IsUnion (and_then t ts)) c x
pair_more t ts c first rest x a b joined = record {
  any = greatest_of_joint (IsTreeChoice t) (IsUnion ts) c first.any rest.any x.any a.any b.any joined.any;
  some = greatest_of_some_joint (IsTreeChoice t) (IsUnion ts) c (first.some +ℤ rest.any) (first.any +ℤ rest.some) x.some
      (greatest_of_joint (IsSome (IsTreeChoice t)) (IsUnion ts) c first.some rest.any _ a.some b.any refl)
      (greatest_of_joint (IsTreeChoice t) (IsSome (IsUnion ts)) c first.any rest.some _ a.any b.some refl)
      joined.left joined.right joined.one;
}

single_to : (t : Node) (choice : List ℕ) → IsTreeChoice t choice → IsUnion (and_then t none) choice
single_to t choice h = (choice, [], sym (append-nil choice), h, refl)

single_from : (t : Node) (choice : List ℕ) → IsUnion (and_then t none) choice → IsTreeChoice t choice
single_from t choice (first, rest, e, a, b) = subst (IsTreeChoice t) (sym (e ∙ ap (λ (xs : List ℕ). first ++ xs) b ∙ append-nil first)) a

-- one node alone
pub pair_single : (t : Node) (c : ℕ → ℤ) (x : Greatest) → IsPair (IsTreeChoice t) c x → IsPair (IsUnion (and_then t none)) c x
pair_single t c x h = record {
  any = greatest_same (IsTreeChoice t) (IsUnion (and_then t none)) c x.any (single_to t) (single_from t) h.any;
  some = greatest_same (IsSome (IsTreeChoice t)) (IsSome (IsUnion (and_then t none))) c x.some (λ choice (s, h). (s, single_to t choice h))
      (λ choice (s, h). (s, single_from t choice h)) h.some;
}

pub best_more : (t : Node) (ts : Nodes) (c : ℕ → ℤ) (x y z : ℤ) → IsGreatest (IsSome (IsTreeChoice t)) c x → IsGreatest (IsSome (IsOfOne ts)) c y
    → x ≤ℤ z → y ≤ℤ z → (z ≡ x) ⊎ (z ≡ y)
    → IsGreatest (IsSome (IsOfOne (and_then t ts))) c z
best_more t ts c x y z hx hy lx ly one =
    greatest_of_either (IsSome (IsTreeChoice t)) (IsSome (IsOfOne ts)) (IsSome (IsOfOne (and_then t ts))) c x y z
    (λ choice (s, h). (s, inl h)) (λ choice (s, h). (s, inr h)) (λ choice (s, h). elim h [ inl a ↦ inl (s, a) | inr b ↦ inr (s, b) ]) hx hy lx ly one

pub best_single : (t : Node) (c : ℕ → ℤ) (x : ℤ) → IsGreatest (IsSome (IsTreeChoice t)) c x → IsGreatest (IsSome (IsOfOne (and_then t none))) c x
best_single t c x h =
    greatest_same (IsSome (IsTreeChoice t)) (IsSome (IsOfOne (and_then t none))) c x (λ choice (s, a). (s, inl a))
    (λ choice (s, a). (s, elim a [ inl b ↦ b | inr b ↦ absurd b ])) h

whole_to : (t : Node) (ts : Nodes) (choice : List ℕ) → IsJoint (IsSome (IsTreeChoice t)) (IsWhole ts) choice → IsWhole (and_then t ts) choice
whole_to t ts choice (first, rest, e, (some, a), b) = (first, rest, e, some, a, b)

whole_from : (t : Node) (ts : Nodes) (choice : List ℕ) → IsWhole (and_then t ts) choice → IsJoint (IsSome (IsTreeChoice t)) (IsWhole ts) choice
whole_from t ts choice (first, rest, e, some, a, b) = (first, rest, e, (some, a), b)

pub whole_more : (t : Node) (ts : Nodes) (c : ℕ → ℤ) (x y z : ℤ) → IsGreatest (IsSome (IsTreeChoice t)) c x → IsGreatest (IsWhole ts) c y → z ≡ x +ℤ y
    → IsGreatest (IsWhole (and_then t ts)) c z
whole_more t ts c x y z hx hy e =
    greatest_same (IsJoint (IsSome (IsTreeChoice t)) (IsWhole ts)) (IsWhole (and_then t ts)) c z (whole_to t ts) (whole_from t ts)
    (greatest_of_joint (IsSome (IsTreeChoice t)) (IsWhole ts) c x y z hx hy e)

pub whole_none : (c : ℕ → ℤ) → IsGreatest (IsWhole none) c (pos 0)
whole_none c = record { reached = ([], refl, refl); bound = λ choice e. subst (λ (xs : List ℕ). total c xs ≤ℤ pos 0) (sym e) (omega (arith, ints)) }

-- ---- a node of each kind

empty_or_not : (xs : List ℕ) → (xs ≡ []) ⊎ (xs ≢ [])
empty_or_not [] = inl refl
empty_or_not (x ∷ xs) = inr (λ e. cc)

-- with the empty choice beside those that aren't empty
pub pair_beside : (t : Node) (c : ℕ → ℤ) (x : Greatest) → IsGreatest (IsSome (IsTreeChoice t)) c x.some → pos 0 ≤ℤ x.any → x.some ≤ℤ x.any
    → (x.any ≡ pos 0) ⊎ (x.any ≡ x.some) → IsPair (IsTreeChoice t) c x
pair_beside t c x h least above one = record {
  any = greatest_of_either (λ choice. choice ≡ []) (IsSome (IsTreeChoice t)) (IsTreeChoice t) c (pos 0) x.some x.any
      (λ choice e. subst (IsTreeChoice t) (sym e) (no_choice t)) (λ choice s. s.1)
      (λ choice a. elim (empty_or_not choice) [ inl e ↦ inl e | inr s ↦ inr (s, a) ])
      (record { reached = ([], refl, refl); bound = λ choice e. subst (λ (xs : List ℕ). total c xs ≤ℤ pos 0) (sym e) (omega (arith, ints)) })
      h least above one;
  some = h;
}

one_number : (c : ℕ → ℤ) (r : ℕ) → total c (r ∷ []) ≡ c r
one_number c r = omega (arith, ints)

pub some_leaf : (r : ℕ) (c : ℕ → ℤ) (x : ℤ) → x ≡ c r → IsGreatest (IsSome (IsTreeChoice (leaf r))) c x
some_leaf r c x e = record {
  reached = (r ∷ [], ((λ empty. cc), inr refl), one_number c r ∙ sym e);
  bound = λ choice (some, h). elim h [
    | inl empty ↦ absurd (some empty)
    | inr is ↦ subst (λ (xs : List ℕ). total c xs ≤ℤ x) (sym is) (let here : total c (r ∷ []) ≡ c r = one_number c r in omega (arith, ints))
  ];
}

pub some_one_of : (ts : Nodes) (c : ℕ → ℤ) (x : ℤ) → IsGreatest (IsSome (IsOfOne ts)) c x → IsGreatest (IsSome (IsTreeChoice (one_of ts))) c x
some_one_of ts c x h =
    greatest_same (IsSome (IsOfOne ts)) (IsSome (IsTreeChoice (one_of ts))) c x (λ choice (s, a). (s, inr a))
    (λ choice (s, a). (s, elim a [ inl e ↦ absurd (s e) | inr b ↦ b ])) h

whole_some : (t : Node) (ts : Nodes) (choice : List ℕ) → IsWhole (and_then t ts) choice → choice ≢ []
whole_some t ts choice (first, rest, e, some, a, b) = subst (λ (xs : List ℕ). xs ≢ []) (sym e) (append_some first rest some)

pub some_all_of : (t : Node) (ts : Nodes) (c : ℕ → ℤ) (x : ℤ) → IsGreatest (IsWhole (and_then t ts)) c x
    → IsGreatest (IsSome (IsTreeChoice (all_of (and_then t ts)))) c x
some_all_of t ts c x h =
    greatest_same (IsWhole (and_then t ts)) (IsSome (IsTreeChoice (all_of (and_then t ts)))) c x
    (λ choice a. (whole_some t ts choice a, inr a)) (λ choice (s, a). elim a [ inl e ↦ absurd (s e) | inr b ↦ b ]) h

-- ---- how great the sums are

-- a sum of numbers that are no further from 0 than m
pub total_between : (m : ℕ) (c : ℕ → ℤ) (xs : List ℕ) → ((r : ℕ) → IsUpTo m (c r)) → IsUpTo (length xs * m) (total c xs)
total_between m c [] range = (omega (arith, ints), omega (arith, ints))
total_between m c (x ∷ xs) range =
    let rest = total_between m c xs range in
    let low : neg_ℤ (pos (length xs * m)) ≤ℤ total c xs = rest.0 in
    let high : total c xs ≤ℤ pos (length xs * m) = rest.1 in
    let here_low : neg_ℤ (pos m) ≤ℤ c x = (range x).0 in
    let here_high : c x ≤ℤ pos m = (range x).1 in
    let more : suc (length xs) * m ≡ length xs * m + m = suc-mul (length xs) m in
    (omega (arith, ints), omega (arith, ints))

sum_within : (n : ℕ) (b : ℤ) → n ≤ 1024 → IsUpTo (n * 2000000000000) b → IsSum b
sum_within n b l (low, high) = (omega (arith, ints), omega (arith, ints))

-- the greatest sum over choices of at most 1,024 leaves
pub greatest_between : (P : List ℕ → Type 0) (c : ℕ → ℤ) (b : ℤ) → ((r : ℕ) → IsNetInRange (c r))
    → ((choice : List ℕ) → P choice → length choice ≤ 1024) → IsGreatest P c b → IsSum b
greatest_between P c b range short h =
    subst IsSum h.reached.2 (sum_within (length h.reached.0) _ (short h.reached.0 h.reached.1) (total_between 2000000000000 c h.reached.0 range))

pub pair_between : (P : List ℕ → Type 0) (c : ℕ → ℤ) (x : Greatest) → ((r : ℕ) → IsNetInRange (c r))
    → ((choice : List ℕ) → P choice → length choice ≤ 1024) → IsPair P c x → AreSums x
pair_between P c x range short h =
    record {
      any = greatest_between P c x.any range short h.any;
      some = greatest_between (IsSome P) c x.some range (λ choice s. short choice s.1) h.some;
    }

place_cases : (a b : ℕ) → (a < b) ⊎ (b ≤ a)
place_cases a b = grind arith

-- each price, or 0 past the end, of prices that are no further from 0 than m
pub price_up_to : (m : ℕ) (s : Parts) (prices : List ℤ) → All (IsUpTo m) prices → (r : ℕ) → IsUpTo m (price s prices r)
price_up_to m s prices range r = elim (place_cases (place_of s r) (length prices)) [
  | inl l ↦ range (place_of s r) (pos 0) l
  | inr l ↦ let past : slice_index_or prices (place_of s r) (pos 0) ≡ pos 0 = get_or_past prices (place_of s r) (pos 0) l in
      (omega (arith, ints), omega (arith, ints))
]

-- a price is a net price where there is no quota
pub prices_are_net : (prices : List ℤ) → All IsPriceInRange prices → All IsNetInRange prices
prices_are_net prices range i d l =
    let low : neg_ℤ (pos 1000000000000) ≤ℤ slice_index_or prices i d = (range i d l).0 in
    let high : slice_index_or prices i d ≤ℤ pos 1000000000000 = (range i d l).1 in
    (omega (arith, ints), omega (arith, ints))
