-- The greatest that groups of each kind give where one of their requests is taken.
use Rattle.std.proofs.Common.{◌≡◌, ◌≢◌, ℕ, ◌*◌, ◌<◌, ◌≤◌, ◌⊎◌, inl, inr, not, ◌==◌, ℤ, pos, ◌+ℤ◌, ◌-ℤ◌, ◌≤ℤ◌, List, [], ◌∷◌, length, map}
use Rattle.std.proofs.Common.{slice_index_or, filter, Option, Some, None, All, AllPairs, Contains, refl, sym, ◌∙◌, ap, subst, arith}
use Rattle.std.proofs.lemmas.Int.{ints}
use Rattle.std.proofs.lemmas.List.{length-map, get_or-map}
use Rattle.std.proofs.lemmas.List.Elements.{All-nil, All-head, All-tail, All-cons, All-filter, All-contains, All-contains_itself, Contains-get_or}
use Rattle.std.proofs.lemmas.List.Elements.{filter_passes}
use Rattle.std.proofs.lemmas.List.Kept.{AllPairs-cons, AllPairs-filter}
use Rattle.plan_base.specs.declared.parts.Parts.{Parts}
use Rattle.plan_base.specs.declared.parts.Op.TheVariants.{Single, Many, OneOf, And}
use Rattle.plan_base.specs.Sums.{total}
use Rattle.plan_base.specs.declared.parts.GroupPart.{GroupPart}
use Rattle.plan_base.specs.declared.parts.RequestPart.{RequestPart}
use Rattle.plan_base.specs.Requests.{IsOf, IsKind, seconds_of, quota_of, members, members_of}
use Rattle.plan_base.specs.Bound.{price, net_price, IsAllowedChoice, IsRebate, quota_cost}
use Rattle.plan_base.specs.NetPrices.{price_sum}
use Rattle.plan_base.specs.Snapshot.{IsOrderly}
use Rattle.plan_base.proofs.Lists.{contains_filter}
use Rattle.plan_base.proofs.Members.{are_members, is_of_member}
use Rattle.plan_base.proofs.Orders.{contains_cases, contains_first, contains_rest, pairs_head, pairs_tail}
use Rattle.plan_base.proofs.Rebates.{AreMembers, one_kind}
use Rattle.plan_base.proofs.Split.{total_split}
use Rattle.plan_base.proofs.Totals.{total_map}
use Rattle.bound_checker.specs.Nets.{price_of}
use Rattle.explain.specs.Choice.{IsChoiceWith, IsRebateWith}
use Rattle.explain.proofs.Pieces.{same_from_test, test_from_same, differ_from_test, test_from_differ}

exactly_once : (c : ℕ → ℤ) (m : ℕ) (xs : List ℕ) → All (λ x. x ≡ m) xs → AllPairs (λ a b. a ≢ b) xs → Contains xs m → total c xs ≡ c m
exactly_once c m [] a once has = absurd (omega (arith, has.1))
exactly_once c m (x ∷ []) a once has =
    let same : c x ≡ c m = ap c (All-head (λ y. y ≡ m) x [] a) in
    omega (arith, ints)
exactly_once c m (x ∷ y ∷ xs) a once has =
    let first : x ≡ m = All-head (λ z. z ≡ m) x (y ∷ xs) a in
    let second : y ≡ m = All-head (λ z. z ≡ m) y xs (All-tail (λ z. z ≡ m) x (y ∷ xs) a) in
    absurd (once 0 1 x (omega arith) (omega arith) (first ∙ sym second))

-- the sum of a list of distinct numbers is that of one of them and of the rest
pub taken_out : (c : ℕ → ℤ) (r : ℕ) (xs : List ℕ) → AllPairs (λ a b. a ≢ b) xs → Contains xs r → total c xs ≡ c r +ℤ total c (filter (λ x. not (x == r)) xs)
taken_out c r xs once has =
    let same : List ℕ = filter (λ x. x == r) xs in
    let split : total c xs ≡ total c same +ℤ total c (filter (λ x. not (x == r)) xs) = total_split c (λ x. x == r) xs in
    let here : total c same ≡ c r = exactly_once c r same (λ i d l. same_from_test _ r (filter_passes (λ x. x == r) xs i d l))
    (AllPairs-filter (λ a b. a ≢ b) (λ x. x == r) xs once) (contains_filter (λ x. x == r) xs r has (test_from_same r r refl)) in
    omega (arith, ints)

others_within : (m : ℕ) (ms xs : List ℕ) → All (Contains (m ∷ ms)) xs → All (Contains ms) (filter (λ x. not (x == m)) xs)
others_within m ms xs a = λ i d l.
    let kept : Contains (m ∷ ms) (slice_index_or (filter (λ x. not (x == m)) xs) i d) = All-filter (λ x. not (x == m)) (Contains (m ∷ ms)) xs a i d l in
    let differs : slice_index_or (filter (λ x. not (x == m)) xs) i d ≢ m = differ_from_test _ m (filter_passes (λ x. not (x == m)) xs i d l) in
    elim (contains_cases m _ ms kept) [ inl e ↦ absurd (differs (sym e)) | inr c ↦ c ]

-- lists of the same numbers, each once, have the same sum
whole_sum : (c : ℕ → ℤ) (ms xs : List ℕ) → AllPairs (λ a b. a ≢ b) ms → All (Contains ms) xs → AllPairs (λ a b. a ≢ b) xs
    → ((r : ℕ) → Contains ms r → Contains xs r) → total c xs ≡ total c ms
whole_sum c [] [] distinct a once has = refl
whole_sum c [] (x ∷ xs) distinct a once has = absurd (omega (arith, (All-head (Contains []) x xs a).1))
whole_sum c (m ∷ ms) xs distinct a once has =
    let others : List ℕ = filter (λ x. not (x == m)) xs in
    let out : total c xs ≡ c m +ℤ total c others = taken_out c m xs once (has m (contains_first m ms)) in
    let rest : total c others ≡ total c ms = whole_sum c ms others (pairs_tail (λ a b. a ≢ b) m ms distinct) (others_within m ms xs a)
    (AllPairs-filter (λ a b. a ≢ b) (λ x. not (x == m)) xs once)
    (λ r in_rest.
    let differs : r ≢ m = λ e. All-contains (λ y. m ≢ y) ms r (pairs_head (λ a b. a ≢ b) m ms distinct) in_rest (sym e) in
    contains_filter (λ x. not (x == m)) xs r (has r (contains_rest m r ms in_rest)) (test_from_differ r m differs)) in
    omega (arith, ints)

has_or_not : (r : ℕ) (xs : List ℕ) → Contains xs r ⊎ ¬ (Contains xs r)
has_or_not r [] = inr (λ has. omega (arith, has.1))
has_or_not r (x ∷ xs) = elim (same_or_not x r) [
  | inl same ↦ inl (0, omega arith, same)
  | inr other ↦ elim (has_or_not r xs) [
    | inl has ↦ inl (contains_rest x r xs has)
    | inr none ↦ inr (λ has. elim (contains_cases x r xs has) [ inl e ↦ other e | inr rest ↦ none rest ])
  ]
]
  where
    same_or_not : (a b : ℕ) → (a ≡ b) ⊎ (a ≢ b)
    same_or_not a b = grind arith

none_same : (c : ℕ → ℤ) (r : ℕ) (xs ys : List ℕ) → All (λ x. x ≡ r) ys → All (Contains xs) ys → ¬ (Contains xs r) → total c ys ≡ pos 0
none_same c r xs [] same within none = refl
none_same c r xs (y ∷ ys) same within none = absurd (none (subst (Contains xs) (All-head (λ x. x ≡ r) y ys same) (All-head (Contains xs) y ys within)))

add_none : (b loss : ℤ) → loss ≡ pos 0 → b ≡ b +ℤ loss
add_none b loss e = omega (arith, ints)

module _ (s : Parts) (c : ℕ → ℤ) (g r : ℕ) (of : IsOf s g r) where
  module _ (kind : IsKind s Single g ⊎ IsKind s Many g) where
    not_one_of : IsKind s OneOf g → ⊥
    not_one_of k = elim kind [
      | inl h ↦ let bad : OneOf ≡ Single = one_kind s g OneOf Single k h in cc
      | inr h ↦ let bad : OneOf ≡ Many = one_kind s g OneOf Many k h in cc
    ]

    not_and : IsKind s And g → ⊥
    not_and k = elim kind [
      | inl h ↦ let bad : And ≡ Single = one_kind s g And Single k h in cc
      | inr h ↦ let bad : And ≡ Many = one_kind s g And Many k h in cc
    ]

    without : (choice : List ℕ) → IsAllowedChoice s g choice → IsAllowedChoice s g (filter (λ x. not (x == r)) choice)
    without choice allowed = record {
      members = All-filter (λ x. not (x == r)) (IsOf s g) choice allowed.members;
      once = AllPairs-filter (λ a b. a ≢ b) (λ x. not (x == r)) choice allowed.once;
      one_of = λ k. absurd (not_one_of k);
      whole = λ k. absurd (not_and k);
    }

    with_it : (choice : List ℕ) → IsAllowedChoice s g choice → All (λ x. r ≢ x) choice → IsChoiceWith s g r (r ∷ choice)
    with_it choice allowed apart = record {
      allowed = record {
        members = All-cons (IsOf s g) r choice of allowed.members;
        once = AllPairs-cons (λ a b. a ≢ b) r choice apart allowed.once;
        one_of = λ k. absurd (not_one_of k);
        whole = λ k. absurd (not_and k);
      };
      has = contains_first r choice;
    }

    rest_apart : (choice : List ℕ) → All (λ x. r ≢ x) (filter (λ x. not (x == r)) choice)
    rest_apart choice = λ i d l e. differ_from_test _ r (filter_passes (λ x. not (x == r)) choice i d l) (sym e)

    -- for a SINGLE or a MANY, where the number of the request is not negative
    gains_it : (b : ℤ) → IsRebate s c g b → pos 0 ≤ℤ c r → IsRebateWith s c g r b
    gains_it b rebate least = record {
      reached = elim (has_or_not r rebate.reached.0) [
        | inl has ↦ (rebate.reached.0, record { allowed = rebate.reached.1; has = has }, rebate.reached.2)
        | inr none ↦
            let apart : All (λ x. r ≢ x) rebate.reached.0 =
            λ i d l e. none (subst (Contains rebate.reached.0) (sym e) (Contains-get_or rebate.reached.0 i d l)) in
            let longer : IsChoiceWith s g r (r ∷ rebate.reached.0) = with_it rebate.reached.0 rebate.reached.1 apart in
            let most : total c (r ∷ rebate.reached.0) ≤ℤ b = rebate.bound (r ∷ rebate.reached.0) longer.allowed in
            let is : total c rebate.reached.0 ≡ b = rebate.reached.2 in
            (r ∷ rebate.reached.0, longer, omega (arith, ints))
      ];
      bound = λ choice with_r. rebate.bound choice with_r.allowed;
    }

    -- and where it is not above 0
    loses_it : (b : ℤ) → IsRebate s c g b → c r ≤ℤ pos 0 → IsRebateWith s c g r (b +ℤ c r)
    loses_it b rebate most = record {
      reached =
          let choice : List ℕ = filter (λ x. not (x == r)) rebate.reached.0 in
          let allowed : IsAllowedChoice s g choice = without rebate.reached.0 rebate.reached.1 in
          let high : total c choice ≤ℤ b = rebate.bound choice allowed in
          let is : total c rebate.reached.0 ≡ b = rebate.reached.2 in
          let low : b ≤ℤ total c choice = elim (has_or_not r rebate.reached.0) [
            | inl has ↦ let out : total c rebate.reached.0 ≡ c r +ℤ total c choice = taken_out c r rebate.reached.0 rebate.reached.1.once has in
                omega (arith, ints)
            | inr none ↦
                let split : total c rebate.reached.0 ≡ total c (filter (λ x. x == r) rebate.reached.0) +ℤ total c choice =
                total_split c (λ x. x == r) rebate.reached.0 in
                let nothing : total c (filter (λ x. x == r) rebate.reached.0) ≡ pos 0 =
                none_same c r rebate.reached.0 (filter (λ x. x == r) rebate.reached.0)
                (λ i d l. same_from_test _ r (filter_passes (λ x. x == r) rebate.reached.0 i d l))
                (All-filter (λ x. x == r) (Contains rebate.reached.0) rebate.reached.0 (All-contains_itself rebate.reached.0)) none in
                omega (arith, ints)
          ] in
          (r ∷ choice, with_it choice allowed (rest_apart rebate.reached.0), omega (arith, ints));
      bound = λ choice with_r.
          let out : total c choice ≡ c r +ℤ total c (filter (λ x. not (x == r)) choice) = taken_out c r choice with_r.allowed.once with_r.has in
          let rest : total c (filter (λ x. not (x == r)) choice) ≤ℤ b = rebate.bound (filter (λ x. not (x == r)) choice) (without choice with_r.allowed) in
          omega (arith, ints);
    }

    pub with_any : (b loss : ℤ) → IsRebate s c g b → ((loss ≡ c r) × (c r ≤ℤ pos 0)) ⊎ ((loss ≡ pos 0) × (pos 0 ≤ℤ c r)) → IsRebateWith s c g r (b +ℤ loss)
    with_any b loss rebate (inl (e, most)) = subst (λ (z : ℤ). IsRebateWith s c g r (b +ℤ z)) (sym e) (loses_it b rebate most)
    with_any b loss rebate (inr (e, least)) = subst (IsRebateWith s c g r) (add_none b loss e) (gains_it b rebate least)

  -- for a ONEOF
  pub with_one : IsKind s OneOf g → IsRebateWith s c g r (c r)
  with_one kind = record {
    reached = (
      r ∷ [],
      record {
        allowed = record {
          members = All-cons (IsOf s g) r [] of (All-nil (IsOf s g));
          once = λ i j d l m. absurd (omega arith);
          one_of = λ k. omega arith;
          whole = λ k. let bad : And ≡ OneOf = one_kind s g And OneOf k kind in cc;
        };
        has = contains_first r [];
      },
      omega (arith, ints),
    );
    bound = λ choice with_r. only choice (with_r.allowed.one_of kind) with_r.has;
  }
    where
      only : (choice : List ℕ) → length choice ≤ 1 → Contains choice r → total c choice ≤ℤ c r
      only [] l has = absurd (omega (arith, has.1))
      only (x ∷ []) l has = elim (contains_cases x r [] has) [
        | inl e ↦ let same : c x ≡ c r = ap c e in omega (arith, ints)
        | inr none ↦ absurd (omega (arith, none.1))
      ]
      only (x ∷ y ∷ xs) l has = absurd (omega arith)

  -- for an AND
  pub with_all : (ms : List ℕ) → AreMembers s g ms → IsKind s And g → IsRebateWith s c g r (total c ms)
  with_all ms are kind = record {
    reached = (
      ms,
      record {
        allowed = record {
          members = are.members;
          once = are.once;
          one_of = λ k. let bad : OneOf ≡ And = one_kind s g OneOf And k kind in
              cc;
          whole = λ k. inl are.complete;
        };
        has = are.complete r of;
      },
      refl,
    );
    bound = λ choice with_r. elim (with_r.allowed.whole kind) [
      | inl all ↦
          let same : total c choice ≡ total c ms =
          whole_sum c ms choice are.once (λ i d l. are.complete _ (with_r.allowed.members i d l)) with_r.allowed.once
          (λ x has. all x (All-contains (IsOf s g) ms x are.members has)) in
          omega (arith, ints)
      | inr none ↦ absurd (none r of with_r.has)
    ];
  }

-- the sum of a group's net prices, as it is made
pub with_group : (s : Parts) (c : ℕ → ℤ) (g r : ℕ) → IsOrderly s → IsOf s g r → IsKind s And g → IsRebateWith s c g r (price_sum (map c (members s g)))
with_group s c g r o of kind = subst (IsRebateWith s c g r) (total_map (λ z. z) c (members s g)) (with_all s c g r of (members s g) (are_members s g o) kind)

-- the cost of seconds at the price that is read
pub cost_read : (us : List ℕ) (seconds : ℕ) (q : Option ℕ) → price_of us q * seconds ≡ quota_cost us seconds q
cost_read us seconds None = omega arith
cost_read us seconds (Some q) = refl

-- what a group has at a place of its list
pub members_read : (s : Parts) (g : ℕ) (y : GroupPart) → g < length s.groups → slice_index_or s.groups g y ≡ y → members s g ≡ members_of y
members_read s g y l is = get_or-map members_of s.groups g y [] l ∙ ap members_of is

pub record IsMemberAt (s : Parts) (f : ℕ → ℤ) (g i : ℕ) (q : RequestPart) : Type 0 where
  pub of : IsOf s g q.request.0
  pub within : i < length (map f (members s g))
  pub value : slice_index_or (map f (members s g)) i (pos 0) ≡ f q.request.0

pub member_at : (s : Parts) (f : ℕ → ℤ) (g i : ℕ) (y : GroupPart) (qs : List RequestPart) (q : RequestPart) → IsOrderly s → g < length s.groups
    → slice_index_or s.groups g y ≡ y → qs ≡ y.requests
    → i < length qs → q ≡ slice_index_or qs i q → IsMemberAt s f g i q
member_at s f g i y qs q o l is same below at =
    let all : members s g ≡ map (λ x. x.request.0) qs = members_read s g y l is ∙ ap (λ (xs : List RequestPart). map (λ x. x.request.0) xs) (sym same) in
    let size : length (map (λ x. x.request.0) qs) ≡ length qs = length-map qs (λ x. x.request.0) in
    let sizes : length (members s g) ≡ length (map (λ x. x.request.0) qs) = ap (λ (xs : List ℕ). length xs) all in
    let mapped : length (map f (members s g)) ≡ length (members s g) = length-map (members s g) f in
    let number : slice_index_or (members s g) i 0 ≡ q.request.0 = ap (λ (xs : List ℕ). slice_index_or xs i 0) all
    ∙ get_or-map (λ x. x.request.0) qs i q 0 below ∙ ap (λ (x : RequestPart). x.request.0) (sym at) in
    let here : i < length (members s g) = omega arith in
    record {
      of = is_of_member s g q.request.0 o (subst (Contains (members s g)) number (Contains-get_or (members s g) i 0 here));
      within = omega arith;
      value = get_or-map f (members s g) i 0 (pos 0) here ∙ ap f number;
    }

pub members_count : (s : Parts) (f : ℕ → ℤ) (g : ℕ) (y : GroupPart) (qs : List RequestPart) → g < length s.groups → slice_index_or s.groups g y ≡ y
    → qs ≡ y.requests → length (map f (members s g)) ≡ length qs
members_count s f g y qs l is same =
    length-map (members s g) f ∙ ap (λ (xs : List ℕ). length xs) (members_read s g y l is) ∙ length-map y.requests (λ x. x.request.0)
    ∙ ap (λ (xs : List RequestPart). length xs) (sym same)

-- the net price, as it is read
pub net_read : (s : Parts) (prices : List ℤ) (quota_prices us : List ℕ) (r u seconds : ℕ) (q : Option ℕ) (p cost : ℤ) → p ≡ price s prices r
    → cost ≡ pos (u * seconds) → u ≡ price_of us q → us ≡ quota_prices
    → q ≡ quota_of s r → seconds_of s r ≡ seconds → (p -ℤ cost) ≡ net_price s prices quota_prices r
net_read s prices quota_prices us r u seconds q p cost is_p is_cost is_u is_us is_q is_seconds =
    let price_is : u ≡ price_of quota_prices (quota_of s r) = is_u ∙ ap (λ (xs : List ℕ). price_of xs q) is_us ∙ ap (price_of quota_prices) is_q in
    let product : u * seconds ≡ quota_cost quota_prices (seconds_of s r) (quota_of s r) = ap (λ (n : ℕ). n * seconds) price_is
    ∙ ap (λ (n : ℕ). price_of quota_prices (quota_of s r) * n) (sym is_seconds) ∙ cost_read quota_prices (seconds_of s r) (quota_of s r) in
    ap (λ (z : ℤ). z -ℤ cost) is_p ∙ ap (λ (z : ℤ). price s prices r -ℤ z) (is_cost ∙ ap (λ (n : ℕ). pos n) product)
