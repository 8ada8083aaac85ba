-- Weak duality: the three parts of a plan's value, by telescope, by group and by quota.
use Rattle.std.proofs.Common.{◌≡◌, ◌≢◌, ℕ, ◌*◌, ◌≤◌, ◌<◌, ◌⊎◌, inl, inr, true, ◌==◌, ℤ, pos, ◌+ℤ◌, ◌≤ℤ◌, List, [], ◌∷◌, length, slice_index_or, filter}
use Rattle.std.proofs.Common.{sum_by, All, AllPairs, Contains, Option, Some, None, refl, sym, ap, subst, arith}
use Rattle.std.specs.Option.{ForSome}
use Rattle.std.proofs.lemmas.Int.{ints}
use Rattle.std.proofs.lemmas.Nat.{mul-le}
use Rattle.std.proofs.lemmas.List.Elements.{All-filter, All-contains, All-contains_itself, filter_passes, filter_agree}
use Rattle.std.proofs.lemmas.List.Kept.{AllPairs-filter}
use Rattle.std.proofs.lemmas.Bool.Decides.{nat_tests}
use Rattle.plan_base.specs.declared.parts.Parts.{Parts}
use Rattle.plan_base.specs.declared.parts.Op.TheVariants.{OneOf}
use Rattle.plan_base.specs.declared.claim.Placement.{Placement}
use Rattle.plan_base.specs.Sums.{total, IsSumOf}
use Rattle.plan_base.specs.Requests.{IsKnown, group_of, quota_of, seconds_of, IsOf, IsKind, AllOrNone}
use Rattle.plan_base.specs.Snapshot.{IsOrderly}
use Rattle.plan_base.specs.Starts.{IsPossibleStart, ShareSlice, worth_at, value_of_plan}
use Rattle.plan_base.specs.Feasible.{AreOfOneOneOf, requests_of, is_quota, quota_at, IsEachPossible, IsDisjoint, IsFeasible}
use Rattle.plan_base.specs.Bound.{price, weight, IsStartList, surplus, IsBest, quota_cost, net_price, IsAllowedChoice, IsRebate, IsQuotaPart, IsBound}
use Rattle.plan_base.proofs.Known.{telescope_known, requests_known, group_known, quota_known}
use Rattle.plan_base.proofs.Lists.{contains_filter}
use Rattle.plan_base.proofs.Totals.{total_map, total_add, total_times, total_of_naturals}
use Rattle.plan_base.proofs.Split.{split}

same_from_test : (a b : ℕ) → (a == b) ≡ true → a ≡ b
same_from_test a b h = grind (arith, nat_tests)

pub test_from_same : (a b : ℕ) → a ≡ b → (a == b) ≡ true
test_from_same a b h = grind (arith, nat_tests)

-- by telescope: the placements of each are a list of its starts
pub starts_on : (s : Parts) (plan : List Placement) (t : ℕ) → IsEachPossible s plan → IsDisjoint s plan
    → IsStartList s t s.first.0 (filter (λ p. p.telescope.0 == t) plan)
starts_on s plan t possible disjoint = record {
  possible = All-filter (λ p. p.telescope.0 == t) (IsPossibleStart s) plan possible;
  same_telescope = λ i d l. same_from_test _ t (filter_passes (λ p. p.telescope.0 == t) plan i d l);
  later = All-filter (λ p. p.telescope.0 == t) (λ p. s.first.0 ≤ p.slice.0) plan (λ i d l. (possible i d l).begins);
  disjoint = AllPairs-filter (λ a b. ¬ (ShareSlice s a b)) (λ p. p.telescope.0 == t) plan disjoint;
}

pub telescope_part : (s : Parts) (prices : List ℤ) (plan : List Placement) (b : ℤ) → IsOrderly s → IsEachPossible s plan → IsDisjoint s plan
    → IsSumOf (length s.telescopes) (λ t. IsBest s prices t s.first.0) b → surplus s prices plan ≤ℤ b
telescope_part s prices plan b o possible disjoint sum =
    split (weight s prices) (λ p. p.telescope.0) plan (length s.telescopes) (λ t. IsBest s prices t s.first.0) b sum
    (λ i d l. inr (telescope_known s _ o (possible i d l)))
    (λ t y l best. best.bound (filter (λ p. p.telescope.0 == t) plan) (starts_on s plan t possible disjoint))

-- by group: the requests placed of each are an allowed choice
at_most_one : (s : Parts) (g : ℕ) (rs : List ℕ) → All (IsOf s g) rs → AllPairs (λ a b. ¬ (AreOfOneOneOf s a b)) rs → IsKind s OneOf g → length rs ≤ 1
at_most_one s g [] m n k = omega arith
at_most_one s g (a ∷ []) m n k = omega arith
at_most_one s g (a ∷ b ∷ rs) m n k = absurd (n 0 1 a (omega arith) (omega arith) (g, k, m 0 a (omega arith), m 1 a (omega arith)))

all_or_none : (s : Parts) (g : ℕ) (rs : List ℕ) → AllOrNone s g rs → AllOrNone s g (filter (λ r. group_of s r == g) rs)
all_or_none s g rs h = elim h [
  | inl all ↦ inl (λ r o. contains_filter (λ x. group_of s x == g) rs r (all r o) (test_from_same (group_of s r) g o.1))
  | inr none ↦ inr (λ r o c. none r o
      (All-contains (Contains rs) (filter (λ x. group_of s x == g) rs) r
      (All-filter (λ x. group_of s x == g) (Contains rs) rs (All-contains_itself rs)) c))
]

pub choice_of : (s : Parts) (plan : List Placement) (g : ℕ) → IsFeasible s plan → IsAllowedChoice s g (filter (λ r. group_of s r == g) (requests_of plan))
choice_of s plan g f =
    let members : All (IsOf s g) (filter (λ r. group_of s r == g) (requests_of plan)) = λ i d l. (
      All-filter (λ r. group_of s r == g) (λ r. IsKnown s r) (requests_of plan) (requests_known s plan f) i d l,
      same_from_test _ g (filter_passes (λ r. group_of s r == g) (requests_of plan) i d l),
    ) in
    record {
      members = members;
      once = AllPairs-filter (λ a b. a ≢ b) (λ r. group_of s r == g) (requests_of plan) f.once;
      one_of = at_most_one s g _ members (AllPairs-filter (λ a b. ¬ (AreOfOneOneOf s a b)) (λ r. group_of s r == g) (requests_of plan) f.oneof_once);
      whole = λ k. all_or_none s g (requests_of plan) (f.and_whole g k);
    }

group_part : (s : Parts) (prices : List ℤ) (quota_prices : List ℕ) (plan : List Placement) (b : ℤ) → IsFeasible s plan
    → IsSumOf (length s.groups) (IsRebate s (net_price s prices quota_prices)) b → total (net_price s prices quota_prices) (requests_of plan) ≤ℤ b
group_part s prices quota_prices plan b f sum =
    split (net_price s prices quota_prices) (group_of s) (requests_of plan) (length s.groups) (IsRebate s (net_price s prices quota_prices)) b sum
    (λ i d l. inr (group_known s _ (requests_known s plan f i d l)))
    (λ g y l rebate. rebate.bound (filter (λ r. group_of s r == g) (requests_of plan)) (choice_of s plan g f))

-- by quota: the seconds placed of each are within it
abbrev pub cost_of : Parts → List ℕ → ℕ → ℤ
cost_of s quota_prices r = pos (quota_cost quota_prices (seconds_of s r) (quota_of s r))

-- the quota, or n where none is named
abbrev quota_or : ℕ → Option ℕ → ℕ
quota_or n None = n
quota_or n (Some q) = q

free_or_known : (quota_prices : List ℕ) (seconds n : ℕ) (o : Option ℕ) → ForSome o (λ q. q < n)
    → (pos (quota_cost quota_prices seconds o) ≡ pos 0) ⊎ (quota_or n o < n)
free_or_known quota_prices seconds n None h = inl refl
free_or_known quota_prices seconds n (Some q) h = inr (h q refl)

same_quota : (n q : ℕ) (o : Option ℕ) → q < n → (quota_or n o == q) ≡ is_quota q o
same_quota n q None l = grind (arith, nat_tests)
same_quota n q (Some p) l = refl

quota_from_test : (q : ℕ) (o : Option ℕ) → is_quota q o ≡ true → o ≡ Some q
quota_from_test q None h = cc
quota_from_test q (Some p) h = ap (λ (x : ℕ). Some x) (same_from_test p q h)

one_quota : (s : Parts) (quota_prices : List ℕ) (plan : List Placement) (q : ℕ) (y : ℤ) → IsFeasible s plan → q < length s.quotas
    → IsQuotaPart s quota_prices q y
    → total (cost_of s quota_prices) (filter (λ r. quota_or (length s.quotas) (quota_of s r) == q) (requests_of plan)) ≤ℤ y
one_quota s quota_prices plan q y f l part =
    let u : ℕ = slice_index_or quota_prices q 0 in
    let rs : List ℕ = requests_of plan in
    let named : List ℕ = filter (λ r. is_quota q (quota_of s r)) rs in
    let agree : filter (λ r. quota_or (length s.quotas) (quota_of s r) == q) rs ≡ named =
    filter_agree (λ r. quota_or (length s.quotas) (quota_of s r) == q) (λ r. is_quota q (quota_of s r))
    (λ r. same_quota _ q (quota_of s r) l) rs in
    let sum : total (cost_of s quota_prices) named ≡ pos (u * sum_by (seconds_of s) named) = total_times u (cost_of s quota_prices) (seconds_of s) named
    (λ i d h. ap (λ (o : Option ℕ). pos (quota_cost quota_prices (seconds_of s (slice_index_or named i d)) o))
    (quota_from_test q _ (filter_passes (λ r. is_quota q (quota_of s r)) rs i d h))) in
    let within : u * sum_by (seconds_of s) named ≤ u * quota_at s q = mul-le u _ u _ (omega arith) (f.within_quotas q l) in
    let is : y ≡ pos (u * quota_at s q) = part in
    subst (λ (ys : List ℕ). total (cost_of s quota_prices) ys ≤ℤ y) (sym agree) (omega (arith, ints))

pub quota_part : (s : Parts) (quota_prices : List ℕ) (plan : List Placement) (b : ℤ) → IsOrderly s → IsFeasible s plan
    → IsSumOf (length s.quotas) (IsQuotaPart s quota_prices) b → total (cost_of s quota_prices) (requests_of plan) ≤ℤ b
quota_part s quota_prices plan b o f sum =
    split (cost_of s quota_prices) (λ r. quota_or (length s.quotas) (quota_of s r)) (requests_of plan) (length s.quotas) (IsQuotaPart s quota_prices) b sum
    (λ i d l. free_or_known quota_prices (seconds_of s (slice_index_or (requests_of plan) i d)) (length s.quotas)
    (quota_of s (slice_index_or (requests_of plan) i d)) (quota_known s _ o (requests_known s plan f i d l)))
    (λ q y l part. one_quota s quota_prices plan q y f l part)

-- no feasible plan is worth more than the bound that prices give
pub duality : (s : Parts) (prices : List ℤ) (quota_prices : List ℕ) (plan : List Placement) (b : ℤ) → IsOrderly s
    → IsFeasible s plan → IsBound s prices quota_prices b → pos (value_of_plan s plan) ≤ℤ b
duality s prices quota_prices plan b o f bound =
    let value : total (λ p. pos (worth_at s p)) plan ≡ pos (value_of_plan s plan) = total_of_naturals (worth_at s) plan in
    let both : total (λ p. pos (worth_at s p)) plan ≡ surplus s prices plan +ℤ total (λ p. price s prices p.request.0) plan =
    total_add (λ p. pos (worth_at s p)) (weight s prices) (λ p. price s prices p.request.0) (λ p. omega (arith, ints)) plan in
    let placed : total (λ p. price s prices p.request.0) plan ≡ total (price s prices) (requests_of plan) =
    total_map (price s prices) (λ p. p.request.0) plan in
    let net : total (price s prices) (requests_of plan) ≡ total (net_price s prices quota_prices) (requests_of plan) +ℤ total (cost_of s quota_prices)
    (requests_of plan) = total_add (price s prices) (net_price s prices quota_prices) (cost_of s quota_prices)
    (λ r. omega (arith, ints)) (requests_of plan) in
    let one : surplus s prices plan ≤ℤ bound.bests = telescope_part s prices plan bound.bests o f.possible f.disjoint bound.best in
    let two : total (net_price s prices quota_prices) (requests_of plan) ≤ℤ bound.rebates =
    group_part s prices quota_prices plan bound.rebates f bound.rebate in
    let three : total (cost_of s quota_prices) (requests_of plan) ≤ℤ bound.quotas = quota_part s quota_prices plan bound.quotas o f bound.quota in
    let whole : b ≡ bound.bests +ℤ bound.rebates +ℤ bound.quotas = bound.whole in
    omega (arith, ints)
