-- The rounds of a lane: from prices to the next by a subgradient step.
use Rattle.std.specs.Prelude.{
  ◌≡◌,
  ℕ,
  zero,
  suc,
  ◌+◌,
  ◌-◌,
  ◌*◌,
  ◌/◌,
  ◌^◌,
  min,
  max,
  Bool,
  cond,
  ◌&&◌,
  ◌==◌,
  nat_lt,
  int_lt,
  int_le,
  if◌then◌else◌,
  ℤ,
  pos,
  ◌+ℤ◌,
  ◌-ℤ◌,
  List,
  map,
  slice_index_or,
  filter,
  sum_by,
  count_by,
  fold,
}
use Rattle.std.specs.List.{list_all, enumerate_from}
use Rattle.plan_base.specs.declared.parts.Parts.{Parts}
use Rattle.plan_base.specs.declared.parts.Op.{Op}
use Rattle.plan_base.specs.declared.parts.Op.TheVariants.{Single, Many, OneOf, And}
use Rattle.plan_base.specs.declared.claim.Placement.{Placement}
use Rattle.plan_base.specs.Limits.{most_quota_price}
use Rattle.plan_base.specs.Sums.{total}
use Rattle.plan_base.specs.Requests.{listed, group_of, members}
use Rattle.plan_base.specs.Feasible.{is_quota}
use Rattle.plan_base.specs.Bound.{price, net_price}
use Rattle.plan_base.specs.Canonical.{IsCanonicalStarts}

-- the kind of the group at place g
abbrev pub op_at : Parts → ℕ → Op
op_at s g = slice_index_or (map (λ x. x.op) s.groups) g Single

-- a group of this kind and these members takes request r at the net prices c: a SINGLE or MANY where its price is above 0, a ONEOF the first of its
-- greatest price if that is above 0, an AND all where the sum is above 0
abbrev pub takes : Op → (ℕ → ℤ) → List ℕ → ℕ → Bool
takes Single c ms r = int_lt (pos 0) (c r)
takes Many c ms r = int_lt (pos 0) (c r)
takes OneOf c ms r = int_lt (pos 0) (c r) && list_all (λ m. if nat_lt m r then int_lt (c m) (c r) else int_le (c m) (c r)) ms
takes And c ms r = int_lt (pos 0) (total c ms)

-- the group of request r takes it
abbrev pub is_taken : Parts → (ℕ → ℤ) → ℕ → Bool
is_taken s c r = takes (op_at s (group_of s r)) c (members s (group_of s r)) r

-- how often request r starts
abbrev pub uses_of : List Placement → ℕ → ℕ
uses_of starts r = count_by (λ p. p.request.0 == r) starts

-- the seconds of the requests taken in groups that name quota q
abbrev pub demand_of : Parts → (ℕ → ℤ) → ℕ → ℕ
demand_of s c q = sum_by (λ x. x.request.seconds) (filter (λ x. is_quota q x.quota && is_taken s c x.request.request.0) (listed s))

-- the greatest value of a request, or 0
abbrev pub greatest_value : Parts → ℕ
greatest_value s = fold max 0 (map (λ x. x.request.value) (listed s))

-- the subgradient step of a lane's round
abbrev pub step_of : ℕ → ℕ → ℕ → ℕ
step_of lane round greatest = max 1 (greatest / (2 ^ lane * (round + 1)))

-- the step of quota prices that goes with a step
abbrev pub quota_step : ℕ → ℕ
quota_step step = max 1 (step / 3600)

-- a price after a round: up where the request is used more than it is taken, down where less
abbrev pub moved_price : ℕ → ℤ → ℕ → Bool → ℤ
moved_price step c uses taken = if nat_lt (cond taken 1 0) uses then c +ℤ pos step else (if nat_lt uses (cond taken 1 0) then c -ℤ pos step else c)

-- a quota price after a round: up where more is demanded than the quota, to at most 200,000, and down where less, to at least 0
abbrev pub moved_quota_price : ℕ → ℕ → ℕ → ℕ → ℕ
moved_quota_price step u demand most =
    if nat_lt most demand then min most_quota_price (u + quota_step step) else (if nat_lt demand most then u - quota_step step else u)

-- all prices after a round with these starts
abbrev pub next_prices : Parts → ℕ → List ℤ → (ℕ → ℤ) → List Placement → List ℤ
next_prices s step prices c starts =
    map (λ x. moved_price step (price s prices x.request.request.0) (uses_of starts x.request.request.0) (is_taken s c x.request.request.0)) (listed s)

-- all quota prices after a round
abbrev pub next_quota_prices : Parts → ℕ → List ℕ → (ℕ → ℤ) → List ℕ
next_quota_prices s step quota_prices c =
    map (λ q. moved_quota_price step (slice_index_or quota_prices q.0 0) (demand_of s c q.0) q.1) (enumerate_from 0 s.quotas)

-- one round leads from prices to prices
pub record IsNextRound (s : Parts) (step : ℕ) (prices : List ℤ) (quota_prices : List ℕ) (next : List ℤ) (next_quota : List ℕ) : Type 0 where
  pub starts : List Placement
  pub canonical : IsCanonicalStarts s prices starts
  pub moved : next ≡ next_prices s step prices (net_price s prices quota_prices) starts
  pub moved_quota : next_quota ≡ next_quota_prices s step quota_prices (net_price s prices quota_prices)

-- the prices of a lane's round: all 0 in round 0
abbrev pub IsRoundPrices : Parts → ℕ → ℕ → List ℤ → List ℕ → Type 0
IsRoundPrices s lane zero prices quota_prices = (prices ≡ map (λ x. pos 0) (listed s)) × (quota_prices ≡ map (λ q. 0) s.quotas)
IsRoundPrices s lane (suc round) prices quota_prices =
    (before : List ℤ) × (before_quota : List ℕ) × IsRoundPrices s lane round before before_quota
    × IsNextRound s (step_of lane round (greatest_value s)) before before_quota prices quota_prices
