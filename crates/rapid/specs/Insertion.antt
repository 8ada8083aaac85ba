-- What the insertion of a group of one request makes of a snapshot and a claim on it.
use Rattle.std.specs.Prelude.{◌≡◌, ℕ, ◌+◌, ◌<◌, ◌⊎◌, ℤ, pos, ◌<ℤ◌, ◌≤ℤ◌, List, [], ◌∷◌, ◌++◌, map, AllPairs, IsPermutation}
use Rattle.plan_base.specs.declared.parts.Parts.{Parts}
use Rattle.plan_base.specs.declared.parts.GroupPart.{GroupPart}
use Rattle.plan_base.specs.declared.parts.RequestPart.{RequestPart}
use Rattle.plan_base.specs.declared.claim.Placement.{Placement}
use Rattle.plan_base.specs.declared.claim.Claim.{Claim}
use Rattle.plan_base.specs.declared.number.RequestNo.{RequestNo}
use Rattle.plan_base.specs.Feasible.{requests_of}
use Rattle.plan_base.specs.Saturated.{IsNoLater}
use Rattle.plan_base.specs.Repaired.{IsListing}
use Rattle.plan_base.specs.Bound.{IsBound}
use Rattle.plan_base.specs.Verdict.{IsCertified}
use Rattle.rapid.specs.declared.inserted.Inserted.{Inserted}
use Rattle.rapid.specs.declared.inserted.Inserted.TheVariants.{Placed, NoPlace}
use Rattle.rapid.specs.Displaced.{IsWorthIt, Qualifies}
use Rattle.rapid.specs.Standing.{Standing}

-- the snapshot with one more group at its end, at the same version
abbrev pub with_group : Parts → GroupPart → Parts
with_group s group = record s { groups = s.groups ++ group ∷ [] }

-- the snapshot with more groups at its end
abbrev pub with_groups : Parts → List GroupPart → Parts
with_groups s groups = record s { groups = s.groups ++ groups }

-- the numbers, each as often, in rising order
pub record AreRising (numbers : List ℕ) (listed : List RequestNo) : Type 0 where
  pub same : IsPermutation numbers (map (λ r. r.0) listed)
  pub rising : AllPairs (λ a b. a.0 < b.0) listed

-- the earliest start of request r that qualifies, on the lowest telescope among equals, and what goes and stays for it
pub record IsEarliest (s : Parts) (plan : List Placement) (r : ℕ) (p : Placement) (gone kept : List Placement) : Type 0 where
  pub same_request : p.request.0 ≡ r
  pub worth_it : IsWorthIt s plan p gone kept
  pub earliest : (q : Placement) → q.request.0 ≡ r → Qualifies s plan q → IsNoLater p q

-- no start of request r qualifies
abbrev pub HasNoPlace : Parts → List Placement → ℕ → Type 0
HasNoPlace s plan r = (q : Placement) → q.request.0 ≡ r → ¬ (Qualifies s plan q)

-- request r takes its place in the plan, or has none and the plan stays; the new plan is by telescope, then slice, and the requests displaced rise
abbrev pub IsPlacing : Parts → List Placement → ℕ → Inserted → List Placement → List RequestNo → Type 0
IsPlacing s plan r (Placed p) after displaced =
    (gone kept : List Placement) × IsEarliest s plan r p gone kept × IsListing (kept ++ p ∷ []) after × AreRising (requests_of gone) displaced
IsPlacing s plan r NoPlace after displaced = HasNoPlace s plan r × IsListing plan after × (displaced ≡ [])

-- the price of a new request of this value: 0 where the bound with it is below the old bound and the value together, else the value
pub record IsNewPrice (s : Parts) (claim : Claim) (value : ℕ) (price : ℤ) : Type 0 where
  pub bound : ℤ
  pub with_0 : IsBound s (claim.prices.0 ++ pos 0 ∷ []) claim.quota_prices.0 bound
  pub choice : ((bound <ℤ pos (claim.bound + value)) × (price ≡ pos 0)) ⊎ ((pos (claim.bound + value) ≤ℤ bound) × (price ≡ pos value))

-- the group of one request is in the snapshot, the request in the plan where it has a place, and the claim is certified
pub record IsInsertion (before : Standing) (group : GroupPart) (answer : Inserted) (after : Standing) : Type 0 where
  pub request : RequestPart
  pub only : group.requests ≡ request ∷ []
  pub snapshot : after.snapshot ≡ with_group before.snapshot group
  pub placing : IsPlacing after.snapshot before.claim.placements request.request.0 answer after.claim.placements after.displaced
  pub price : ℤ
  pub new_price : IsNewPrice after.snapshot before.claim request.value price
  pub prices : after.claim.prices.0 ≡ before.claim.prices.0 ++ price ∷ []
  pub quota_prices : after.claim.quota_prices.0 ≡ before.claim.quota_prices.0
  pub certified : IsCertified after.snapshot after.claim

-- the groups are inserted one after another
abbrev pub InsertsEach : Standing → List GroupPart → Standing → Type 0
InsertsEach before [] after = after ≡ before
InsertsEach before (group ∷ groups) after = (answer : Inserted) × (next : Standing) × IsInsertion before group answer next × InsertsEach next groups after
