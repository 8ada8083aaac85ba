-- What an insertion makes.
use Rattle.std.specs.Prelude.{◌≡◌, ◌+◌}
use Rattle.plan_base.specs.declared.parts.Parts.{Parts}
use Rattle.plan_base.specs.declared.parts.GroupPart.{GroupPart}
use Rattle.plan_base.specs.declared.parts.Op.TheVariants.{Single}
use Rattle.plan_base.specs.declared.claim.Claim.{Claim}
use Rattle.plan_base.specs.declared.claim.QuotaPrices.{QuotaPrices}
use Rattle.rapid.specs.declared.placing.Placing.{Placing}
use Rattle.rapid.specs.declared.pricing.Pricing.{Pricing}
use Rattle.rapid.specs.declared.making.Priced.{Priced}
use Rattle.rapid.specs.Standing.{Standing, opening}
use Rattle.rapid.specs.Insertion.{with_group, IsInsertion}

-- the second snapshot is the first with a SINGLE at its end
pub record IsExtended (before s : Parts) : Type 0 where
  pub group : GroupPart
  pub single : group.op ≡ Single
  pub whole : s ≡ with_group before group

-- the claim with its new request placed and priced so, and what belongs to it
abbrev pub joined : Claim → QuotaPrices → Placing → Pricing → Priced
joined old us placing pricing = record {
  claim = record { placements = placing.placements; prices = pricing.prices; quota_prices = us; value = old.value + placing.gain; bound = pricing.bound };
  tables = pricing.tables;
  displaced = placing.displaced;
  inserted = placing.inserted;
}

-- what stands once this is put in
abbrev pub standing_of : Parts → Priced → Standing
standing_of s priced = record { snapshot = s; claim = priced.claim; displaced = priced.displaced }

-- the second snapshot and what belongs to it are what the insertion of the group into the first and the claim makes
abbrev pub IsMadeOf : Parts → Claim → GroupPart → Parts → Priced → Type 0
IsMadeOf before claim group s priced = IsInsertion (opening before claim) group priced.inserted (standing_of s priced)
