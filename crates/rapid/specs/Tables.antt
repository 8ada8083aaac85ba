-- What telescopes give from each slice on, and what is known before that is mended for one more request.
use Rattle.std.specs.Prelude.{◌≡◌, ℕ, ◌+◌, ◌-◌, ◌<◌, ℤ, ◌+ℤ◌, ◌≤ℤ◌, Bool, List, [], ◌∷◌, ◌++◌, length}
use Rattle.plan_base.specs.declared.parts.Parts.{Parts}
use Rattle.plan_base.specs.declared.parts.GroupPart.{GroupPart}
use Rattle.plan_base.specs.declared.parts.Op.TheVariants.{Single}
use Rattle.plan_base.specs.declared.claim.Claim.{Claim}
use Rattle.plan_base.specs.Tables.{IsTable, entry, row}
use Rattle.plan_base.specs.Verdict.{IsPriceInRange, IsCertified}
use Rattle.bound_checker.specs.declared.worth.Offer.{Offer}
use Rattle.bound_checker.specs.Offers.{offer_weight}
use Rattle.openings.specs.Openings.{IsSet}
use Rattle.rapid.specs.declared.tables.Extension.{Extension}
use Rattle.rapid.specs.Insertion.{with_group}

-- what telescope t gives from each slice of the horizon on, and 0 after it
pub record IsTableOf (s : Parts) (prices : List ℤ) (t : ℕ) (table : List ℤ) : Type 0 where
  pub count : length table ≡ s.slices + 1
  pub from_slices : IsTable s prices t (λ k. entry table (k - s.first.0))

-- the tables of the first n telescopes
pub record AreTablesTo (s : Parts) (prices : List ℤ) (n : ℕ) (tables : List (List ℤ)) : Type 0 where
  pub count : length tables ≡ n
  pub each : (t : ℕ) → t < n → IsTableOf s prices t (row tables t)

-- those of all telescopes
abbrev pub AreTables : Parts → List ℤ → List (List ℤ) → Type 0
AreTables s prices tables = AreTablesTo s prices (length s.telescopes) tables

-- the snapshot is the one before with a SINGLE of the request at its end, the claim is certified for that one, and these are its tables there
pub record IsPriceable (x : Extension) : Type 0 where
  pub group : GroupPart
  pub single : group.op ≡ Single
  pub only : group.requests ≡ x.request.now ∷ []
  pub whole : x.snapshot.now ≡ with_group x.before.now group
  pub certified : IsCertified x.before.now x.claim.now
  pub are_tables : AreTables x.before.now x.claim.now.prices.0 x.tables.now

-- the prices of the claim with one more at their end
pub record AreMorePrices (claim : Claim) (price : ℤ) (prices : List ℤ) : Type 0 where
  pub whole : prices ≡ claim.prices.0 ++ price ∷ []
  pub range : IsPriceInRange price

-- where there is a start at place i, the table has as much there as it gives with what may follow
abbrev pub IsEnoughAt : Offer → ℕ → List Bool → List ℤ → ℕ → Type 0
IsEnoughAt o first flags table i = IsSet flags i → (offer_weight o (first + i) +ℤ entry table (i + o.size)) ≤ℤ entry table i

-- so it is for each start
abbrev pub IsEnough : Offer → ℕ → List Bool → List ℤ → Type 0
IsEnough o first flags table = (i : ℕ) → IsEnoughAt o first flags table i
