-- The tables of what placements take up.
use Rattle.std.specs.Prelude.{◌≡◌, ℕ, ◌+◌, ◌*◌, ◌^◌, ◌≤◌, ◌<◌, nat_le, nat_lt, Bool, true, false, cond}
use Rattle.std.specs.Prelude.{◌&&◌, ◌==◌, List, length, slice_index_or, Option, Some, sum_by}
use Rattle.plan_base.specs.declared.parts.Parts.{Parts}
use Rattle.plan_base.specs.declared.parts.Op.TheVariants.{OneOf}
use Rattle.plan_base.specs.declared.claim.Placement.{Placement}
use Rattle.plan_base.specs.Requests.{listed, place_of, group_of, quota_of, seconds_of}
use Rattle.plan_base.specs.Feasible.{is_quota}
use Rattle.groups.specs.declared.footprint.Footprint.{Footprint}
use Rattle.groups.specs.declared.tables.Tables.{Tables}
use Rattle.groups.specs.Footprints.{first_slot, end_slot}

-- 1 where the flag at i is set, else 0
abbrev pub flag : List Bool → ℕ → ℕ
flag flags i = cond (slice_index_or flags i false) 1 0

-- 1 where i is one of the numbers from a up to the one before b, else 0
abbrev pub within : ℕ → ℕ → ℕ → ℕ
within a b i = cond (nat_le a i && nat_lt i b) 1 0

-- 1 where a and b are the same, else 0
abbrev pub same : ℕ → ℕ → ℕ
same a b = cond (a == b) 1 0

-- the seconds, where quota q is the one that is named, else 0
abbrev pub towards : Option ℕ → ℕ → ℕ → ℕ
towards quota seconds q = cond (is_quota q quota) seconds 0

-- the tables tell of each slot, request, group and quota what the plan's placements take up of it
pub record AreTables (s : Parts) (plan : List Placement) (t : Tables) : Type 0 where
  pub slots : length t.occupied.items ≡ length s.telescopes * s.slices
  pub places : length t.placed.items ≡ length (listed s)
  pub groups : length t.members.items ≡ length s.groups
  pub quotas : length t.seconds.items ≡ length s.quotas
  pub occupied : (i : ℕ) → flag t.occupied.items i ≡ sum_by (λ p. within (first_slot s p) (end_slot s p) i) plan
  pub placed : (i : ℕ) → flag t.placed.items i ≡ sum_by (λ p. same (place_of s p.request.0) i) plan
  pub members : (g : ℕ) → slice_index_or t.members.items g 0 ≡ sum_by (λ p. same (group_of s p.request.0) g) plan
  pub seconds : (q : ℕ) → slice_index_or t.seconds.items q 0 ≡ sum_by (λ p. towards (quota_of s p.request.0) (seconds_of s p.request.0) q) plan

-- what the footprint names is in the tables
pub record IsInTables (f : Footprint) (t : Tables) : Type 0 where
  pub place : f.place < length t.placed.items
  pub group : f.group < length t.members.items
  pub quota : (q : ℕ) → f.quota ≡ Some q → q < length t.seconds.items
  pub order : f.from ≤ f.to
  pub slots : f.to ≤ length t.occupied.items

-- nothing stands in the way of the footprint
pub record HasRoom (quotas : List ℕ) (f : Footprint) (t : Tables) : Type 0 where
  pub placed : slice_index_or t.placed.items f.place false ≡ false
  pub one_of : f.op ≡ OneOf → slice_index_or t.members.items f.group 0 ≡ 0
  pub quota : (q : ℕ) → f.quota ≡ Some q → slice_index_or t.seconds.items q 0 + f.seconds ≤ slice_index_or quotas q 0
  pub slots : (i : ℕ) → f.from ≤ i → i < f.to → slice_index_or t.occupied.items i false ≡ false

-- the footprint isn't taken up in the tables, and what it takes up can be added
pub record IsLeftOut (f : Footprint) (t : Tables) : Type 0 where
  pub placed : slice_index_or t.placed.items f.place false ≡ false
  pub group : slice_index_or t.members.items f.group 0 + 1 < 2 ^ 32
  pub quota : (q : ℕ) → f.quota ≡ Some q → slice_index_or t.seconds.items q 0 + f.seconds < 2 ^ 64
  pub slots : (i : ℕ) → f.from ≤ i → i < f.to → slice_index_or t.occupied.items i false ≡ false

-- the footprint is taken up in the tables
pub record IsTakenUp (f : Footprint) (t : Tables) : Type 0 where
  pub placed : slice_index_or t.placed.items f.place false ≡ true
  pub group : 1 ≤ slice_index_or t.members.items f.group 0
  pub quota : (q : ℕ) → f.quota ≡ Some q → f.seconds ≤ slice_index_or t.seconds.items q 0
  pub slots : (i : ℕ) → f.from ≤ i → i < f.to → slice_index_or t.occupied.items i false ≡ true

-- the tables tell what they told before, and the footprint besides
pub record TellsMore (f : Footprint) (less more : Tables) : Type 0 where
  pub slots : length more.occupied.items ≡ length less.occupied.items
  pub places : length more.placed.items ≡ length less.placed.items
  pub groups : length more.members.items ≡ length less.members.items
  pub quotas : length more.seconds.items ≡ length less.seconds.items
  pub occupied : (i : ℕ) → flag more.occupied.items i ≡ flag less.occupied.items i + within f.from f.to i
  pub placed : (i : ℕ) → flag more.placed.items i ≡ flag less.placed.items i + same f.place i
  pub members : (g : ℕ) → slice_index_or more.members.items g 0 ≡ slice_index_or less.members.items g 0 + same f.group g
  pub seconds : (q : ℕ) → slice_index_or more.seconds.items q 0 ≡ slice_index_or less.seconds.items q 0 + towards f.quota f.seconds q
