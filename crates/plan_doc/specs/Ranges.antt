-- Which claims and snapshots have a document: their numbers and counts are in the ranges in which they are read.
use Rattle.std.specs.Prelude.{ℕ, ◌≤◌, ℤ, neg_ℤ, ◌≤ℤ◌, List, length, All, IfSome}
use Rattle.plan_base.specs.declared.number.TelescopeNo.{TelescopeNo}
use Rattle.plan_base.specs.declared.number.TargetNo.{TargetNo}
use Rattle.plan_base.specs.declared.span.Span.{Span}
use Rattle.plan_base.specs.declared.claim.Placement.{Placement}
use Rattle.plan_base.specs.declared.claim.Claim.{Claim}
use Rattle.plan_base.specs.declared.parts.TelescopePart.{TelescopePart}
use Rattle.plan_base.specs.declared.parts.Sky.{Sky}
use Rattle.plan_base.specs.declared.parts.RequestPart.{RequestPart}
use Rattle.plan_base.specs.declared.parts.GroupPart.{GroupPart}
use Rattle.plan_base.specs.declared.parts.Parts.{Parts}
use Rattle.plan_base.specs.Limits.{most_moment, most_seconds, most_value, most_slices, most_version, most_first, least_len, most_len, most_fade, most_number}
use Rattle.plan_json.specs.Ranges.{IsBetween}
use Rattle.plan_doc.specs.Limits.{most_items, most_listed, most_quota_prices}
use Rattle.plan_doc.specs.Limits.{highest_number, highest_quota, highest_price, highest_quota_price, highest_value, highest_bound}

-- ---- claims

-- the numbers of request and slice have 32 bits, the telescope's has 16
pub record IsPlacement (p : Placement) : Type 0 where
  pub request : p.request.0 ≤ most_number
  pub telescope : p.telescope.0 ≤ highest_number
  pub slice : p.slice.0 ≤ most_number

-- a price that is read
pub record IsPrice (z : ℤ) : Type 0 where
  pub low : neg_ℤ highest_price ≤ℤ z
  pub high : z ≤ℤ highest_price

-- a list of at most n elements, of each of which this holds
pub record AreUpTo {T : Type 0} (n : ℕ) (P : T → Type 0) (xs : List T) : Type 0 where
  pub count : length xs ≤ n
  pub each : All P xs

-- a claim that a document allows: at most 4,096 placements, 4,096 prices and 1,024 quota prices, and all its numbers in their ranges
pub record IsClaim (c : Claim) : Type 0 where
  pub placements : AreUpTo most_listed IsPlacement c.placements
  pub prices : AreUpTo most_listed IsPrice c.prices.0
  pub quota_prices : AreUpTo most_quota_prices (λ u. u ≤ highest_quota_price) c.quota_prices.0
  pub value : c.value ≤ highest_value
  pub bound : c.bound ≤ highest_bound

-- ---- snapshots

-- both ends of the span are at most the last second that a span may name, whichever comes first
pub record HasMoments (w : Span) : Type 0 where
  pub first : w.from.0 ≤ most_moment
  pub last : w.to.0 ≤ most_moment

-- a telescope that a document allows: its site's number has 16 bits, and it has at most 65,536 usable spans
pub record IsTelescope (t : TelescopePart) : Type 0 where
  pub site : t.site.0 ≤ highest_number
  pub usable : AreUpTo most_items HasMoments t.usable

-- a sky that a document allows: the numbers of target and site have 16 bits, and it has at most 65,536 spans
pub record IsSky (y : Sky) : Type 0 where
  pub target : y.target.0 ≤ highest_number
  pub site : y.site.0 ≤ highest_number
  pub spans : AreUpTo most_items HasMoments y.spans

-- a request that a document allows: its numbers are in their ranges, and each of its lists has at most 65,536 elements
pub record IsRequest (q : RequestPart) : Type 0 where
  pub request : q.request.0 ≤ most_number
  pub seconds : IsBetween 1 most_seconds q.seconds
  pub value : IsBetween 1 most_value q.value
  pub windows : AreUpTo most_items HasMoments q.windows
  pub telescopes : AreUpTo most_items (λ (t : TelescopeNo). t.0 ≤ highest_number) q.telescopes
  pub targets : AreUpTo most_items (λ (t : TargetNo). t.0 ≤ highest_number) q.targets
  pub fade : q.fade ≤ most_fade

-- a group that a document allows: at most 65,536 such requests, of any operator, and its quota, if it has one, at a place of 16 bits
pub record IsGroup (x : GroupPart) : Type 0 where
  pub group : x.group.0 ≤ most_number
  pub requests : AreUpTo most_items IsRequest x.requests
  pub quota : IfSome x.quota (λ q. q ≤ highest_number)

-- the parts of a snapshot whose numbers and counts a document allows
pub record AreParts (s : Parts) : Type 0 where
  pub version : s.version ≤ most_version
  pub len : IsBetween least_len most_len s.len
  pub first : s.first.0 ≤ most_first
  pub slices : IsBetween 1 most_slices s.slices
  pub telescopes : AreUpTo most_items IsTelescope s.telescopes
  pub skies : AreUpTo most_items IsSky s.skies
  pub groups : AreUpTo most_items IsGroup s.groups
  pub quotas : AreUpTo most_items (λ q. q ≤ highest_quota) s.quotas
