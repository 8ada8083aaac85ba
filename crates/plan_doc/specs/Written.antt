-- Claims and snapshots as they are written: the members of each object, in any order, since `object_of` puts them in byte
-- order.
use Rattle.std.specs.Prelude.{ℕ, List, [], ◌∷◌, Option, Some, None, option_map, Result}
use Rattle.serde_json.specs.Data.{Data, string}
use Rattle.plan_base.specs.declared.number.TelescopeNo.{TelescopeNo}
use Rattle.plan_base.specs.declared.number.TargetNo.{TargetNo}
use Rattle.plan_base.specs.declared.span.Span.{Span}
use Rattle.plan_base.specs.declared.claim.Placement.{Placement}
use Rattle.plan_base.specs.declared.claim.Claim.{Claim}
use Rattle.plan_base.specs.declared.parts.TelescopePart.{TelescopePart}
use Rattle.plan_base.specs.declared.parts.Sky.{Sky}
use Rattle.plan_base.specs.declared.parts.RequestPart.{RequestPart}
use Rattle.plan_base.specs.declared.parts.GroupPart.{GroupPart}
use Rattle.plan_base.specs.declared.parts.Parts.{Parts}
use Rattle.plan_json.specs.declared.fault.JsonFault.{JsonFault}
use Rattle.plan_json.specs.declared.member.Member.TheVariants as key
use Rattle.plan_json.specs.Adds.{text_of}
use Rattle.plan_json.specs.Object.{document_of}
use Rattle.plan_json.specs.Operator.{operator_name}
use Rattle.plan_json.specs.Reading.{◌>>=◌}
use Rattle.plan_json.specs.Values.{whole, integer, list_of, Named, given, given_if, object_of, above_0}
use Rattle.plan_doc.specs.declared.fault.DocFault.{DocFault}
use Rattle.plan_doc.specs.Fault.{in_document}
use Rattle.plan_doc.specs.Claim.{claim_of}
use Rattle.plan_doc.specs.Snapshot.{snapshot_of}

-- ---- claims

-- `[request,telescope,slice]`
abbrev pub placement_data : Placement → Data
placement_data p = list_of whole (p.request.0 ∷ p.telescope.0 ∷ p.slice.0 ∷ [])

-- the list, where it isn't empty
abbrev pub unless_empty : {T : Type 0} → List T → Option (List T)
unless_empty [] = None
unless_empty (x ∷ xs) = Some (x ∷ xs)

-- 2, where there are quota prices
abbrev pub format_given : List ℕ → Option Data
format_given us = option_map (λ _. whole 2) (unless_empty us)

-- a list of numbers, where it isn't empty
abbrev pub numbers_given : List ℕ → Option Data
numbers_given us = option_map (list_of whole) (unless_empty us)

-- the members of a claim
abbrev pub claim_members : Claim → List Named
claim_members c =
    given_if key.Format (format_given c.quota_prices.0)
    ∷ given key.Placements (list_of placement_data c.placements)
    ∷ given key.Prices (list_of integer c.prices.0)
    ∷ given_if key.QuotaPrices (numbers_given c.quota_prices.0)
    ∷ given key.Value (whole c.value)
    ∷ given key.Bound (whole c.bound)
    ∷ []

-- a claim: of version 1 where it has no quota prices, else of version 2
abbrev pub claim_data : Claim → Data
claim_data c = object_of (claim_members c)

-- the text of a claim
abbrev pub text_of_claim : Claim → List ℕ
text_of_claim c = text_of (claim_data c)

-- the claim that the bytes are, or the first fault
abbrev pub claim_of_bytes : List ℕ → Result Claim JsonFault
claim_of_bytes bytes = document_of bytes >>= claim_of

-- ---- snapshots

-- `[from,to]`
abbrev pub span_data : Span → Data
span_data w = list_of whole (w.from.0 ∷ w.to.0 ∷ [])

-- an object with `site` and `usable`, which may be an empty list
abbrev pub telescope_data : TelescopePart → Data
telescope_data t = object_of (given key.Site (whole t.site.0) ∷ given key.Usable (list_of span_data t.usable) ∷ [])

-- an object with `target`, `site` and `spans`
abbrev pub sky_data : Sky → Data
sky_data y =
    object_of (given key.Target (whole y.target.0) ∷ given key.Site (whole y.site.0) ∷ given key.Spans (list_of span_data y.spans) ∷ [])

-- a telescope by its number
abbrev pub telescope_number_data : TelescopeNo → Data
telescope_number_data t = whole t.0

-- a target by its number
abbrev pub target_number_data : TargetNo → Data
target_number_data t = whole t.0

-- an object with `request`, `seconds`, `value`, `telescopes`, `targets` and `windows`, and with `fade` where it is above 0
abbrev pub request_data : RequestPart → Data
request_data q =
    object_of
    (given key.Request (whole q.request.0)
    ∷ given key.Seconds (whole q.seconds)
    ∷ given key.Value (whole q.value)
    ∷ given key.Telescopes (list_of telescope_number_data q.telescopes)
    ∷ given key.Targets (list_of target_number_data q.targets)
    ∷ given key.Windows (list_of span_data q.windows)
    ∷ given_if key.Fade (option_map whole (above_0 q.fade))
    ∷ [])

-- an object with `group`, `operator` and `requests`, and with `quota` where the group has one
abbrev pub group_data : GroupPart → Data
group_data x =
    object_of
    (given key.Group (whole x.group.0)
    ∷ given key.Operator (string (operator_name x.op))
    ∷ given key.Requests (list_of request_data x.requests)
    ∷ given_if key.Quota (option_map whole x.quota)
    ∷ [])

-- the members of a snapshot
abbrev pub snapshot_members : Parts → List Named
snapshot_members s =
    given key.Version (whole s.version)
    ∷ given key.Len (whole s.len)
    ∷ given key.First (whole s.first.0)
    ∷ given key.Slices (whole s.slices)
    ∷ given key.Telescopes (list_of telescope_data s.telescopes)
    ∷ given key.Skies (list_of sky_data s.skies)
    ∷ given key.Groups (list_of group_data s.groups)
    ∷ given_if key.Quotas (numbers_given s.quotas)
    ∷ []

-- a snapshot, as an object; it has `quotas` only where there are any
abbrev pub snapshot_data : Parts → Data
snapshot_data s = object_of (snapshot_members s)

-- the text of a snapshot
abbrev pub text_of_snapshot : Parts → List ℕ
text_of_snapshot s = text_of (snapshot_data s)

-- the snapshot that the bytes are, or the first fault
abbrev pub snapshot_of_bytes : List ℕ → Result Parts DocFault
snapshot_of_bytes bytes = in_document (document_of bytes) >>= snapshot_of
