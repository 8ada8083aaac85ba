-- Insertions and their refusals, as they are written.
use Rattle.std.specs.Prelude.{ℕ, List, [], ◌∷◌, codes}
use Rattle.serde_json.specs.Data.{Data, null, string}
use Rattle.plan_base.specs.declared.number.RequestNo.{RequestNo}
use Rattle.plan_base.specs.declared.claim.Claim.{Claim}
use Rattle.plan_json.specs.Values.{whole, list_of, has, object_of}
use Rattle.plan_doc.specs.declared.fault.DocFault.TheVariants as doc
use Rattle.plan_doc.specs.Refusal.{fault_data}
use Rattle.plan_doc.specs.Written.{placement_data, claim_data}
use Rattle.rapid.specs.declared.fault.RapidFault.{RapidFault}
use Rattle.rapid.specs.declared.fault.RapidFault.TheVariants.{NotSingle, Snapshot, NoMemory}
use Rattle.rapid.specs.declared.inserted.Inserted.{Inserted}
use Rattle.rapid.specs.declared.inserted.Inserted.TheVariants.{Placed, NoPlace}

-- `[request,telescope,slice]`, or null
abbrev pub placed_data : Inserted → Data
placed_data (Placed p) = placement_data p
placed_data NoPlace = null

-- a request by its number
abbrev pub request_number_data : RequestNo → Data
request_number_data r = whole r.0

-- the claim after an insertion, the requests displaced, and the place of the new one
abbrev pub inserted_data : Claim → List RequestNo → Inserted → Data
inserted_data claim displaced inserted =
    object_of
    (has (codes "claim") (claim_data claim)
    ∷ has (codes "displaced") (list_of request_number_data displaced)
    ∷ has (codes "placed") (placed_data inserted)
    ∷ [])

-- that a group isn't a SINGLE
abbrev pub not_single_data : ℕ → Data
not_single_data group = object_of (has (codes "no") (whole 51) ∷ has (codes "refused") (string (codes "NotSingle")) ∷ has (codes "group") (whole group) ∷ [])

-- why a group isn't inserted
abbrev pub refusal_data : RapidFault → Data
refusal_data (NotSingle group) = not_single_data group.0
refusal_data (Snapshot fault) = fault_data (doc.Snapshot fault)
refusal_data NoMemory = fault_data doc.NoMemory
