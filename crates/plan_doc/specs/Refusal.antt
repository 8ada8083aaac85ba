-- The number, the name and the fields of a document's fault, and its object.
use Rattle.std.specs.Prelude.{ℕ, List, [], ◌∷◌, codes, Some, None, option_map}
use Rattle.serde_json.specs.Data.{Data, string}
use Rattle.plan_base.specs.declared.fault.Counted.{Counted}
use Rattle.plan_base.specs.declared.fault.Counted.TheVariants as counted
use Rattle.plan_base.specs.declared.fault.SnapshotFault.{SnapshotFault}
use Rattle.plan_base.specs.declared.fault.SnapshotFault.TheVariants as parts
use Rattle.plan_json.specs.declared.member.Member.{Member}
use Rattle.plan_json.specs.declared.fault.JsonFault.{JsonFault}
use Rattle.plan_json.specs.declared.fault.JsonFault.TheVariants as json
use Rattle.plan_json.specs.Member.{name_of}
use Rattle.plan_json.specs.Values.{whole, has, may_have, object_of}
use Rattle.plan_doc.specs.declared.fault.DocFault.{DocFault}
use Rattle.plan_doc.specs.declared.fault.DocFault.TheVariants.{Json, Snapshot, NoMemory}
use Rattle.plan_doc.specs.declared.refusal.FaultFields.{FaultFields}

-- 0 for want of memory, which no object tells
abbrev pub number_of_json : JsonFault → ℕ
number_of_json json.NotJson = 1
number_of_json json.NotObject = 2
number_of_json (json.Missing m) = 3
number_of_json (json.WrongKind m) = 4
number_of_json (json.NotWhole m) = 5
number_of_json (json.OutOfRange m) = 6
number_of_json (json.BadMoment m) = 7
number_of_json json.NoMemory = 0

-- the number that a fault of the parts is told by, 41 to 50; 0 for want of memory
abbrev pub number_of_parts : SnapshotFault → ℕ
number_of_parts (parts.OverLimit what count) = 41
number_of_parts parts.EmptySpan = 42
number_of_parts parts.NotApart = 43
number_of_parts (parts.GroupOrder group) = 44
number_of_parts (parts.RequestOrder request) = 45
number_of_parts (parts.BadShape group) = 46
number_of_parts (parts.NoSuchTelescope telescope) = 47
number_of_parts (parts.FadeRange request) = 48
number_of_parts (parts.NoSuchQuota group) = 49
number_of_parts (parts.QuotaRange index) = 50
number_of_parts parts.NoMemory = 0

-- the number of a document's fault: that of the reading or of the parts, and 0 for want of memory
abbrev pub number_of_fault : DocFault → ℕ
number_of_fault (Json fault) = number_of_json fault
number_of_fault (Snapshot fault) = number_of_parts fault
number_of_fault NoMemory = 0

-- the name that a fault of reading is told by, as bytes
abbrev pub name_of_json : JsonFault → List ℕ
name_of_json json.NotJson = codes "NotJson"
name_of_json json.NotObject = codes "NotObject"
name_of_json (json.Missing m) = codes "Missing"
name_of_json (json.WrongKind m) = codes "WrongKind"
name_of_json (json.NotWhole m) = codes "NotWhole"
name_of_json (json.OutOfRange m) = codes "OutOfRange"
name_of_json (json.BadMoment m) = codes "BadMoment"
name_of_json json.NoMemory = codes "NoMemory"

-- the name that a fault of the parts is told by, as bytes
abbrev pub name_of_parts : SnapshotFault → List ℕ
name_of_parts (parts.OverLimit what count) = codes "OverLimit"
name_of_parts parts.EmptySpan = codes "EmptySpan"
name_of_parts parts.NotApart = codes "NotApart"
name_of_parts (parts.GroupOrder group) = codes "GroupOrder"
name_of_parts (parts.RequestOrder request) = codes "RequestOrder"
name_of_parts (parts.BadShape group) = codes "BadShape"
name_of_parts (parts.NoSuchTelescope telescope) = codes "NoSuchTelescope"
name_of_parts (parts.FadeRange request) = codes "FadeRange"
name_of_parts (parts.NoSuchQuota group) = codes "NoSuchQuota"
name_of_parts (parts.QuotaRange index) = codes "QuotaRange"
name_of_parts parts.NoMemory = codes "NoMemory"

-- the name of a document's fault: that of the reading or of the parts, or else the one for want of memory
abbrev pub name_of_fault : DocFault → List ℕ
name_of_fault (Json fault) = name_of_json fault
name_of_fault (Snapshot fault) = name_of_parts fault
name_of_fault NoMemory = codes "NoMemory"

-- the word for what is counted
abbrev pub name_of_counted : Counted → List ℕ
name_of_counted counted.Telescopes = codes "telescopes"
name_of_counted counted.Usable = codes "usable"
name_of_counted counted.Skies = codes "skies"
name_of_counted counted.Spans = codes "spans"
name_of_counted counted.Groups = codes "groups"
name_of_counted counted.Requests = codes "requests"
name_of_counted counted.Windows = codes "windows"
name_of_counted counted.Targets = codes "targets"
name_of_counted counted.Fits = codes "fits"
name_of_counted counted.Quotas = codes "quotas"

-- the fields of a fault that has none
abbrev pub no_fields : FaultFields
no_fields = record { count = None; group = None; index = None; member = None; request = None; telescope = None; what = None }

-- the fields of a fault that names the member at which it was found
abbrev pub of_member : Member → FaultFields
of_member m = record no_fields { member = Some m }

-- the fields of a fault that names a group by its number
abbrev pub of_group : ℕ → FaultFields
of_group n = record no_fields { group = Some n }

-- the fields of a fault that names a request by its number
abbrev pub of_request : ℕ → FaultFields
of_request n = record no_fields { request = Some n }

-- the fields of a fault of reading: the member, except where the document is no JSON, no object, or memory ran out
abbrev pub fields_of_json : JsonFault → FaultFields
fields_of_json json.NotJson = no_fields
fields_of_json json.NotObject = no_fields
fields_of_json (json.Missing m) = of_member m
fields_of_json (json.WrongKind m) = of_member m
fields_of_json (json.NotWhole m) = of_member m
fields_of_json (json.OutOfRange m) = of_member m
fields_of_json (json.BadMoment m) = of_member m
fields_of_json json.NoMemory = no_fields

-- the fields of a fault of the parts: what it counts, or the group, the request, the telescope or the place that it names, if any
abbrev pub fields_of_parts : SnapshotFault → FaultFields
fields_of_parts (parts.OverLimit what count) = record no_fields { what = Some (record { 0 = what }); count = Some count }
fields_of_parts parts.EmptySpan = no_fields
fields_of_parts parts.NotApart = no_fields
fields_of_parts (parts.GroupOrder group) = of_group group.0
fields_of_parts (parts.RequestOrder request) = of_request request.0
fields_of_parts (parts.BadShape group) = of_group group.0
fields_of_parts (parts.NoSuchTelescope telescope) = record no_fields { telescope = Some telescope.0 }
fields_of_parts (parts.FadeRange request) = of_request request.0
fields_of_parts (parts.NoSuchQuota group) = of_group group.0
fields_of_parts (parts.QuotaRange index) = record no_fields { index = Some index }
fields_of_parts parts.NoMemory = no_fields

-- the fields that a fault has, each where it has it
abbrev pub fields_of_fault : DocFault → FaultFields
fields_of_fault (Json fault) = fields_of_json fault
fields_of_fault (Snapshot fault) = fields_of_parts fault
fields_of_fault NoMemory = no_fields

-- an object with a fault's number, name and fields
abbrev pub fault_at : ℕ → List ℕ → FaultFields → Data
fault_at n name f =
    object_of
    (has (codes "no") (whole n)
    ∷ has (codes "refused") (string name)
    ∷ may_have (codes "count") (option_map whole f.count)
    ∷ may_have (codes "group") (option_map whole f.group)
    ∷ may_have (codes "index") (option_map whole f.index)
    ∷ may_have (codes "member") (option_map (λ m. string (name_of m)) f.member)
    ∷ may_have (codes "request") (option_map whole f.request)
    ∷ may_have (codes "telescope") (option_map whole f.telescope)
    ∷ may_have (codes "what") (option_map (λ what. string (name_of_counted what.0)) f.what)
    ∷ [])

-- what is written of a fault
abbrev pub fault_data : DocFault → Data
fault_data fault = fault_at (number_of_fault fault) (name_of_fault fault) (fields_of_fault fault)
