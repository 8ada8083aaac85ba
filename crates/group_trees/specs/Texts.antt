-- What is written of verdicts and of faults of trees.
use Rattle.std.specs.Prelude.{ℕ, List, [], ◌∷◌, codes, Some, None, option_map}
use Rattle.serde_json.specs.Data.{Data, string}
use Rattle.plan_base.specs.declared.verdict.Reason.TheVariants as checked
use Rattle.plan_json.specs.Values.{whole, has, may_have, object_of}
use Rattle.plan_doc.specs.Reason.{yes_data, reason_data}
use Rattle.group_trees.specs.declared.fault.ForestFault.{ForestFault}
use Rattle.group_trees.specs.declared.fault.ForestFault.TheVariants as fault
use Rattle.group_trees.specs.declared.refusal.FaultFields.{FaultFields}
use Rattle.group_trees.specs.declared.verdict.ForestReason.{ForestReason}
use Rattle.group_trees.specs.declared.verdict.ForestReason.TheVariants.{
  UnknownRequest,
  PlacedTwice,
  NotPossible,
  Overlap,
  NotAllowed,
  PriceCount,
  PriceRange,
  QuotaPriceCount,
  ValueDiffers,
  BoundDiffers,
}
use Rattle.group_trees.specs.declared.verdict.ForestVerdict.{ForestVerdict}
use Rattle.group_trees.specs.declared.verdict.ForestVerdict.TheVariants.{Yes, No}

-- an object that names a tree
abbrev pub not_allowed_data : ℕ → Data
not_allowed_data tree = object_of (has (codes "no") (whole 14) ∷ has (codes "reason") (string (codes "NotAllowed")) ∷ has (codes "tree") (whole tree) ∷ [])

-- what is written of a reason: as a check without trees writes those that it gives too
abbrev pub forest_reason_data : ForestReason → Data
forest_reason_data (UnknownRequest i) = reason_data (checked.UnknownRequest i)
forest_reason_data (PlacedTwice i) = reason_data (checked.PlacedTwice i)
forest_reason_data (NotPossible i) = reason_data (checked.NotPossible i)
forest_reason_data (Overlap i) = reason_data (checked.Overlap i)
forest_reason_data (NotAllowed tree) = not_allowed_data tree
forest_reason_data (PriceCount given wanted) = reason_data (checked.PriceCount given wanted)
forest_reason_data (PriceRange i) = reason_data (checked.PriceRange i)
forest_reason_data (QuotaPriceCount given wanted) = reason_data (checked.QuotaPriceCount given wanted)
forest_reason_data (ValueDiffers claimed found) = reason_data (checked.ValueDiffers claimed found)
forest_reason_data (BoundDiffers claimed found) = reason_data (checked.BoundDiffers claimed found)

-- what is written of a verdict
abbrev pub forest_verdict_data : ForestVerdict → Data
forest_verdict_data (Yes value bound) = yes_data value bound
forest_verdict_data (No reason) = forest_reason_data reason

-- the number that a fault of trees is told by, 51 to 55; 0 for want of memory
abbrev pub number_of_forest : ForestFault → ℕ
number_of_forest (fault.NotSingle group) = 51
number_of_forest (fault.TreeLeaf request) = 52
number_of_forest (fault.TreeDeep tree) = 53
number_of_forest (fault.TreeEmpty tree) = 54
number_of_forest fault.HasQuota = 55
number_of_forest fault.NoMemory = 0

-- the name that a fault of trees is told by, as bytes
abbrev pub name_of_forest : ForestFault → List ℕ
name_of_forest (fault.NotSingle group) = codes "NotSingle"
name_of_forest (fault.TreeLeaf request) = codes "TreeLeaf"
name_of_forest (fault.TreeDeep tree) = codes "TreeDeep"
name_of_forest (fault.TreeEmpty tree) = codes "TreeEmpty"
name_of_forest fault.HasQuota = codes "HasQuota"
name_of_forest fault.NoMemory = codes "NoMemory"

-- the fields of a fault that has none
abbrev pub no_fields : FaultFields
no_fields = record { group = None; request = None; tree = None }

-- the fields that a fault has, each where it has it
abbrev pub fields_of_forest : ForestFault → FaultFields
fields_of_forest (fault.NotSingle group) = record no_fields { group = Some group.0 }
fields_of_forest (fault.TreeLeaf request) = record no_fields { request = Some request.0 }
fields_of_forest (fault.TreeDeep tree) = record no_fields { tree = Some tree }
fields_of_forest (fault.TreeEmpty tree) = record no_fields { tree = Some tree }
fields_of_forest fault.HasQuota = no_fields
fields_of_forest fault.NoMemory = no_fields

-- an object with a fault's number, name and fields
abbrev pub forest_fault_at : ℕ → List ℕ → FaultFields → Data
forest_fault_at n name f =
    object_of
    (has (codes "no") (whole n)
    ∷ has (codes "refused") (string name)
    ∷ may_have (codes "group") (option_map whole f.group)
    ∷ may_have (codes "request") (option_map whole f.request)
    ∷ may_have (codes "tree") (option_map whole f.tree)
    ∷ [])

-- what is written of a fault
abbrev pub forest_fault_data : ForestFault → Data
forest_fault_data f = forest_fault_at (number_of_forest f) (name_of_forest f) (fields_of_forest f)
