-- The number, the name and the fields of a reason, and its object.
use Rattle.std.specs.Prelude.{ℕ, List, [], ◌∷◌, codes, Some, None, option_map}
use Rattle.serde_json.specs.Data.{Data, string}
use Rattle.plan_base.specs.declared.verdict.Reason.{Reason}
use Rattle.plan_base.specs.declared.verdict.Reason.TheVariants.{
  UnknownRequest,
  PlacedTwice,
  NotPossible,
  Overlap,
  OneofTwice,
  AndPartial,
  QuotaOver,
  PriceCount,
  PriceRange,
  QuotaPriceCount,
  QuotaPriceRange,
  ValueDiffers,
  BoundDiffers,
}
use Rattle.plan_base.specs.declared.verdict.Verdict.{Verdict}
use Rattle.plan_base.specs.declared.verdict.Verdict.TheVariants.{Yes, No}
use Rattle.plan_json.specs.Values.{whole, Named, has, may_have, object_of}
use Rattle.plan_doc.specs.declared.reason.ReasonFields.{ReasonFields}

-- the number that a reason is told by, 1 to 13
abbrev pub number_of_reason : Reason → ℕ
number_of_reason (UnknownRequest i) = 1
number_of_reason (PlacedTwice i) = 2
number_of_reason (NotPossible i) = 3
number_of_reason (Overlap i) = 4
number_of_reason (OneofTwice group) = 5
number_of_reason (AndPartial group) = 6
number_of_reason (PriceCount given wanted) = 7
number_of_reason (PriceRange i) = 8
number_of_reason (ValueDiffers claimed found) = 9
number_of_reason (BoundDiffers claimed found) = 10
number_of_reason (QuotaOver quota seconds most) = 11
number_of_reason (QuotaPriceCount given wanted) = 12
number_of_reason (QuotaPriceRange i) = 13

-- the name that a reason is told by, as bytes
abbrev pub name_of_reason : Reason → List ℕ
name_of_reason (UnknownRequest i) = codes "UnknownRequest"
name_of_reason (PlacedTwice i) = codes "PlacedTwice"
name_of_reason (NotPossible i) = codes "NotPossible"
name_of_reason (Overlap i) = codes "Overlap"
name_of_reason (OneofTwice group) = codes "OneofTwice"
name_of_reason (AndPartial group) = codes "AndPartial"
name_of_reason (PriceCount given wanted) = codes "PriceCount"
name_of_reason (PriceRange i) = codes "PriceRange"
name_of_reason (ValueDiffers claimed found) = codes "ValueDiffers"
name_of_reason (BoundDiffers claimed found) = codes "BoundDiffers"
name_of_reason (QuotaOver quota seconds most) = codes "QuotaOver"
name_of_reason (QuotaPriceCount given wanted) = codes "QuotaPriceCount"
name_of_reason (QuotaPriceRange i) = codes "QuotaPriceRange"

-- the fields of a reason that has none
abbrev pub no_fields : ReasonFields
no_fields = record {
  claimed = None;
  found = None;
  given = None;
  group = None;
  index = None;
  most = None;
  quota = None;
  seconds = None;
  wanted = None;
}

-- the fields of a reason that names a place in a list of the claim, counted from 0
abbrev pub at_index : ℕ → ReasonFields
at_index i = record no_fields { index = Some i }

-- the fields of a reason that names a group by its number
abbrev pub of_group : ℕ → ReasonFields
of_group n = record no_fields { group = Some n }

-- the fields of a reason that tells how many prices are given and how many are wanted
abbrev pub of_counts : ℕ → ℕ → ReasonFields
of_counts n m = record no_fields { given = Some n; wanted = Some m }

-- the fields of a reason that tells the number claimed and the one found in its place
abbrev pub of_difference : ℕ → ℕ → ReasonFields
of_difference n m = record no_fields { claimed = Some n; found = Some m }

-- the fields that a reason has, each where it has it
abbrev pub fields_of_reason : Reason → ReasonFields
fields_of_reason (UnknownRequest i) = at_index i
fields_of_reason (PlacedTwice i) = at_index i
fields_of_reason (NotPossible i) = at_index i
fields_of_reason (Overlap i) = at_index i
fields_of_reason (OneofTwice group) = of_group group.0
fields_of_reason (AndPartial group) = of_group group.0
fields_of_reason (PriceCount given wanted) = of_counts given wanted
fields_of_reason (PriceRange i) = at_index i
fields_of_reason (ValueDiffers claimed found) = of_difference claimed found
fields_of_reason (BoundDiffers claimed found) = of_difference claimed found
fields_of_reason (QuotaOver quota seconds most) = record no_fields { quota = Some quota; seconds = Some seconds; most = Some most }
fields_of_reason (QuotaPriceCount given wanted) = of_counts given wanted
fields_of_reason (QuotaPriceRange i) = at_index i

-- the members that these fields are, in an object that says a reason
abbrev pub members_of_fields : ReasonFields → List Named
members_of_fields f =
    may_have (codes "claimed") (option_map whole f.claimed)
    ∷ may_have (codes "found") (option_map whole f.found)
    ∷ may_have (codes "given") (option_map whole f.given)
    ∷ may_have (codes "group") (option_map whole f.group)
    ∷ may_have (codes "index") (option_map whole f.index)
    ∷ may_have (codes "most") (option_map whole f.most)
    ∷ may_have (codes "quota") (option_map whole f.quota)
    ∷ may_have (codes "seconds") (option_map whole f.seconds)
    ∷ may_have (codes "wanted") (option_map whole f.wanted)
    ∷ []

-- an object with a reason's number, name and fields
abbrev pub reason_at : ℕ → List ℕ → ReasonFields → Data
reason_at n name f = object_of (has (codes "no") (whole n) ∷ has (codes "reason") (string name) ∷ members_of_fields f)

-- what is written of a reason
abbrev pub reason_data : Reason → Data
reason_data reason = reason_at (number_of_reason reason) (name_of_reason reason) (fields_of_reason reason)

-- what is written of a claim that is certified: `ok`, which is yes, its value and its bound
abbrev pub yes_data : ℕ → ℕ → Data
yes_data value bound =
    object_of (has (codes "ok") (string (codes "yes")) ∷ has (codes "value") (whole value) ∷ has (codes "bound") (whole bound) ∷ [])

-- what is written of a verdict
abbrev pub verdict_data : Verdict → Data
verdict_data (Yes value bound) = yes_data value bound
verdict_data (No reason) = reason_data reason
