-- Which JSON values are lists, and their elements.
use Rattle.std.specs.Prelude.{ℕ, ◌==◌, List, [], ◌∷◌, length, nat_le, ◌&&◌, if◌then◌else◌, option_map, ok_or, Result, Ok, Err}
use Rattle.serde_json.specs.Data.{Data, Items, no_items, item}
use Rattle.serde_json.specs.Find.{as_array}
use Rattle.plan_json.specs.declared.member.Member.{Member}
use Rattle.plan_json.specs.declared.fault.JsonFault.{JsonFault}
use Rattle.plan_json.specs.declared.fault.JsonFault.TheVariants.{WrongKind, OutOfRange}
use Rattle.plan_json.specs.Reading.{result_and_then}

-- the elements of a JSON list, in their order
abbrev pub elements : Items → List Data
elements no_items = []
elements (item d ds) = d ∷ elements ds

-- the elements of the list that a value is
abbrev pub elements_in : Member → Data → Result (List Data) JsonFault
elements_in m d = ok_or (option_map elements (as_array d)) (WrongKind m)

-- the elements, if there are `least` to `most`
abbrev pub counted : Member → ℕ → ℕ → List Data → Result (List Data) JsonFault
counted m least most ds = if nat_le least (length ds) && nat_le (length ds) most then Ok ds else Err (OutOfRange m)

-- the elements of the list of `least` to `most` elements that a value is
abbrev pub list_in : Member → ℕ → ℕ → Data → Result (List Data) JsonFault
list_in m least most d = result_and_then (counted m least most) (elements_in m d)

-- the elements of the list that a value is, if there are that many
abbrev pub list_of_count_in : Member → ℕ → Data → Result (List Data) JsonFault
list_of_count_in m count d = result_and_then (λ ds. if length ds == count then Ok ds else Err (WrongKind m)) (elements_in m d)
