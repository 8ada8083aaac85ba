-- Which bytes are objects, and what their members are.
use Rattle.std.specs.Prelude.{ℕ, List, if◌then◌else◌, is_some, Option, Some, None, option_and_then, ok_or, Result, Ok, Err}
use Rattle.std.specs.Str.{is_utf8}
use Rattle.serde_json.specs.Data.{Data, null, boolean, number, string, array, object, Members}
use Rattle.serde_json.specs.Find.{as_object, get_member}
use Rattle.serde_json.specs.Read.{read}
use Rattle.plan_json.specs.declared.member.Member.{Member}
use Rattle.plan_json.specs.declared.fault.JsonFault.{JsonFault}
use Rattle.plan_json.specs.declared.fault.JsonFault.TheVariants.{NotJson, NotObject, Missing, WrongKind}
use Rattle.plan_json.specs.Member.{name_of}
use Rattle.plan_json.specs.Reading.{result_map, result_and_then}

-- what the bytes are read as, if they are the UTF-8 of a JSON text
abbrev pub data_of : List ℕ → Result Data JsonFault
data_of bytes = if is_utf8 bytes then ok_or (read bytes) NotJson else Err NotJson

-- the members of the object that the bytes are
abbrev pub document_of : List ℕ → Result Members JsonFault
document_of bytes = result_and_then (λ d. ok_or (as_object d) NotObject) (data_of bytes)

-- the value, unless it is null
abbrev pub unless_null : Data → Option Data
unless_null null = None
unless_null (boolean b) = Some (boolean b)
unless_null (number n) = Some (number n)
unless_null (string s) = Some (string s)
unless_null (array ds) = Some (array ds)
unless_null (object ms) = Some (object ms)

-- the member's value, where it is there and isn't null
abbrev pub value_of : Members → Member → Option Data
value_of ms m = option_and_then unless_null (get_member (name_of m) ms)

-- what the member is read as, or that it is missing
abbrev pub member_of : {T : Type 0} → (Member → Data → Result T JsonFault) → Members → Member → Result T JsonFault
member_of reading ms m = result_and_then (reading m) (ok_or (value_of ms m) (Missing m))

-- what the member is read as, if it is there and isn't null
abbrev pub if_there : {T : Type 0} → (Member → Data → Result T JsonFault) → Members → Member → Result (Option T) JsonFault
if_there reading ms m = if is_some (value_of ms m) then result_map Some (member_of reading ms m) else Ok None

-- what the member is read as, or else the default
abbrev pub or_default : {T : Type 0} → T → (Member → Data → Result T JsonFault) → Members → Member → Result T JsonFault
or_default x reading ms m = if is_some (value_of ms m) then member_of reading ms m else Ok x

-- the members of the object that a value is
abbrev pub object_in : Member → Data → Result Members JsonFault
object_in m d = ok_or (as_object d) (WrongKind m)
