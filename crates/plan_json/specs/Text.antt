-- Which JSON values are names.
use Rattle.std.specs.Prelude.{ℕ, List, length, nat_le, ◌&&◌, if◌then◌else◌, Result, Ok, Err}
use Rattle.plan_base.specs.Limits.{most_name}
use Rattle.serde_json.specs.Data.{Data, null, boolean, number, string, array, object}
use Rattle.plan_json.specs.declared.member.Member.{Member}
use Rattle.plan_json.specs.declared.fault.JsonFault.{JsonFault}
use Rattle.plan_json.specs.declared.fault.JsonFault.TheVariants.{WrongKind, OutOfRange}

-- the text of 1 to 128 bytes that a value is
abbrev pub text_in : Member → Data → Result (List ℕ) JsonFault
text_in m null = Err (WrongKind m)
text_in m (boolean b) = Err (WrongKind m)
text_in m (number n) = Err (WrongKind m)
text_in m (string s) = if nat_le 1 (length s) && nat_le (length s) most_name then Ok s else Err (OutOfRange m)
text_in m (array ds) = Err (WrongKind m)
text_in m (object ms) = Err (WrongKind m)
