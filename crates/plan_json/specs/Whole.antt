-- Which JSON values are whole numbers of a range.
use Rattle.std.specs.Prelude.{ℕ, ℤ, pos, unsigned_abs, int_le, ◌&&◌, if◌then◌else◌, Result, Ok, Err}
use Rattle.serde_json.specs.Data.{Num, unsigned, negative, float, Data, null, boolean, number, string, array, object}
use Rattle.plan_json.specs.declared.member.Member.{Member}
use Rattle.plan_json.specs.declared.fault.JsonFault.{JsonFault}
use Rattle.plan_json.specs.declared.fault.JsonFault.TheVariants.{WrongKind, NotWhole, OutOfRange}
use Rattle.plan_json.specs.Reading.{result_map}

-- the number, if it lies from `least` to `most`
abbrev pub within : Member → ℤ → ℤ → ℤ → Result ℤ JsonFault
within m least most z = if int_le least z && int_le z most then Ok z else Err (OutOfRange m)

-- a number of JSON is whole where it is kept as an unsigned or a signed number of 64 bits, and not as a float
abbrev pub whole_number : Member → ℤ → ℤ → Num → Result ℤ JsonFault
whole_number m least most (unsigned n) = within m least most (pos n)
whole_number m least most (negative z) = within m least most z
whole_number m least most (float x) = Err (NotWhole m)

-- the whole number from `least` to `most` that a value is
abbrev pub whole_in : Member → ℤ → ℤ → Data → Result ℤ JsonFault
whole_in m least most null = Err (WrongKind m)
whole_in m least most (boolean b) = Err (WrongKind m)
whole_in m least most (number n) = whole_number m least most n
whole_in m least most (string s) = Err (WrongKind m)
whole_in m least most (array ds) = Err (WrongKind m)
whole_in m least most (object ms) = Err (WrongKind m)

-- the number without a sign from `least` to `most` that a value is
abbrev pub number_in : ℕ → ℕ → Member → Data → Result ℕ JsonFault
number_in least most m d = result_map unsigned_abs (whole_in m (pos least) (pos most) d)
