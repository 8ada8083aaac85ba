-- The words for how the requests of a group belong together.
use Rattle.std.specs.Prelude.{ℕ, List, bytes_eq, codes, if◌then◌else◌, Option, Some, None, ok_or, Result, Err}
use Rattle.serde_json.specs.Data.{Data, null, boolean, number, string, array, object}
use Rattle.plan_base.specs.declared.parts.Op.{Op}
use Rattle.plan_base.specs.declared.parts.Op.TheVariants.{Single, Many, OneOf, And}
use Rattle.plan_json.specs.declared.member.Member.{Member}
use Rattle.plan_json.specs.declared.fault.JsonFault.{JsonFault}
use Rattle.plan_json.specs.declared.fault.JsonFault.TheVariants.{WrongKind, OutOfRange}

-- the name of a kind of groups
abbrev pub operator_name : Op → List ℕ
operator_name Single = codes "SINGLE"
operator_name Many = codes "MANY"
operator_name OneOf = codes "ONEOF"
operator_name And = codes "AND"

-- the operator with that name
abbrev pub operator_named : List ℕ → Option Op
operator_named s =
    if bytes_eq s (codes "SINGLE") then Some Single
    else (if bytes_eq s (codes "MANY") then Some Many
    else (if bytes_eq s (codes "ONEOF") then Some OneOf
    else (if bytes_eq s (codes "AND") then Some And
    else None)))

-- the operator whose name a value is
abbrev pub operator_in : Member → Data → Result Op JsonFault
operator_in m null = Err (WrongKind m)
operator_in m (boolean b) = Err (WrongKind m)
operator_in m (number n) = Err (WrongKind m)
operator_in m (string s) = ok_or (operator_named s) (OutOfRange m)
operator_in m (array ds) = Err (WrongKind m)
operator_in m (object ms) = Err (WrongKind m)
