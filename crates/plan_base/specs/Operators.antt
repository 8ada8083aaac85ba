-- How the requests of a group belong together.
use Rattle.std.specs.Prelude.{Bool, true, false}
use Rattle.plan_base.specs.declared.parts.Op.{Op}
use Rattle.plan_base.specs.declared.parts.Op.TheVariants.{Single, Many, OneOf, And}

-- whether the operator is SINGLE, of a group of one request
abbrev pub is_single : Op → Bool
is_single Single = true
is_single Many = false
is_single OneOf = false
is_single And = false

-- whether it is ONEOF, of whose requests at most one is observed
abbrev pub is_oneof : Op → Bool
is_oneof Single = false
is_oneof Many = false
is_oneof OneOf = true
is_oneof And = false

-- whether it is AND, whose requests are observed all or not at all
abbrev pub is_and : Op → Bool
is_and Single = false
is_and Many = false
is_and OneOf = false
is_and And = true
