-- Documents as data, by their items and members.
use Rattle.std.specs.Prelude.{ℕ, ℤ, nat_lt, if◌then◌else◌, List, [], ◌∷◌, map, Option, Some, None}
use Rattle.std.specs.Ordering.{nat_cmp, match_ordering}
use Rattle.std.specs.Cmp.Lexicographic.{slice_cmp}
use Rattle.serde_json.specs.Data.{Data, number, unsigned, array, object, Members, no_members, member}
use Rattle.serde_json.specs.Find.{of_integer}
use Rattle.serde_json.specs.View.{items_of}
use Rattle.plan_json.specs.declared.member.Member.{Member}
use Rattle.plan_json.specs.Member.{name_of}

-- a whole number that isn't below 0
abbrev pub whole : ℕ → Data
whole n = number (unsigned n)

-- a whole number with its sign
abbrev pub integer : ℤ → Data
integer z = number (of_integer z)

-- a list, by its items
abbrev pub list_of : {T : Type 0} → (T → Data) → List T → Data
list_of f xs = array (items_of (map f xs))

-- a member: its name, and its value where it is there
abbrev pub Named : Type 0
Named = List ℕ × Option Data

-- a member that is there
abbrev pub has : List ℕ → Data → Named
has name d = (name, Some d)

-- a member that is there where it has a value
abbrev pub may_have : List ℕ → Option Data → Named
may_have name d = (name, d)

-- the same of a member that documents are read by
abbrev pub given : Member → Data → Named
given m d = has (name_of m) d

-- and where it may be absent
abbrev pub given_if : Member → Option Data → Named
given_if m d = may_have (name_of m) d

-- a number above 0, where a member of 0 is left out
abbrev pub above_0 : ℕ → Option ℕ
above_0 n = if nat_lt 0 n then Some n else None

-- members in byte order of their names, with another; it takes the place of one with its name
abbrev pub with_named : Named → List Named → List Named
with_named m [] = m ∷ []
with_named m (l ∷ ls) = match_ordering (slice_cmp nat_cmp m.0 l.0) (m ∷ l ∷ ls) (m ∷ ls) (l ∷ with_named m ls)

-- members in byte order of their names
abbrev pub in_byte_order : List Named → List Named
in_byte_order [] = []
in_byte_order (m ∷ ms) = with_named m (in_byte_order ms)

-- a member before others, if it is there
abbrev pub if_has : List ℕ → Option Data → Members → Members
if_has name None ms = ms
if_has name (Some d) ms = member name d ms

-- the members that are there
abbrev pub those_there : List Named → Members
those_there [] = no_members
those_there (m ∷ ms) = if_has m.0 m.1 (those_there ms)

-- the object of members that are named in any order
abbrev pub object_of : List Named → Data
object_of ms = object (those_there (in_byte_order ms))
