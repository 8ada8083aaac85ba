-- The order of members.
use Rattle.std.specs.Prelude.{◌≡◌, ℕ, List, ⊤}
use Rattle.std.specs.Ordering.{nat_cmp}
use Rattle.std.specs.Cmp.Lexicographic.{slice_cmp}
use Rattle.std.specs.declared.cmp.Ordering.TheVariants.{Less}
use Rattle.serde_json.specs.Data.{Data, null, boolean, number, string, array, object, Items, no_items, item, Members, no_members, member}

-- the name comes before that of the first member, in byte order
abbrev pub IsBefore : List ℕ → Members → Type 0
IsBefore k no_members = ⊤
IsBefore k (member l e ms) = slice_cmp nat_cmp k l ≡ Less

-- at every depth the names of an object's members rise in byte order
abbrev mutual
  pub IsInByteOrder : Data → Type 0
  IsInByteOrder null = ⊤
  IsInByteOrder (boolean b) = ⊤
  IsInByteOrder (number n) = ⊤
  IsInByteOrder (string s) = ⊤
  IsInByteOrder (array ds) = AreInByteOrder ds
  IsInByteOrder (object ms) = RiseInByteOrder ms

  pub AreInByteOrder : Items → Type 0
  AreInByteOrder no_items = ⊤
  AreInByteOrder (item d ds) = IsInByteOrder d × AreInByteOrder ds

  pub RiseInByteOrder : Members → Type 0
  RiseInByteOrder no_members = ⊤
  RiseInByteOrder (member k d ms) = IsBefore k ms × IsInByteOrder d × RiseInByteOrder ms
