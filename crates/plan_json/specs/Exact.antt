-- Data of which nothing is lost in its text.
use Rattle.std.specs.Prelude.{◌≡◌, ℕ, ◌≤◌, ◌<◌, ◌^◌, pos, negsuc, List, true, ⊤}
use Rattle.std.specs.List.{list_all}
use Rattle.std.specs.Str.{IsUtf8}
use Rattle.serde_json.specs.Data.{Num, unsigned, negative, float, Data, null, boolean, number, string, array, object, Items, no_items, item, Members}
use Rattle.serde_json.specs.Data.{no_members, member, depth, items_depth, members_depth}
use Rattle.plan_json.specs.Order.{IsBefore, IsInByteOrder, AreInByteOrder, RiseInByteOrder}
use Rattle.plan_json.specs.Literals.{is_before}

-- a whole number of 64 bits, with a sign where it is below 0
abbrev pub IsExactNumber : Num → Type 0
IsExactNumber (unsigned n) = n < 2 ^ 64
IsExactNumber (negative (pos n)) = ⊥
IsExactNumber (negative (negsuc n)) = n < 2 ^ 63
IsExactNumber (float x) = ⊥

-- each number is whole, and each text and name UTF-8
abbrev mutual
  pub IsExact : Data → Type 0
  IsExact null = ⊤
  IsExact (boolean b) = ⊤
  IsExact (number n) = IsExactNumber n
  IsExact (string s) = IsUtf8 s
  IsExact (array ds) = AreExactItems ds
  IsExact (object ms) = AreExactMembers ms

  pub AreExactItems : Items → Type 0
  AreExactItems no_items = ⊤
  AreExactItems (item d ds) = IsExact d × AreExactItems ds

  pub AreExactMembers : Members → Type 0
  AreExactMembers no_members = ⊤
  AreExactMembers (member k d ms) = IsUtf8 k × IsExact d × AreExactMembers ms

-- what holds of data that is written: it is exact, names rise in byte order, and it nests at most n levels deep
pub record IsWritten (n : ℕ) (d : Data) : Type 0 where
  pub exact : IsExact d
  pub in_order : IsInByteOrder d
  pub flat : depth d ≤ n

-- the same of the items of a list
pub record AreWrittenItems (n : ℕ) (ds : Items) : Type 0 where
  pub exact : AreExactItems ds
  pub in_order : AreInByteOrder ds
  pub flat : items_depth ds ≤ n

-- the same of the members of an object; a name that comes before all of these comes before the first that is there
pub record AreWrittenMembers (names : List (List ℕ)) (n : ℕ) (ms : Members) : Type 0 where
  pub exact : AreExactMembers ms
  pub in_order : RiseInByteOrder ms
  pub flat : members_depth ms ≤ n
  pub before : (k : List ℕ) → list_all (is_before k) names ≡ true → IsBefore k ms
