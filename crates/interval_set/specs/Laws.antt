-- Laws of sets of seconds.
use Rattle.std.specs.Prelude.{◌≡◌, ℕ, ◌+◌, ◌-◌, ◌≤◌, List, length, IsTrue}
use Rattle.plan_base.specs.declared.span.Span.{Span}
use Rattle.interval_set.specs.Spans.{has, IsSortedApart, IsSetOf, IsUnion, IsMeet, IsDifference}

-- sorted lists with the same seconds are the same list
abbrev pub OneList : Type 0
OneList = (a b : List Span) → IsSortedApart a → IsSortedApart b → ((x : ℕ) → has a x ≡ has b x) → a ≡ b

-- the order of two sets makes no difference to their union
abbrev pub UnionCommutes : Type 0
UnionCommutes = (a b one other : List Span) → IsUnion a b one → IsUnion b a other → one ≡ other

-- the order of two sets makes no difference to what they have in common
abbrev pub MeetCommutes : Type 0
MeetCommutes = (a b one other : List Span) → IsMeet a b one → IsMeet b a other → one ≡ other

-- a part that is taken away and added again leaves the set as it was
abbrev pub PartIsRestored : Type 0
PartIsRestored = (whole part rest back : List Span) → IsSortedApart whole → ((x : ℕ) → IsTrue (has part x) → IsTrue (has whole x))
    → IsDifference whole part rest → IsUnion rest part back → back ≡ whole

-- a set has no more spans than a list of its seconds
abbrev pub SetIsNoLonger : Type 0
SetIsNoLonger = (list set : List Span) → IsSetOf (has list) set → length set ≤ length list

-- a union has no more spans than both sets together
abbrev pub UnionIsNoLonger : Type 0
UnionIsNoLonger = (a b union : List Span) → IsUnion a b union → length union ≤ length a + length b

-- what two sets have in common has fewer spans than both together, if any
abbrev pub MeetIsShorter : Type 0
MeetIsShorter = (a b meet : List Span) → IsMeet a b meet → length meet ≤ length a + length b - 1

-- a difference has no more spans than both sets together
abbrev pub DifferenceIsNoLonger : Type 0
DifferenceIsNoLonger = (a b difference : List Span) → IsDifference a b difference → length difference ≤ length a + length b
