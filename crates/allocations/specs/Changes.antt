-- What calls change of the books.
use Rattle.std.specs.Prelude.{ℕ, ◌++◌, ◌∷◌, ◌==◌, if◌then◌else◌, List, [], Option, Some, None, map, find, option_and_then}
use Rattle.std.specs.Option.{option_to_list}
use Rattle.std.specs.Ordering.{nat_cmp}
use Rattle.std.specs.BTreeSet.{replace_key}
use Rattle.std.specs.declared.cmp.Ordering.{Ordering}
use Rattle.plan_base.specs.declared.number.GroupNo.{GroupNo}
use Rattle.plan_base.specs.declared.number.RequestNo.{RequestNo}
use Rattle.allocations.specs.declared.key.Key.{Key}
use Rattle.allocations.specs.declared.entry.Entry.{Entry}
use Rattle.allocations.specs.declared.entry.Hold.{Hold}
use Rattle.allocations.specs.declared.entry.EntryKind.TheVariants.{Grant, Charge, Refund}
use Rattle.allocations.specs.Books.{Books, GroupHolds}
use Rattle.allocations.specs.Refusals.{ipp_need}

-- groups are ordered by their numbers
abbrev pub group_cmp : GroupHolds → GroupHolds → Ordering
group_cmp a b = nat_cmp a.group.0 b.group.0

-- the ipp charge of a group, where it stands and wasn't refunded
abbrev pub ipp_of : GroupNo → List GroupHolds → Option Hold
ipp_of group groups = option_and_then (λ g. g.ipp) (find (λ g. g.group.0 == group.0) groups)

-- the entry of a grant
abbrev pub grant_entry : Key → ℕ → Entry
grant_entry key seconds = record { key = key; kind = Grant; seconds = seconds; group = record { 0 = 0 }; request = record { 0 = 0 } }

-- the entry that charges a request
abbrev pub request_entry : Key → ℕ → GroupNo → RequestNo → Entry
request_entry key seconds group request = record { key = key; kind = Charge; seconds = seconds; group = group; request = request }

-- one more entry
abbrev pub with_entry : Entry → Books → Books
with_entry e books = record books { entries = books.entries ++ e ∷ [] }

-- the entry that charges a group
abbrev pub charge_entry : GroupNo → Hold → Entry
charge_entry group h = record { key = h.key; kind = Charge; seconds = h.seconds; group = group; request = record { 0 = 0 } }

-- the entry that gives a group's charge back
abbrev pub refund_entry : GroupNo → Hold → Entry
refund_entry group h = record { key = h.key; kind = Refund; seconds = h.seconds; group = group; request = record { 0 = 0 } }

-- a group with other holds
abbrev pub with_holds : List Hold → GroupHolds → GroupHolds
with_holds holds g = record g { holds = holds }

-- a group of which no ipp charge stands
abbrev pub without_ipp : GroupHolds → GroupHolds
without_ipp g = record g { ipp = None }

-- the groups, of which one is changed
abbrev pub change_group : GroupNo → (GroupHolds → GroupHolds) → List GroupHolds → List GroupHolds
change_group group f groups = map (λ g. if g.group.0 == group.0 then f g else g) groups

-- the group holds this from now on
abbrev pub released : GroupNo → List Hold → Books → Books
released group holds books = record books { holds = change_group group (with_holds holds) books.holds }

-- the group's ipp charge is given back where it stands, and stands no more
abbrev pub refunded : GroupNo → Books → Books
refunded group books = record {
  entries = books.entries ++ map (refund_entry group) (option_to_list (ipp_of group books.holds));
  holds = change_group group without_ipp books.holds;
}

-- the group holds nothing, and its ipp charge is given back
abbrev pub freed : GroupNo → Books → Books
freed group books = refunded group (released group [] books)

-- the new ipp charge stands, or the old one where there is no new one
abbrev pub standing : {X : Type 0} → Option X → Option X → Option X
standing (Some new) old = Some new
standing None old = old

-- the group is charged, and holds this from now on
abbrev pub booked : GroupNo → List Hold → ℕ → Books → Books
booked group holds ipp books = record {
  entries = books.entries ++ map (charge_entry group) (option_to_list (ipp_need holds ipp));
  holds = replace_key group_cmp books.holds record { group = group; holds = holds; ipp = standing (ipp_need holds ipp) (ipp_of group books.holds) };
}
