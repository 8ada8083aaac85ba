-- What calls change of what is kept.
use Rattle.std.specs.Prelude.{◌≡◌, ◌==◌, List, [], Option, All, map, find, option_and_then}
use Rattle.std.specs.Option.{option_to_list}
use Rattle.std.specs.Ordering.{nat_cmp}
use Rattle.std.specs.BTreeSet.{replace_key}
use Rattle.std.specs.declared.cmp.Ordering.{Ordering}
use Rattle.plan_base.specs.declared.number.GroupNo.{GroupNo}
use Rattle.allocations.specs.declared.entry.EntryKind.TheVariants.{Charge}
use Rattle.allocations.specs.declared.sums.Amount.{Amount}
use Rattle.allocations.specs.declared.posting.Posting.{Posting}
use Rattle.allocations.specs.declared.posting.GroupState.{GroupState}
use Rattle.allocations.specs.Changes.{standing}

-- groups are ordered by their numbers
abbrev pub state_cmp : GroupState → GroupState → Ordering
state_cmp a b = nat_cmp a.group.0 b.group.0

-- a group with this number holds nothing
abbrev pub HoldsNothing : GroupNo → List GroupState → Type 0
HoldsNothing group groups = All (λ g. g.group ≡ group → g.holds ≡ []) groups

-- the ipp charge of a group that stands
abbrev pub standing_of : GroupNo → List GroupState → Option Amount
standing_of group groups = option_and_then (λ g. g.ipp) (find (λ g. g.group.0 == group.0) groups)

-- the postings of an ipp charge, if there is one
abbrev pub charges_of : GroupNo → Option Amount → List Posting
charges_of group ipp =
    map (λ m. record { account = m.account; kind = Charge; seconds = m.seconds; group = group; request = record { 0 = 0 } }) (option_to_list ipp)

-- the groups when one holds this from now on
abbrev pub booked_groups : GroupNo → List Amount → Option Amount → List GroupState → List GroupState
booked_groups group holds ipp groups = replace_key state_cmp groups record { group = group; holds = holds; ipp = standing ipp (standing_of group groups) }
