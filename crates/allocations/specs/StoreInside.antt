-- How a store keeps its books.
use Rattle.std.specs.Prelude.{◌+◌, ◌-◌, ◌≤◌, vec_len, vec_capacity}
use Rattle.allocations.specs.declared.store.Store.TheInside.{Inside}
use Rattle.allocations.specs.Raw.{Tied, IsGrouped}
use Rattle.allocations.specs.Store.{StoreSeen}

-- what is seen of the fields
abbrev pub seen_store : Inside → StoreSeen
seen_store a = record {
  keys = a.register.keys;
  listed = a.register.listed;
  postings = a.postings.items;
  groups = a.groups.items;
  spare = a.spare;
  slots = vec_capacity a.groups - vec_len a.groups;
}

-- the sums are tied to postings and groups, groups are in order, and there is room for what is spare
pub record IsStore (a : Inside) : Type 0 where
  pub tied : Tied a.register.keys a.sums.items a.postings.items a.groups.items
  pub grouped : IsGrouped a.register.keys a.groups.items
  pub room : vec_len a.postings + a.spare ≤ vec_capacity a.postings
