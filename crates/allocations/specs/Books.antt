-- The books of a ledger, its entries and holds, and what they say of an account.
use Rattle.std.specs.Prelude.{ℕ, ◌+◌, ◌-◌, ◌==◌, ◌&&◌, Bool, if◌then◌else◌, List, [], Option, map, filter, fold, sum_by}
use Rattle.std.specs.List.{list_any}
use Rattle.std.specs.BTreeSet.{insert_key}
use Rattle.plan_base.specs.declared.number.GroupNo.{GroupNo}
use Rattle.allocations.specs.declared.key.Key.{Key}
use Rattle.allocations.specs.declared.entry.Entry.{Entry}
use Rattle.allocations.specs.declared.entry.Hold.{Hold}
use Rattle.allocations.specs.declared.entry.EntryKind.{EntryKind}
use Rattle.allocations.specs.declared.entry.EntryKind.TheVariants.{Grant, Charge, Refund}
use Rattle.allocations.specs.Key.{key_cmp, is_key}

-- what a group holds, and its ipp charge while that stands and wasn't refunded
pub record GroupHolds : Type 0 where
  pub group : GroupNo
  pub holds : List Hold
  pub ipp : Option Hold

-- all entries, in the order in which they were made, and the holds of the groups, in the order of groups
pub record Books : Type 0 where
  pub entries : List Entry
  pub holds : List GroupHolds

-- a number for each kind of entry
abbrev pub kind_number : EntryKind → ℕ
kind_number Grant = 0
kind_number Charge = 1
kind_number Refund = 2

-- whether an entry is of a kind
abbrev pub is_kind : EntryKind → EntryKind → Bool
is_kind kind other = kind_number other == kind_number kind

-- the seconds of the entries of a kind on an account
abbrev pub seconds_of : EntryKind → Key → List Entry → ℕ
seconds_of kind key entries = sum_by (λ e. if is_kind kind e.kind && is_key e.key key then e.seconds else 0) entries

-- an account's grants and refunds, less its charges
abbrev pub balance_of : List Entry → Key → ℕ
balance_of entries key = seconds_of Grant key entries + seconds_of Refund key entries - seconds_of Charge key entries

-- the seconds of an account in a list of holds
abbrev pub held_in : Key → List Hold → ℕ
held_in key holds = sum_by (λ h. if is_key h.key key then h.seconds else 0) holds

-- the seconds of an account that all groups hold
abbrev pub held_of : List GroupHolds → Key → ℕ
held_of groups key = sum_by (λ g. held_in key g.holds) groups

-- what is left of an account's balance by the holds
abbrev pub available_of : Books → Key → ℕ
available_of books key = balance_of books.entries key - held_of books.holds key

-- whether an account has a grant
abbrev pub has_grant : List Entry → Key → Bool
has_grant entries key = list_any (λ e. is_kind Grant e.kind && is_key e.key key) entries

-- the keys of the grants, in their order, each once
abbrev pub accounts_of : List Entry → List Key
accounts_of entries = fold (insert_key key_cmp) [] (map (λ e. e.key) (filter (λ e. is_kind Grant e.kind) entries))

-- the seconds of all entries and holds
abbrev pub total_seconds : Books → ℕ
total_seconds books = sum_by (λ e. e.seconds) books.entries + sum_by (λ g. sum_by (λ h. h.seconds) g.holds) books.holds
