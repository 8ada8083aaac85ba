-- What contracts see of a store.
use Rattle.std.specs.Prelude.{◌≡◌, ◌≢◌, true, ℕ, ◌+◌, ◌-◌, ◌^◌, ◌<◌, ◌≤◌, ◌++◌, ◌∷◌, List, [], Option, Some, None, All, AllPairs}
use Rattle.std.specs.Prelude.{length, map, slice_index_or, slice_set}
use Rattle.allocations.specs.declared.key.Key.{Key}
use Rattle.allocations.specs.declared.entry.EntryKind.{EntryKind}
use Rattle.allocations.specs.declared.entry.EntryKind.TheVariants.{Grant, Charge, Refund}
use Rattle.allocations.specs.declared.sums.Amount.{Amount}
use Rattle.allocations.specs.declared.posting.Posting.{Posting}
use Rattle.allocations.specs.declared.posting.GroupState.{GroupState}
use Rattle.allocations.specs.declared.entry.Hold.{Hold}
use Rattle.allocations.specs.Books.{Books, has_grant}
use Rattle.std.specs.Option.{option_to_list}
use Rattle.plan_base.specs.declared.number.GroupNo.{GroupNo}
use Rattle.allocations.specs.Amounts.{amount_at}
use Rattle.allocations.specs.Raw.{key_at, hold_of, books_of, posted, held_at, IsOfAccounts, IsGrouped}

-- the accounts by place and in order, the postings, the groups in order, and the room for postings and groups
pub record StoreSeen : Type 0 where
  pub keys : List Key
  pub listed : List Key
  pub postings : List Posting
  pub groups : List GroupState
  pub spare : ℕ
  pub slots : ℕ

-- the group at no place
abbrev pub no_group : GroupState
no_group = record { group = record { 0 = 0 }; holds = []; ipp = None }

-- the group at place i
abbrev pub group_at : List GroupState → ℕ → GroupState
group_at groups i = slice_index_or groups i no_group

-- what the entries give an account
abbrev pub given_at : ℕ → List Posting → ℕ
given_at i postings = posted Grant i postings + posted Refund i postings

-- the books that a store stands for
abbrev pub store_books : StoreSeen → Books
store_books s = books_of s.keys s.postings s.groups

-- the store with one more posting
abbrev pub with_posting : StoreSeen → Posting → StoreSeen
with_posting s p = record s { postings = s.postings ++ p ∷ []; spare = s.spare - 1 }

-- the store with another group at a place
abbrev pub with_group : StoreSeen → ℕ → GroupState → StoreSeen
with_group s i g = record s { groups = slice_set s.groups i g }

-- the numbers of the groups
abbrev pub numbers_of : List GroupState → List ℕ
numbers_of groups = map (λ g. g.group.0) groups

-- a group that holds nothing
abbrev pub empty_group : GroupNo → GroupState
empty_group group = record { group = group; holds = []; ipp = None }

-- the keys of amounts
abbrev pub amount_keys : List Key → List Amount → List Key
amount_keys keys amounts = map (λ m. key_at keys m.account) amounts

-- the amounts fit what is left of each account
abbrev pub CanHold : StoreSeen → List Amount → Type 0
CanHold s amounts = (i : ℕ) → i < length s.keys → held_at i s.groups + amount_at i amounts + posted Charge i s.postings ≤ given_at i s.postings

-- the posting that gives a group's ipp charge back
abbrev pub refund_posting : GroupNo → Amount → Posting
refund_posting group m = record { account = m.account; kind = Refund; seconds = m.seconds; group = group; request = record { 0 = 0 } }

-- the refund of a group's ipp charge, where that stands
abbrev pub refunds_of : GroupState → List Posting
refunds_of g = map (refund_posting g.group) (option_to_list g.ipp)

-- the postings once the group at a place, if one is named, was refunded
abbrev pub freed_postings : Option ℕ → List Posting → List GroupState → List Posting
freed_postings None postings groups = postings
freed_postings (Some j) postings groups = postings ++ refunds_of (group_at groups j)

-- the groups once the group at a place, if one is named, holds nothing
abbrev pub freed_groups : Option ℕ → List GroupState → List GroupState
freed_groups None groups = groups
freed_groups (Some j) groups = slice_set groups j (empty_group (group_at groups j).group)

-- the store once the ipp charge of the group at a place was refunded, where it stands
abbrev pub refunded_store : StoreSeen → ℕ → StoreSeen
refunded_store s j = record s {
  postings = s.postings ++ refunds_of (group_at s.groups j);
  groups = slice_set s.groups j (record (group_at s.groups j) { ipp = None });
  spare = s.spare - length (refunds_of (group_at s.groups j));
}

-- the store once the group at a place, if one is named, was refunded and holds nothing
abbrev pub freed_store : StoreSeen → Option ℕ → StoreSeen
freed_store s old = record s { postings = freed_postings old s.postings s.groups; groups = freed_groups old s.groups }

-- the books once the group at a place, if one is named, was refunded and holds nothing
abbrev pub freed_books : StoreSeen → Option ℕ → Books
freed_books s old = books_of s.keys (freed_postings old s.postings s.groups) (freed_groups old s.groups)

-- what is left of an account by its charges and holds
abbrev pub left_at : ℕ → List Posting → List GroupState → ℕ
left_at i postings groups = given_at i postings - posted Charge i postings - held_at i groups

-- what is left of it once the group at a place, if one is named, was refunded and holds nothing
abbrev pub left_after : StoreSeen → Option ℕ → ℕ → ℕ
left_after s old i = left_at i (freed_postings old s.postings s.groups) (freed_groups old s.groups)

-- an entry leaves an account covered and in its range
abbrev pub CanPost : StoreSeen → ℕ → EntryKind → ℕ → Type 0
CanPost s i Grant seconds = given_at i s.postings + seconds < 2 ^ 64
CanPost s i Charge seconds = held_at i s.groups + posted Charge i s.postings + seconds ≤ given_at i s.postings
CanPost s i Refund seconds = given_at i s.postings + seconds < 2 ^ 64

-- keys are apart, postings and groups name accounts, groups and their holds are in order, and no account lacks what is
-- held of it
pub record IsSound (s : StoreSeen) : Type 0 where
  pub apart : AllPairs (λ a b. a ≢ b) s.keys
  pub located : All (λ p. p.account < length s.keys) s.postings
  pub of_accounts : All (IsOfAccounts (length s.keys)) s.groups
  pub grouped : IsGrouped s.keys s.groups
  pub covered : (i : ℕ) → i < length s.keys → held_at i s.groups + posted Charge i s.postings ≤ given_at i s.postings

-- each account has a grant
abbrev pub IsGranted : StoreSeen → Type 0
IsGranted s = All (λ k. has_grant (store_books s).entries k ≡ true) s.keys

-- the amount is of a known account, and stands for the hold
pub record StandsFor (s : StoreSeen) (m : Amount) (h : Hold) : Type 0 where
  pub account : m.account < length s.keys
  pub hold : hold_of s.keys m ≡ h
