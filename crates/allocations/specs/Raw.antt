-- How a store keeps the books: accounts by place.
use Rattle.std.specs.Prelude.{◌≡◌, ◌≢◌, ℕ, ◌+◌, ◌<◌, ◌≤◌, ◌==◌, ◌&&◌, if◌then◌else◌, List, [], All, AllPairs}
use Rattle.std.specs.Prelude.{length, map, slice_index_or, sum_by}
use Rattle.std.specs.Option.{option_map, IfSome}
use Rattle.std.specs.Ordering.{nat_cmp}
use Rattle.allocations.specs.declared.key.Key.{Key}
use Rattle.allocations.specs.declared.key.Account.TheVariants.{Standard}
use Rattle.allocations.specs.declared.entry.Entry.{Entry}
use Rattle.allocations.specs.declared.entry.Hold.{Hold}
use Rattle.allocations.specs.declared.entry.EntryKind.{EntryKind}
use Rattle.allocations.specs.declared.entry.EntryKind.TheVariants.{Grant, Charge, Refund}
use Rattle.allocations.specs.declared.sums.Amount.{Amount}
use Rattle.allocations.specs.declared.sums.Sums.{Sums}
use Rattle.allocations.specs.declared.posting.Posting.{Posting}
use Rattle.allocations.specs.declared.posting.GroupState.{GroupState}
use Rattle.allocations.specs.Key.{key_cmp}
use Rattle.allocations.specs.Rising.{Rises}
use Rattle.allocations.specs.Amounts.{amount_at, no_sums}
use Rattle.allocations.specs.Books.{Books, GroupHolds, is_kind}

-- the key at no place
abbrev pub no_key : Key
no_key = record { proposal = []; account = Standard; instrument = [] }

-- the key of the account at place i
abbrev pub key_at : List Key → ℕ → Key
key_at keys i = slice_index_or keys i no_key

-- the entry that a posting stands for
abbrev pub entry_of : List Key → Posting → Entry
entry_of keys p = record { key = key_at keys p.account; kind = p.kind; seconds = p.seconds; group = p.group; request = p.request }

-- the hold that an amount stands for
abbrev pub hold_of : List Key → Amount → Hold
hold_of keys m = record { key = key_at keys m.account; seconds = m.seconds }

-- what a group holds
abbrev pub group_of : List Key → GroupState → GroupHolds
group_of keys g = record { group = g.group; holds = map (hold_of keys) g.holds; ipp = option_map (hold_of keys) g.ipp }

-- the books that postings and groups stand for
abbrev pub books_of : List Key → List Posting → List GroupState → Books
books_of keys postings groups = record { entries = map (entry_of keys) postings; holds = map (group_of keys) groups }

-- the seconds of the postings of a kind on the account at place i
abbrev pub posted : EntryKind → ℕ → List Posting → ℕ
posted kind i postings = sum_by (λ p. if is_kind kind p.kind && (p.account == i) then p.seconds else 0) postings

-- the seconds of the account at place i that all groups hold
abbrev pub held_at : ℕ → List GroupState → ℕ
held_at i groups = sum_by (λ g. amount_at i g.holds) groups

-- each amount of a group is of one of n accounts
abbrev pub IsOfAccounts : ℕ → GroupState → Type 0
IsOfAccounts n g = All (λ m. m.account < n) g.holds × IfSome g.ipp (λ m. m.account < n)

-- groups rise, and each group's holds rise by their keys
pub record IsGrouped (keys : List Key) (groups : List GroupState) : Type 0 where
  pub rising : Rises nat_cmp (map (λ g. g.group.0) groups)
  pub ordered : All (λ g. Rises key_cmp (map (λ m. key_at keys m.account) g.holds)) groups

-- keys are apart, postings and groups name accounts, and the sums are those of postings and groups
pub record Tied (keys : List Key) (sums : List Sums) (postings : List Posting) (groups : List GroupState) : Type 0 where
  pub lengths : length sums ≡ length keys
  pub apart : AllPairs (λ a b. a ≢ b) keys
  pub located : All (λ p. p.account < length keys) postings
  pub of_accounts : All (IsOfAccounts (length keys)) groups
  pub balance : (i : ℕ) → i < length keys
      → (slice_index_or sums i no_sums).balance + posted Charge i postings ≡ posted Grant i postings + posted Refund i postings
  pub held : (i : ℕ) → i < length keys → (slice_index_or sums i no_sums).held ≡ held_at i groups
  pub covered : (i : ℕ) → i < length keys → (slice_index_or sums i no_sums).held ≤ (slice_index_or sums i no_sums).balance
