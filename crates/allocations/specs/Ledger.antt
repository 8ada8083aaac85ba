-- What contracts see of a ledger.
use Rattle.std.specs.Prelude.{◌≡◌, ◌≢◌, ℕ, ◌≤◌, List, [], All, Any, AllPairs, length, map, sum_by, false}
use Rattle.plan_base.specs.declared.number.GroupNo.{GroupNo}
use Rattle.allocations.specs.declared.key.Key.{Key}
use Rattle.allocations.specs.declared.key.Account.TheVariants.{Ipp}
use Rattle.allocations.specs.declared.entry.Entry.{Entry}
use Rattle.allocations.specs.declared.entry.Hold.{Hold}
use Rattle.allocations.specs.Key.{key_cmp}
use Rattle.allocations.specs.Rising.{Rises}
use Rattle.allocations.specs.Books.{Books, GroupHolds, has_grant, accounts_of}

-- the books, and the entries that there is room for
pub record LedgerSeen : Type 0 where
  pub books : Books
  pub spare : ℕ

-- the account is new, and there are as many as there may be
pub record IsFull (most : ℕ) (entries : List Entry) (key : Key) : Type 0 where
  pub new : has_grant entries key ≡ false
  pub many : most ≤ length (accounts_of entries)

-- holds of one proposal, by rising keys, at least one, and none on the ipp account
pub record IsHoldList (holds : List Hold) : Type 0 where
  pub some : 1 ≤ length holds
  pub rising : Rises key_cmp (map (λ h. h.key) holds)
  pub not_ipp : All (λ h. h.key.account ≢ Ipp) holds
  pub one_proposal : AllPairs (λ a b. a.key.proposal ≡ b.key.proposal) holds

-- the group holds nothing
abbrev pub IsFree : GroupNo → List GroupHolds → Type 0
IsFree group groups = All (λ g. g.group ≡ group → g.holds ≡ []) groups

-- each hold is at most what the group held of that account
abbrev pub IsAtMost : GroupNo → List GroupHolds → List Hold → Type 0
IsAtMost group groups holds = All (λ h. Any (λ g. (g.group ≡ group) × Any (λ o. (o.key ≡ h.key) × (h.seconds ≤ o.seconds)) g.holds) groups) holds

-- the seconds of holds
abbrev pub seconds_of_holds : List Hold → ℕ
seconds_of_holds holds = sum_by (λ h. h.seconds) holds
