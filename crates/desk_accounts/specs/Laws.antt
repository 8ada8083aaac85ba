-- What the replies of a history tell of its accounts.
use Rattle.std.specs.Prelude.{◌≡◌, ◌≢◌, ℕ, ◌+◌, ◌*◌, ◌^◌, ◌<◌, ◌≤◌, List, [], ◌∷◌, ◌++◌, map, All, AllPairs, Any}
use Rattle.std.specs.Prelude.{Option, Some, IfSome, IsSome, option_and_then}
use Rattle.plan_base.specs.Limits.{most_version, most_grant}
use Rattle.plan_io.specs.declared.lines.ScriptLine.{ScriptLine}
use Rattle.allocations.specs.declared.key.Key.{Key}
use Rattle.allocations.specs.Key.{key_cmp}
use Rattle.allocations.specs.Rising.{Rises}
use Rattle.desk_runs.specs.Sound.{IsCounted}
use Rattle.desk_events.specs.declared.entry.EventEntry.{EventEntry}
use Rattle.desk_events.specs.declared.reply.AccountBalance.{AccountBalance}
use Rattle.desk_events.specs.declared.reply.GroupRefund.{GroupRefund}
use Rattle.desk_events.specs.declared.reply.Reply.TheVariants as reply
use Rattle.desk_core.specs.Step.{balance_in}
use Rattle.desk_core.specs.History.{IsLegal, replay}
use Rattle.desk_core.specs.Kept.{IsDesk}
use Rattle.desk_accounts.specs.Balance.{Told, GrantTold, told_by, grant_told, told_of, granted_told, all_granted, charged_told}
use Rattle.desk_accounts.specs.Balance.{GroupTold, groups_told, refunded_told, refunds_in, all_refunds, all_completed, balance_after}
use Rattle.desk_accounts.specs.Covered.{IsCovered, held_at}

-- after every legal history each account's balance in the replayed state is what the lines and replies tell
abbrev pub BalancesAreTold : Type 0
BalancesAreTold = (scripts : List (List ScriptLine)) (history : List EventEntry) (key : Key) → IsLegal scripts history
    → option_and_then (λ d. balance_in d key) (replay scripts history).desk ≡ balance_after scripts history key

-- and no account is charged more than it was granted and got back, so a balance is those less its charges, with nothing cut off
abbrev pub ChargesAreCovered : Type 0
ChargesAreCovered = (scripts : List (List ScriptLine)) (history : List EventEntry) (key : Key) → IsLegal scripts history
    → charged_told (told_of scripts history) key ≤ granted_told (told_of scripts history) key + refunded_told (told_of scripts history) key

-- what the open groups hold of an account is never more than its balance: with what it was charged it is at most what it was
-- granted and got back
abbrev pub HoldsAreCovered : Type 0
HoldsAreCovered = (scripts : List (List ScriptLine)) (history : List EventEntry) → IsLegal scripts history
    → IfSome (replay scripts history).desk (λ d. IsCovered d.books)

-- and the desk is one: it is settled and sound, and the accounts hold what its pending requests need
abbrev pub DesksAreKept : Type 0
DesksAreKept = (scripts : List (List ScriptLine)) (history : List EventEntry) → IsLegal scripts history → IfSome (replay scripts history).desk IsDesk

-- ---- seconds that are granted

-- an account was granted no more than all accounts were, and all together no more than a grant may give for each change that the desk
-- accepted
pub record AreFewGrants (entries : List Told) (version : ℕ) : Type 0 where
  pub account : (key : Key) → granted_told entries key ≤ all_granted entries
  pub all : all_granted entries ≤ most_grant * version

-- so it is after every legal history
abbrev pub GrantsAreFew : Type 0
GrantsAreFew = (scripts : List (List ScriptLine)) (history : List EventEntry) → IsLegal scripts history
    → AreFewGrants (told_of scripts history) (replay scripts history).version

-- and after one of no more changes than a version counts, all granted seconds are below 10^15
abbrev pub GrantsStayBelow : Type 0
GrantsStayBelow = (scripts : List (List ScriptLine)) (history : List EventEntry) → IsLegal scripts history → (replay scripts history).version ≤ most_version
    → all_granted (told_of scripts history) < 10 ^ 15

-- ---- refunds, and requests that are completed

-- the refund is of this group, and as many seconds as its ipp charge
pub record IsRefundOf (r : GroupRefund) (g : GroupTold) : Type 0 where
  pub group : r.group ≡ g.number
  pub seconds : r.seconds ≡ g.charged

-- each refund that an entry of a legal history is replied is of a group that an entry before it tells, and of that group's ipp charge
abbrev pub RefundsAreTold : Type 0
RefundsAreTold = (scripts : List (List ScriptLine)) (history before after : List EventEntry) (e : EventEntry) → IsLegal scripts history
    → history ≡ before ++ e ∷ after → All (λ r. Any (IsRefundOf r) (groups_told (told_of scripts before))) (refunds_in e.reply)

-- the groups that a legal history tells are numbered from 1 in their order, so no two have one number
abbrev pub GroupsAreNumbered : Type 0
GroupsAreNumbered = (scripts : List (List ScriptLine)) (history : List EventEntry) → IsLegal scripts history
    → IsCounted (map (λ g. g.number.0) (groups_told (told_of scripts history)))

-- no two refunds that a legal history tells are of one group
abbrev pub RefundsAreOnce : Type 0
RefundsAreOnce = (scripts : List (List ScriptLine)) (history : List EventEntry) → IsLegal scripts history
    → AllPairs (λ r s. r.group ≢ s.group) (all_refunds (told_of scripts history))

-- no request is completed, and so charged, by two entries of a legal history
abbrev pub RequestsAreChargedOnce : Type 0
RequestsAreChargedOnce = (scripts : List (List ScriptLine)) (history : List EventEntry) → IsLegal scripts history
    → AllPairs (λ m n. m ≢ n) (all_completed (told_of scripts history))

-- ---- balances that are printed

-- all accounts that have a balance, in their order, each with its balance and with what is available, which is its balance less
-- what is held of it, with nothing cut off
pub record IsShown (balance : Key → Option ℕ) (held : Key → ℕ) (shown : List AccountBalance) : Type 0 where
  pub rising : Rises key_cmp (map (λ a. a.key) shown)
  pub each : All (λ a. balance a.key ≡ Some a.balance) shown
  pub available : All (λ a. a.available + held a.key ≡ a.balance) shown
  pub all : (key : Key) → IsSome (balance key) → Any (λ a. a.key ≡ key) shown

-- what a `balances` line is replied is what the entries before it tell of all accounts, with what the groups of the state that they
-- leave don't hold
abbrev pub BalancesAreShown : Type 0
BalancesAreShown = (scripts : List (List ScriptLine)) (history before after : List EventEntry) (e : EventEntry) (shown : List AccountBalance)
    → IsLegal scripts history
    → history ≡ before ++ e ∷ after → e.reply ≡ reply.Balances shown → IsShown (balance_after scripts before) (held_at (replay scripts before)) shown

-- what a `grant` line is replied is what the entries up to it tell of its account
abbrev pub GrantsAreShown : Type 0
GrantsAreShown = (scripts : List (List ScriptLine)) (history before after : List EventEntry) (e : EventEntry) (balance : ℕ) → IsLegal scripts history
    → history ≡ before ++ e ∷ after → e.reply ≡ reply.Granted balance
    → (g : GrantTold) × (grant_told (told_by scripts e) ≡ Some g) × (balance_after scripts (before ++ e ∷ []) g.key ≡ Some balance)
