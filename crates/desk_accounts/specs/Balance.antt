-- Balances as the lines and the printed replies of a history tell them.
use Rattle.std.specs.Prelude.{ℕ, ◌+◌, ◌-◌, ◌==◌, Bool, true, false, if◌then◌else◌, List, [], ◌∷◌, map}
use Rattle.std.specs.Prelude.{find, zip, filter_map, flat_map, sum_by, Option, Some, None, Result, Ok, option_and_then}
use Rattle.std.specs.List.{list_any}
use Rattle.std.specs.Option.{option_map, option_map_or}
use Rattle.plan_base.specs.declared.number.GroupNo.{GroupNo}
use Rattle.plan_base.specs.declared.number.RequestNo.{RequestNo}
use Rattle.plan_io.specs.declared.lines.ScriptLine.{ScriptLine}
use Rattle.request_model.specs.declared.group.GroupDoc.{GroupDoc}
use Rattle.request_model.specs.declared.request.RequestDoc.{RequestDoc}
use Rattle.allocations.specs.declared.key.Key.{Key}
use Rattle.allocations.specs.Key.{is_key}
use Rattle.allocations.specs.Refusals.{ipp_key}
use Rattle.desk_events.specs.declared.command.Command.{Command}
use Rattle.desk_events.specs.declared.command.Command.TheVariants as command
use Rattle.desk_events.specs.declared.entry.EventEntry.{EventEntry}
use Rattle.desk_events.specs.declared.fault.CommandFault.{CommandFault}
use Rattle.desk_events.specs.declared.reply.GroupRefund.{GroupRefund}
use Rattle.desk_events.specs.declared.reply.Reply.{Reply}
use Rattle.desk_events.specs.declared.reply.Reply.TheVariants as reply
use Rattle.desk_core.specs.Holds.{account_of}
use Rattle.desk_core.specs.History.{read_at}

-- an entry as it can be read again: what its line says, and the reply that is printed
pub record Told : Type 0 where
  pub line : Result Command CommandFault
  pub reply : Reply

-- what an entry's line in the scripts says, and its reply
abbrev pub told_by : List (List ScriptLine) → EventEntry → Told
told_by scripts e = record { line = read_at scripts e; reply = e.reply }

-- ---- grants

-- the account of a grant, and its seconds
pub record GrantTold : Type 0 where
  pub key : Key
  pub seconds : ℕ

-- what a `grant` line asks for
abbrev pub grant_in : Result Command CommandFault → Option GrantTold
grant_in (Ok (command.Grant key seconds)) = Some record { key = key; seconds = seconds }
grant_in _ = None

-- whether a reply accepts a `grant`
abbrev pub is_granted : Reply → Bool
is_granted (reply.Granted balance) = true
is_granted _ = false

-- the grant of an entry, where its line was accepted
abbrev pub grant_told : Told → Option GrantTold
grant_told t = if is_granted t.reply then grant_in t.line else None

-- the seconds that an entry grants, whichever account
abbrev pub seconds_granted : Told → ℕ
seconds_granted t = option_map_or (λ g. g.seconds) (grant_told t) 0

-- whether an entry grants an account seconds
abbrev pub grants_to : Key → Told → Bool
grants_to key t = option_map_or (λ g. is_key g.key key) (grant_told t) false

-- the seconds that it grants it
abbrev pub granted_by : Key → Told → ℕ
granted_by key t = option_map_or (λ g. if is_key g.key key then g.seconds else 0) (grant_told t) 0

-- ---- groups and their requests

-- a group that was submitted: its document is told by the line, its number, its ipp charge and the numbers of its requests by the
-- reply
pub record GroupTold : Type 0 where
  pub document : GroupDoc
  pub number : GroupNo
  pub charged : ℕ
  pub requests : List RequestNo

-- the document in a `submit` or an `amend` line
abbrev pub document_in : Result Command CommandFault → Option GroupDoc
document_in (Ok (command.Submit document)) = Some document
document_in (Ok (command.Amend old document)) = Some document
document_in _ = None

-- the group that a reply gives its numbers to
abbrev pub group_of : Option GroupDoc → Reply → Option GroupTold
group_of document (reply.Submitted group charged requests) =
    option_map (λ d. record { document = d; number = group; charged = charged; requests = requests }) document
group_of document (reply.Amended group charged refunded replaces requests) =
    option_map (λ d. record { document = d; number = group; charged = charged; requests = requests }) document
group_of document _ = None

-- the group that an entry tells, where its line was accepted
abbrev pub group_told : Told → Option GroupTold
group_told t = group_of (document_in t.line) t.reply

-- all groups that entries tell
abbrev pub groups_told : List Told → List GroupTold
groups_told entries = filter_map group_told entries

-- ---- their accounts

-- the ipp account of each group's proposal, by the group's number
abbrev pub group_accounts : List GroupTold → List (ℕ × Key)
group_accounts groups = map (λ g. (g.number.0, ipp_key g.document.proposal)) groups

-- the requests of a document that so many numbers stand for: one each, in their order; where the document has one request, all
-- stand for that, of which a cadence makes several
abbrev pub asked_for : List RequestDoc → List RequestNo → List RequestDoc
asked_for (q ∷ []) numbers = map (λ n. q) numbers
asked_for requests numbers = requests

-- the account that a request of a document uses
abbrev pub key_for : GroupDoc → RequestDoc → Key
key_for document q = record { proposal = document.proposal; account = account_of document.kind; instrument = q.instrument }

-- the accounts of a group's requests, by the requests' numbers
abbrev pub accounts_in : GroupTold → List (ℕ × Key)
accounts_in g = zip (map (λ n. n.0) g.requests) (map (key_for g.document) (asked_for g.document.requests g.requests))

-- those of all groups
abbrev pub request_accounts : List GroupTold → List (ℕ × Key)
request_accounts groups = flat_map accounts_in groups

-- the account with this number
abbrev pub account_at : List (ℕ × Key) → ℕ → Option Key
account_at accounts n = option_map (λ a. a.1) (find (λ a. a.0 == n) accounts)

-- these seconds, where they are of the account that is asked for
abbrev pub seconds_on : Key → Option Key → ℕ → ℕ
seconds_on key account seconds = if option_map_or (λ k. is_key k key) account false then seconds else 0

-- ---- charges

-- the request that a `report` line is about
abbrev pub request_in : Result Command CommandFault → Option RequestNo
request_in (Ok (command.Report request percent used)) = Some request
request_in _ = None

-- the account of that request
abbrev pub reported_account : List GroupTold → Result Command CommandFault → Option Key
reported_account groups line = option_and_then (λ n. account_at (request_accounts groups) n.0) (request_in line)

-- the seconds that a reply charges an account: `ipp_charged` to the ipp account of the group's proposal, `charged` to the account
-- of the request that was reported
abbrev pub charged_in : List GroupTold → Key → Option Key → Reply → ℕ
charged_in groups key reported (reply.Submitted group charged requests) = seconds_on key (account_at (group_accounts groups) group.0) charged
charged_in groups key reported (reply.Amended group charged refunded replaces requests) = seconds_on key (account_at (group_accounts groups) group.0) charged
charged_in groups key reported (reply.Completed canceled charged) = seconds_on key reported charged
charged_in groups key reported _ = 0

-- the seconds that an entry charges an account
abbrev pub charged_by : List GroupTold → Key → Told → ℕ
charged_by groups key t = charged_in groups key (reported_account groups t.line) t.reply

-- ---- refunds

-- the amounts that a reply says are refunded
abbrev pub refunds_in : Reply → List GroupRefund
refunds_in (reply.Amended group charged refunded replaces requests) = refunded
refunds_in (reply.Withdrawn refunded) = refunded
refunds_in (reply.Clocked expired failed refunded started) = refunded
refunds_in (reply.Failed expired refunded) = refunded
refunds_in _ = []

-- the seconds of a refund on an account, which is the ipp account of the group's proposal
abbrev pub refund_on : List (ℕ × Key) → Key → GroupRefund → ℕ
refund_on accounts key r = seconds_on key (account_at accounts r.group.0) r.seconds

-- the seconds that an entry gives back to an account
abbrev pub refunded_by : List GroupTold → Key → Told → ℕ
refunded_by groups key t = sum_by (refund_on (group_accounts groups) key) (refunds_in t.reply)

-- all refunds that entries tell
abbrev pub all_refunds : List Told → List GroupRefund
all_refunds entries = flat_map (λ t. refunds_in t.reply) entries

-- ---- completed requests

-- whether a reply is that of a `report` line that completes its request
abbrev pub is_completion : Reply → Bool
is_completion (reply.Completed canceled charged) = true
is_completion _ = false

-- the request that an entry completes
abbrev pub completed_told : Told → Option RequestNo
completed_told t = if is_completion t.reply then request_in t.line else None

-- all requests that entries complete
abbrev pub all_completed : List Told → List RequestNo
all_completed entries = filter_map completed_told entries

-- ---- balances

-- the entries of a history as they are told
abbrev pub told_of : List (List ScriptLine) → List EventEntry → List Told
told_of scripts history = map (told_by scripts) history

-- whether an account was granted seconds
abbrev pub has_grant_told : List Told → Key → Bool
has_grant_told entries key = list_any (grants_to key) entries

-- the seconds that all entries grant an account
abbrev pub granted_told : List Told → Key → ℕ
granted_told entries key = sum_by (granted_by key) entries

-- the seconds that all entries grant, whichever account
abbrev pub all_granted : List Told → ℕ
all_granted entries = sum_by seconds_granted entries

-- the seconds that all entries charge an account, where these entries also tell whose groups and requests are charged for
abbrev pub charged_told : List Told → Key → ℕ
charged_told entries key = sum_by (charged_by (groups_told entries) key) entries

-- the seconds that all entries give back to an account, where these entries also tell whose groups are refunded
abbrev pub refunded_told : List Told → Key → ℕ
refunded_told entries key = sum_by (refunded_by (groups_told entries) key) entries

-- its balance: grants less charges, net of refunds; none where it has no grant
abbrev pub balance_told : List Told → Key → Option ℕ
balance_told entries key = if has_grant_told entries key then Some (granted_told entries key + refunded_told entries key - charged_told entries key) else None

-- the balance of an account after a history
abbrev pub balance_after : List (List ScriptLine) → List EventEntry → Key → Option ℕ
balance_after scripts history key = balance_told (told_of scripts history) key
