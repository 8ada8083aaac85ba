-- `export`, `balances` and `show`: what is only shown.
use Rattle.std.specs.Prelude.{map, Result, Ok, Err, Option, Some, None, find}
use Rattle.std.specs.List.{zip}
use Rattle.plan_base.specs.declared.number.GroupNo.{GroupNo}
use Rattle.allocations.specs.declared.key.Key.{Key}
use Rattle.allocations.specs.Books.{Books, accounts_of, balance_of, available_of}
use Rattle.desk_runs.specs.declared.group.Group.{Group}
use Rattle.desk_runs.specs.declared.group.Request.{Request}
use Rattle.desk_runs.specs.States.{state_of}
use Rattle.desk_runs.specs.Numbers.{is_group}
use Rattle.desk_events.specs.declared.refusal.Refusal.{Refusal}
use Rattle.desk_events.specs.declared.refusal.Refusal.TheVariants.{NothingPublished, NoSuchGroup}
use Rattle.desk_events.specs.declared.reply.AccountBalance.{AccountBalance}
use Rattle.desk_events.specs.declared.reply.MemberState.{MemberState}
use Rattle.desk_events.specs.declared.reply.Reply.{Reply}
use Rattle.desk_events.specs.declared.reply.Reply.TheVariants as reply
use Rattle.desk_core.specs.Publication.{PublicationSeen}
use Rattle.desk_core.specs.declared.desk.Submitted.{Submitted}
use Rattle.desk_core.specs.Desk.{DeskSeen}

-- `export`: nothing was published; else the last publication
abbrev pub on_export : Option PublicationSeen → Result Reply Refusal
on_export None = Err NothingPublished
on_export (Some p) = Ok (reply.Exported p.claim p.snapshot)

-- what an account has
abbrev pub account_balance : Books → Key → AccountBalance
account_balance books key = record { key = key; balance = balance_of books.entries key; available = available_of books key }

-- `balances`: all accounts, in their order
abbrev pub on_balances : Books → Result Reply Refusal
on_balances books = Ok (reply.Balances (map (account_balance books) (accounts_of books.entries)))

-- a request with its state
abbrev pub member_state : Request → MemberState
member_state q = record { request = q.number; state = q.state }

-- a group as it is shown: as it was submitted, and its states
abbrev pub shown_group : Option (Submitted × Group) → Result Reply Refusal
shown_group None = Err NoSuchGroup
shown_group (Some p) = Ok (reply.Shown p.0.document p.1.number (map member_state p.1.requests) (state_of p.1))

-- `show`: no such group; else the group
abbrev pub on_show : DeskSeen → GroupNo → Result Reply Refusal
on_show d number = shown_group (find (λ p. is_group number p.1) (zip d.groups d.progress.groups))
