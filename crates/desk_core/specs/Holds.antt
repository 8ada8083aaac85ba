-- What groups hold and are charged, as a function of their pending requests.
use Rattle.std.specs.Prelude.{ℕ, ◌-◌, ◌*◌, max, nat_lt, Bool, not, ◌&&◌, List, [], map, filter, filter_map, fold, Option, None, if◌then◌else◌}
use Rattle.std.specs.Int.{div_ceil}
use Rattle.std.specs.List.{zip}
use Rattle.std.specs.Option.{option_map}
use Rattle.std.specs.BTreeSet.{insert_key}
use Rattle.plan_base.specs.declared.parts.Op.{Op}
use Rattle.request_model.specs.declared.group.GroupDoc.{GroupDoc}
use Rattle.request_model.specs.declared.group.ObsKind.{ObsKind}
use Rattle.request_model.specs.declared.group.ObsKind.TheVariants as kind
use Rattle.allocations.specs.declared.key.Account.{Account}
use Rattle.allocations.specs.declared.key.Account.TheVariants as account
use Rattle.allocations.specs.declared.key.Key.{Key}
use Rattle.allocations.specs.declared.entry.Hold.{Hold}
use Rattle.allocations.specs.Key.{key_cmp, is_key}
use Rattle.allocations.specs.Books.{Books, held_in}
use Rattle.allocations.specs.Changes.{ipp_of, released, refunded}
use Rattle.allocations.specs.Ledger.{seconds_of_holds}
use Rattle.desk_runs.specs.declared.group.Group.{Group}
use Rattle.desk_runs.specs.declared.group.Request.{Request}
use Rattle.plan_base.specs.States.{is_pending, is_completed}
use Rattle.plan_base.specs.Operators.{is_oneof}
use Rattle.desk_runs.specs.States.{is_open, any_in}
use Rattle.desk_runs.specs.Progress.{Progress}
use Rattle.desk_events.specs.declared.reply.GroupRefund.{GroupRefund}
use Rattle.desk_core.specs.declared.desk.Submitted.{Submitted}
use Rattle.desk_core.specs.declared.desk.Wanted.{Wanted}
use Rattle.desk_core.specs.Desk.{DeskSeen}

-- ---- of one group

-- the account of an observation type
abbrev pub account_of : ObsKind → Account
account_of kind.Normal = account.Standard
account_of kind.TimeCritical = account.TimeCritical
account_of kind.RapidResponse = account.RapidResponse

-- the account that a request of a group uses
abbrev pub key_of : GroupDoc → Wanted → Key
key_of document q = record { proposal = document.proposal; account = account_of document.kind; instrument = q.instrument }

-- what the pending ones of these requests need
abbrev pub needs_of : GroupDoc → List (Request × Wanted) → List Hold
needs_of document requests =
    map (λ p. record { key = key_of document p.1; seconds = p.0.seconds }) (filter (λ p. is_pending p.0.state) requests)

-- the accounts that are needed, each once, in their order
abbrev pub keys_in : List Hold → List Key
keys_in needs = fold (λ keys h. insert_key key_cmp keys h.key) [] needs

-- the greatest need of an account
abbrev pub greatest_in : Key → List Hold → ℕ
greatest_in key needs = fold (λ most h. if is_key h.key key then max most h.seconds else most) 0 needs

-- what is held of an account for these needs: their sum, or of a ONEOF the greatest
abbrev pub held_for : Op → List Hold → Key → ℕ
held_for op needs key = if is_oneof op then greatest_in key needs else held_in key needs

-- what is held for these needs, of each account
abbrev pub holds_of : Op → List Hold → List Hold
holds_of op needs = map (λ key. record { key = key; seconds = held_for op needs key }) (keys_in needs)

-- what a group holds
abbrev pub held_by : Submitted → Group → List Hold
held_by w g = holds_of g.op (needs_of w.document (zip g.requests w.requests))

-- what a group with this ipp is charged for what it holds, rounded up
abbrev pub ipp_charge : ℕ → List Hold → ℕ
ipp_charge ipp holds = if nat_lt 1000 ipp then div_ceil ((ipp - 1000) * seconds_of_holds holds) 1000 else 0

-- ---- of all groups, once some have gone on

-- whether a group stops being pending with no member completed
abbrev pub is_refunded : Group → Group → Bool
is_refunded before after = is_open before && not (is_open after) && not (any_in is_completed after)

-- the books once one group that was open has gone on: it holds what its pending requests need, and is refunded where it
-- stops being pending with no member completed
abbrev pub after_group : Books → Submitted × (Group × Group) → Books
after_group books p =
    let held = released p.1.1.number (held_by p.0 p.1.1) books in
    if is_open p.1.0 then (if is_refunded p.1.0 p.1.1 then refunded p.1.1.number held else held) else books

-- each group, as it was submitted, as it was, and as it is
abbrev pub groups_along : DeskSeen → Progress → List (Submitted × (Group × Group))
groups_along d after = zip d.groups (zip d.progress.groups after.groups)

-- the refund of a group, where its ipp charge stands
abbrev pub refund_of : Books → Group × Group → Option GroupRefund
refund_of books p =
    if is_refunded p.0 p.1 then option_map (λ h. record { group = p.1.number; seconds = h.seconds }) (ipp_of p.1.number books.holds) else None

-- the refunds that are told, by group
abbrev pub refunds_of : DeskSeen → Progress → List GroupRefund
refunds_of d after = filter_map (refund_of d.books) (zip d.progress.groups after.groups)

-- the desk once its groups have come so far
abbrev pub with_progress : Progress → DeskSeen → DeskSeen
with_progress after d = record d { books = fold after_group d.books (groups_along d after); progress = after }
