-- What an accepted entry has beside `caller`, `line` and `version`: a word as `ok`, and its further members, in any order.
use Rattle.std.specs.Prelude.{ℕ, List, [], ◌∷◌, codes}
use Rattle.serde_json.specs.Data.{Data, string}
use Rattle.plan_base.specs.declared.number.RequestNo.{RequestNo}
use Rattle.plan_json.specs.Values.{Named, has, whole, list_of, object_of}
use Rattle.request_model.specs.Written.{group_data}
use Rattle.desk_events.specs.declared.reply.GroupRefund.{GroupRefund}
use Rattle.desk_events.specs.declared.reply.AccountBalance.{AccountBalance}
use Rattle.desk_events.specs.declared.reply.MemberState.{MemberState}
use Rattle.desk_events.specs.declared.reply.Reply.{Reply}
use Rattle.desk_events.specs.declared.reply.Reply.TheVariants as reply
use Rattle.desk_events.specs.Words.{state_word, account_word}
use Rattle.desk_events.specs.Refused.{members_of_refusal}
use Rattle.plan_doc.specs.Written.{claim_data, snapshot_data}

-- the word of acceptance, and further members
abbrev pub accepted : List ℕ → List Named → List Named
accepted word ms = has (codes "ok") (string word) ∷ ms

-- `[request,..]`
abbrev pub requests_data : List RequestNo → Data
requests_data rs = list_of (λ r. whole r.0) rs

-- `[group,seconds]`
abbrev pub refund_data : GroupRefund → Data
refund_data r = list_of whole (r.group.0 ∷ r.seconds ∷ [])

-- `[[group,seconds],..]`
abbrev pub refunds_data : List GroupRefund → Data
refunds_data rs = list_of refund_data rs

-- an account: its proposal, its word, its instrument type, its balance and what is available of it, in seconds
abbrev pub balance_data : AccountBalance → Data
balance_data b =
    object_of
    (has (codes "account") (string (account_word b.key.account))
    ∷ has (codes "available") (whole b.available)
    ∷ has (codes "balance") (whole b.balance)
    ∷ has (codes "instrument_type") (string b.key.instrument)
    ∷ has (codes "proposal") (string b.key.proposal)
    ∷ [])

-- a request of a group: its number, and the word for its state
abbrev pub member_state_data : MemberState → Data
member_state_data m = object_of (has (codes "request") (whole m.request.0) ∷ has (codes "state") (string (state_word m.state)) ∷ [])

-- the members that tell a reply: the word of acceptance and what it says, or those of the refusal
abbrev pub members_of_reply : Reply → List Named
members_of_reply reply.Opened = accepted (codes "opened") []
members_of_reply reply.Instrument = accepted (codes "instrument") []
members_of_reply (reply.Telescope telescope) = accepted (codes "telescope") (has (codes "telescope") (whole telescope.0) ∷ [])
members_of_reply reply.Night = accepted (codes "night") []
members_of_reply reply.Visibility = accepted (codes "visibility") []
members_of_reply reply.Closed = accepted (codes "closed") []
members_of_reply reply.Reopened = accepted (codes "reopened") []
members_of_reply (reply.Granted balance) = accepted (codes "granted") (has (codes "balance") (whole balance) ∷ [])
members_of_reply (reply.Submitted group ipp_charged requests) =
    accepted (codes "submitted") (has (codes "group") (whole group.0) ∷ has (codes "ipp_charged") (whole ipp_charged)
    ∷ has (codes "requests") (requests_data requests) ∷ [])
members_of_reply (reply.Amended group ipp_charged refunded replaces requests) =
    accepted (codes "amended")
    (has (codes "group") (whole group.0)
    ∷ has (codes "ipp_charged") (whole ipp_charged)
    ∷ has (codes "requests") (requests_data requests)
    ∷ has (codes "replaces") (whole replaces.0)
    ∷ has (codes "refunded") (refunds_data refunded)
    ∷ [])
members_of_reply (reply.Withdrawn refunded) = accepted (codes "withdrawn") (has (codes "refunded") (refunds_data refunded) ∷ [])
members_of_reply (reply.Clocked expired failed refunded started) =
    accepted (codes "clocked")
    (has (codes "expired") (requests_data expired)
    ∷ has (codes "failed") (requests_data failed)
    ∷ has (codes "refunded") (refunds_data refunded)
    ∷ has (codes "started") (requests_data started)
    ∷ [])
members_of_reply (reply.Completed canceled charged) =
    accepted (codes "completed") (has (codes "canceled") (requests_data canceled) ∷ has (codes "charged") (whole charged) ∷ [])
members_of_reply (reply.Failed expired refunded) =
    accepted (codes "failed") (has (codes "expired") (requests_data expired) ∷ has (codes "refunded") (refunds_data refunded) ∷ [])
members_of_reply reply.Taken = accepted (codes "taken") []
members_of_reply (reply.Published claim) = accepted (codes "published") (has (codes "claim") (claim_data claim) ∷ [])
members_of_reply (reply.Exported claim snapshot) =
    accepted (codes "exported") (has (codes "claim") (claim_data claim) ∷ has (codes "snapshot") (snapshot_data snapshot) ∷ [])
members_of_reply (reply.Balances balances) = accepted (codes "balances") (has (codes "balances") (list_of balance_data balances) ∷ [])
members_of_reply (reply.Shown document group requests state) =
    accepted (codes "shown")
    (has (codes "document") (group_data document)
    ∷ has (codes "group") (whole group.0)
    ∷ has (codes "requests") (list_of member_state_data requests)
    ∷ has (codes "state") (string (state_word state))
    ∷ [])
members_of_reply (reply.Refused refusal) = members_of_refusal refusal
