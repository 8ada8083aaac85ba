-- What an entry tells, from its object.
use Rattle.std.proofs.Common.{◌≡◌, ℕ, List, [], Option, Some, Bool, unwrap_or, is_some, cond, bytes_eq, codes, Result, Ok, Err, refl, sym, ap, ap₂, ◌∙◌}
use Rattle.std.specs.Prelude.{option_and_then}
use Rattle.serde_json.specs.Data.{Data, null, no_members}
use Rattle.serde_json.specs.Find.{get, as_object}
use Rattle.plan_base.specs.declared.parts.Op.TheVariants as op
use Rattle.plan_base.specs.declared.number.GroupNo.{GroupNo}
use Rattle.plan_base.specs.declared.number.RequestNo.{RequestNo}
use Rattle.plan_json.specs.Reading.{result_map}
use Rattle.request_model.specs.declared.fault.GroupFault.{GroupFault}
use Rattle.request_model.specs.declared.group.GroupDoc.{GroupDoc}
use Rattle.request_model.specs.declared.group.ObsKind.TheVariants as kind
use Rattle.request_model.specs.Group.{group_of}
use Rattle.request_model.specs.Ranges.{IsGroup}
use Rattle.request_model.specs.Written.{group_data}
use Rattle.request_model.proofs.BackGroup.{groups_are_read_back}
use Rattle.plan_doc.proofs.Inverse.{claim_in, claim_inverse, snapshot_in, snapshot_inverse}
use Rattle.desk_events.specs.declared.entry.EventEntry.{EventEntry}
use Rattle.desk_events.specs.declared.refusal.Refusal.{Refusal}
use Rattle.desk_events.specs.declared.reply.Reply.{Reply}
use Rattle.desk_events.specs.Refused.{members_of_refusal}
use Rattle.desk_events.specs.declared.reply.Reply.TheVariants as reply
use Rattle.desk_events.specs.declared.reply.GroupRefund.{GroupRefund}
use Rattle.desk_events.specs.Words.{state_word}
use Rattle.desk_events.specs.Replied.{balance_data, member_state_data}
use Rattle.desk_events.specs.Entry.{data_with, data_of_reply, data_of_entry}
use Rattle.desk_events.specs.Laws.{ShowsGroup, told}
use Rattle.desk_events.proofs.WordsBack.{whole_at, text_at, list_at, state_in, state_back, request_in, requests_back, refund_in, refunds_back}
use Rattle.desk_events.proofs.WordsBack.{balance_in, balance_back, each_back, member_state_in, member_state_back}
use Rattle.desk_events.proofs.RefusalsBack.{refused_in, refusal_back, head_in, head_of, head_back}

-- ---- documents

abbrev no_group : GroupDoc
no_group = record { name = []; proposal = []; op = op.Single; kind = kind.Normal; ipp = 0; priority = 0; requests = [] }

abbrev group_or_none : Result GroupDoc GroupFault → GroupDoc
group_or_none (Ok g) = g
group_or_none (Err e) = no_group

abbrev document_in : Option Data → GroupDoc
document_in d = group_or_none (group_of (unwrap_or (option_and_then as_object d) no_members))

document_back : (g : GroupDoc) → IsGroup g → document_in (Some (group_data g)) ≡ g
document_back g h = ap group_or_none (groups_are_read_back g h)

-- ---- replies

abbrev number_at : List ℕ → Data → ℕ
number_at name d = whole_at (get name d)

abbrev requests_at : List ℕ → Data → List RequestNo
requests_at name d = list_at request_in (get name d)

abbrev refunds_at : List ℕ → Data → List GroupRefund
refunds_at name d = list_at refund_in (get name d)

abbrev group_at : List ℕ → Data → GroupNo
group_at name d = record { 0 = number_at name d }

abbrev accepted_in : List ℕ → Data → Reply
accepted_in s d =
    cond (bytes_eq s (codes "opened")) reply.Opened (
    cond (bytes_eq s (codes "instrument")) reply.Instrument (
    cond (bytes_eq s (codes "telescope")) (reply.Telescope (record { 0 = number_at (codes "telescope") d })) (
    cond (bytes_eq s (codes "night")) reply.Night (
    cond (bytes_eq s (codes "visibility")) reply.Visibility (
    cond (bytes_eq s (codes "closed")) reply.Closed (
    cond (bytes_eq s (codes "reopened")) reply.Reopened (
    cond (bytes_eq s (codes "granted")) (reply.Granted (number_at (codes "balance") d)) (
    cond (bytes_eq s (codes "submitted"))
    (reply.Submitted (group_at (codes "group") d) (number_at (codes "ipp_charged") d) (requests_at (codes "requests") d)) (
    cond (bytes_eq s (codes "amended"))
    (reply.Amended (group_at (codes "group") d) (number_at (codes "ipp_charged") d) (refunds_at (codes "refunded") d)
    (group_at (codes "replaces") d) (requests_at (codes "requests") d)) (
    cond (bytes_eq s (codes "withdrawn")) (reply.Withdrawn (refunds_at (codes "refunded") d)) (
    cond (bytes_eq s (codes "clocked"))
    (reply.Clocked (requests_at (codes "expired") d) (requests_at (codes "failed") d) (refunds_at (codes "refunded") d)
    (requests_at (codes "started") d)) (
    cond (bytes_eq s (codes "completed")) (reply.Completed (requests_at (codes "canceled") d) (number_at (codes "charged") d)) (
    cond (bytes_eq s (codes "failed")) (reply.Failed (requests_at (codes "expired") d) (refunds_at (codes "refunded") d)) (
    cond (bytes_eq s (codes "taken")) reply.Taken (
    cond (bytes_eq s (codes "published")) (reply.Published (claim_in (unwrap_or (get (codes "claim") d) null))) (
    cond (bytes_eq s (codes "exported"))
    (reply.Exported (claim_in (unwrap_or (get (codes "claim") d) null)) (snapshot_in (unwrap_or (get (codes "snapshot") d) null))) (
    cond (bytes_eq s (codes "balances")) (reply.Balances (list_at balance_in (get (codes "balances") d)))
    (reply.Shown (document_in (get (codes "document") d)) (group_at (codes "group") d) (list_at member_state_in (get (codes "requests") d))
    (state_in (text_at (get (codes "state") d)))))))))))))))))))))

abbrev reply_in : Data → Reply
reply_in d = cond (is_some (get (codes "ok") d)) (accepted_in (text_at (get (codes "ok") d)) d) (reply.Refused (refused_in d))

abbrev entry_in : Data → ℕ × ℕ × ℕ × Reply
entry_in d = (number_at (codes "caller") d, number_at (codes "line") d, number_at (codes "version") d, reply_in d)

abbrev IsBack : EventEntry → Reply → Type 0
IsBack e r = entry_in (data_of_reply e r) ≡ (e.caller, e.line, e.version, r)

abbrev with_reply : EventEntry → Reply → ℕ × ℕ × ℕ × Reply
with_reply e r = (e.caller, e.line, e.version, r)

-- the head of a refused entry, and then its refusal
refused_back : (e : EventEntry) (r : Refusal) → IsBack e (reply.Refused r)
refused_back e r =
    let d : Data = data_with e (members_of_refusal r) in
    ap (λ (h : ℕ × ℕ × ℕ × Bool). (h.0, h.1, h.2, cond h.3 (accepted_in (text_at (get (codes "ok") d)) d) (reply.Refused (refused_in d)))) (head_back e r)
    ∙ ap (λ (x : Refusal). with_reply e (reply.Refused x)) (refusal_back e r)

entry_back : (e : EventEntry) (r : Reply) → ShowsGroup r → IsBack e r
unfolding data_with
entry_back e reply.Opened h = refl
entry_back e reply.Instrument h = refl
entry_back e (reply.Telescope telescope) h = refl
entry_back e reply.Night h = refl
entry_back e reply.Visibility h = refl
entry_back e reply.Closed h = refl
entry_back e reply.Reopened h = refl
entry_back e (reply.Granted balance) h = refl
entry_back e (reply.Submitted group ipp_charged requests) h = ap (λ rs. with_reply e (reply.Submitted group ipp_charged rs)) (requests_back requests)
entry_back e (reply.Amended group ipp_charged refunded replaces requests) h =
    ap₂ (λ fs rs. with_reply e (reply.Amended group ipp_charged fs replaces rs)) (refunds_back refunded) (requests_back requests)
entry_back e (reply.Withdrawn refunded) h = ap (λ fs. with_reply e (reply.Withdrawn fs)) (refunds_back refunded)
entry_back e (reply.Clocked expired failed refunded started) h =
    ap₂ (λ xs fs. with_reply e (reply.Clocked xs (requests_at (codes "failed") (data_of_reply e (reply.Clocked expired failed refunded started))) fs
    (requests_at (codes "started") (data_of_reply e (reply.Clocked expired failed refunded started)))))
    (requests_back expired) (refunds_back refunded)
    ∙ ap₂ (λ xs ss. with_reply e (reply.Clocked expired xs refunded ss)) (requests_back failed) (requests_back started)
entry_back e (reply.Completed canceled charged) h = ap (λ rs. with_reply e (reply.Completed rs charged)) (requests_back canceled)
entry_back e (reply.Failed expired refunded) h = ap₂ (λ rs fs. with_reply e (reply.Failed rs fs)) (requests_back expired) (refunds_back refunded)
entry_back e reply.Taken h = refl
entry_back e (reply.Published claim) h = ap (λ c. with_reply e (reply.Published c)) (claim_inverse claim)
entry_back e (reply.Exported claim snapshot) h = ap₂ (λ c s. with_reply e (reply.Exported c s)) (claim_inverse claim) (snapshot_inverse snapshot)
entry_back e (reply.Balances balances) h = ap (λ bs. with_reply e (reply.Balances bs)) (each_back balance_in balance_data balance_back balances)
entry_back e (reply.Shown document group requests state) h =
    ap₂ (λ g ms. with_reply e (reply.Shown g group ms (state_in (state_word state)))) (document_back document h)
    (each_back member_state_in member_state_data member_state_back requests)
    ∙ ap (λ x. with_reply e (reply.Shown document group requests x)) (state_back state)
entry_back e (reply.Refused refusal) h = refused_back e refusal

pub same_entry : (d e : EventEntry) → ShowsGroup d.reply → ShowsGroup e.reply → data_of_entry d ≡ data_of_entry e → told d ≡ told e
same_entry d e g h same = sym (entry_back d d.reply g) ∙ ap entry_in same ∙ entry_back e e.reply h
