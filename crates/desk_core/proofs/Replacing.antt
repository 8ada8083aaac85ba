-- What is decided where a document takes a group's place.
use Rattle.std.proofs.Common.{◌≡◌, ◌≢◌, ◌∙◌, ap, sym, subst, refl, ◌+◌, ◌<◌, ◌≤◌, nat_lt, Bool, true, false, cond, List, [], ◌∷◌, ◌++◌, length, Some}
use Rattle.std.proofs.Common.{None, Result, Ok, Err}
use Rattle.std.specs.List.{zip}
use Rattle.std.specs.Option.{option_or}
use Rattle.std.specs.Prelude.{option_and_then}
use Rattle.std.specs.Result.{IsErrAnd, result_err}
use Rattle.std.proofs.lemmas.Bool.{lt-ltb}
use Rattle.plan_base.specs.declared.number.GroupNo.{GroupNo}
use Rattle.request_model.specs.declared.group.GroupDoc.{GroupDoc}
use Rattle.allocations.specs.Books.{Books}
use Rattle.allocations.specs.Changes.{freed, booked}
use Rattle.allocations.specs.Refusals.{refusal_of}
use Rattle.allocations.specs.declared.entry.Hold.{Hold}
use Rattle.desk_runs.specs.declared.group.Group.{Group}
use Rattle.desk_runs.specs.Adding.{with_group}
use Rattle.desk_runs.specs.Owners.{pending_count}
use Rattle.desk_runs.specs.Progress.{Progress}
use Rattle.desk_runs.specs.Reports.{withdrawn}
use Rattle.desk_runs.proofs.Commuting.{withdrawal_commutes}
use Rattle.desk_events.specs.declared.fault.CommandFault.{CommandFault}
use Rattle.desk_events.specs.declared.fault.CommandFault.TheVariants.{Refused, NoMemory}
use Rattle.desk_events.specs.declared.refusal.FullOf.TheVariants.{Requests, Targets}
use Rattle.desk_events.specs.declared.refusal.Refusal.{Refusal}
use Rattle.desk_events.specs.declared.refusal.Refusal.TheVariants.{Full}
use Rattle.desk_events.specs.declared.reply.GroupRefund.{GroupRefund}
use Rattle.desk_events.specs.declared.reply.Reply.{Reply}
use Rattle.desk_events.specs.declared.reply.Reply.TheVariants.{Amended}
use Rattle.desk_core.specs.declared.desk.Wanted.{Wanted}
use Rattle.desk_core.specs.declared.submitting.NewGroup.{NewGroup}
use Rattle.desk_core.specs.Desk.{DeskSeen, Decision, Decides}
use Rattle.desk_core.specs.Kept.{IsDesk}
use Rattle.desk_core.specs.Refusals.{refusal_in, refusal_of_ledger}
use Rattle.desk_core.specs.Holds.{needs_of, holds_of, ipp_charge}
use Rattle.desk_core.specs.Targets.{with_targets}
use Rattle.desk_core.specs.Asking.{MadeSeen}
use Rattle.desk_core.specs.Submitting.{targets_with, wanted_for, asks_of, op_of, group_of, holds_for, charge_for, submitted_of, submission_refusal}
use Rattle.desk_core.specs.Submitting.{with_submission, on_made}
use Rattle.desk_core.specs.Making.{new_group}
use Rattle.desk_core.specs.Closing.{without_group, amended_reply, refund_for}
use Rattle.desk_core.proofs.Amendments.{next_without, IsFreed}
use Rattle.desk_core.proofs.Submissions.{only_ledger}

-- ---- refusals

-- an error whose refusal is decided, or for want of memory, and after which all is as before
pub refused_as : (decision : Decision) (d after : DeskSeen) (fault : CommandFault) → (fault ≢ NoMemory → decision.refusal ≡ refusal_in fault)
    → after ≡ d → Decides decision d after (Err fault)
refused_as decision d after NoMemory refused same = record { ok = tt; refused = λ memory. absurd (memory refl); unchanged = same }
refused_as decision d after (Refused r) refused same = record { ok = tt; refused = λ memory. (r, refused memory, refl); unchanged = same }

-- a document that is refused
pub not_made : (d : DeskSeen) (document : GroupDoc) (r : Result (List MadeSeen) Refusal) (fault : CommandFault) → fault ≢ NoMemory
    → result_err r ≡ refusal_in fault → (on_made d document r).refusal ≡ refusal_in fault
not_made d document (Err refusal) fault memory e = e
not_made d document (Ok made) NoMemory memory e = absurd (memory refl)
not_made d document (Ok made) (Refused r) memory e = absurd (cc)

-- it is passed on
pub passed_on : (decision : Decision) (d after : DeskSeen) (fault : CommandFault) (result : Result Reply CommandFault)
    → IsErrAnd result (λ f. f ≡ fault) → Decides decision d after (Err fault) → Decides decision d after result
passed_on decision d after fault (Ok reply) is h = absurd is
passed_on decision d after fault (Err f) is h = subst (λ (x : CommandFault). Decides decision d after (Err x)) (sym is) h

-- ---- the group is the same without the old one

same_group : (d : DeskSeen) (n : GroupNo) (document : GroupDoc) (made : List MadeSeen) → group_of (without_group n d) document made ≡ group_of d document made
same_group d n document made = next_without (op_of document made) (asks_of made) d.progress n

same_holds : (d : DeskSeen) (n : GroupNo) (document : GroupDoc) (made : List MadeSeen) → holds_for (without_group n d) document made ≡ holds_for d document made
same_holds d n document made = ap (λ (g : Group). holds_of g.op (needs_of document (zip g.requests (wanted_for d document made))))
    (same_group d n document made)

-- ---- what is refused

pub requests_full : (d : DeskSeen) (n : GroupNo) (document : GroupDoc) (made : List MadeSeen)
    → nat_lt 1024 (pending_count (withdrawn n d.progress).groups + length made) ≡ true
    → submission_refusal (without_group n d) document made ≡ Some (Full 1024 Requests)
requests_full d n document made over =
    ap (λ (b : Bool). option_or (cond b (Some (Full 1024 Requests)) None)
    (option_or (cond (nat_lt 2048 (length (targets_with d document))) (Some (Full 2048 Targets)) None)
    (option_and_then refusal_of_ledger
    (refusal_of (without_group n d).books (holds_for (without_group n d) document made) (charge_for (without_group n d) document made))))) over

pub targets_full : (d : DeskSeen) (n : GroupNo) (document : GroupDoc) (made : List MadeSeen)
    → nat_lt 1024 (pending_count (withdrawn n d.progress).groups + length made) ≡ false → 2048 < length (targets_with d document)
    → submission_refusal (without_group n d) document made ≡ Some (Full 2048 Targets)
targets_full d n document made room over =
    let last = option_and_then refusal_of_ledger
    (refusal_of (without_group n d).books (holds_for (without_group n d) document made) (charge_for (without_group n d) document made)) in
    let many : nat_lt 2048 (length (targets_with d document)) ≡ true = lt-ltb 2048 (length (targets_with d document)) over in
    ap (λ (b : Bool). option_or (cond b (Some (Full 1024 Requests)) None)
    (option_or (cond (nat_lt 2048 (length (targets_with d document))) (Some (Full 2048 Targets)) None) last)) room
    ∙ ap (λ (b : Bool). option_or (cond b (Some (Full 2048 Targets)) None) last) many

pub ledger_only : (d : DeskSeen) (n : GroupNo) (document : GroupDoc) (made : List MadeSeen) → IsFreed d n
    → nat_lt 1024 (pending_count (withdrawn n d.progress).groups + length made) ≡ false → length (targets_with d document) ≤ 2048
    → submission_refusal (without_group n d) document made ≡ option_and_then refusal_of_ledger
    (refusal_of (freed n d.books) (holds_for d document made) (charge_for d document made))
ledger_only d n document made f room few =
    only_ledger (without_group n d) document made room few
    ∙ ap (λ (b : Books). option_and_then refusal_of_ledger
    (refusal_of b (holds_for (without_group n d) document made) (charge_for (without_group n d) document made))) f.books
    ∙ ap (λ (hs : List Hold). option_and_then refusal_of_ledger (refusal_of (freed n d.books) hs (ipp_charge document.ipp hs))) (same_holds d n document made)

-- ---- what is replied and left

pub replied : (d : DeskSeen) (n : GroupNo) (document : GroupDoc) (made : List MadeSeen) (new : NewGroup) (refunded : List GroupRefund)
    (f : IsFreed d n) → new ≡ new_group document (wanted_for d document made) (group_of d document made) → refunded ≡ refund_for n f.submitted.charged
    → Amended new.number new.submitted.charged refunded n new.requests ≡ amended_reply d n document made
replied d n document made new refunded f is told =
    let of : Group → List GroupRefund → Reply = λ g r. let x = new_group document (wanted_for d document made) g in
    Amended x.number x.submitted.charged r n x.requests in
    ap (λ (x : NewGroup). Amended x.number x.submitted.charged refunded n x.requests) is
    ∙ ap (λ (g : Group). of g refunded) (sym (same_group d n document made)) ∙ ap (of (group_of (without_group n d) document made)) (told ∙ sym f.refunds)

pub left : (d : DeskSeen) (n : GroupNo) (document : GroupDoc) (made : List MadeSeen) → IsDesk d → IsFreed d n
    → (let x : DeskSeen = record d {
      network = with_targets (targets_with d document) d.network;
      books = booked (group_of d document made).number (holds_for d document made) (charge_for d document made) (freed n d.books);
      groups = d.groups ++ submitted_of d document made ∷ [];
      progress = withdrawn n (with_group (op_of document made) (asks_of made) d.progress);
    } in x) ≡ with_submission (without_group n d) document made
left d n document made h f =
    let wanted : List Wanted = wanted_for d document made in
    let of : Group → Books → Progress → DeskSeen = λ g b p. let new = new_group document wanted g in record d {
      network = with_targets (targets_with d document) d.network;
      books = booked new.number new.holds new.submitted.charged b;
      groups = d.groups ++ new.submitted ∷ [];
      progress = p;
    } in
    let group : Group = group_of (without_group n d) document made in
    let after : Progress = withdrawn n (with_group (op_of document made) (asks_of made) d.progress) in
    ap (λ (g : Group). of g (freed n d.books) after) (sym (same_group d n document made))
    ∙ ap (λ (b : Books). of group b after) (sym f.books)
    ∙ ap (of group (without_group n d).books) (withdrawal_commutes d.progress n (op_of document made) (asks_of made) h.sound f.high)
