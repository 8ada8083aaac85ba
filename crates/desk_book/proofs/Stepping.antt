-- What a step leaves, and which claim it tells.
use Rattle.std.proofs.Common.{◌≡◌, ◌∙◌, ℕ, ◌+◌, ◌≤◌, Bool, true, false, not, cond, ◌==◌, nat_lt, nat_le, refl, ap, sym, subst, Option, Some, None}
use Rattle.std.proofs.Common.{Result, Ok, Err}
use Rattle.std.proofs.Common.{IfSome, pos, ◌≤ℤ◌, List, arith}
use Rattle.std.proofs.lemmas.Bool.{eqb-true}
use Rattle.std.proofs.lemmas.Int.{ints}
use Rattle.plan_base.specs.declared.claim.Claim.{Claim}
use Rattle.plan_base.specs.declared.claim.Placement.{Placement}
use Rattle.plan_base.specs.declared.parts.Parts.{Parts}
use Rattle.plan_base.specs.declared.verdict.Verdict.{Verdict}
use Rattle.plan_base.specs.declared.verdict.Verdict.TheVariants.{Yes, No}
use Rattle.plan_base.specs.Snapshot.{IsOrderly}
use Rattle.plan_base.specs.Starts.{value_of_plan}
use Rattle.plan_base.specs.Feasible.{IsFeasible}
use Rattle.plan_base.specs.Verdict.{IsVerdict, IsCertified}
use Rattle.plan_base.proofs.Duality.{duality}
use Rattle.site_model.specs.declared.changes.Change.TheVariants.{Close, Reopen}
use Rattle.desk_runs.specs.declared.group.Request.{Request}
use Rattle.desk_events.specs.declared.command.Command.{Command}
use Rattle.desk_events.specs.declared.command.Command.TheVariants as command
use Rattle.desk_events.specs.declared.fault.CommandFault.{CommandFault}
use Rattle.desk_events.specs.declared.refusal.Refusal.{Refusal}
use Rattle.desk_events.specs.declared.refusal.Refusal.TheVariants.{Stale, Rejected, AlreadyOpened, NotRunning, UsedTooLong}
use Rattle.desk_events.specs.declared.reply.Reply.{Reply}
use Rattle.desk_events.specs.declared.reply.Reply.TheVariants as reply
use Rattle.desk_core.specs.declared.desk.Submitted.{Submitted}
use Rattle.desk_core.specs.declared.desk.Wanted.{Wanted}
use Rattle.request_model.specs.declared.group.GroupDoc.{GroupDoc}
use Rattle.plan_base.specs.declared.number.RequestNo.{RequestNo}
use Rattle.desk_core.specs.Asking.{MadeSeen, made_of}
use Rattle.desk_core.specs.Desk.{DeskSeen, StateSeen, Stepped, Decision, refused, decided, told}
use Rattle.desk_core.specs.DeskSnapshot.{snapshot_of}
use Rattle.desk_core.specs.Registering.{times, on_instrument, on_telescope, on_night, on_visibility, on_closure, on_grant}
use Rattle.desk_core.specs.Submitting.{on_submit, on_made}
use Rattle.desk_core.specs.Closing.{on_withdraw, on_amend}
use Rattle.desk_core.specs.Timing.{on_clock, on_report, on_reported, on_refused, on_completed, on_failed}
use Rattle.desk_core.specs.Publication.{PublicationSeen, IsCheckable}
use Rattle.desk_core.specs.Publishing.{with_publication, rejection}
use Rattle.desk_core.specs.Showing.{on_export, on_balances, on_show, shown_group}
use Rattle.desk_core.specs.Refusals.{refusal_in}
use Rattle.desk_runs.specs.declared.group.Group.{Group}
use Rattle.desk_runs.specs.Numbers.{is_placed}
use Rattle.desk_core.specs.Timing.{request_with}
use Rattle.desk_core.specs.Step.{step_by, step_unopened, IsAsked, IsStep, IsSnapshotOf, opened}
use Rattle.desk_core.specs.History.{IsPlanning, verdict_told, left_by, after_line}
use Rattle.desk_core.proofs.Publications.{certified_by}
use Rattle.desk_book.specs.Claims.{IsBoundedClaim}
use Rattle.desk_book.specs.Doing.{IsStepDone}

-- ---- the verdict that a reply tells

same_Some : {A : Type 0} (a b : A) → Some a ≡ Some b → a ≡ b
same_Some a b h = cc

-- the verdict on a claim for the current version is told by its reply, and no other step asks for one
publish_told : (s : StateSeen) (d e : DeskSeen) (b : Bool) (v : Verdict) (stale : Refusal) (claim : Claim) (stepped : Stepped)
    → Some (decided s record { refusal = cond b (rejection v) (Some stale); reply = reply.Published claim; desk = e }) ≡ Some stepped
    → Some (decided s record { refusal = cond b (rejection (verdict_told stepped.reply)) (Some stale); reply = reply.Published claim; desk = e }) ≡ Some stepped
publish_told s d e false v stale claim stepped h = h
publish_told s d e true (Yes value bound) stale claim stepped h =
    let told : reply.Published claim ≡ stepped.reply = ap (λ (x : Stepped). x.reply) (same_Some _ stepped h) in
    subst (λ (r : Reply). Some (decided s record { refusal = rejection (verdict_told r); reply = reply.Published claim; desk = e }) ≡ Some stepped) told h
publish_told s d e true (No reason) stale claim stepped h =
    let told : reply.Refused (Rejected reason) ≡ stepped.reply = ap (λ (x : Stepped). x.reply) (same_Some _ stepped h) in
    subst (λ (r : Reply). Some (decided s record { refusal = rejection (verdict_told r); reply = reply.Published claim; desk = e }) ≡ Some stepped) told h

told_by : (v : Verdict) (s : StateSeen) (o : Option DeskSeen) (c : Command) (stepped : Stepped) → step_by v s o c ≡ Some stepped
    → step_by (verdict_told stepped.reply) s o c ≡ Some stepped
told_by v s None c stepped h = h
told_by v s (Some d) (command.Open now slice horizon semester lanes rounds workers quota) stepped h = h
told_by v s (Some d) (command.Instrument name front config readout change) stepped h = h
told_by v s (Some d) (command.Telescope site enclosure telescope class instruments) stepped h = h
told_by v s (Some d) (command.Night site spans) stepped h = h
told_by v s (Some d) (command.Visibility target site spans) stepped h = h
told_by v s (Some d) (command.Close scope spans) stepped h = h
told_by v s (Some d) (command.Reopen scope spans) stepped h = h
told_by v s (Some d) (command.Grant key seconds) stepped h = h
told_by v s (Some d) (command.Submit document) stepped h = h
told_by v s (Some d) (command.Amend old document) stepped h = h
told_by v s (Some d) (command.Withdraw group) stepped h = h
told_by v s (Some d) (command.Clock at) stepped h = h
told_by v s (Some d) (command.Report request percent used) stepped h = h
told_by v s (Some d) command.Plan stepped h = h
told_by v s (Some d) (command.Publish asked claim) stepped h =
    publish_told s d (with_publication s.version claim d) (asked == s.version) v (Stale asked s.version) claim stepped h
told_by v s (Some d) command.Export stepped h = h
told_by v s (Some d) command.Balances stepped h = h
told_by v s (Some d) (command.Show group) stepped h = h

-- the state that a step leaves is that after its line
pub step_left : (s : StateSeen) (c : Command) (stepped : Stepped) → IsStep s c stepped → after_line s (Ok c) stepped.reply ≡ stepped.state
step_left s c stepped h = ap (left_by s) (told_by h.0 s s.desk c stepped h.2)

-- ---- which step tells a claim

-- the claim that a reply publishes, or exports with its snapshot
abbrev claim_in : Reply → Option (Claim × Option Parts)
claim_in (reply.Published claim) = Some (claim, None)
claim_in (reply.Exported claim snapshot) = Some (claim, Some snapshot)
claim_in _ = None

-- a command is that of a claim for the current version
abbrev IsCurrent : Verdict → StateSeen → Option DeskSeen → Command → Claim → Stepped → Type 0
IsCurrent v s o c claim stepped =
    (d : DeskSeen) × (o ≡ Some d) × ((asked : ℕ) × (c ≡ command.Publish asked claim) × (asked ≡ s.version) × (rejection v ≡ None))
    × (stepped.state ≡ opened (s.version + 1) (with_publication s.version claim d))

-- a claim and its snapshot are the last publication
abbrev IsLast : StateSeen → Option DeskSeen → Claim → Parts → Stepped → Type 0
IsLast s o claim parts stepped = (d : DeskSeen) × (o ≡ Some d) × (d.published ≡ Some record { snapshot = parts; claim = claim }) × (stepped.state ≡ s)

-- where a claim comes from
abbrev Comes : Verdict → StateSeen → Option DeskSeen → Command → Stepped → Claim × Option Parts → Type 0
Comes v s o c stepped (claim, None) = IsCurrent v s o c claim stepped
Comes v s o c stepped (claim, Some parts) = IsLast s o claim parts stepped

decided_plain : (s : StateSeen) (refusal : Option Refusal) (r : Reply) (e : DeskSeen) → claim_in r ≡ None
    → claim_in (decided s record { refusal = refusal; reply = r; desk = e }).reply ≡ None
decided_plain s None r e h = h
decided_plain s (Some refusal) r e h = refl

-- the claim that a step tells
told_claim : (now stepped : Stepped) (x : Claim × Option Parts) → Some now ≡ Some stepped → claim_in stepped.reply ≡ Some x → claim_in now.reply ≡ Some x
told_claim now stepped x is e = ap (λ (y : Stepped). claim_in y.reply) (same_Some now stepped is) ∙ e

-- no other step tells one
other : {X : Type 0} (now stepped : Stepped) (x : Claim × Option Parts) → claim_in now.reply ≡ None → Some now ≡ Some stepped
    → claim_in stepped.reply ≡ Some x → X
other now stepped x plain is e =
    let clash : ◌≡◌ {A = Option (Claim × Option Parts)} None (Some x) = sym plain ∙ told_claim now stepped x is e in
    absurd (cc)

by_decision : {X : Type 0} (s : StateSeen) (decision : Decision) (stepped : Stepped) (x : Claim × Option Parts) → claim_in decision.reply ≡ None
    → Some (decided s decision) ≡ Some stepped
    → claim_in stepped.reply ≡ Some x → X
by_decision s decision stepped x plain is e = other (decided s decision) stepped x (decided_plain s decision.refusal decision.reply decision.desk plain) is e

made_plain : (d : DeskSeen) (document : GroupDoc) (r : Result (List MadeSeen) Refusal) → claim_in (on_made d document r).reply ≡ None
made_plain d document (Ok made) = refl
made_plain d document (Err refusal) = refl

reported_by : (d : DeskSeen) (request : RequestNo) (percent used : ℕ) (p : Submitted × (Request × Wanted)) (a b c : Bool)
    → claim_in
    (cond (not a) (on_refused d request NotRunning)
    (cond b (on_refused d request (UsedTooLong p.1.0.seconds used)) (cond c (on_completed d request used p.0 p.1.1) (on_failed d request)))).reply
    ≡ None
reported_by d request percent used p false b c = refl
reported_by d request percent used p true true c = refl
reported_by d request percent used p true false true = refl
reported_by d request percent used p true false false = refl

reported_plain : (d : DeskSeen) (request : RequestNo) (percent used : ℕ) (o : Option (Submitted × (Request × Wanted)))
    → claim_in (on_reported d request percent used o).reply ≡ None
reported_plain d request percent used None = refl
reported_plain d request percent used (Some p) = reported_by d request percent used p (is_placed d.progress.running request)
    (nat_lt p.1.0.seconds used) (nat_le p.1.1.threshold percent)

shown_plain : (s : StateSeen) (o : Option (Submitted × Group)) → claim_in (told s (shown_group o)).reply ≡ None
shown_plain s None = refl
shown_plain s (Some p) = refl

unopened_plain : (s : StateSeen) (c : Command) → claim_in (step_unopened s c).reply ≡ None
unopened_plain s (command.Open now slice horizon semester lanes rounds workers quota) = refl
unopened_plain s (command.Instrument name front config readout change) = refl
unopened_plain s (command.Telescope site enclosure telescope class instruments) = refl
unopened_plain s (command.Night site spans) = refl
unopened_plain s (command.Visibility target site spans) = refl
unopened_plain s (command.Close scope spans) = refl
unopened_plain s (command.Reopen scope spans) = refl
unopened_plain s (command.Grant key seconds) = refl
unopened_plain s (command.Submit document) = refl
unopened_plain s (command.Amend old document) = refl
unopened_plain s (command.Withdraw group) = refl
unopened_plain s (command.Clock at) = refl
unopened_plain s (command.Report request percent used) = refl
unopened_plain s command.Plan = refl
unopened_plain s (command.Publish asked claim) = refl
unopened_plain s command.Export = refl
unopened_plain s command.Balances = refl
unopened_plain s (command.Show group) = refl

publish_is : (s : StateSeen) (d : DeskSeen) (b : Bool) (v : Verdict) (asked : ℕ) (sent : Claim) (stepped : Stepped) (x : Claim × Option Parts)
    → (asked == s.version) ≡ b
    → Some (decided s record {
      refusal = cond b (rejection v) (Some (Stale asked s.version));
      reply = reply.Published sent;
      desk = with_publication s.version sent d;
    }) ≡ Some stepped
    → claim_in stepped.reply ≡ Some x → Comes v s (Some d) (command.Publish asked sent) stepped x
publish_is s d false v asked sent stepped x at h e = other (refused s (Stale asked s.version)) stepped x refl h e
publish_is s d true (No reason) asked sent stepped x at h e = other (refused s (Rejected reason)) stepped x refl h e
publish_is s d true (Yes value bound) asked sent stepped x at h e =
    let one : (sent, None) ≡ x = same_Some (sent, None) x (told_claim _ stepped x h e) in
    let left : stepped.state ≡ opened (s.version + 1) (with_publication s.version sent d) = sym (ap (λ (y : Stepped). y.state) (same_Some _ stepped h)) in
    subst (Comes (Yes value bound) s (Some d) (command.Publish asked sent) stepped) one (d, refl, (asked, refl, eqb-true asked s.version at, refl), left)

export_is : (v : Verdict) (s : StateSeen) (d : DeskSeen) (o : Option PublicationSeen) (stepped : Stepped) (x : Claim × Option Parts) → d.published ≡ o
    → Some (told s (on_export o)) ≡ Some stepped
    → claim_in stepped.reply ≡ Some x → Comes v s (Some d) command.Export stepped x
export_is v s d None stepped x last h e = other (told s (on_export None)) stepped x refl h e
export_is v s d (Some p) stepped x last h e =
    let one : (p.claim, Some p.snapshot) ≡ x = same_Some (p.claim, Some p.snapshot) x (told_claim _ stepped x h e) in
    let left : stepped.state ≡ s = sym (ap (λ (y : Stepped). y.state) (same_Some _ stepped h)) in
    subst (Comes v s (Some d) command.Export stepped) one (d, refl, last, left)

-- where the claim of a step comes from
comes : (v : Verdict) (s : StateSeen) (o : Option DeskSeen) (c : Command) (stepped : Stepped) (x : Claim × Option Parts)
    → step_by v s o c ≡ Some stepped → claim_in stepped.reply ≡ Some x
    → Comes v s o c stepped x
comes v s None c stepped x h e = other (step_unopened s c) stepped x (unopened_plain s c) h e
comes v s (Some d) (command.Open now slice horizon semester lanes rounds workers quota) stepped x h e = other (refused s AlreadyOpened) stepped x refl h e
comes v s (Some d) (command.Instrument name front config readout change) stepped x h e =
    by_decision s (on_instrument d name (times front config readout change)) stepped x refl h e
comes v s (Some d) (command.Telescope site enclosure telescope class instruments) stepped x h e =
    by_decision s (on_telescope d record { site = site; enclosure = enclosure; telescope = telescope } class instruments) stepped x refl h e
comes v s (Some d) (command.Night site spans) stepped x h e = by_decision s (on_night d site spans) stepped x refl h e
comes v s (Some d) (command.Visibility target site spans) stepped x h e = by_decision s (on_visibility d target site spans) stepped x refl h e
comes v s (Some d) (command.Close scope spans) stepped x h e = by_decision s (on_closure d Close scope spans reply.Closed) stepped x refl h e
comes v s (Some d) (command.Reopen scope spans) stepped x h e = by_decision s (on_closure d Reopen scope spans reply.Reopened) stepped x refl h e
comes v s (Some d) (command.Grant key seconds) stepped x h e = by_decision s (on_grant d key seconds) stepped x refl h e
comes v s (Some d) (command.Submit document) stepped x h e = by_decision s (on_submit d document) stepped x (made_plain d document (made_of d document)) h e
comes v s (Some d) (command.Amend old document) stepped x h e = by_decision s (on_amend d old document) stepped x refl h e
comes v s (Some d) (command.Withdraw group) stepped x h e = by_decision s (on_withdraw d group) stepped x refl h e
comes v s (Some d) (command.Clock at) stepped x h e = by_decision s (on_clock d at) stepped x refl h e
comes v s (Some d) (command.Report request percent used) stepped x h e =
    by_decision s (on_report d request percent used) stepped x (reported_plain d request percent used (request_with d request)) h e
comes v s (Some d) command.Plan stepped x h e = absurd (cc)
comes v s (Some d) (command.Publish asked sent) stepped x h e = publish_is s d (asked == s.version) v asked sent stepped x refl h e
comes v s (Some d) command.Export stepped x h e = export_is v s d d.published stepped x refl h e
comes v s (Some d) command.Balances stepped x h e = other (told s (on_balances d.books)) stepped x refl h e
comes v s (Some d) (command.Show group) stepped x h e = other (told s (on_show d group)) stepped x (shown_plain s _) h e

-- ---- the claim that a step tells

greatest : (parts : Parts) (claim : Claim) → IsOrderly parts → IsCertified parts claim → (plan : List Placement) → IsFeasible parts plan
    → value_of_plan parts plan ≤ claim.bound
greatest parts claim o c plan f =
    let below : pos (value_of_plan parts plan) ≤ℤ pos claim.bound = duality parts claim.prices.0 claim.quota_prices.0 plan (pos claim.bound) o f c.bound in
    omega (arith, ints)

-- a certified claim is bounded
pub bounded_claim : (parts : Parts) (claim : Claim) → IsOrderly parts → IsCertified parts claim → IsBoundedClaim parts claim
bounded_claim parts claim o c = record { certified = c; given = c.bound; greatest = greatest parts claim o c }

-- what is known of the last publication: its snapshot is in order, and its document is checked with Yes
abbrev pub IsPublishedRight : StateSeen → Type 0
IsPublishedRight t = IfSome t.desk (λ d. IfSome d.published (λ p. IsOrderly p.snapshot × IsCheckable p.snapshot p.claim))

published_bounded : (s t : StateSeen) (c : Command) (r : Reply) → IsStep s c record { reply = r; state = t } → IsPublishedRight t → (claim : Claim)
    → r ≡ reply.Published claim
    → (parts : Parts) × IsSnapshotOf s parts × IsBoundedClaim parts claim
published_bounded s t c r h o claim e =
    let now = comes h.0 s s.desk c record { reply = r; state = t } (claim, None) h.2 (ap claim_in e) in
    let d = now.0 in
    let asked = now.2.0 in
    let verdict : asked ≡ s.version → (parts : Parts) → IsSnapshotOf s parts → IsVerdict parts claim h.0 =
    subst (λ (k : Command). IsAsked s k h.0) now.2.1 h.1 in
    let judged : IsVerdict (snapshot_of s.version d) claim h.0 = verdict now.2.2 (snapshot_of s.version d) (d, now.1, refl) in
    let certified = certified_by s.version d claim h.0 judged now.2.3 in
    let order : IsOrderly (snapshot_of s.version d) = (subst IsPublishedRight now.3 o).0 in
    (snapshot_of s.version d, (d, now.1, refl), bounded_claim (snapshot_of s.version d) claim order certified)

exported_right : (s t : StateSeen) (c : Command) (r : Reply) → IsStep s c record { reply = r; state = t } → IsPublishedRight t → (claim : Claim) (parts : Parts)
    → r ≡ reply.Exported claim parts → IsCheckable parts claim
exported_right s t c r h o claim parts e =
    let now = comes h.0 s s.desk c record { reply = r; state = t } (claim, Some parts) h.2 (ap claim_in e) in
    let there = subst (λ (desk : Option DeskSeen). IfSome desk (λ d. IfSome d.published (λ p. IsOrderly p.snapshot × IsCheckable p.snapshot p.claim)))
    now.1 (subst IsPublishedRight now.3 o) in
    (subst (λ (last : Option PublicationSeen). IfSome last (λ p. IsOrderly p.snapshot × IsCheckable p.snapshot p.claim)) now.2 there).1

-- a step that was made
pub step_done : (s t : StateSeen) (c : Command) (r : Reply) → ¬ (IsPlanning s (Ok c)) → IsStep s c record { reply = r; state = t }
    → IsPublishedRight t → IsStepDone s (Ok c) r t
step_done s t c r differs h o = record {
  differs = differs;
  replied = (record { reply = r; state = t }, h, refl);
  bounded = record { published = published_bounded s t c r h o; exported = exported_right s t c r h o };
  left = sym (step_left s c record { reply = r; state = t } h);
}

-- a line with a fault
pub fault_done : (s : StateSeen) (f : CommandFault) (r : Refusal) → refusal_in f ≡ Some r → IsStepDone s (Err f) (reply.Refused r) s
fault_done s f r is = record {
  differs = λ asks. absurd (cc);
  replied = (r, is, refl);
  bounded = record { published = λ claim e. absurd (cc); exported = λ claim parts e. absurd (cc) };
  left = refl;
}
