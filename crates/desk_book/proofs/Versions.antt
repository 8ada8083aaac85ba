-- The version of an entry counts the changes that were accepted before it.
use Rattle.std.proofs.Common.{◌≡◌, ℕ, ◌+◌, List, [], ◌∷◌, ◌++◌, Bool, true, false, not, cond, nat_lt, nat_le, refl, sym, ◌∙◌, ap, arith, count_by}
use Rattle.std.proofs.Common.{Option, Some, None, Result}
use Rattle.std.proofs.Common.{Ok, Err, append_assoc, append-nil, subst}
use Rattle.std.proofs.lemmas.List.Sums.{sum_by-append}
use Rattle.plan_base.specs.declared.claim.Claim.{Claim}
use Rattle.plan_base.specs.declared.number.RequestNo.{RequestNo}
use Rattle.plan_base.specs.declared.verdict.Verdict.{Verdict}
use Rattle.plan_io.specs.declared.lines.ScriptLine.{ScriptLine}
use Rattle.request_model.specs.declared.group.GroupDoc.{GroupDoc}
use Rattle.site_model.specs.declared.changes.Change.TheVariants.{Close, Reopen}
use Rattle.desk_runs.specs.declared.group.Group.{Group}
use Rattle.desk_runs.specs.declared.group.Request.{Request}
use Rattle.desk_runs.specs.Numbers.{is_placed}
use Rattle.desk_events.specs.declared.command.Command.{Command}
use Rattle.desk_events.specs.declared.command.Command.TheVariants as command
use Rattle.desk_events.specs.declared.entry.EventEntry.{EventEntry}
use Rattle.desk_events.specs.declared.entry.What.{What}
use Rattle.desk_events.specs.declared.entry.What.TheVariants.{Line, Take, Publish}
use Rattle.desk_events.specs.declared.fault.CommandFault.{CommandFault}
use Rattle.desk_events.specs.declared.refusal.Refusal.{Refusal}
use Rattle.desk_events.specs.declared.refusal.Refusal.TheVariants.{NotRunning, UsedTooLong}
use Rattle.desk_events.specs.declared.reply.Reply.{Reply}
use Rattle.desk_events.specs.declared.reply.Reply.TheVariants as reply
use Rattle.desk_core.specs.Publication.{PublicationSeen}
use Rattle.desk_core.specs.declared.desk.Submitted.{Submitted}
use Rattle.desk_core.specs.declared.desk.Wanted.{Wanted}
use Rattle.desk_core.specs.Asking.{MadeSeen, made_of}
use Rattle.desk_core.specs.Desk.{DeskSeen, StateSeen, Stepped, Decision, decided, told}
use Rattle.desk_core.specs.Registering.{times, on_instrument, on_telescope, on_night, on_visibility, on_closure, on_grant}
use Rattle.desk_core.specs.Submitting.{on_submit, on_made}
use Rattle.desk_core.specs.Closing.{on_withdraw, on_amend}
use Rattle.desk_core.specs.Timing.{on_clock, on_report, on_reported, on_refused, on_completed, on_failed, request_with}
use Rattle.desk_core.specs.Publishing.{on_publish}
use Rattle.desk_core.specs.Showing.{on_export, shown_group}
use Rattle.desk_core.specs.Step.{step_by}
use Rattle.desk_core.specs.History.{read_at, after_line, with_published, after_publish, after_what, replay, IsLineReply, IsPublication, IsReply}
use Rattle.desk_core.specs.History.{IsEntry, EachAfter}
use Rattle.desk_book.specs.Laws.{is_change, VersionsCount}
use Rattle.desk_book.proofs.Histories.{replay_more, each_front}
use Rattle.desk_book.proofs.Stepping.{step_left}

abbrev pub change_of : Reply → ℕ
change_of r = cond (is_change r) 1 0

-- ---- a step

-- what was done counts, where it is a change
abbrev Counts : StateSeen → Option Stepped → Type 0
Counts s None = Unit {0}
Counts s (Some stepped) = stepped.state.version ≡ s.version + change_of stepped.reply

one_change : (b : Bool) (n : ℕ) → b ≡ true → n + 1 ≡ n + cond b 1 0
one_change true n h = refl
one_change false n h = cc

by_refusal : (s : StateSeen) (refusal : Option Refusal) (r : Reply) (e : DeskSeen) → is_change r ≡ true
    → Counts s (Some (decided s record { refusal = refusal; reply = r; desk = e }))
by_refusal s None r e h = one_change (is_change r) s.version h
by_refusal s (Some refusal) r e h = omega arith

decision : (s : StateSeen) (x : Decision) → is_change x.reply ≡ true → Counts s (Some (decided s x))
decision s x h = by_refusal s x.refusal x.reply x.desk h

made_change : (d : DeskSeen) (document : GroupDoc) (r : Result (List MadeSeen) Refusal) → is_change (on_made d document r).reply ≡ true
made_change d document (Ok made) = refl
made_change d document (Err refusal) = refl

reported_by : (d : DeskSeen) (request : RequestNo) (percent used : ℕ) (p : Submitted × (Request × Wanted)) (a b c : Bool)
    → is_change
    (cond (not a) (on_refused d request NotRunning)
    (cond b (on_refused d request (UsedTooLong p.1.0.seconds used)) (cond c (on_completed d request used p.0 p.1.1) (on_failed d request)))).reply
    ≡ true
reported_by d request percent used p false b c = refl
reported_by d request percent used p true true c = refl
reported_by d request percent used p true false true = refl
reported_by d request percent used p true false false = refl

reported_change : (d : DeskSeen) (request : RequestNo) (percent used : ℕ) (o : Option (Submitted × (Request × Wanted)))
    → is_change (on_reported d request percent used o).reply ≡ true
reported_change d request percent used None = refl
reported_change d request percent used (Some p) = reported_by d request percent used p (is_placed d.progress.running request)
    (nat_lt p.1.0.seconds used) (nat_le p.1.1.threshold percent)

export_counts : (s : StateSeen) (o : Option PublicationSeen) → Counts s (Some (told s (on_export o)))
export_counts s None = omega arith
export_counts s (Some p) = omega arith

shown_counts : (s : StateSeen) (o : Option (Submitted × Group)) → Counts s (Some (told s (shown_group o)))
shown_counts s None = omega arith
shown_counts s (Some p) = omega arith

step_counts : (v : Verdict) (s : StateSeen) (o : Option DeskSeen) (c : Command) → Counts s (step_by v s o c)
step_counts v s None (command.Open now slice horizon semester lanes rounds workers quota) = refl
step_counts v s None (command.Instrument name front config readout change) = omega arith
step_counts v s None (command.Telescope site enclosure telescope class instruments) = omega arith
step_counts v s None (command.Night site spans) = omega arith
step_counts v s None (command.Visibility target site spans) = omega arith
step_counts v s None (command.Close scope spans) = omega arith
step_counts v s None (command.Reopen scope spans) = omega arith
step_counts v s None (command.Grant key seconds) = omega arith
step_counts v s None (command.Submit document) = omega arith
step_counts v s None (command.Amend old document) = omega arith
step_counts v s None (command.Withdraw group) = omega arith
step_counts v s None (command.Clock at) = omega arith
step_counts v s None (command.Report request percent used) = omega arith
step_counts v s None command.Plan = omega arith
step_counts v s None (command.Publish asked claim) = omega arith
step_counts v s None command.Export = omega arith
step_counts v s None command.Balances = omega arith
step_counts v s None (command.Show group) = omega arith
step_counts v s (Some d) (command.Open now slice horizon semester lanes rounds workers quota) = omega arith
step_counts v s (Some d) (command.Instrument name front config readout change) = decision s (on_instrument d name (times front config readout change)) refl
step_counts v s (Some d) (command.Telescope site enclosure telescope class instruments) =
    decision s (on_telescope d record { site = site; enclosure = enclosure; telescope = telescope } class instruments) refl
step_counts v s (Some d) (command.Night site spans) = decision s (on_night d site spans) refl
step_counts v s (Some d) (command.Visibility target site spans) = decision s (on_visibility d target site spans) refl
step_counts v s (Some d) (command.Close scope spans) = decision s (on_closure d Close scope spans reply.Closed) refl
step_counts v s (Some d) (command.Reopen scope spans) = decision s (on_closure d Reopen scope spans reply.Reopened) refl
step_counts v s (Some d) (command.Grant key seconds) = decision s (on_grant d key seconds) refl
step_counts v s (Some d) (command.Submit document) = decision s (on_submit d document) (made_change d document (made_of d document))
step_counts v s (Some d) (command.Amend old document) = decision s (on_amend d old document) refl
step_counts v s (Some d) (command.Withdraw group) = decision s (on_withdraw d group) refl
step_counts v s (Some d) (command.Clock at) = decision s (on_clock d at) refl
step_counts v s (Some d) (command.Report request percent used) =
    decision s (on_report d request percent used) (reported_change d request percent used (request_with d request))
step_counts v s (Some d) command.Plan = tt
step_counts v s (Some d) (command.Publish asked claim) = decision s (on_publish v s.version d asked claim) refl
step_counts v s (Some d) command.Export = export_counts s d.published
step_counts v s (Some d) command.Balances = omega arith
step_counts v s (Some d) (command.Show group) = shown_counts s _

-- ---- an entry

line_counts : (s : StateSeen) (read : Result Command CommandFault) (r : Reply) → IsLineReply s read r → (after_line s read r).version ≡ s.version + change_of r
line_counts s (Err fault) r h = let none : change_of r ≡ 0 = ap change_of h.2 in omega arith
line_counts s (Ok c) r h =
    let stepped : Stepped = h.0 in
    let counts : Counts s (Some stepped) = subst (Counts s) h.1.2 (step_counts h.1.0 s s.desk c) in
    let left : after_line s (Ok c) stepped.reply ≡ stepped.state = step_left s c stepped h.1 in
    subst (λ (x : Reply). (after_line s (Ok c) x).version ≡ s.version + change_of x) h.2 (ap (λ (u : StateSeen). u.version) left ∙ counts)

published_counts : (s : StateSeen) (o : Option DeskSeen) (claim : Claim) (d : DeskSeen) → o ≡ Some d → (with_published s o claim).version ≡ s.version + 1
published_counts s None claim d h = cc
published_counts s (Some e) claim d h = refl

publish_counts : (s : StateSeen) (v : ℕ) (r : Reply) → IsPublication s v r → (after_publish s r).version ≡ s.version + change_of r
publish_counts s v reply.Opened h = absurd h
publish_counts s v reply.Instrument h = absurd h
publish_counts s v (reply.Telescope telescope) h = absurd h
publish_counts s v reply.Night h = absurd h
publish_counts s v reply.Visibility h = absurd h
publish_counts s v reply.Closed h = absurd h
publish_counts s v reply.Reopened h = absurd h
publish_counts s v (reply.Granted balance) h = absurd h
publish_counts s v (reply.Submitted group ipp_charged requests) h = absurd h
publish_counts s v (reply.Amended group ipp_charged refunded replaces requests) h = absurd h
publish_counts s v (reply.Withdrawn refunded) h = absurd h
publish_counts s v (reply.Clocked expired failed refunded started) h = absurd h
publish_counts s v (reply.Completed canceled charged) h = absurd h
publish_counts s v (reply.Failed expired refunded) h = absurd h
publish_counts s v reply.Taken h = absurd h
publish_counts s v (reply.Published claim) h = published_counts s s.desk claim h.1.1.0 h.1.1.1
publish_counts s v (reply.Exported claim snapshot) h = absurd h
publish_counts s v (reply.Balances balances) h = absurd h
publish_counts s v (reply.Shown document group requests state) h = absurd h
publish_counts s v (reply.Refused refusal) h = omega arith

what_counts : (scripts : List (List ScriptLine)) (before : List EventEntry) (e : EventEntry) (w : What) → IsReply scripts before e w
    → (after_what (replay scripts before) (read_at scripts e) w e.reply).version ≡ (replay scripts before).version + change_of e.reply
what_counts scripts before e Line h = line_counts (replay scripts before) (read_at scripts e) e.reply h.1
what_counts scripts before e Take h = let none : change_of e.reply ≡ 0 = ap change_of h.1 in omega arith
what_counts scripts before e Publish h = publish_counts (replay scripts before) h.0 e.reply h.2

-- ---- a history

abbrev pub changes_in : List EventEntry → ℕ
changes_in history = count_by (λ (x : EventEntry). is_change x.reply) history

-- the replay's version is the number of changes, whatever comes after
replay_counts : (scripts : List (List ScriptLine)) (before rest : List EventEntry) → EachAfter (IsEntry scripts) (before ++ rest)
    → (replay scripts before).version ≡ changes_in before
    → (replay scripts (before ++ rest)).version ≡ changes_in (before ++ rest)
replay_counts scripts before [] h e = subst (λ (xs : List EventEntry). (replay scripts xs).version ≡ changes_in xs) (sym (append-nil before)) e
replay_counts scripts before (x ∷ xs) h e =
    let one : IsEntry scripts before x = h before xs x refl in
    let whole : (before ++ x ∷ []) ++ xs ≡ before ++ x ∷ xs = append_assoc before (x ∷ []) xs in
    let now : (replay scripts (before ++ x ∷ [])).version ≡ (replay scripts before).version + change_of x.reply =
    ap (λ (s : StateSeen). s.version) (replay_more scripts before x) ∙ what_counts scripts before x x.what one.reply in
    let more : changes_in (before ++ x ∷ []) ≡ changes_in before + changes_in (x ∷ []) =
    sum_by-append (λ (y : EventEntry). change_of y.reply) before (x ∷ []) in
    let last : changes_in (x ∷ []) ≡ change_of x.reply = omega arith in
    subst (λ (ys : List EventEntry). (replay scripts ys).version ≡ changes_in ys) whole
    (replay_counts scripts (before ++ x ∷ []) xs (subst (λ (ys : List EventEntry). EachAfter (IsEntry scripts) ys) (sym whole) h) (omega arith))

pub versions_count : VersionsCount
versions_count scripts history before after e legal is =
    let each : EachAfter (IsEntry scripts) (before ++ e ∷ after) = subst (λ (xs : List EventEntry). EachAfter (IsEntry scripts) xs) is legal.each in
    let entry : IsEntry scripts before e = legal.each before after e is in
    entry.version ∙ replay_counts scripts [] before (each_front (IsEntry scripts) before (e ∷ after) each) refl
