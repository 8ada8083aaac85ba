-- What an `export` line shows is what was published last.
use Rattle.std.proofs.Common.{◌≡◌, ◌∙◌, ℕ, ◌-◌, Bool, true, false, not, cond, ◌==◌, nat_lt, nat_le, List, [], ◌∷◌, ◌++◌, refl, sym, ap, subst}
use Rattle.std.proofs.Common.{inl, inr, Option, Some, None, IsSome, Result, Ok, Err, append_assoc, append-nil}
use Rattle.std.specs.Prelude.{slice_index_or}
use Rattle.std.specs.List.{AllByRecursion}
use Rattle.plan_base.specs.declared.claim.Claim.{Claim}
use Rattle.plan_base.specs.declared.number.RequestNo.{RequestNo}
use Rattle.plan_base.specs.declared.parts.Parts.{Parts}
use Rattle.plan_base.specs.declared.verdict.Verdict.{Verdict}
use Rattle.plan_base.specs.declared.verdict.Verdict.TheVariants.{Yes, No}
use Rattle.plan_io.specs.declared.lines.ScriptLine.{ScriptLine}
use Rattle.plan_io.specs.declared.lines.ScriptLine.TheVariants.{TooLong}
use Rattle.request_model.specs.declared.group.GroupDoc.{GroupDoc}
use Rattle.site_model.specs.declared.changes.Change.TheVariants.{Close, Reopen}
use Rattle.desk_runs.specs.declared.group.Group.{Group}
use Rattle.desk_runs.specs.declared.group.Request.{Request}
use Rattle.desk_runs.specs.Numbers.{is_placed}
use Rattle.desk_events.specs.declared.command.Command.{Command}
use Rattle.desk_events.specs.declared.command.Command.TheVariants as command
use Rattle.desk_events.specs.declared.entry.EventEntry.{EventEntry}
use Rattle.desk_events.specs.declared.entry.What.{What}
use Rattle.desk_events.specs.declared.entry.What.TheVariants.{Line, Take, Publish}
use Rattle.desk_events.specs.declared.fault.CommandFault.{CommandFault}
use Rattle.desk_events.specs.declared.refusal.Refusal.{Refusal}
use Rattle.desk_events.specs.declared.refusal.Refusal.TheVariants.{Stale, TooManyStarts, NotOpened, AlreadyOpened, NotRunning, UsedTooLong}
use Rattle.desk_events.specs.declared.reply.Reply.{Reply}
use Rattle.desk_events.specs.declared.reply.Reply.TheVariants as reply
use Rattle.desk_events.specs.Line.{command_of_line}
use Rattle.desk_core.specs.declared.desk.Submitted.{Submitted}
use Rattle.desk_core.specs.declared.desk.Wanted.{Wanted}
use Rattle.desk_core.specs.Asking.{MadeSeen, made_of}
use Rattle.desk_core.specs.Closing.{on_withdraw, on_amend, without_group}
use Rattle.desk_core.specs.Desk.{DeskSeen, StateSeen, Stepped, Decision, refused, decided, told}
use Rattle.desk_core.specs.DeskSnapshot.{snapshot_of}
use Rattle.desk_core.specs.History.{IsLineReply, IsPublication, IsReply, IsEntry, IsLegal, EachAfter}
use Rattle.desk_core.specs.History.{script_of, read_at, after_line, after_what, after_publish, with_published, replay}
use Rattle.desk_core.specs.Publication.{PublicationSeen}
use Rattle.desk_core.specs.Publishing.{with_publication, rejection, on_publish}
use Rattle.desk_core.specs.Registering.{times, on_instrument, on_telescope, on_night, on_visibility, on_closure, on_grant}
use Rattle.desk_core.specs.Showing.{on_export, on_balances, on_show, shown_group}
use Rattle.desk_core.specs.Step.{step_by, step_unopened}
use Rattle.desk_core.specs.Submitting.{on_submit, on_made}
use Rattle.desk_core.specs.Timing.{on_clock, on_report, on_reported, on_refused, on_completed, on_failed, request_with}
use Rattle.desk_book.proofs.Histories.{each_front, replay_more}
use Rattle.desk_book.proofs.StalePlans.{plans_are_stale_by_changes}
use Rattle.desk_book.proofs.Stepping.{step_left}
use Rattle.desk_book.specs.Plans.{AreOfOneLine, HasEarlier}
use Rattle.session.specs.Published.{IsNoPublication, IsPublishedLast, ExportsAreLast, IsExportReply, ExportLinesAreAnswered}

-- ---- what a step leaves of the last publication

-- the claim that a reply publishes, or exports with its snapshot
abbrev claim_in : Reply → Option (Claim × Option Parts)
claim_in (reply.Published claim) = Some (claim, None)
claim_in (reply.Exported claim parts) = Some (claim, Some parts)
claim_in _ = None

-- the last publication of a desk
abbrev last_of : Option DeskSeen → Option PublicationSeen
last_of None = None
last_of (Some d) = d.published

-- what a reply with this claim in it leaves of the last publication
abbrev Leaves : ℕ → Option DeskSeen → Option (Claim × Option Parts) → Option PublicationSeen → Type 0
Leaves version o None now = now ≡ last_of o
Leaves version o (Some (claim, Some parts)) now = (last_of o ≡ Some record { snapshot = parts; claim = claim }) × (now ≡ last_of o)
Leaves version o (Some (claim, None)) now =
    (d : DeskSeen) × (o ≡ Some d) × (now ≡ Some record { snapshot = snapshot_of version d; claim = claim })

abbrev LeavesBy : StateSeen → Option DeskSeen → Stepped → Type 0
LeavesBy s o x = Leaves s.version o (claim_in x.reply) (last_of x.state.desk)

same_Some : {A : Type 0} (a b : A) → Some a ≡ Some b → a ≡ b
same_Some a b h = cc

so : (s : StateSeen) (o : Option DeskSeen) (now stepped : Stepped) → LeavesBy s o now → Some now ≡ Some stepped → LeavesBy s o stepped
so s o now stepped h is = subst (LeavesBy s o) (same_Some now stepped is) h

plain : (version : ℕ) (o : Option DeskSeen) (r : Reply) (now : Option PublicationSeen) → claim_in r ≡ None → now ≡ last_of o
    → Leaves version o (claim_in r) now
plain version o r now none same = subst (λ (c : Option (Claim × Option Parts)). Leaves version o c now) (sym none) same

-- a decision that neither publishes nor exports leaves what was published
decision : (s : StateSeen) (d : DeskSeen) (refusal : Option Refusal) (r : Reply) (e : DeskSeen) → s.desk ≡ Some d → claim_in r ≡ None
    → e.published ≡ d.published → LeavesBy s (Some d) (decided s record { refusal = refusal; reply = r; desk = e })
decision s d None r e is none same = plain s.version (Some d) r e.published none same
decision s d (Some refusal) r e is none same = ap last_of is

by_decision : (s : StateSeen) (d : DeskSeen) (n : Decision) (stepped : Stepped) → s.desk ≡ Some d → claim_in n.reply ≡ None
    → n.desk.published ≡ d.published → Some (decided s n) ≡ Some stepped → LeavesBy s (Some d) stepped
by_decision s d n stepped is none same h = so s (Some d) (decided s n) stepped (decision s d n.refusal n.reply n.desk is none same) h

made_plain : (d : DeskSeen) (document : GroupDoc) (r : Result (List MadeSeen) Refusal) → claim_in (on_made d document r).reply ≡ None
made_plain d document (Ok made) = refl
made_plain d document (Err refusal) = refl

made_keeps : (d : DeskSeen) (document : GroupDoc) (r : Result (List MadeSeen) Refusal) → (on_made d document r).desk.published ≡ d.published
made_keeps d document (Ok made) = refl
made_keeps d document (Err refusal) = refl

-- a decision that neither publishes nor exports
abbrev IsPlain : DeskSeen → Decision → Type 0
IsPlain d n = (claim_in n.reply ≡ None) × (n.desk.published ≡ d.published)

reported_by : (d : DeskSeen) (request : RequestNo) (percent used : ℕ) (p : Submitted × (Request × Wanted)) (a b c : Bool)
    → IsPlain d (cond (not a) (on_refused d request NotRunning)
    (cond b (on_refused d request (UsedTooLong p.1.0.seconds used)) (cond c (on_completed d request used p.0 p.1.1) (on_failed d request))))
reported_by d request percent used p false b c = (refl, refl)
reported_by d request percent used p true true c = (refl, refl)
reported_by d request percent used p true false true = (refl, refl)
reported_by d request percent used p true false false = (refl, refl)

reported_plain : (d : DeskSeen) (request : RequestNo) (percent used : ℕ) (o : Option (Submitted × (Request × Wanted)))
    → IsPlain d (on_reported d request percent used o)
reported_plain d request percent used None = (refl, refl)
reported_plain d request percent used (Some p) = reported_by d request percent used p (is_placed d.progress.running request)
    (nat_lt p.1.0.seconds used) (nat_le p.1.1.threshold percent)

shown_leaves : (s : StateSeen) (d : DeskSeen) (o : Option (Submitted × Group)) → s.desk ≡ Some d → LeavesBy s (Some d) (told s (shown_group o))
shown_leaves s d None is = ap last_of is
shown_leaves s d (Some p) is = ap last_of is

export_leaves : (s : StateSeen) (d : DeskSeen) (o : Option PublicationSeen) → s.desk ≡ Some d → d.published ≡ o → LeavesBy s (Some d) (told s (on_export o))
export_leaves s d None is last = ap last_of is
export_leaves s d (Some p) is last = (last, ap last_of is)

publish_leaves : (s : StateSeen) (d : DeskSeen) (b : Bool) (v : Verdict) (asked : ℕ) (claim : Claim) → s.desk ≡ Some d
    → LeavesBy s (Some d) (decided s record {
      refusal = cond b (rejection v) (Some (Stale asked s.version));
      reply = reply.Published claim;
      desk = with_publication s.version claim d;
    })
publish_leaves s d false v asked claim is = ap last_of is
publish_leaves s d true (No reason) asked claim is = ap last_of is
publish_leaves s d true (Yes value bound) asked claim is = (d, refl, refl)

unopened : (s : StateSeen) (c : Command) → s.desk ≡ None → LeavesBy s None (step_unopened s c)
unopened s (command.Open now slice horizon semester lanes rounds workers quota) is = refl
unopened s (command.Instrument name front config readout change) is = ap last_of is
unopened s (command.Telescope site enclosure telescope class instruments) is = ap last_of is
unopened s (command.Night site spans) is = ap last_of is
unopened s (command.Visibility target site spans) is = ap last_of is
unopened s (command.Close scope spans) is = ap last_of is
unopened s (command.Reopen scope spans) is = ap last_of is
unopened s (command.Grant key seconds) is = ap last_of is
unopened s (command.Submit document) is = ap last_of is
unopened s (command.Amend old document) is = ap last_of is
unopened s (command.Withdraw group) is = ap last_of is
unopened s (command.Clock at) is = ap last_of is
unopened s (command.Report request percent used) is = ap last_of is
unopened s command.Plan is = ap last_of is
unopened s (command.Publish asked claim) is = ap last_of is
unopened s command.Export is = ap last_of is
unopened s command.Balances is = ap last_of is
unopened s (command.Show group) is = ap last_of is

-- each step
leaves : (v : Verdict) (s : StateSeen) (o : Option DeskSeen) (c : Command) (t : Stepped) → s.desk ≡ o → step_by v s o c ≡ Some t → LeavesBy s o t
leaves v s None c t is h = so s None (step_unopened s c) t (unopened s c is) h
leaves v s (Some d) (command.Open now slice horizon semester lanes rounds workers quota) t is h =
    so s (Some d) (refused s AlreadyOpened) t (ap last_of is) h
leaves v s (Some d) (command.Instrument name front config readout change) t is h =
    by_decision s d (on_instrument d name (times front config readout change)) t is refl refl h
leaves v s (Some d) (command.Telescope site enclosure telescope class instruments) t is h =
    by_decision s d (on_telescope d record { site = site; enclosure = enclosure; telescope = telescope } class instruments) t is refl refl h
leaves v s (Some d) (command.Night site spans) t is h = by_decision s d (on_night d site spans) t is refl refl h
leaves v s (Some d) (command.Visibility target site spans) t is h = by_decision s d (on_visibility d target site spans) t is refl refl h
leaves v s (Some d) (command.Close scope spans) t is h = by_decision s d (on_closure d Close scope spans reply.Closed) t is refl refl h
leaves v s (Some d) (command.Reopen scope spans) t is h = by_decision s d (on_closure d Reopen scope spans reply.Reopened) t is refl refl h
leaves v s (Some d) (command.Grant key seconds) t is h = by_decision s d (on_grant d key seconds) t is refl refl h
leaves v s (Some d) (command.Submit document) t is h =
    by_decision s d (on_submit d document) t is (made_plain d document (made_of d document)) (made_keeps d document (made_of d document)) h
leaves v s (Some d) (command.Amend old document) t is h =
    let freed : DeskSeen = without_group old d in
    by_decision s d (on_amend d old document) t is refl (made_keeps freed document (made_of freed document)) h
leaves v s (Some d) (command.Withdraw group) t is h = by_decision s d (on_withdraw d group) t is refl refl h
leaves v s (Some d) (command.Clock at) t is h = by_decision s d (on_clock d at) t is refl refl h
leaves v s (Some d) (command.Report request percent used) t is h =
    let found = reported_plain d request percent used (request_with d request) in
    by_decision s d (on_report d request percent used) t is found.0 found.1 h
leaves v s (Some d) command.Plan t is h = absurd (cc)
leaves v s (Some d) (command.Publish asked claim) t is h =
    so s (Some d) (decided s (on_publish v s.version d asked claim)) t (publish_leaves s d (asked == s.version) v asked claim is) h
leaves v s (Some d) command.Export t is h = so s (Some d) (told s (on_export d.published)) t (export_leaves s d d.published is refl) h
leaves v s (Some d) command.Balances t is h = so s (Some d) (told s (on_balances d.books)) t (ap last_of is) h
leaves v s (Some d) (command.Show group) t is h = so s (Some d) (told s (on_show d group)) t (shown_leaves s d _ is) h

-- ---- what an entry leaves of it

abbrev LeavesAfter : StateSeen → Reply → StateSeen → Type 0
LeavesAfter s r t = Leaves s.version s.desk (claim_in r) (last_of t.desk)

line_leaves : (s : StateSeen) (read : Result Command CommandFault) (r : Reply) → IsLineReply s read r → LeavesAfter s r (after_line s read r)
line_leaves s (Err fault) r h = subst (λ (x : Reply). LeavesAfter s x s) (sym h.2) refl
line_leaves s (Ok c) r h =
    let stepped : Stepped = h.0 in
    let here : LeavesBy s s.desk stepped = leaves h.1.0 s s.desk c stepped refl h.1.2 in
    let left : LeavesAfter s stepped.reply (after_line s (Ok c) stepped.reply) =
    subst (λ (t : StateSeen). LeavesAfter s stepped.reply t) (sym (step_left s c stepped h.1)) here in
    subst (λ (x : Reply). LeavesAfter s x (after_line s (Ok c) x)) h.2 left

published_leaves : (s : StateSeen) (o : Option DeskSeen) (d : DeskSeen) (claim : Claim) → o ≡ Some d
    → Leaves s.version o (Some (claim, None)) (last_of (with_published s o claim).desk)
published_leaves s None d claim is = absurd (cc)
published_leaves s (Some x) d claim is = (x, refl, refl)

publication_leaves : (s : StateSeen) (v : ℕ) (r : Reply) → IsPublication s v r → LeavesAfter s r (after_publish s r)
publication_leaves s v (reply.Refused (Stale asked newer)) h = refl
publication_leaves s v (reply.Refused (TooManyStarts count)) h = refl
publication_leaves s v (reply.Published claim) h = published_leaves s s.desk h.1.1.0 claim h.1.1.1
publication_leaves s v r h = absurd h

what_leaves : (scripts : List (List ScriptLine)) (before : List EventEntry) (e : EventEntry) (w : What) → IsReply scripts before e w
    → LeavesAfter (replay scripts before) e.reply (after_what (replay scripts before) (read_at scripts e) w e.reply)
what_leaves scripts before e Line h = line_leaves (replay scripts before) (read_at scripts e) e.reply h.1
what_leaves scripts before e Take h = subst (λ (x : Reply). LeavesAfter (replay scripts before) x (replay scripts before)) (sym h.1) refl
what_leaves scripts before e Publish h = publication_leaves (replay scripts before) h.0 e.reply h.2

-- ---- what a history leaves of it

-- the last publication of these entries is this one
abbrev HasLast : List (List ScriptLine) → List EventEntry → Option PublicationSeen → Type 0
HasLast scripts entries None = AllByRecursion IsNoPublication entries
HasLast scripts entries (Some p) = IsPublishedLast scripts entries p.claim p.snapshot

none_more : (xs : List EventEntry) (x : EventEntry) → AllByRecursion IsNoPublication xs → IsNoPublication x → AllByRecursion IsNoPublication (xs ++ x ∷ [])
none_more [] x h last = (last, tt)
none_more (y ∷ ys) x h last = (h.0, none_more ys x h.1 last)

-- an entry that publishes nothing leaves the last one
last_more : (scripts : List (List ScriptLine)) (xs : List EventEntry) (x : EventEntry) (p : Option PublicationSeen) → HasLast scripts xs p → IsNoPublication x
    → HasLast scripts (xs ++ x ∷ []) p
last_more scripts xs x None h none = none_more xs x h none
last_more scripts xs x (Some p) h none = record {
  before = h.before;
  entry = h.entry;
  meanwhile = h.meanwhile ++ x ∷ [];
  cut = ap (λ (es : List EventEntry). es ++ x ∷ []) h.cut ∙ append_assoc h.before (h.entry ∷ h.meanwhile) (x ∷ []);
  publishes = h.publishes;
  none = none_more h.meanwhile x h.none none;
}

no_publication : (e : EventEntry) (c : Option (Claim × Option Parts)) → claim_in e.reply ≡ c → ((claim : Claim) → ¬ (c ≡ Some (claim, None)))
    → IsNoPublication e
no_publication e c is other claim published = other claim (sym is ∙ ap claim_in published)

-- a claim that is exported isn't published
exported_apart : (sent claim : Claim) (parts : Parts) → ¬ (◌≡◌ {A = Option (Claim × Option Parts)} (Some (sent, Some parts)) (Some (claim, None)))
exported_apart sent claim parts is =
    let clash : Some parts ≡ None = ap (λ (x : Claim × Option Parts). x.1) (same_Some (sent, Some parts) (claim, None) is) in absurd (cc)

claim_published : (r : Reply) (claim : Claim) → claim_in r ≡ Some (claim, None) → r ≡ reply.Published claim
claim_published (reply.Published sent) claim is =
    let same : (sent, None) ≡ (claim, None) = same_Some _ _ is in ap (λ (x : Claim × Option Parts). reply.Published x.0) same
claim_published (reply.Exported sent parts) claim is = absurd (exported_apart sent claim parts is)
claim_published r claim is = absurd (cc)

-- one entry more
more : (scripts : List (List ScriptLine)) (xs : List EventEntry) (x : EventEntry) (c : Option (Claim × Option Parts)) (now : Option PublicationSeen)
    → claim_in x.reply ≡ c → Leaves (replay scripts xs).version (replay scripts xs).desk c now → HasLast scripts xs (last_of (replay scripts xs).desk)
    → HasLast scripts (xs ++ x ∷ []) now
more scripts xs x None now is h last =
    subst (HasLast scripts (xs ++ x ∷ [])) (sym h)
    (last_more scripts xs x (last_of (replay scripts xs).desk) last (no_publication x None is (λ claim no. absurd (cc))))
more scripts xs x (Some (claim, Some parts)) now is h last =
    subst (HasLast scripts (xs ++ x ∷ [])) (sym h.1)
    (last_more scripts xs x (last_of (replay scripts xs).desk) last (no_publication x (Some (claim, Some parts)) is (λ sent. exported_apart claim sent parts)))
more scripts xs x (Some (claim, None)) now is h last =
    subst (HasLast scripts (xs ++ x ∷ [])) (sym h.2) (record {
      before = xs;
      entry = x;
      meanwhile = [];
      cut = refl;
      publishes = record { reply = claim_published x.reply claim is; snapshot = (h.0, h.1, refl) };
      none = tt;
    })

last_on : (scripts : List (List ScriptLine)) (before rest : List EventEntry) → EachAfter (IsEntry scripts) (before ++ rest)
    → HasLast scripts before (last_of (replay scripts before).desk)
    → HasLast scripts (before ++ rest) (last_of (replay scripts (before ++ rest)).desk)
last_on scripts before [] each h =
    subst (λ (es : List EventEntry). HasLast scripts es (last_of (replay scripts es).desk)) (sym (append-nil before)) h
last_on scripts before (e ∷ es) each h =
    let whole : (before ++ e ∷ []) ++ es ≡ before ++ e ∷ es = append_assoc before (e ∷ []) es in
    let entry : IsEntry scripts before e = each before es e refl in
    let left : LeavesAfter (replay scripts before) e.reply (replay scripts (before ++ e ∷ [])) =
    subst (λ (t : StateSeen). LeavesAfter (replay scripts before) e.reply t) (sym (replay_more scripts before e))
    (what_leaves scripts before e e.what entry.reply) in
    let now : HasLast scripts (before ++ e ∷ []) (last_of (replay scripts (before ++ e ∷ [])).desk) =
    more scripts before e (claim_in e.reply) (last_of (replay scripts (before ++ e ∷ [])).desk) refl left h in
    subst (λ (xs : List EventEntry). HasLast scripts xs (last_of (replay scripts xs).desk)) whole
    (last_on scripts (before ++ e ∷ []) es (subst (EachAfter (IsEntry scripts)) (sym whole) each) now)

-- the entries before one of a legal history
has_last : (scripts : List (List ScriptLine)) (history front after : List EventEntry) (e : EventEntry) → IsLegal scripts history
    → history ≡ front ++ e ∷ after → HasLast scripts front (last_of (replay scripts front).desk)
has_last scripts history front after e legal is =
    last_on scripts [] front (each_front (IsEntry scripts) front (e ∷ after) (subst (EachAfter (IsEntry scripts)) is legal.each)) tt

pub exports_are_last : ExportsAreLast
exports_are_last scripts history front after e claim parts legal is exported =
    let entry : IsEntry scripts front e = legal.each front after e is in
    let left = subst (λ (r : Reply). LeavesAfter (replay scripts front) r (after_what (replay scripts front) (read_at scripts e) e.what r)) exported
    (what_leaves scripts front e e.what entry.reply) in
    subst (HasLast scripts front) left.0 (has_last scripts history front after e legal is)

-- ---- what an `export` line is answered

export_is : (scripts : List (List ScriptLine)) (front : List EventEntry) (d : DeskSeen) (p : Option PublicationSeen) (r : Reply)
    → (replay scripts front).desk ≡ Some d → HasLast scripts front p → (told (replay scripts front) (on_export p)).reply ≡ r → IsExportReply scripts front r
export_is scripts front d None r is last h = inl (last, inr (sym h, subst (λ (o : Option DeskSeen). IsSome o) (sym is) refl))
export_is scripts front d (Some p) r is last h = inr (p.claim, p.snapshot, sym h, last)

line_is : (scripts : List (List ScriptLine)) (front : List EventEntry) (o : Option DeskSeen) (v : Verdict) (t : Stepped)
    → (replay scripts front).desk ≡ o → HasLast scripts front (last_of o) → step_by v (replay scripts front) o command.Export ≡ Some t
    → IsExportReply scripts front t.reply
line_is scripts front None v t is last h =
    let same : refused (replay scripts front) NotOpened ≡ t = same_Some _ t h in
    inl (last, inl (sym (ap (λ (x : Stepped). x.reply) same), is))
line_is scripts front (Some d) v t is last h =
    export_is scripts front d d.published t.reply is last (ap (λ (x : Stepped). x.reply) (same_Some _ t h))

reply_is : (scripts : List (List ScriptLine)) (front : List EventEntry) (r : Reply) → HasLast scripts front (last_of (replay scripts front).desk)
    → IsLineReply (replay scripts front) (Ok command.Export) r → IsExportReply scripts front r
reply_is scripts front r last h =
    subst (IsExportReply scripts front) h.2 (line_is scripts front (replay scripts front).desk h.1.0 h.0 refl last h.1.2)

-- entries of one line are of what it says
one_line : (scripts : List (List ScriptLine)) (t e : EventEntry) → AreOfOneLine t e → read_at scripts t ≡ read_at scripts e
one_line scripts t e (caller, line) =
    ap (λ (c : ℕ). command_of_line (slice_index_or (script_of scripts c) (t.line - 1) TooLong)) caller
    ∙ ap (λ (l : ℕ). command_of_line (slice_index_or (script_of scripts e.caller) (l - 1) TooLong)) line

pub export_lines_are_answered : ExportLinesAreAnswered
export_lines_are_answered scripts history front after e legal is read =
    let entry : IsEntry scripts front e = legal.each front after e is in
    let last = has_last scripts history front after e legal is in
    by_what e.what refl entry.reply last
  where
    -- its line asks for no plan
    no_plan : (before meanwhile : List EventEntry) (t : EventEntry) → front ≡ before ++ t ∷ meanwhile → AreOfOneLine t e → t.what ≡ Take → ⊥
    no_plan before meanwhile t cut line take =
        let whole : history ≡ before ++ t ∷ (meanwhile ++ e ∷ after) =
        is ∙ ap (λ (es : List EventEntry). es ++ e ∷ after) cut ∙ append_assoc before (t ∷ meanwhile) (e ∷ after) in
        let entry : IsEntry scripts before t = legal.each before (meanwhile ++ e ∷ after) t whole in
        let taken : IsReply scripts before t Take = subst (λ (w : What). IsReply scripts before t w) take entry.reply in
        let asks : Ok command.Plan ≡ Ok command.Export = sym taken.0.0 ∙ one_line scripts t e line ∙ read in absurd (cc)

    by_what : (w : What) → e.what ≡ w → IsReply scripts front e w → HasLast scripts front (last_of (replay scripts front).desk)
        → IsExportReply scripts front e.reply
    by_what Line what h last =
        reply_is scripts front e.reply last (subst (λ (r : Result Command CommandFault). IsLineReply (replay scripts front) r e.reply) read h.1)
    by_what Take what h last = let asks : Ok command.Plan ≡ Ok command.Export = sym h.0.0 ∙ read in absurd (cc)
    by_what Publish what h last =
        let told = plans_are_stale_by_changes scripts history front after e legal is what in
        let earlier : HasEarlier front e = told.0 in
        absurd (no_plan earlier.0 earlier.1 earlier.2 earlier.3 earlier.4 (told.1 earlier.0 earlier.1 earlier.2 earlier.3 earlier.4).0)
