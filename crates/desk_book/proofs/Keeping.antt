-- What is known of a history, and one entry more.
use Rattle.std.proofs.Common.{◌≡◌, ◌≢◌, ℕ, ◌+◌, ◌-◌, ◌<◌, ◌⊎◌, ◌==◌, List, [], ◌∷◌, ◌++◌, length, slice_get, Bool, true, false, cond, refl, sym, ◌∙◌, ap, subst}
use Rattle.std.proofs.Common.{arith, inl, inr, Some, None, Result, append_assoc, get_or-set_same, get_or-set_other}
use Rattle.std.specs.declared.option.Option.{Option}
use Rattle.std.specs.Prelude.{slice_index_or, slice_set}
use Rattle.std.specs.List.{last_or}
use Rattle.std.proofs.Math.ListN.{get_or-append}
use Rattle.std.proofs.lemmas.Bool.{eqb-true, eq-eqb}
use Rattle.std.proofs.lemmas.List.Elements.{filter-append}
use Rattle.std.proofs.lemmas.Option.{get_or_from_slice_get, slice_get_within}
use Rattle.plan_base.specs.declared.claim.Claim.{Claim}
use Rattle.plan_base.specs.declared.parts.Parts.{Parts}
use Rattle.plan_base.specs.declared.taken.Taken.{Taken as TakenParts}
use Rattle.plan_io.specs.declared.lines.ScriptLine.{ScriptLine}
use Rattle.plan_io.specs.declared.lines.ScriptLine.TheVariants.{TooLong}
use Rattle.desk_events.specs.declared.command.Command.{Command}
use Rattle.desk_events.specs.declared.entry.EventEntry.{EventEntry}
use Rattle.desk_events.specs.declared.entry.What.TheVariants.{Line, Take, Publish}
use Rattle.desk_events.specs.declared.fault.CommandFault.{CommandFault}
use Rattle.desk_events.specs.declared.reply.Reply.{Reply}
use Rattle.desk_events.specs.declared.reply.Reply.TheVariants.{Taken, Published}
use Rattle.desk_events.specs.Line.{command_of_line}
use Rattle.desk_core.specs.Desk.{StateSeen}
use Rattle.desk_core.specs.Step.{IsSnapshotOf}
use Rattle.desk_core.specs.History.{IsPlanning, IsLineReply, script_of, entries_of, read_at, after_line, after_what, after_publish, replay, HasTaken}
use Rattle.desk_core.specs.History.{IsPublication, IsReply}
use Rattle.desk_core.specs.History.{IsEntry, EachAfter}
use Rattle.desk_book.specs.Claims.{IsBoundedReply, IsPublishedClaim, IsClaimEntry, IsDeskClaim}
use Rattle.desk_book.specs.Doing.{IsStepDone, IsTakenOf}
use Rattle.desk_book.specs.Kept.{IsOpenTake, GoOn, IsKept}
use Rattle.desk_book.specs.Seen.{take_of}
use Rattle.desk_book.proofs.Histories.{replay_more, each_more}
use Rattle.desk_book.proofs.Turns.{entries_other, last_more}

-- ---- one caller or another

by_test : (b : Bool) (m n : ℕ) → (m == n) ≡ b → (m ≡ n) ⊎ (m ≢ n)
by_test true m n e = inl (eqb-true m n e)
by_test false m n e = inr (λ same. let yes : (m == n) ≡ true = eq-eqb m n same in absurd (cc))

pub same_or_other : (m n : ℕ) → (m ≡ n) ⊎ (m ≢ n)
same_or_other m n = by_test (m == n) m n refl

-- ---- the line of an entry

-- what the line at a place says
abbrev pub said : List ScriptLine → ℕ → Result Command CommandFault
said lines k = command_of_line (slice_index_or lines k TooLong)

-- a caller's line says the same, whatever lines are sent later
pub said_later : (scripts longer : List (List ScriptLine)) (caller n : ℕ) (line : ScriptLine) → GoOn scripts longer
    → slice_get (script_of scripts caller) n ≡ Some line
    → said (script_of longer caller) (n + 1 - 1) ≡ command_of_line line
said_later scripts longer caller n line more at =
    let back : n + 1 - 1 ≡ n = omega arith in
    let script : List ScriptLine = script_of scripts caller in
    let rest : List ScriptLine = (more caller).0 in
    let low : n < length script = slice_get_within script n line at in
    ap (said (script_of longer caller)) back ∙ ap (λ (lines : List ScriptLine). said lines n) (more caller).1
    ∙ ap command_of_line (get_or-append script rest TooLong n low ∙ get_or_from_slice_get script n line TooLong at)

-- ---- open Takes

-- an entry of another caller comes later
open_later : (scripts : List (List ScriptLine)) (h : List EventEntry) (e : EventEntry) (caller : ℕ) (t : TakenParts) → e.caller ≢ caller
    → IsOpenTake scripts h caller t
    → IsOpenTake scripts (h ++ e ∷ []) caller t
open_later scripts h e caller t other o = record {
  before = o.before;
  entry = o.entry;
  later = o.later ++ e ∷ [];
  cut = ap (λ (es : List EventEntry). es ++ e ∷ []) o.cut ∙ append_assoc o.before (o.entry ∷ o.later) (e ∷ []);
  mine = o.mine;
  what = o.what;
  last = entries_other caller o.later e other ∙ o.last;
  named = o.named;
  taken = o.taken;
}

-- the entries of a caller after and with its last one
first_kept : (b : Bool) (e : EventEntry) (es : List EventEntry) → b ≡ true → es ≡ [] → cond b (e ∷ es) es ≡ e ∷ []
first_kept true e es h g = ap (λ (xs : List EventEntry). e ∷ xs) g
first_kept false e es h g = cc

pub has_taken : (scripts : List (List ScriptLine)) (h : List EventEntry) (caller : ℕ) (t : TakenParts) → EachAfter (IsEntry scripts) h
    → IsOpenTake scripts h caller t
    → HasTaken h caller t.snapshot.version
has_taken scripts h caller t each o =
    let mine : entries_of caller (o.entry ∷ o.later) ≡ o.entry ∷ [] =
    first_kept (o.entry.caller == caller) o.entry (entries_of caller o.later) (eq-eqb o.entry.caller caller o.mine) o.last in
    let all : entries_of caller h ≡ entries_of caller o.before ++ o.entry ∷ [] =
    ap (entries_of caller) o.cut ∙ filter-append (λ x. x.caller == caller) o.before (o.entry ∷ o.later)
    ∙ ap (λ (es : List EventEntry). entries_of caller o.before ++ es) mine in
    let entry : IsEntry scripts o.before o.entry = each o.before o.later o.entry o.cut in
    let version : t.snapshot.version ≡ (replay scripts o.before).version = ap (λ (s : Parts). s.version) o.taken.2 in
    (o.entry, ap (last_or None) all ∙ last_more None (entries_of caller o.before) o.entry, o.what, entry.version ∙ sym version)

none_taken : {X : Type 0} (takes : List (Option TakenParts)) (mine other : ℕ) (t : TakenParts) → mine ≡ other → take_of takes mine ≡ None
    → take_of takes other ≡ Some t → X
none_taken takes mine other t same none some =
    let clash : None ≡ Some t = sym none ∙ ap (take_of takes) same ∙ some in absurd (cc)

-- after an entry of a caller that has no open Take
pub opens_step : (scripts : List (List ScriptLine)) (h : List EventEntry) (takes : List (Option TakenParts)) (e : EventEntry) → take_of takes e.caller ≡ None
    → ((caller : ℕ) (t : TakenParts) → take_of takes caller ≡ Some t → IsOpenTake scripts h caller t)
    → (caller : ℕ) (t : TakenParts) → take_of takes caller ≡ Some t → IsOpenTake scripts (h ++ e ∷ []) caller t
opens_step scripts h takes e none opens caller t is =
    open_later scripts h e caller t (λ same. none_taken takes e.caller caller t same none is) (opens caller t is)

-- after a Take
open_now : (scripts : List (List ScriptLine)) (h : List EventEntry) (s : StateSeen) (e : EventEntry) (caller : ℕ) (t : TakenParts)
    → replay scripts h ≡ s → e.what ≡ Take
    → t.caller ≡ e.caller → IsTakenOf s t → e.caller ≡ caller
    → IsOpenTake scripts (h ++ e ∷ []) caller t
open_now scripts h s e caller t left what named taken is = record {
  before = h;
  entry = e;
  later = [];
  cut = refl;
  mine = is;
  what = what;
  last = refl;
  named = named ∙ is;
  taken = subst (λ (u : StateSeen). IsTakenOf u t) (sym left) taken;
}

taken_by : (scripts : List (List ScriptLine)) (h : List EventEntry) (s : StateSeen) (takes : List (Option TakenParts)) (e : EventEntry) (taken : TakenParts)
    → replay scripts h ≡ s → e.what ≡ Take → taken.caller ≡ e.caller → IsTakenOf s taken → e.caller < length takes
    → ((caller : ℕ) (t : TakenParts) → take_of takes caller ≡ Some t → IsOpenTake scripts h caller t)
    → (caller : ℕ) (t : TakenParts) → take_of (slice_set takes e.caller (Some taken)) caller ≡ Some t → (e.caller ≡ caller) ⊎ (e.caller ≢ caller)
    → IsOpenTake scripts (h ++ e ∷ []) caller t
taken_by scripts h s takes e taken left what named is low opens caller t at (inl same) =
    let here : take_of (slice_set takes e.caller (Some taken)) e.caller ≡ Some taken = get_or-set_same takes e.caller (Some taken) None low in
    let now : Some taken ≡ Some t = sym here ∙ ap (take_of (slice_set takes e.caller (Some taken))) same ∙ at in
    let one : taken ≡ t = cc in
    subst (λ (u : TakenParts). IsOpenTake scripts (h ++ e ∷ []) caller u) one (open_now scripts h s e caller taken left what named is same)
taken_by scripts h s takes e taken left what named is low opens caller t at (inr other) =
    let before : take_of takes caller ≡ Some t = sym (get_or-set_other takes e.caller caller (Some taken) None (λ same. other (sym same))) ∙ at in
    open_later scripts h e caller t other (opens caller t before)

pub opens_take : (scripts : List (List ScriptLine)) (h : List EventEntry) (s : StateSeen) (takes : List (Option TakenParts))
    (e : EventEntry) (taken : TakenParts)
    → replay scripts h ≡ s → e.what ≡ Take → taken.caller ≡ e.caller → IsTakenOf s taken → e.caller < length takes
    → ((caller : ℕ) (t : TakenParts) → take_of takes caller ≡ Some t → IsOpenTake scripts h caller t)
    → (caller : ℕ) (t : TakenParts) → take_of (slice_set takes e.caller (Some taken)) caller ≡ Some t → IsOpenTake scripts (h ++ e ∷ []) caller t
opens_take scripts h s takes e taken left what named is low opens caller t at =
    taken_by scripts h s takes e taken left what named is low opens caller t at (same_or_other e.caller caller)

-- after a Publish
shut_by : (scripts : List (List ScriptLine)) (h : List EventEntry) (takes : List (Option TakenParts)) (e : EventEntry) → e.caller < length takes
    → ((caller : ℕ) (t : TakenParts) → take_of takes caller ≡ Some t → IsOpenTake scripts h caller t)
    → (caller : ℕ) (t : TakenParts) → take_of (slice_set takes e.caller None) caller ≡ Some t → (e.caller ≡ caller) ⊎ (e.caller ≢ caller)
    → IsOpenTake scripts (h ++ e ∷ []) caller t
shut_by scripts h takes e low opens caller t at (inl same) =
    none_taken (slice_set takes e.caller None) e.caller caller t same (get_or-set_same takes e.caller None None low) at
shut_by scripts h takes e low opens caller t at (inr other) =
    open_later scripts h e caller t other (opens caller t (sym (get_or-set_other takes e.caller caller None None (λ same. other (sym same))) ∙ at))

pub opens_publish : (scripts : List (List ScriptLine)) (h : List EventEntry) (takes : List (Option TakenParts)) (e : EventEntry) → e.caller < length takes
    → ((caller : ℕ) (t : TakenParts) → take_of takes caller ≡ Some t → IsOpenTake scripts h caller t)
    → (caller : ℕ) (t : TakenParts) → take_of (slice_set takes e.caller None) caller ≡ Some t → IsOpenTake scripts (h ++ e ∷ []) caller t
opens_publish scripts h takes e low opens caller t at = shut_by scripts h takes e low opens caller t at (same_or_other e.caller caller)

-- ---- one entry more

pub kept_more : (scripts : List (List ScriptLine)) (h : List EventEntry) (s t : StateSeen) (takes takes' : List (Option TakenParts)) (e : EventEntry)
    → IsKept scripts h s takes
    → e.version ≡ s.version → IsReply scripts h e e.what → after_what s (read_at scripts e) e.what e.reply ≡ t → IsClaimEntry scripts h e
    → ((caller : ℕ) (u : TakenParts) → take_of takes' caller ≡ Some u → IsOpenTake scripts (h ++ e ∷ []) caller u)
    → IsKept scripts (h ++ e ∷ []) t takes'
kept_more scripts h s t takes takes' e k version reply left claims opens = record {
  each = each_more (IsEntry scripts) h e k.each (record { version = version ∙ ap (λ (u : StateSeen). u.version) (sym k.left); reply = reply });
  left = replay_more scripts h e ∙ ap (λ (u : StateSeen). after_what u (read_at scripts e) e.what e.reply) k.left ∙ left;
  claims = each_more (IsClaimEntry scripts) h e k.claims claims;
  opens = opens;
}

-- a step, over the replay and the line that is read
abbrev IsStep : Reply → StateSeen → Result Command CommandFault → Type 0
IsStep reply t read = ¬ (IsPlanning t read) × IsLineReply t read reply

-- the entry of a line that is a step
abbrev pub line_entry : ℕ → ℕ → StateSeen → Reply → EventEntry
line_entry caller n s reply = record { caller = caller; line = n + 1; what = Line; version = s.version; reply = reply }

-- the claim of a step is sent and not planned
sent_claims : (scripts : List (List ScriptLine)) (h : List EventEntry) (s : StateSeen) (caller n : ℕ) (reply : Reply)
    → replay scripts h ≡ s → IsBoundedReply s reply
    → IsClaimEntry scripts h (line_entry caller n s reply)
sent_claims scripts h s caller n reply left bounded = record {
  published = λ claim e.
      let known = bounded.published claim e in (
        known.0,
        record { reply = e; snapshot = subst (λ (t : StateSeen). IsSnapshotOf t known.0) (sym left) known.1 },
        record { bounded = known.2; planned = λ planned. cc },
      );
  exported = bounded.exported;
}

pub kept_step : (scripts : List (List ScriptLine)) (h : List EventEntry) (s t : StateSeen) (takes : List (Option TakenParts)) (caller n : ℕ)
    (read : Result Command CommandFault) (reply : Reply)
    → IsKept scripts h s takes
    → take_of takes caller ≡ None → said (script_of scripts caller) (n + 1 - 1) ≡ read → IsStepDone s read reply t
    → IsKept scripts (h ++ line_entry caller n s reply ∷ []) t takes
kept_step scripts h s t takes caller n read reply k none says d =
    let here : IsStep reply s (said (script_of scripts caller) (n + 1 - 1)) =
    subst (λ (r : Result Command CommandFault). IsStep reply s r) (sym says) (d.differs, d.replied) in
    kept_more scripts h s t takes takes (line_entry caller n s reply) k refl
    (subst (λ (u : StateSeen). IsStep reply u (said (script_of scripts caller) (n + 1 - 1))) (sym k.left) here)
    (ap (λ (r : Result Command CommandFault). after_line s r reply) says ∙ sym d.left)
    (sent_claims scripts h s caller n reply k.left d.bounded)
    (opens_step scripts h takes (line_entry caller n s reply) none k.opens)

-- a Take
abbrev IsTake : StateSeen → Result Command CommandFault → Type 0
IsTake t read = IsPlanning t read × (◌≡◌ {A = Reply} Taken Taken)

abbrev pub take_entry : ℕ → ℕ → StateSeen → EventEntry
take_entry caller n s = record { caller = caller; line = n + 1; what = Take; version = s.version; reply = Taken }

pub kept_take : (scripts : List (List ScriptLine)) (h : List EventEntry) (s : StateSeen) (takes : List (Option TakenParts)) (caller n : ℕ)
    (read : Result Command CommandFault) (taken : TakenParts)
    → IsKept scripts h s takes
    → caller < length takes → said (script_of scripts caller) (n + 1 - 1) ≡ read → IsPlanning s read → IsTakenOf s taken → taken.caller ≡ caller
    → IsKept scripts (h ++ take_entry caller n s ∷ []) s (slice_set takes caller (Some taken))
kept_take scripts h s takes caller n read taken k low says asks is named =
    let here : IsTake s (said (script_of scripts caller) (n + 1 - 1)) = subst (λ (r : Result Command CommandFault). IsTake s r) (sym says) (asks, refl) in
    kept_more scripts h s s takes (slice_set takes caller (Some taken)) (take_entry caller n s) k refl
    (subst (λ (u : StateSeen). IsTake u (said (script_of scripts caller) (n + 1 - 1))) (sym k.left) here)
    refl
    (record { published = λ claim e. cc; exported = λ claim parts e. cc })
    (opens_take scripts h s takes (take_entry caller n s) taken k.left refl named is low k.opens)

-- a Publish
abbrev pub publish_entry : ℕ → ℕ → StateSeen → Reply → EventEntry
publish_entry caller n s reply = record { caller = caller; line = n + 1; what = Publish; version = s.version; reply = reply }

planned_claims : (scripts : List (List ScriptLine)) (h : List EventEntry) (s : StateSeen) (caller n v : ℕ) (reply : Reply) → replay scripts h ≡ s
    → IsPublication s v reply
    → ((claim : Claim) → reply ≡ Published claim → IsDeskClaim s claim)
    → IsClaimEntry scripts h (publish_entry caller n s reply)
planned_claims scripts h s caller n v reply left publication known = record {
  published = λ claim e.
      let d : IsDeskClaim s claim = known claim e in (
        d.parts,
        record { reply = e; snapshot = subst (λ (t : StateSeen). IsSnapshotOf t d.parts) (sym left) d.snapshot },
        subst (λ (t : StateSeen). IsPublishedClaim Publish t d.parts claim) (sym left) (record { bounded = d.bounded; planned = λ _. d.planned }),
      );
  exported = λ claim parts e. absurd (subst (IsPublication s v) e publication);
}

pub kept_publish : (scripts : List (List ScriptLine)) (h : List EventEntry) (s : StateSeen) (takes : List (Option TakenParts)) (caller n : ℕ)
    (taken : TakenParts) (reply : Reply)
    → IsKept scripts h s takes
    → caller < length takes → take_of takes caller ≡ Some taken → IsPublication s taken.snapshot.version reply
    → ((claim : Claim) → reply ≡ Published claim → IsDeskClaim s claim)
    → IsKept scripts (h ++ publish_entry caller n s reply ∷ []) (after_publish s reply) (slice_set takes caller None)
kept_publish scripts h s takes caller n taken reply k low is publication known =
    kept_more scripts h s (after_publish s reply) takes (slice_set takes caller None) (publish_entry caller n s reply) k refl (
      taken.snapshot.version,
      has_taken scripts h caller taken k.each (k.opens caller taken is),
      subst (λ (u : StateSeen). IsPublication u taken.snapshot.version reply) (sym k.left) publication,
    )
    refl
    (planned_claims scripts h s caller n taken.snapshot.version reply k.left publication known)
    (opens_publish scripts h takes (publish_entry caller n s reply) low k.opens)
