-- What an entry leaves is a state, where its version is one that a state may have.
use Rattle.std.proofs.Common.{◌≡◌, ℕ, ◌≤◌, ◌<◌, List, [], ◌∷◌, fold, refl, sym, ap, subst, arith, inl, inr, Option, Some, None, Result, Ok, Err, IfOk}
use Rattle.plan_base.specs.declared.claim.Claim.{Claim}
use Rattle.plan_base.specs.declared.parts.Parts.{Parts}
use Rattle.plan_base.specs.Verdict.{IsCertified}
use Rattle.plan_io.specs.declared.lines.ScriptLine.{ScriptLine}
use Rattle.desk_events.specs.declared.command.Command.{Command}
use Rattle.desk_events.specs.declared.command.Command.TheVariants as command
use Rattle.desk_events.specs.declared.entry.EventEntry.{EventEntry}
use Rattle.desk_events.specs.declared.entry.What.{What}
use Rattle.desk_events.specs.declared.entry.What.TheVariants.{Line, Take, Publish}
use Rattle.desk_events.specs.declared.fault.CommandFault.{CommandFault}
use Rattle.desk_events.specs.declared.reply.Reply.{Reply}
use Rattle.desk_events.specs.declared.reply.Reply.TheVariants.{Published}
use Rattle.desk_events.specs.Line.{command_of_line}
use Rattle.desk_events.specs.Ranges.{IsCommand}
use Rattle.desk_events.proofs.InRange.{in_range}
use Rattle.desk_core.specs.Desk.{DeskSeen, StateSeen, Stepped}
use Rattle.desk_core.specs.History.{line_of, read_at, after_line, after_publish, after_what, after_entry, with_published, replay, IsLineReply}
use Rattle.desk_core.specs.History.{IsPublication, IsReply}
use Rattle.desk_core.specs.Kept.{IsState}
use Rattle.desk_core.specs.Publishing.{with_publication}
use Rattle.desk_core.specs.Step.{IsStep, IsSnapshotOf, opened, new_desk, step_unopened}
use Rattle.desk_core.proofs.KeptPublishing.{snapshot_is, published_keeps}
use Rattle.desk_core.proofs.KeptState.{open_keeps}
use Rattle.desk_core.proofs.KeptSteps.{step_keeps}
use Rattle.desk_book.proofs.GoesOn.{GoesOn, line_goes, publish_goes}
use Rattle.desk_book.proofs.Stepping.{step_left}

-- ---- a step

-- a command before the desk is opened
unopened_keeps : (version : ℕ) (c : Command) → version < 524288 → IsState record { version = version; desk = None } → IsCommand c
    → IsState (step_unopened record { version = version; desk = None } c).state
unopened_keeps version (command.Open now slice horizon semester lanes rounds workers quota) low state ranges =
    open_keeps version record {
      slice = slice;
      horizon = horizon;
      semester = semester;
      settings = record { lanes = lanes; rounds = rounds; workers = workers };
      quota = quota;
    } now (new_desk record {
      slice = slice;
      horizon = horizon;
      semester = semester;
      settings = record { lanes = lanes; rounds = rounds; workers = workers };
      quota = quota;
    } now) low
    record {
      slice = ranges.length_of_slice;
      horizon = ranges.slices;
      semester = ranges.season;
      lanes = ranges.sequences;
      rounds = ranges.turns;
      workers = ranges.threads;
      quota = ranges.share;
    } ranges.moment refl
unopened_keeps version c low state ranges = state

step_state : (version : ℕ) (desk : Option DeskSeen) (c : Command) (stepped : Stepped) → version < 524288
    → IsState record { version = version; desk = desk } → IsCommand c
    → IsStep record { version = version; desk = desk } c stepped → IsState stepped.state
step_state version None c stepped low state ranges s =
    let same : step_unopened record { version = version; desk = None } c ≡ stepped = cc (s.2) in
    subst (λ (t : Stepped). IsState t.state) same (unopened_keeps version c low state ranges)
step_state version (Some d) c stepped low state ranges s = step_keeps version d c stepped low state ranges s

line_state : (s : StateSeen) (read : Result Command CommandFault) (r : Reply) → s.version < 524288 → IsState s → IfOk read IsCommand
    → IsLineReply s read r → IsState (after_line s read r)
line_state s (Err fault) r low state ranges h = state
line_state s (Ok c) r low state ranges h =
    let stepped : Stepped = h.0 in
    let left : after_line s (Ok c) stepped.reply ≡ stepped.state = step_left s c stepped h.1 in
    let kept : IsState stepped.state = step_state s.version s.desk c stepped low state ranges h.1 in
    subst (λ (reply : Reply). IsState (after_line s (Ok c) reply)) h.2 (subst IsState (sym left) kept)

claim_state : (version : ℕ) (desk : Option DeskSeen) (claim : Claim) (parts : Parts) → version < 524288 → IsState record { version = version; desk = desk }
    → IsSnapshotOf record { version = version; desk = desk } parts → IsCertified parts claim
    → IsState (with_published record { version = version; desk = desk } desk claim)
claim_state version None claim parts low state snapshot certified = state
claim_state version (Some d) claim parts low state snapshot certified =
    let same : version ≡ parts.version = sym (ap (λ (p : Parts). p.version) (snapshot_is (opened version d) version d parts refl snapshot)) in
    published_keeps (opened version d) version d (with_publication version claim d) parts claim low state refl snapshot certified
    (ap (λ (n : ℕ). with_publication n claim d) same)

publish_state : (s : StateSeen) (v : ℕ) (r : Reply) → s.version < 524288 → IsState s → IsPublication s v r → IsState (after_publish s r)
publish_state s v (Published claim) low state h = claim_state s.version s.desk claim h.1.0 low state h.1.1 h.1.3
publish_state s v r low state h = state

what_state : (scripts : List (List ScriptLine)) (before : List EventEntry) (e : EventEntry) (what : What) → (replay scripts before).version < 524288
    → IsState (replay scripts before)
    → IfOk (read_at scripts e) IsCommand → IsReply scripts before e what → IsState (after_what (replay scripts before) (read_at scripts e) what e.reply)
what_state scripts before e Line low state ranges h = line_state (replay scripts before) (read_at scripts e) e.reply low state ranges h.1
what_state scripts before e Take low state ranges h = state
what_state scripts before e Publish low state ranges h = publish_state (replay scripts before) h.0 e.reply low state h.2

-- what a line says is in its ranges
said_in_range : (l : ScriptLine) (read : Result Command CommandFault) → command_of_line l ≡ read → IfOk read IsCommand
said_in_range l (Ok c) is = in_range l c is
said_in_range l (Err fault) is = tt

-- ---- versions only rise

pub what_goes : (s : StateSeen) (read : Result Command CommandFault) (what : What) (r : Reply) → GoesOn s (after_what s read what r)
what_goes s read Line r = line_goes s read r
what_goes s read Take r = inl refl
what_goes s read Publish r = publish_goes s r

rises : (s t : StateSeen) → GoesOn s t → s.version ≤ t.version
rises s t (inl same) = omega (arith, ap (λ (u : StateSeen). u.version) same)
rises s t (inr more) = omega (arith, more)

pub versions_rise : (scripts : List (List ScriptLine)) (s : StateSeen) (es : List EventEntry) → s.version ≤ (fold (after_entry scripts) s es).version
versions_rise scripts s [] = omega arith
versions_rise scripts s (e ∷ es) =
    let first : s.version ≤ (after_entry scripts s e).version = rises s (after_entry scripts s e) (what_goes s (read_at scripts e) e.what e.reply) in
    let rest : (after_entry scripts s e).version ≤ (fold (after_entry scripts) (after_entry scripts s e) es).version =
    versions_rise scripts (after_entry scripts s e) es in
    omega arith

-- ---- an entry

-- the state after an entry, where the last version is one that a state may have
pub entry_state : (scripts : List (List ScriptLine)) (before : List EventEntry) (e : EventEntry) → IsState (replay scripts before)
    → IsReply scripts before e e.what
    → (after_entry scripts (replay scripts before) e).version ≤ 524288 → GoesOn (replay scripts before) (after_entry scripts (replay scripts before) e)
    → IsState (after_entry scripts (replay scripts before) e)
entry_state scripts before e state h most (inl same) = subst IsState (sym same) state
entry_state scripts before e state h most (inr more) =
    let low : (replay scripts before).version < 524288 = omega (arith, more, most) in
    what_state scripts before e e.what low state (said_in_range (line_of scripts e) (read_at scripts e) refl) h
