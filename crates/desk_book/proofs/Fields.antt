-- The fields of a book after each call.
use Rattle.std.proofs.Common.{◌≡◌, ℕ, ◌+◌, ◌-◌, ◌<◌, List, [], ◌∷◌, ◌++◌, length, take, set, get_or, sym, ◌∙◌, ap, subst, arith, inl, inr}
use Rattle.std.proofs.Common.{Some, None, Result, Ok, Err, IfOk, OnErr, get_or-set_same, length-append}
use Rattle.std.specs.declared.option.Option.{Option}
use Rattle.std.specs.Prelude.{slice_set}
use Rattle.std.proofs.Math.Seq.{take-append_seam}
use Rattle.std.proofs.lemmas.List.{set-set, set-get_or, get_or_read}
use Rattle.plan_base.specs.declared.claim.Claim.{Claim}
use Rattle.plan_base.specs.declared.taken.Outcome.{Outcome}
use Rattle.plan_base.specs.declared.taken.Taken.{Taken as TakenParts}
use Rattle.plan_base.specs.Planned.{IsPlanned}
use Rattle.plan_base.specs.Snapshot.{IsOrderly}
use Rattle.plan_base.specs.Solved.{HasFewStarts}
use Rattle.plan_io.specs.declared.lines.ScriptLine.{ScriptLine}
use Rattle.desk_events.specs.declared.command.Command.{Command}
use Rattle.desk_events.specs.declared.entry.EventEntry.{EventEntry}
use Rattle.desk_events.specs.declared.entry.What.{What}
use Rattle.desk_events.specs.declared.entry.What.TheVariants.{Line, Take, Publish}
use Rattle.desk_events.specs.declared.fault.CommandFault.{CommandFault}
use Rattle.desk_events.specs.declared.reply.Reply.{Reply}
use Rattle.desk_events.specs.declared.reply.Reply.TheVariants.{Taken, Published}
use Rattle.desk_core.specs.Desk.{StateSeen}
use Rattle.desk_core.specs.History.{IsPlanning, script_of, after_publish, IsPublication}
use Rattle.desk_book.specs.Claims.{IsDeskClaim}
use Rattle.desk_book.specs.Doing.{IsStepDone, IsTakenOf, SaysNext, IsPublished, publish_reply}
use Rattle.desk_book.specs.Kept.{IsBehind, IsSound, AreCounted}
use Rattle.desk_book.specs.Seen.{BookSeen, take_of, done_of, entry_of, with_line, with_lines}
use Rattle.desk_book.proofs.Calls.{sound_step, counted_step, sound_take, counted_take, sound_publish, counted_publish}
use Rattle.desk_book.proofs.Sound.{sound_line, counted_line}
use Rattle.desk_book.proofs.Stepping.{bounded_claim}

-- ---- the entry that is added

-- an element that was added where there was room
pub pushed : {A : Type 0} (base old new : List A) (x : A) → new ≡ old ++ x ∷ [] → old ≡ base → new ≡ base ++ x ∷ []
pushed base old new x is same = is ∙ ap (λ xs. xs ++ x ∷ []) same

-- the number that stands for a caller is how many lines it has done
counted_at : (b : BookSeen) (done : List ℕ) (caller n : ℕ) → AreCounted b done → caller < length b.scripts → n ≡ get_or done caller n → n ≡ get_or done caller 0
counted_at b done caller n c low read = let same = c.as_many in get_or_read done caller n (omega arith) read 0

pub number_of : (b : BookSeen) (done : List ℕ) (caller n : ℕ) → AreCounted b done → caller < length b.scripts → n ≡ get_or done caller n
    → n ≡ done_of caller b.history
number_of b done caller n c low read = counted_at b done caller n c low read ∙ c.each caller

-- an entry with these numbers
abbrev entry_with : ℕ → ℕ → What → ℕ → Reply → EventEntry
entry_with caller n what version reply = record { caller = caller; line = n + 1; what = what; version = version; reply = reply }

-- it is that of the caller's next line
same_entry : (b : BookSeen) (done : List ℕ) (caller n version : ℕ) (what : What) (reply : Reply) → AreCounted b done → caller < length b.scripts
    → n ≡ get_or done caller n → version ≡ b.state.version
    → entry_with caller n what version reply ≡ entry_of b caller what reply
same_entry b done caller n version what reply c low read now =
    ap (λ (k : ℕ). entry_with caller k what version reply) (number_of b done caller n c low read)
    ∙ ap (λ (v : ℕ). entry_with caller (done_of caller b.history) what v reply) now

-- a book with this history, state and Takes
abbrev pub book_with : BookSeen → List EventEntry → StateSeen → List (Option TakenParts) → BookSeen
book_with b history state takes = record { scripts = b.scripts; history = history; state = state; takes = takes }

-- ---- a step

pub step_fields : (b : BookSeen) (done : List ℕ) (caller n version : ℕ) (read : Result Command CommandFault) (reply : Reply) (t : StateSeen)
    (history : List EventEntry)
    → IsSound b → AreCounted b done → caller < length b.scripts → n ≡ get_or done caller n → take_of b.takes caller ≡ None → SaysNext b caller read
    → IsStepDone b.state read reply t
    → version ≡ b.state.version → history ≡ b.history ++ record { caller = caller; line = n + 1; what = Line; version = version; reply = reply } ∷ []
    → IsSound (book_with b history t b.takes) × AreCounted (book_with b history t b.takes) (set done caller (n + 1))
step_fields b done caller n version read reply t history s c low at shut next d now is =
    let more : history ≡ b.history ++ entry_of b caller Line reply ∷ [] = is
    ∙ ap (λ (e : EventEntry). b.history ++ e ∷ []) (same_entry b done caller n version Line reply c low at now) in
    let count : get_or done caller 0 ≡ n = sym (counted_at b done caller n c low at) in (
      subst (λ (h : List EventEntry). IsSound (book_with b h t b.takes)) (sym more) (sound_step b caller read reply t s shut next d),
      subst (λ (h : List EventEntry). AreCounted (book_with b h t b.takes) (set done caller (n + 1))) (sym more)
          (subst (λ (k : ℕ). AreCounted (book_with b (b.history ++ entry_of b caller Line reply ∷ []) t b.takes) (set done caller (k + 1))) count
          (counted_step b done caller read reply t c low d)),
    )

-- ---- a Take

pub take_fields : (b : BookSeen) (done : List ℕ) (caller n version : ℕ) (read : Result Command CommandFault) (taken : TakenParts) (history : List EventEntry)
    → IsSound b → AreCounted b done → caller < length b.scripts → n ≡ get_or done caller n → take_of b.takes caller ≡ None → SaysNext b caller read
    → IsPlanning b.state read → IsTakenOf
    b.state taken → taken.caller ≡ caller
    → version ≡ b.state.version → history ≡ b.history ++ record { caller = caller; line = n + 1; what = Take; version = version; reply = Taken } ∷ []
    → IsSound (book_with b history b.state (set b.takes caller (Some taken))) × AreCounted (book_with b history b.state (set b.takes caller (Some taken))) done
take_fields b done caller n version read taken history s c low at shut next asks was named now is =
    let more : history ≡ b.history ++ entry_of b caller Take Taken ∷ [] = is
    ∙ ap (λ (e : EventEntry). b.history ++ e ∷ []) (same_entry b done caller n version Take Taken c low at now) in
    let takes : List (Option TakenParts) = set b.takes caller (Some taken) in (
      subst (λ (h : List EventEntry). IsSound (book_with b h b.state takes)) (sym more) (sound_take b caller read taken s low shut next asks was named),
      subst (λ (h : List EventEntry). AreCounted (book_with b h b.state takes) done) (sym more) (counted_take b done caller takes c),
    )

-- ---- a Publish

pub publish_fields : (b : BookSeen) (done : List ℕ) (taken : TakenParts) (n version : ℕ) (reply : Reply) (t : StateSeen) (history : List EventEntry)
    → IsSound b → AreCounted b done → taken.caller < length b.scripts → n ≡ get_or done taken.caller n → take_of b.takes taken.caller ≡ Some taken
    → IsPublication b.state taken.snapshot.version reply → ((claim : Claim) → reply ≡ Published claim → IsDeskClaim b.state claim)
    → t ≡ after_publish b.state reply
    → version ≡ b.state.version → history ≡ b.history ++ record { caller = taken.caller; line = n + 1; what = Publish; version = version; reply = reply } ∷ []
    → IsSound (book_with b history t (set b.takes taken.caller None))
    × AreCounted (book_with b history t (set b.takes taken.caller None)) (set done taken.caller (n + 1))
publish_fields b done taken n version reply t history s c low at was publication known left now is =
    let caller : ℕ = taken.caller in
    let e : EventEntry = entry_of b caller Publish reply in
    let more : history ≡ b.history ++ e ∷ [] = is
    ∙ ap (λ (x : EventEntry). b.history ++ x ∷ []) (same_entry b done caller n version Publish reply c low at now) in
    let count : get_or done caller 0 ≡ n = sym (counted_at b done caller n c low at) in
    let takes : List (Option TakenParts) = set b.takes caller None in (
      subst (λ (h : List EventEntry). IsSound (book_with b h t takes)) (sym more)
          (subst (λ (u : StateSeen). IsSound (book_with b (b.history ++ e ∷ []) u takes)) (sym left)
          (sound_publish b caller taken reply s low was publication known)),
      subst (λ (h : List EventEntry). AreCounted (book_with b h t takes) (set done caller (n + 1))) (sym more)
          (subst (λ (u : StateSeen). AreCounted (book_with b (b.history ++ e ∷ []) u takes) (set done caller (n + 1))) (sym left)
          (subst (λ (k : ℕ). AreCounted (book_with b (b.history ++ e ∷ []) (after_publish b.state reply) takes) (set done caller (k + 1))) count
          (counted_publish b done caller reply takes c low))),
    )

pub published_fields : (b : BookSeen) (done : List ℕ) (taken : TakenParts) (outcome : Outcome) (n version : ℕ) (kept told : Reply) (t : StateSeen)
    (history : List EventEntry)
    → AreCounted b done → taken.caller < length b.scripts → n ≡ get_or done taken.caller n → take_of b.takes taken.caller ≡ Some taken
    → kept ≡ publish_reply b.state record { taken = taken; outcome = outcome } → told ≡ kept → t ≡ after_publish b.state kept
    → version ≡ b.state.version → history ≡ b.history ++ record { caller = taken.caller; line = n + 1; what = Publish; version = version; reply = kept } ∷ []
    → IsPublished b (record { taken = taken; outcome = outcome })
    (record { caller = taken.caller; line = n + 1; what = Publish; version = version; reply = told })
    (book_with b history t (set b.takes taken.caller None))
published_fields b done taken outcome n version kept told t history c low at was is same left now more =
    let caller : ℕ = taken.caller in
    let takes : List (Option TakenParts) = set b.takes caller None in
    let e : EventEntry = entry_with caller n Publish version told in
    let twin : entry_with caller n Publish version kept ≡ e = ap (λ (r : Reply). entry_with caller n Publish version r) (sym same) in
    let longer : history ≡ b.history ++ e ∷ [] = more ∙ ap (λ (x : EventEntry). b.history ++ x ∷ []) twin in
    let later : t ≡ after_publish b.state told = left ∙ ap (after_publish b.state) (sym same) in (
      was,
      same_entry b done caller n version Publish told c low at now ∙ ap (entry_of b caller Publish) (same ∙ is),
      ap (λ (h : List EventEntry). book_with b h t takes) longer ∙ ap (λ (u : StateSeen). book_with b (b.history ++ e ∷ []) u takes) later,
    )

-- ---- what was found

-- a Take that is as new as the state is the state's
pub taken_now : (s : StateSeen) (t : TakenParts) → IsBehind s t → s.version ≡ t.snapshot.version → IsTakenOf s t
taken_now s t (inl is) same = is
taken_now s t (inr before) same = absurd (omega arith)

same_sent : (claim sent : Claim) → Published claim ≡ Published sent → claim ≡ sent
same_sent claim sent h = cc

-- the claim that is published for it
pub desk_claim : (s : StateSeen) (t : TakenParts) (claim sent : Claim) → IsTakenOf s t → IsOrderly t.snapshot → IsPlanned t.snapshot t.settings claim
    → HasFewStarts t.snapshot
    → Published claim ≡ Published sent → IsDeskClaim s sent
desk_claim s t claim sent was orderly planned few is =
    let here : IsDeskClaim s claim = record {
      parts = t.snapshot;
      snapshot = (was.0, was.1, was.2);
      few = few;
      bounded = bounded_claim t.snapshot claim orderly planned.certified;
      planned = (was.0, was.1, subst (λ x. IsPlanned t.snapshot x claim) was.3 planned);
    } in
    subst (λ (c : Claim). IsDeskClaim s c) (same_sent claim sent is) here

-- ---- a line more, or a line that is taken back

pub line_fields : {U E : Type 0} (b : BookSeen) (done : List ℕ) (caller : ℕ) (line : ScriptLine) (was now : List ScriptLine) (r : Result U E)
    → IsSound b → AreCounted b done → caller < length b.scripts → length (script_of b.scripts caller) < 65536 → was ≡ get_or b.scripts caller was
    → IfOk r (λ _. now ≡ was ++ line ∷ []) → OnErr r (now ≡ was)
    → IsSound (record b { scripts = set b.scripts caller now }) × AreCounted (record b { scripts = set b.scripts caller now }) done
line_fields b done caller line was now (Ok u) s c low room at longer same =
    let is : now ≡ script_of b.scripts caller ++ line ∷ [] = longer
    ∙ ap (λ (xs : List ScriptLine). xs ++ line ∷ []) (get_or_read b.scripts caller was low at []) in (
      subst (λ (xs : List ScriptLine). IsSound (record b { scripts = set b.scripts caller xs })) (sym is) (sound_line b caller line s low room),
      subst (λ (xs : List ScriptLine). AreCounted (record b { scripts = set b.scripts caller xs }) done) (sym is) (counted_line b done caller line c),
    )
line_fields b done caller line was now (Err e) s c low room at longer same =
    let is : now ≡ script_of b.scripts caller = same ∙ get_or_read b.scripts caller was low at [] in
    let whole : set b.scripts caller now ≡ b.scripts = ap (λ (xs : List ScriptLine). set b.scripts caller xs) is ∙ set-get_or b.scripts caller [] in (
      subst (λ (scripts : List (List ScriptLine)). IsSound (record b { scripts = scripts })) (sym whole) s,
      subst (λ (scripts : List (List ScriptLine)). AreCounted (record b { scripts = scripts }) done) (sym whole) c,
    )

pub taken_back : (b : BookSeen) (caller : ℕ) (line : ScriptLine) → caller < length b.scripts
    → with_lines (with_line b caller line) caller (length (script_of (with_line b caller line).scripts caller) - 1) ≡ b
taken_back b caller line low =
    let script : List ScriptLine = script_of b.scripts caller in
    let longer : List ScriptLine = script ++ line ∷ [] in
    let here : script_of (slice_set b.scripts caller longer) caller ≡ longer = get_or-set_same b.scripts caller longer [] low in
    let count : length longer - 1 ≡ length script = omega (arith, length-append script (line ∷ [])) in
    let front : take (length longer - 1) longer ≡ script = ap (λ (k : ℕ). take k longer) count ∙ take-append_seam script (line ∷ []) in
    let lines : List ScriptLine → List ScriptLine = λ xs. take (length xs - 1) xs in
    let whole : slice_set (slice_set b.scripts caller longer) caller (lines (script_of (slice_set b.scripts caller longer) caller)) ≡ b.scripts =
    ap (λ (xs : List ScriptLine). slice_set (slice_set b.scripts caller longer) caller (lines xs)) here
    ∙ ap (λ (xs : List ScriptLine). slice_set (slice_set b.scripts caller longer) caller xs) front
    ∙ set-set b.scripts caller longer script ∙ set-get_or b.scripts caller [] in
    ap (λ (scripts : List (List ScriptLine)). record b { scripts = scripts }) whole
