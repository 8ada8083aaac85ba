-- What a call and a publication add to a book.
use Rattle.std.proofs.Common.{◌≡◌, ◌≢◌, ℕ, zero, suc, ◌+◌, ◌-◌, ◌<◌, List, [], ◌∷◌, ◌++◌, length, refl, sym, ◌∙◌, ap, subst, ◌⊎◌, inl, inr, arith}
use Rattle.std.proofs.Common.{length-append}
use Rattle.std.proofs.Common.{Option, Some, None, Result, true, slice_get, slice_set, length-set, get_or-set_same, get_or-set_other}
use Rattle.std.specs.Prelude.{slice_index_or, replicate}
use Rattle.std.proofs.Math.ListN.{get_or-append}
use Rattle.std.proofs.lemmas.Option.{get_or_from_slice_get, slice_get_within}
use Rattle.plan_base.specs.declared.taken.Taken.{Taken as TakenParts}
use Rattle.plan_base.specs.Solved.{SolvedTake}
use Rattle.plan_io.specs.declared.lines.ScriptLine.{ScriptLine}
use Rattle.plan_io.specs.declared.lines.ScriptLine.TheVariants.{TooLong}
use Rattle.desk_events.specs.declared.command.Command.{Command}
use Rattle.desk_events.specs.declared.entry.EventEntry.{EventEntry}
use Rattle.desk_events.specs.declared.entry.What.{What}
use Rattle.desk_events.specs.declared.entry.What.TheVariants.{Line, Take, Publish}
use Rattle.desk_events.specs.declared.fault.CommandFault.{CommandFault}
use Rattle.desk_events.specs.declared.reply.Reply.TheVariants.{Taken}
use Rattle.desk_core.specs.History.{script_of, line_of}
use Rattle.desk_book.specs.declared.step.BookCall.{BookCall}
use Rattle.desk_book.specs.declared.step.BookCall.TheVariants as call
use Rattle.desk_book.specs.Seen.{BookSeen, empty_book, take_of, done_of, ends_line, with_line, entry_of}
use Rattle.desk_book.specs.Doing.{DoesStep, DoesTake, IsDone, IsPublished, publish_reply}
use Rattle.desk_book.specs.Kept.{IsBook, GoOn}
use Rattle.desk_book.proofs.Keeping.{same_or_other}
use Rattle.desk_book.proofs.Sound.{stay, longer_scripts, go_further}
use Rattle.desk_book.proofs.Turns.{done_more, done_same, done_other}
use Rattle.desk_passes.specs.declared.seen.OpenTake.{OpenTake}
use Rattle.desk_passes.specs.declared.seen.SeenEntry.{SeenEntry}
use Rattle.desk_passes.specs.Seen.{lined, log_of, line_next, open_with, open_take, begun}
use Rattle.desk_passes.specs.Knowing.{IsFull}
use Rattle.desk_passes.specs.Turns.{HasOneMore}
use Rattle.desk_passes.proofs.Logs.{lined_more}

-- ---- one entry more

-- the book c is b with the entry e of a caller more, which does this line, the next one of its script
pub record Grows (b : BookSeen) (caller : ℕ) (e : EventEntry) (line : ScriptLine) (c : BookSeen) : Type 0 where
  pub longer : GoOn b.scripts c.scripts
  pub count : length c.scripts ≡ length b.scripts
  pub history : c.history ≡ b.history ++ e ∷ []
  pub mine : e.caller ≡ caller
  pub number : e.line ≡ done_of caller b.history + 1
  pub at : slice_get (script_of c.scripts caller) (done_of caller b.history) ≡ Some line
  pub others : (other : ℕ) → other ≢ caller → (script_of c.scripts other ≡ script_of b.scripts other) × (take_of c.takes other ≡ take_of b.takes other)
  pub each : length (script_of c.scripts caller) ≡ done_of caller c.history + begun (take_of c.takes caller)

-- the line of an entry, whatever lines are sent later
line_later : (scripts longer : List (List ScriptLine)) (caller n : ℕ) (line : ScriptLine) (e : EventEntry) → GoOn scripts longer
    → slice_get (script_of scripts caller) n ≡ Some line
    → e.caller ≡ caller → e.line ≡ n + 1 → line_of longer e ≡ line
line_later scripts longer caller n line e more at mine number =
    let script : List ScriptLine = script_of scripts caller in
    let rest : List ScriptLine = (more caller).0 in
    let low : n < length script = slice_get_within script n line at in
    let place : e.line - 1 ≡ n = omega (arith, number) in
    ap (λ (k : ℕ). slice_index_or (script_of longer k) (e.line - 1) TooLong) mine
    ∙ ap (λ (k : ℕ). slice_index_or (script_of longer caller) k TooLong) place
    ∙ ap (λ (lines : List ScriptLine). slice_index_or lines n TooLong) (more caller).1
    ∙ get_or-append script rest TooLong n low
    ∙ get_or_from_slice_get script n line TooLong at

lines_grown : (b c : BookSeen) (caller : ℕ) (e : EventEntry) (line : ScriptLine) (longer : List (List ScriptLine)) → IsFull b
    → Grows b caller e line c → GoOn c.scripts longer
    → lined longer c.history ≡ log_of b ++ record { entry = e; line = line } ∷ []
lines_grown b c caller e line longer full g more =
    ap (lined longer) g.history ∙ lined_more longer b.history e
    ∙ ap (λ (l : ScriptLine). lined longer b.history ++ record { entry = e; line = l } ∷ [])
    (line_later c.scripts longer caller (done_of caller b.history) line e more g.at g.mine g.number)
    ∙ ap (λ (xs : List SeenEntry). xs ++ record { entry = e; line = line } ∷ []) (full.lines longer (go_further b.scripts c.scripts longer g.longer more))

each_grown : (b c : BookSeen) (caller : ℕ) (e : EventEntry) (line : ScriptLine) → IsFull b → Grows b caller e line c → (other : ℕ)
    → (other ≡ caller) ⊎ (other ≢ caller)
    → length (script_of c.scripts other) ≡ done_of other c.history + begun (take_of c.takes other)
each_grown b c caller e line full g other (inl same) =
    subst (λ (k : ℕ). length (script_of c.scripts k) ≡ done_of k c.history + begun (take_of c.takes k)) (sym same) g.each
each_grown b c caller e line full g other (inr differs) =
    let stays = g.others other differs in
    let done : done_of other c.history ≡ done_of other b.history = ap (done_of other) g.history
    ∙ done_other other b.history e (λ same. differs (sym same ∙ g.mine)) in
    ap (λ (lines : List ScriptLine). length lines) stays.0
    ∙ full.each other
    ∙ ap (λ (n : ℕ). n + begun (take_of b.takes other)) (sym done)
    ∙ ap (λ (o : Option TakenParts). done_of other c.history + begun o) (sym stays.1)

open_stays : (b c : BookSeen) (caller : ℕ) (e : EventEntry) (line : ScriptLine) → Grows b caller e line c → (other : ℕ) → other ≢ caller
    → open_take c other ≡ open_take b other
open_stays b c caller e line g other differs =
    let stays = g.others other differs in
    let done : done_of other c.history ≡ done_of other b.history = ap (done_of other) g.history
    ∙ done_other other b.history e (λ same. differs (sym same ∙ g.mine)) in
    ap (λ (lines : List ScriptLine). open_with (slice_index_or lines (done_of other c.history) TooLong) (take_of c.takes other)) stays.0
    ∙ ap (λ (n : ℕ). open_with (slice_index_or (script_of b.scripts other) n TooLong) (take_of c.takes other)) done
    ∙ ap (open_with (line_next b other)) stays.1

grown : (b c : BookSeen) (caller : ℕ) (e : EventEntry) (line : ScriptLine) → IsFull b → IsBook c → Grows b caller e line c
    → (more : HasOneMore b caller c) × (more.entry ≡ record { entry = e; line = line })
grown b c caller e line full book g =
    let log : log_of c ≡ log_of b ++ record { entry = e; line = line } ∷ [] = lines_grown b c caller e line c.scripts full g (stay c.scripts) in (
      record {
        full = record {
          book = book;
          each = λ other. each_grown b c caller e line full g other (same_or_other other caller);
          lines = λ longer more. lines_grown b c caller e line longer full g more ∙ sym log;
        };
        callers = g.count;
        entry = record { entry = e; line = line };
        mine = g.mine;
        log = log;
        others = open_stays b c caller e line g;
      },
      refl,
    )

-- ---- a call

-- this much of a line is done
abbrev pub what_of : BookCall → What
what_of call.Replied = Line
what_of (call.Taken taken) = Take

-- what is open then
abbrev pub left_open : BookCall → ScriptLine → Option OpenTake
left_open call.Replied line = None
left_open (call.Taken taken) line = Some record { taken = taken; line = line }

-- the line that a call adds stands at the end
at_end : (xs : List ScriptLine) (x : ScriptLine) (n : ℕ) → length xs ≡ n → slice_get (xs ++ x ∷ []) n ≡ Some x
at_end [] x zero h = refl
at_end [] x (suc n) h = absurd (omega (arith, h))
at_end (y ∷ xs) x zero h = absurd (omega (arith, h))
at_end (y ∷ xs) x (suc n) h = at_end xs x n (omega (arith, h))

-- one entry with its line, and what is open then
pub record Called (b : BookSeen) (caller : ℕ) (line : ScriptLine) (answer : BookCall) (c : BookSeen) : Type 0 where
  pub more : HasOneMore b caller c
  pub line_is : more.entry.line ≡ line
  pub what : more.entry.entry.what ≡ what_of answer
  pub left : open_take c caller ≡ left_open answer line

module _ (b : BookSeen) (caller : ℕ) (line : ScriptLine) (c : BookSeen) (full : IsFull b) (book : IsBook c) (low : caller < length b.scripts)
    (shut : take_of b.takes caller ≡ None) where
  abbrev script : List ScriptLine
  script = script_of b.scripts caller

  abbrev pub sent : BookSeen
  sent = with_line b caller line

  all_done : length script ≡ done_of caller b.history
  all_done = let each : length script ≡ done_of caller b.history + begun (take_of b.takes caller) = full.each caller in
      each ∙ ap (λ (o : Option TakenParts). done_of caller b.history + begun o) shut ∙ (omega arith)

  own_script : script_of sent.scripts caller ≡ script ++ line ∷ []
  own_script = get_or-set_same b.scripts caller (script ++ line ∷ []) [] low

  within : caller < length b.takes
  within = omega (arith, full.book.as_many, low)

  stepped : (read : Result Command CommandFault) → DoesStep sent caller read c → Called b caller line call.Replied c
  stepped read does =
      let e : EventEntry = entry_of sent caller Line does.0 in
      let scripts : c.scripts ≡ sent.scripts = ap (λ (x : BookSeen). x.scripts) does.2 in
      let history : c.history ≡ b.history ++ e ∷ [] = ap (λ (x : BookSeen). x.history) does.2 in
      let takes : c.takes ≡ b.takes = ap (λ (x : BookSeen). x.takes) does.2 in
      let mine : script_of c.scripts caller ≡ script ++ line ∷ [] = ap (λ (ss : List (List ScriptLine)). script_of ss caller) scripts ∙ own_script in
      let done : done_of caller c.history ≡ done_of caller b.history + 1 = ap (done_of caller) history ∙ done_more caller b.history e refl refl in
      let still : take_of c.takes caller ≡ None = ap (λ (ts : List (Option TakenParts)). take_of ts caller) takes ∙ shut in
      let g = grown b c caller e line full book record {
        longer = subst (λ (ss : List (List ScriptLine)). GoOn b.scripts ss) (sym scripts) (longer_scripts b.scripts caller line low);
        count = ap (λ (ss : List (List ScriptLine)). length ss) scripts ∙ length-set b.scripts caller (script ++ line ∷ []);
        history = history;
        mine = refl;
        number = refl;
        at = ap (λ (lines : List ScriptLine). slice_get lines (done_of caller b.history)) mine ∙ at_end script line (done_of caller b.history) all_done;
        others = λ other differs. (
          ap (λ (ss : List (List ScriptLine)). script_of ss other) scripts ∙ get_or-set_other b.scripts caller other (script ++ line ∷ []) [] differs,
          ap (λ (ts : List (Option TakenParts)). take_of ts other) takes,
        );
        each = ap (λ (lines : List ScriptLine). length lines) mine ∙ length-append script (line ∷ [])
            ∙ ap (λ (n : ℕ). n + 1) all_done
            ∙ sym (ap (λ (o : Option TakenParts). done_of caller c.history + begun o) still ∙ ap (λ (n : ℕ). n + 0) done ∙ (omega arith));
      } in
      record {
        more = g.0;
        line_is = ap (λ (x : SeenEntry). x.line) g.1;
        what = ap (λ (x : SeenEntry). x.entry.what) g.1;
        left = ap (open_with (line_next c caller)) still;
      }

  took : (read : Result Command CommandFault) (taken : TakenParts) → DoesTake sent caller read taken c → Called b caller line (call.Taken taken) c
  took read taken does =
      let e : EventEntry = entry_of sent caller Take Taken in
      let scripts : c.scripts ≡ sent.scripts = ap (λ (x : BookSeen). x.scripts) does.3 in
      let history : c.history ≡ b.history ++ e ∷ [] = ap (λ (x : BookSeen). x.history) does.3 in
      let takes : c.takes ≡ slice_set b.takes caller (Some taken) = ap (λ (x : BookSeen). x.takes) does.3 in
      let mine : script_of c.scripts caller ≡ script ++ line ∷ [] = ap (λ (ss : List (List ScriptLine)). script_of ss caller) scripts ∙ own_script in
      let done : done_of caller c.history ≡ done_of caller b.history = ap (done_of caller) history ∙ done_same caller b.history e refl refl in
      let kept : take_of c.takes caller ≡ Some taken = ap (λ (ts : List (Option TakenParts)). take_of ts caller) takes
      ∙ get_or-set_same b.takes caller (Some taken) None within in
      let at : slice_get (script_of c.scripts caller) (done_of caller b.history) ≡ Some line =
      ap (λ (lines : List ScriptLine). slice_get lines (done_of caller b.history)) mine ∙ at_end script line (done_of caller b.history) all_done in
      let next : line_next c caller ≡ line = ap (λ (n : ℕ). slice_index_or (script_of c.scripts caller) n TooLong) done
      ∙ get_or_from_slice_get (script_of c.scripts caller) (done_of caller b.history) line TooLong at in
      let g = grown b c caller e line full book record {
        longer = subst (λ (ss : List (List ScriptLine)). GoOn b.scripts ss) (sym scripts) (longer_scripts b.scripts caller line low);
        count = ap (λ (ss : List (List ScriptLine)). length ss) scripts ∙ length-set b.scripts caller (script ++ line ∷ []);
        history = history;
        mine = refl;
        number = refl;
        at = at;
        others = λ other differs. (
          ap (λ (ss : List (List ScriptLine)). script_of ss other) scripts ∙ get_or-set_other b.scripts caller other (script ++ line ∷ []) [] differs,
          ap (λ (ts : List (Option TakenParts)). take_of ts other) takes ∙ get_or-set_other b.takes caller other (Some taken) None differs,
        );
        each = ap (λ (lines : List ScriptLine). length lines) mine ∙ length-append script (line ∷ [])
            ∙ ap (λ (n : ℕ). n + 1) all_done ∙ sym (ap (λ (o : Option TakenParts). done_of caller c.history + begun o) kept ∙ ap (λ (n : ℕ). n + 1) done);
      } in
      record {
        more = g.0;
        line_is = ap (λ (x : SeenEntry). x.line) g.1;
        what = ap (λ (x : SeenEntry). x.entry.what) g.1;
        left = ap (open_with (line_next c caller)) kept ∙ ap (λ (l : ScriptLine). Some record { taken = taken; line = l }) next;
      }

  pub called : (read : Result Command CommandFault) (answer : BookCall) → IsDone sent caller read answer c → Called b caller line answer c
  called read call.Replied does = stepped read does
  called read (call.Taken taken) does = took read taken does

-- ---- a publication

pub record Published (b : BookSeen) (caller : ℕ) (solved : SolvedTake) (c : BookSeen) : Type 0 where
  pub more : HasOneMore b caller c
  pub line_is : more.entry.line ≡ line_next b caller
  pub what : more.entry.entry.what ≡ Publish
  pub version : b.state.version ≡ more.entry.entry.version
  pub reply : more.entry.entry.reply ≡ publish_reply b.state solved
  pub left : open_take c caller ≡ None

-- the element at a place
there : (xs : List ScriptLine) (n : ℕ) → n < length xs → slice_get xs n ≡ Some (slice_index_or xs n TooLong)
there [] n h = absurd (omega (arith, h))
there (x ∷ xs) zero h = refl
there (x ∷ xs) (suc n) h = there xs n (omega (arith, h))

pub published : (b c : BookSeen) (caller : ℕ) (solved : SolvedTake) (e : EventEntry) → IsFull b → IsBook c → caller < length b.scripts
    → solved.taken.caller ≡ caller
    → IsPublished b solved e c → Published b caller solved c
published b c caller solved e full book low named p =
    let kept : take_of b.takes caller ≡ Some solved.taken = subst (λ (k : ℕ). take_of b.takes k ≡ Some solved.taken) named p.0 in
    let scripts : c.scripts ≡ b.scripts = ap (λ (x : BookSeen). x.scripts) p.2 in
    let history : c.history ≡ b.history ++ e ∷ [] = ap (λ (x : BookSeen). x.history) p.2 in
    let takes : c.takes ≡ slice_set b.takes caller None = ap (λ (x : BookSeen). x.takes) p.2 ∙ ap (λ (k : ℕ). slice_set b.takes k None) named in
    let mine : e.caller ≡ caller = ap (λ (x : EventEntry). x.caller) p.1 ∙ named in
    let number : e.line ≡ done_of caller b.history + 1 = ap (λ (x : EventEntry). x.line) p.1 ∙ ap (λ (k : ℕ). done_of k b.history + 1) named in
    let what : e.what ≡ Publish = ap (λ (x : EventEntry). x.what) p.1 in
    let ends : ends_line e.what ≡ true = ap ends_line what in
    let done : done_of caller c.history ≡ done_of caller b.history + 1 = ap (done_of caller) history ∙ done_more caller b.history e mine ends in
    let within : caller < length b.takes = omega (arith, full.book.as_many, low) in
    let shut : take_of c.takes caller ≡ None = ap (λ (ts : List (Option TakenParts)). take_of ts caller) takes
    ∙ get_or-set_same b.takes caller None None within in
    let all : length (script_of b.scripts caller) ≡ done_of caller b.history + 1 = full.each caller
    ∙ ap (λ (o : Option TakenParts). done_of caller b.history + begun o) kept in
    let own : script_of c.scripts caller ≡ script_of b.scripts caller = ap (λ (ss : List (List ScriptLine)). script_of ss caller) scripts in
    let g = grown b c caller e (line_next b caller) full book record {
      longer = subst (λ (ss : List (List ScriptLine)). GoOn b.scripts ss) (sym scripts) (stay b.scripts);
      count = ap (λ (ss : List (List ScriptLine)). length ss) scripts;
      history = history;
      mine = mine;
      number = number;
      at = ap (λ (lines : List ScriptLine). slice_get lines (done_of caller b.history)) own
          ∙ there (script_of b.scripts caller) (done_of caller b.history) (omega (arith, all));
      others = λ other differs. (
        ap (λ (ss : List (List ScriptLine)). script_of ss other) scripts,
        ap (λ (ts : List (Option TakenParts)). take_of ts other) takes ∙ get_or-set_other b.takes caller other None None differs,
      );
      each = ap (λ (lines : List ScriptLine). length lines) own ∙ all
          ∙ sym (ap (λ (o : Option TakenParts). done_of caller c.history + begun o) shut ∙ ap (λ (n : ℕ). n + 0) done ∙ (omega arith));
    } in
    record {
      more = g.0;
      line_is = ap (λ (x : SeenEntry). x.line) g.1;
      what = ap (λ (x : SeenEntry). x.entry.what) g.1 ∙ what;
      version = sym (ap (λ (x : SeenEntry). x.entry.version) g.1 ∙ ap (λ (x : EventEntry). x.version) p.1);
      reply = ap (λ (x : SeenEntry). x.entry.reply) g.1 ∙ ap (λ (x : EventEntry). x.reply) p.1;
      left = ap (open_with (line_next c caller)) shut;
    }

-- ---- a new book

pub full_new : (callers : ℕ) → IsBook (empty_book callers) → IsFull (empty_book callers)
full_new callers book = record { book = book; each = nothing_sent callers; lines = λ longer more. refl }
  where
    nothing_sent : (callers caller : ℕ) → length (script_of (replicate callers []) caller) ≡ done_of caller [] + begun (take_of (replicate callers None) caller)
    nothing_sent zero zero = refl
    nothing_sent zero (suc caller) = refl
    nothing_sent (suc callers) zero = refl
    nothing_sent (suc callers) (suc caller) = nothing_sent callers caller
