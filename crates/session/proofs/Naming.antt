-- Lines that are read of several callers, each of which names one.
use Rattle.std.proofs.Common.{◌≡◌, ℕ, ◌+◌, ◌≤◌, ◌<◌, List, [], ◌∷◌, ◌++◌, length, IsSome, Bool, true, false, cond, nat_eq, refl, sym, ◌∙◌, ap, subst}
use Rattle.std.proofs.Common.{arith, inl, inr}
use Rattle.std.proofs.Common.{append_assoc, append-nil}
use Rattle.std.specs.declared.option.Option.{Option}
use Rattle.std.proofs.lemmas.List.Elements.{All-nil, All-push}
use Rattle.plan_io.specs.declared.lines.ScriptLine.{ScriptLine}
use Rattle.plan_io.specs.declared.lines.LineAnswer.{LineAnswer}
use Rattle.plan_io.specs.declared.lines.LineAnswer.TheVariants as answer
use Rattle.plan_io.specs.LinesOf.{line_of, lines_from, whole_lines_from, whole_lines_of}
use Rattle.plan_io.specs.LinesSeen.{LinesSeen, IsFresh, IsWithin}
use Rattle.plan_io.specs.Next.{ReadsOn, IsNext}
use Rattle.plan_io.specs.Reading.{HasAnswered, ReadsFirst}
use Rattle.plan_io.proofs.Loops.{so_far_start, so_far_line, so_far_ends, so_far_first, so_far_cut}
use Rattle.desk_core.specs.History.{script_of}
use Rattle.desk_book.specs.Seen.{BookSeen, empty_book, with_line}
use Rattle.plan_io.specs.Limits.{most_input_lines}
use Rattle.session.specs.Limits.{most_live_bytes}
use Rattle.session.specs.Live.{caller_of, scripts_of, EachNamesCaller, HasRead, HasNoCaller}
use Rattle.session.specs.LiveParts.{IsSent, HasReadSome}
use Rattle.session.proofs.Done.{one_more}
use Rattle.session.proofs.Going.{StaysEnded, answered_count, most_stays}
use Rattle.session.proofs.Scripts.{read_book, read_none, read_more, eight_scripts, scripts_short, names_one}

-- ---- all lines but the last of those that were read

-- of an open piece and the bytes after it at most the last line has no newline
but_one : (piece bytes : List ℕ) → (last : List ScriptLine) × (lines_from piece bytes ≡ whole_lines_from piece bytes ++ last) × (length last ≤ 1)
but_one [] [] = ([], refl, omega arith)
but_one (b ∷ piece) [] = (line_of (b ∷ piece) ∷ [], refl, omega arith)
but_one piece (b ∷ bytes) =
    elim (nat_eq b 10) as (λ t.
    (last : List ScriptLine)
    × (cond t (line_of piece ∷ lines_from [] bytes) (lines_from (piece ++ b ∷ []) bytes) ≡ cond t (line_of piece ∷ whole_lines_from [] bytes)
    (whole_lines_from (piece ++ b ∷ []) bytes) ++ last)
    × (length last ≤ 1)) [
      | true ↦ let rest = but_one [] bytes in (rest.0, ap (λ (ls : List ScriptLine). line_of piece ∷ ls) rest.1, rest.2)
      | false ↦ but_one (piece ++ b ∷ []) bytes
    ]

-- two lists with one line more that are the same
same_front : (xs ys : List ScriptLine) (x y : ScriptLine) → xs ++ x ∷ [] ≡ ys ++ y ∷ [] → xs ≡ ys
same_front [] [] x y h = refl
same_front [] (b ∷ []) x y h = cc
same_front [] (b ∷ c ∷ ys) x y h = cc
same_front (a ∷ []) [] x y h = cc
same_front (a ∷ b ∷ xs) [] x y h = cc
same_front (a ∷ xs) (b ∷ ys) x y h =
    let first : a ≡ b = cc in
    let rest : xs ++ x ∷ [] ≡ ys ++ y ∷ [] = cc in
    ap (λ (z : ScriptLine). z ∷ xs) first ∙ ap (λ (zs : List ScriptLine). b ∷ zs) (same_front xs ys x y rest)

begins_whole : (whole last lines : List ScriptLine) (line : ScriptLine) → whole ++ last ≡ lines ++ line ∷ [] → length last ≤ 1
    → (rest : List ScriptLine) × (whole ≡ lines ++ rest)
begins_whole whole [] lines line is few = (line ∷ [], sym (append-nil whole) ∙ is)
begins_whole whole (x ∷ []) lines line is few = ([], same_front whole lines x line is ∙ sym (append-nil lines))
begins_whole whole (x ∷ y ∷ last) lines line is few = absurd (omega arith)

pub one_fewer : (m n : ℕ) (a b : Option (List ℕ)) (lines : List ScriptLine) (line : ScriptLine) → ReadsFirst m n a (lines ++ line ∷ []) b
    → ReadsFirst m n a lines b
one_fewer m n a b lines line r =
    let first : ((rest : List ScriptLine) × (whole_lines_of r.given ≡ lines ++ rest)) =
    elim r.first [
      | inl whole ↦ (line ∷ whole.0, whole.1 ∙ append_assoc lines (line ∷ []) whole.0)
      | inr all ↦ let cut = but_one [] r.given in begins_whole (whole_lines_of r.given) cut.0 lines line (sym cut.1 ∙ all.1) cut.2
    ] in
    record { given = r.given; came = r.came; first = inl first; bytes = r.bytes; few = omega (arith, r.few, one_more lines line) }

-- ---- the lines that are read

-- the reader before the first line
abbrev pub live_reader : LinesSeen
live_reader = record {
  held = [];
  long = false;
  taken = 0;
  answered = 0;
  most_bytes = most_live_bytes;
  most_lines = most_input_lines;
  failed = false;
  ended = false;
}

live_fresh : IsFresh live_reader
live_fresh = record { held = refl; long = refl }

-- so many lines were read, of a source that had a left, and stand in the scripts of the book
pub record Naming (a b : Option (List ℕ)) (reader : LinesSeen) (number : ℕ) (book : BookSeen) : Type 0 where
  pub lines : List ScriptLine
  pub read : HasAnswered live_reader a lines reader b
  pub named : EachNamesCaller lines
  pub count : length lines ≡ number
  pub sent : book ≡ read_book lines
  pub few : length lines ≤ 65536
  pub bytes : reader.taken ≤ reader.most_bytes
  pub within : reader.answered ≤ reader.most_lines

naming_start : (a : Option (List ℕ)) → Naming a a live_reader 0 (read_book [])
naming_start a = record {
  lines = [];
  read = so_far_start live_reader a refl;
  named = All-nil (λ line. IsSome (caller_of line));
  count = refl;
  sent = refl;
  few = omega arith;
  bytes = omega arith;
  within = omega arith;
}

pub naming_first : (a : Option (List ℕ)) (reader : LinesSeen) (book : BookSeen) → reader ≡ live_reader → book ≡ empty_book 8 → Naming a a reader 0 book
naming_first a reader book first new =
    subst (λ (r : LinesSeen). Naming a a r 0 book) (sym first) (subst (λ (b : BookSeen). Naming a a live_reader 0 b) (sym (new ∙ read_none)) (naming_start a))

-- what the book has room for
pub naming_callers : (a b : Option (List ℕ)) (reader : LinesSeen) (number : ℕ) (book : BookSeen) → Naming a b reader number book → length book.scripts ≡ 8
naming_callers a b reader number book d = ap (λ (k : BookSeen). length k.scripts) d.sent ∙ eight_scripts d.lines

-- a line more is read
pub record NextNaming (a b c : Option (List ℕ)) (old new : LinesSeen) (number : ℕ) (book : BookSeen) (line : ScriptLine) : Type 0 where
  pub naming : Naming a b old number book
  pub read : HasAnswered live_reader a (naming.lines ++ line ∷ []) new c
  pub few : length (naming.lines ++ line ∷ []) ≤ 65536
  pub bytes : new.taken ≤ new.most_bytes
  pub within : new.answered ≤ new.most_lines
  pub steady : new.failed ≡ false
  pub room : length naming.lines < 65536

pub next_naming : (a b c : Option (List ℕ)) (old new : LinesSeen) (number : ℕ) (book : BookSeen) (line : ScriptLine) (found : LineAnswer)
    → found ≡ answer.Line line → Naming a b old number book
    → IsNext old b new c found → StaysEnded old b c found → NextNaming a b c old new number book line
next_naming a b c old new number book line found is d next stays =
    let here : IsNext old b new c (answer.Line line) = subst (IsNext old b new c) is next in
    let read : HasAnswered live_reader a (d.lines ++ line ∷ []) new c =
    so_far_line live_reader old new a b c d.lines line live_fresh d.read here (λ e f. sym is ∙ (stays e f).1) in
    let within : new.answered ≤ new.most_lines = here.2 in
    let few : length (d.lines ++ line ∷ []) ≤ 65536 =
    omega (
      arith,
      answered_count live_reader a c (d.lines ++ line ∷ []) new read,
      most_stays live_reader a c (d.lines ++ line ∷ []) new read,
      within,
    ) in
    record {
      naming = d;
      read = read;
      few = few;
      bytes = here.1;
      within = within;
      steady = here.3;
      room = omega (arith, few, one_more d.lines line);
    }

-- each script has room for it
pub room_for : (a b c : Option (List ℕ)) (old new : LinesSeen) (number : ℕ) (book : BookSeen) (line : ScriptLine)
    → NextNaming a b c old new number book line → (caller : ℕ)
    → length (script_of book.scripts caller) < 65536
room_for a b c old new number book line n caller =
    let lines = n.naming.lines in
    let same : length (script_of book.scripts caller) ≡ length (script_of (scripts_of lines) caller) =
    ap (λ (k : BookSeen). length (script_of k.scripts caller)) n.naming.sent in
    omega (arith, n.room, scripts_short lines caller, same)

-- the first of what was read
read_first : (a c : Option (List ℕ)) (new : LinesSeen) (lines : List ScriptLine) → HasAnswered live_reader a lines new c → new.taken ≤ new.most_bytes
    → new.answered ≤ new.most_lines
    → ReadsFirst most_live_bytes most_input_lines a lines c
read_first a c new lines read bytes within = so_far_first live_reader new a c lines live_fresh refl refl bytes within read

-- the line was sent
pub naming_line : (a b c : Option (List ℕ)) (old new : LinesSeen) (number : ℕ) (book after : BookSeen) (line : ScriptLine) (named : Bool)
    → named ≡ true → NextNaming a b c old new number book line
    → IsSent book line after named → Naming a c new (number + 1) after
naming_line a b c old new number book after line named is n s =
    let sent : IsSent book line after true = subst (IsSent book line after) is s in
    let d = n.naming in
    record {
      lines = d.lines ++ line ∷ [];
      read = n.read;
      named = All-push (λ l. IsSome (caller_of l)) d.lines line d.named (names_one line sent.0 sent.2);
      count = sym (one_more d.lines line) ∙ ap (λ (k : ℕ). k + 1) d.count;
      sent = sent.3 ∙ ap (λ (k : BookSeen). with_line k sent.0 line) d.sent ∙ read_more d.lines line sent.0 sent.1 sent.2;
      few = n.few;
      bytes = n.bytes;
      within = n.within;
    }

-- it names no caller
pub no_caller : (a b c : Option (List ℕ)) (old new : LinesSeen) (number : ℕ) (book after : BookSeen) (line : ScriptLine) (named : Bool)
    → named ≡ false → NextNaming a b c old new number book line
    → IsSent book line after named → (lines : List ScriptLine) × HasNoCaller a c lines × (number + 1 ≡ length lines + 1)
no_caller a b c old new number book after line named is n s =
    let sent : IsSent book line after false = subst (IsSent book line after) is s in
    let d = n.naming in (
      d.lines,
      record { line = line; read = read_first a c new (d.lines ++ line ∷ []) n.read n.bytes n.within; named = d.named; none = sent.0 },
      ap (λ (k : ℕ). k + 1) (sym d.count),
    )

-- ---- endings

-- the lines came to an end
naming_ends : (a b c : Option (List ℕ)) (old new : LinesSeen) (number : ℕ) (book : BookSeen) (found : LineAnswer) → Naming a b old number book
    → IsNext old b new c found
    → StaysEnded old b c found → ((line : ScriptLine) → found ≡ answer.Line line → ⊥) → (lines : List ScriptLine) × HasRead found a c lines
    × (book.scripts ≡ scripts_of lines)
naming_ends a b c old new number book found d next stays unlike = (
  d.lines,
  record { read = so_far_ends live_reader old new a b c d.lines found live_fresh refl refl d.bytes d.within d.read next stays unlike; named = d.named },
  ap (λ (k : BookSeen). k.scripts) d.sent,
)

-- at this ending
pub naming_ended : (a b c : Option (List ℕ)) (old new : LinesSeen) (number : ℕ) (book : BookSeen) (found ending : LineAnswer) → found ≡ ending
    → Naming a b old number book
    → IsNext old b new c found → StaysEnded old b c found → ((line : ScriptLine) → ending ≡ answer.Line line → ⊥)
    → (lines : List ScriptLine) × HasRead ending a c lines × (book.scripts ≡ scripts_of lines)
naming_ended a b c old new number book found ending is d next stays unlike =
    let ends = naming_ends a b c old new number book found d next stays (λ line e. unlike line (sym is ∙ e)) in
    (ends.0, subst (λ (e : LineAnswer). HasRead e a c ends.0) is ends.1, ends.2)

-- memory was wanting before the first line
pub some_none : (a : Option (List ℕ)) → HasReadSome a a
some_none a =
    let d = naming_start a in
    (d.lines, record { read = read_first a a live_reader d.lines d.read d.bytes d.within; named = d.named })

-- where the reader read on for a line
pub some_read : (a b c : Option (List ℕ)) (old new : LinesSeen) (number : ℕ) (book : BookSeen) → Naming a b old number book
    → ReadsOn old b [] new c → IsWithin new
    → (old.ended ≡ true → IsFresh old → ⊥) → HasReadSome a c
some_read a b c old new number book d more within goes_on =
    (d.lines, record { read = so_far_cut live_reader old new a b c d.lines live_fresh refl refl d.read more within goes_on; named = d.named })

-- where a line was to be sent
pub some_sent : (a b c : Option (List ℕ)) (old new : LinesSeen) (number : ℕ) (book : BookSeen) (line : ScriptLine)
    → NextNaming a b c old new number book line → HasReadSome a c
some_sent a b c old new number book line n =
    let d = n.naming in
    let read : ReadsFirst most_live_bytes most_input_lines a (d.lines ++ line ∷ []) c =
    read_first a c new (d.lines ++ line ∷ []) n.read n.bytes n.within in
    (d.lines, record { read = one_fewer most_live_bytes most_input_lines a c d.lines line read; named = d.named })
