-- The scripts of the callers, and one line more.
use Rattle.std.proofs.Common.{◌≡◌, ◌≢◌, ℕ, zero, suc, ◌+◌, ◌==◌, ◌≤◌, ◌<◌, List, [], ◌∷◌, ◌++◌, length, map, slice_index_or, Bool, true, false, cond}
use Rattle.std.proofs.Common.{refl, sym, ◌∙◌, ap, arith, Some, None, append-nil}
use Rattle.std.specs.declared.option.Option.{Option}
use Rattle.std.specs.List.{filter}
use Rattle.std.specs.Option.{is_some, option_map_or}
use Rattle.std.specs.Prelude.{slice_set, replicate, IsSome}
use Rattle.std.proofs.lemmas.Bool.{ne_eqb, eq-eqb}
use Rattle.std.proofs.lemmas.List.Elements.{filter-append}
use Rattle.plan_io.specs.declared.lines.ScriptLine.{ScriptLine}
use Rattle.desk_core.specs.Desk.{start}
use Rattle.desk_core.specs.History.{script_of}
use Rattle.desk_book.specs.Seen.{BookSeen, empty_book, with_line}
use Rattle.session.specs.Live.{caller_of, names, scripts_of}

-- the book of some lines that are read, of which none is done
abbrev pub read_book : List ScriptLine → BookSeen
read_book lines = record { scripts = scripts_of lines; history = []; state = start; takes = replicate 8 None }

pub read_none : empty_book 8 ≡ read_book []
unfolding scripts_of
read_none = refl

-- ---- one script

-- the line alone, where it is in the script
alone : (b : Bool) (line : ScriptLine) → b ≡ true → cond b (line ∷ []) [] ≡ line ∷ []
alone true line h = refl
alone false line h = cc

alone_not : (b : Bool) (line : ScriptLine) → b ≡ false → cond b (line ∷ []) [] ≡ []
alone_not true line h = cc
alone_not false line h = refl

-- the lines that name a caller
abbrev script : ℕ → List ScriptLine → List ScriptLine
script caller lines = filter (names caller) lines

script_more : (lines : List ScriptLine) (line : ScriptLine) (named caller : ℕ) → caller_of line ≡ Some named → named ≡ caller
    → script caller (lines ++ line ∷ []) ≡ script caller lines ++ line ∷ []
script_more lines line named caller is same =
    let test : names caller line ≡ true = ap (λ (o : Option ℕ). option_map_or (λ n. n == caller) o false) is ∙ eq-eqb named caller same in
    filter-append (names caller) lines (line ∷ []) ∙ ap (λ (ls : List ScriptLine). script caller lines ++ ls) (alone (names caller line) line test)

script_same : (lines : List ScriptLine) (line : ScriptLine) (named caller : ℕ) → caller_of line ≡ Some named → named ≢ caller
    → script caller (lines ++ line ∷ []) ≡ script caller lines
script_same lines line named caller is other =
    let test : names caller line ≡ false = ap (λ (o : Option ℕ). option_map_or (λ n. n == caller) o false) is ∙ ne_eqb named caller other in
    filter-append (names caller) lines (line ∷ []) ∙ ap (λ (ls : List ScriptLine). script caller lines ++ ls) (alone_not (names caller line) line test)
    ∙ append-nil (script caller lines)

kept_short : (b : Bool) (line : ScriptLine) (rest lines : List ScriptLine) → length rest ≤ length lines
    → length (cond b (line ∷ rest) rest) ≤ length (line ∷ lines)
kept_short true line rest lines h = omega arith
kept_short false line rest lines h = omega arith

script_short : (caller : ℕ) (lines : List ScriptLine) → length (script caller lines) ≤ length lines
script_short caller [] = omega arith
script_short caller (line ∷ lines) = kept_short (names caller line) line (script caller lines) lines (script_short caller lines)

-- ---- the scripts of callers that are counted up

-- so many numbers, from n on
abbrev numbers : ℕ → ℕ → List ℕ
numbers n zero = []
numbers n (suc m) = n ∷ numbers (n + 1) m

abbrev scripts_from : ℕ → ℕ → List ScriptLine → List (List ScriptLine)
scripts_from n m lines = map (λ caller. filter (names caller) lines) (numbers n m)

-- the line is another caller's
others_same : (lines : List ScriptLine) (line : ScriptLine) (named n m : ℕ) → caller_of line ≡ Some named → named < n
    → scripts_from n m (lines ++ line ∷ []) ≡ scripts_from n m lines
others_same lines line named n zero is low = refl
others_same lines line named n (suc m) is low =
    let first : script n (lines ++ line ∷ []) ≡ script n lines = script_same lines line named n is (λ same. omega (arith, same, low)) in
    let rest : scripts_from (n + 1) m (lines ++ line ∷ []) ≡ scripts_from (n + 1) m lines = others_same lines line named (n + 1) m is (omega arith) in
    ap (λ (s : List ScriptLine). s ∷ scripts_from (n + 1) m (lines ++ line ∷ [])) first ∙ ap (λ (ss : List (List ScriptLine)). script n lines ∷ ss) rest

-- the line comes at the end of its caller's script
sent_from : (lines : List ScriptLine) (line : ScriptLine) (n m place : ℕ) → place < m → caller_of line ≡ Some (n + place)
    → slice_set (scripts_from n m lines) place (slice_index_or (scripts_from n m lines) place [] ++ line ∷ []) ≡ scripts_from n m (lines ++ line ∷ [])
sent_from lines line n zero place low is = absurd (omega arith)
sent_from lines line n (suc m) zero low is =
    let mine : script n (lines ++ line ∷ []) ≡ script n lines ++ line ∷ [] = script_more lines line (n + 0) n is (omega arith) in
    let rest : scripts_from (n + 1) m (lines ++ line ∷ []) ≡ scripts_from (n + 1) m lines = others_same lines line (n + 0) (n + 1) m is (omega arith) in
    ap (λ (s : List ScriptLine). s ∷ scripts_from (n + 1) m lines) (sym mine)
    ∙ ap (λ (ss : List (List ScriptLine)). script n (lines ++ line ∷ []) ∷ ss) (sym rest)
sent_from lines line n (suc m) (suc place) low is =
    let first : script n (lines ++ line ∷ []) ≡ script n lines = script_same lines line (n + suc place) n is (λ same. omega (arith, same)) in
    let less : place < m = omega arith in
    let here : n + suc place ≡ (n + 1) + place = omega arith in
    let rest = sent_from lines line (n + 1) m place less (is ∙ ap (λ (k : ℕ). Some k) here) in
    ap (λ (ss : List (List ScriptLine)). script n lines ∷ ss) rest ∙ ap (λ (s : List ScriptLine). s ∷ scripts_from (n + 1) m (lines ++ line ∷ [])) (sym first)

short_from : (lines : List ScriptLine) (n m caller : ℕ) → length (slice_index_or (scripts_from n m lines) caller []) ≤ length lines
short_from lines n zero caller = omega arith
short_from lines n (suc m) zero = script_short n lines
short_from lines n (suc m) (suc caller) = short_from lines (n + 1) m caller

-- ---- the scripts of all callers

-- a line more
pub scripts_more : (lines : List ScriptLine) (line : ScriptLine) (caller : ℕ) → caller < 8 → caller_of line ≡ Some caller
    → slice_set (scripts_of lines) caller (script_of (scripts_of lines) caller ++ line ∷ []) ≡ scripts_of (lines ++ line ∷ [])
unfolding scripts_of
scripts_more lines line caller low is =
    let here : caller ≡ 0 + caller = omega arith in
    sent_from lines line 0 8 caller low (is ∙ ap (λ (k : ℕ). Some k) here)

pub read_more : (lines : List ScriptLine) (line : ScriptLine) (caller : ℕ) → caller < 8 → caller_of line ≡ Some caller
    → with_line (read_book lines) caller line ≡ read_book (lines ++ line ∷ [])
read_more lines line caller low is =
    ap (λ (scripts : List (List ScriptLine)). record { scripts = scripts; history = []; state = start; takes = replicate 8 None })
    (scripts_more lines line caller low is)

-- there are eight, and none has more lines than were read
pub eight_scripts : (lines : List ScriptLine) → length (scripts_of lines) ≡ 8
unfolding scripts_of
eight_scripts lines = refl

pub scripts_short : (lines : List ScriptLine) (caller : ℕ) → length (script_of (scripts_of lines) caller) ≤ length lines
unfolding scripts_of
scripts_short lines caller = short_from lines 0 8 caller

-- a line that names a caller names one
pub names_one : (line : ScriptLine) (caller : ℕ) → caller_of line ≡ Some caller → IsSome (caller_of line)
names_one line caller is = ap is_some is
