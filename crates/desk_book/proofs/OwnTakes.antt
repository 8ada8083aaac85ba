-- The Take that comes before the Publish of its line.
use Rattle.std.proofs.Common.{◌≡◌, ℕ, ◌+◌, ◌≤◌, ◌⊎◌, List, [], ◌∷◌, ◌++◌, map, Bool, true, false, cond, ◌==◌, refl, sym, ◌∙◌, ap, subst}
use Rattle.std.proofs.Common.{arith, inl, inr, Option, None, Some, append_assoc, append-nil}
use Rattle.std.specs.List.{last_or}
use Rattle.std.proofs.lemmas.Bool.{eq-eqb, eqb-true}
use Rattle.std.proofs.lemmas.List.Elements.{filter-append}
use Rattle.plan_io.specs.declared.lines.ScriptLine.{ScriptLine}
use Rattle.desk_events.specs.declared.entry.EventEntry.{EventEntry}
use Rattle.desk_events.specs.declared.entry.What.{What}
use Rattle.desk_events.specs.declared.entry.What.TheVariants.{Line, Take, Publish}
use Rattle.desk_core.specs.History.{script_of, entries_of, turns_of, AreTurnsOf, AnswersPrefix, IsInterleaving}
use Rattle.desk_book.proofs.Prefixes.{turns_append}
use Rattle.desk_book.proofs.Turns.{answers_more, last_more}

-- ---- the turns of a line

-- none is of a line before the first
line_from : (n m l : ℕ) (w : What) (xs ys : List (ℕ × What)) → AreTurnsOf n (xs ++ (l, w) ∷ ys) m → n ≤ l
line_from n m l Line [] ys h = omega (arith, h.0)
line_from n m l Take [] [] h = absurd h
line_from n m l Take [] ((k, Line) ∷ ys) h = absurd h
line_from n m l Take [] ((k, Take) ∷ ys) h = absurd h
line_from n m l Take [] ((k, Publish) ∷ ys) h = omega (arith, h.0)
line_from n m l Publish [] ys h = absurd h
line_from n m l w ((k, Line) ∷ xs) ys h = omega (arith, line_from (n + 1) m l w xs ys h.1)
line_from n m l Line ((k, Take) ∷ []) ys h = absurd h
line_from n m l Take ((k, Take) ∷ []) ys h = absurd h
line_from n m l Publish ((k, Take) ∷ []) ys h = omega (arith, h.1)
line_from n m l w ((k, Take) ∷ (j, Line) ∷ xs) ys h = absurd h
line_from n m l w ((k, Take) ∷ (j, Take) ∷ xs) ys h = absurd h
line_from n m l w ((k, Take) ∷ (j, Publish) ∷ xs) ys h = omega (arith, line_from (n + 1) m l w xs ys h.2)
line_from n m l w ((k, Publish) ∷ xs) ys h = absurd h

-- a turn before the Publish of its line is the Take, and none is between the two
together : (n m l : ℕ) (w : What) (xs ys zs : List (ℕ × What)) → AreTurnsOf n (xs ++ (l, w) ∷ (ys ++ (l, Publish) ∷ zs)) m → (w ≡ Take) × (ys ≡ [])
together n m l Line [] ys zs h = let more : n + 1 ≤ l = line_from (n + 1) m l Publish ys zs h.1 in absurd (omega (arith, more, h.0))
together n m l Take [] [] zs h = (refl, refl)
together n m l Take [] ((k, Line) ∷ ys) zs h = absurd h
together n m l Take [] ((k, Take) ∷ ys) zs h = absurd h
together n m l Take [] ((k, Publish) ∷ ys) zs h =
    let more : n + 1 ≤ l = line_from (n + 1) m l Publish ys zs h.2 in absurd (omega (arith, more, h.0))
together n m l Publish [] ys zs h = absurd h
together n m l w ((k, Line) ∷ xs) ys zs h = together (n + 1) m l w xs ys zs h.1
together n m l Line ((k, Take) ∷ []) ys zs h = absurd h
together n m l Take ((k, Take) ∷ []) ys zs h = absurd h
together n m l Publish ((k, Take) ∷ []) ys zs h =
    let more : n + 1 ≤ l = line_from (n + 1) m l Publish ys zs h.2 in absurd (omega (arith, more, h.1))
together n m l w ((k, Take) ∷ (j, Line) ∷ xs) ys zs h = absurd h
together n m l w ((k, Take) ∷ (j, Take) ∷ xs) ys zs h = absurd h
together n m l w ((k, Take) ∷ (j, Publish) ∷ xs) ys zs h = together (n + 1) m l w xs ys zs h.2
together n m l w ((k, Publish) ∷ xs) ys zs h = absurd h

-- a Publish right after a Take is of its line
follows : (n m l k : ℕ) (xs zs : List (ℕ × What)) → AreTurnsOf n (xs ++ (l, Take) ∷ (k, Publish) ∷ zs) m → l ≡ k
follows n m l k [] zs h = omega (arith, h.0, h.1)
follows n m l k ((j, Line) ∷ xs) zs h = follows (n + 1) m l k xs zs h.1
follows n m l k ((j, Take) ∷ []) zs h = absurd h
follows n m l k ((j, Take) ∷ (i, Line) ∷ xs) zs h = absurd h
follows n m l k ((j, Take) ∷ (i, Take) ∷ xs) zs h = absurd h
follows n m l k ((j, Take) ∷ (i, Publish) ∷ xs) zs h = follows (n + 1) m l k xs zs h.2
follows n m l k ((j, Publish) ∷ xs) zs h = absurd h

-- the turns of a prefix of a script go on to those of whole lines
record GoesOn (turns : List (ℕ × What)) : Type 0 where
  rest : List (ℕ × What)
  end : ℕ
  answers : AreTurnsOf 1 (turns ++ rest) end

goes_on : (script : List ScriptLine) (turns : List (ℕ × What)) → AnswersPrefix script turns → GoesOn turns
goes_on script turns (done, inl (most, answers)) = record {
  rest = [];
  end = done + 1;
  answers = subst (λ (ts : List (ℕ × What)). AreTurnsOf 1 ts (done + 1)) (sym (append-nil turns)) answers;
}
goes_on script turns (done, inr (before, below, is, answers)) =
    let last : List (ℕ × What) = (done + 1, Publish) ∷ [] in
    let whole : turns ++ last ≡ before ++ (done + 1, Take) ∷ last =
    ap (λ (ts : List (ℕ × What)). ts ++ last) is ∙ append_assoc before ((done + 1, Take) ∷ []) last in
    record {
      rest = last;
      end = done + 1 + 1;
      answers = subst (λ (ts : List (ℕ × What)). AreTurnsOf 1 ts (done + 1 + 1)) (sym whole)
          (answers_more 1 (done + 1) (done + 1 + 1) before ((done + 1, Take) ∷ last) answers (refl, refl, refl));
    }

-- ---- the entries of a caller

kept_first : (b : Bool) (e : EventEntry) (es : List EventEntry) → b ≡ true → cond b (e ∷ es) es ≡ e ∷ es
kept_first true e es h = refl
kept_first false e es h = cc

entries_first : (caller : ℕ) (e : EventEntry) (es : List EventEntry) → e.caller ≡ caller → entries_of caller (e ∷ es) ≡ e ∷ entries_of caller es
entries_first caller e es is = kept_first (e.caller == caller) e (entries_of caller es) (eq-eqb e.caller caller is)

-- the turns of entries
abbrev pub turns : List EventEntry → List (ℕ × What)
turns es = map (λ e. (e.line, e.what)) es

turns_first : (caller : ℕ) (e : EventEntry) (es : List EventEntry) → e.caller ≡ caller → turns_of caller (e ∷ es) ≡ (e.line, e.what) ∷ turns_of caller es
turns_first caller e es is = ap turns (entries_first caller e es is)

no_entries : (es : List EventEntry) → turns es ≡ [] → es ≡ []
no_entries [] h = refl
no_entries (e ∷ es) h = cc

-- the turns of a caller with two of its entries, of which the later is a Publish, and those that they go on to
pub record BothTurns (before meanwhile : List EventEntry) (t e : EventEntry) : Type 0 where
  rest : List (ℕ × What)
  end : ℕ
  answers : AreTurnsOf 1 (turns_of e.caller before ++ (t.line, t.what) ∷ (turns_of e.caller meanwhile ++ (e.line, Publish) ∷ rest)) end

pub both_turns : (scripts : List (List ScriptLine)) (before meanwhile after : List EventEntry) (t e : EventEntry)
    → IsInterleaving scripts (before ++ t ∷ (meanwhile ++ e ∷ after)) → t.caller ≡ e.caller → e.what ≡ Publish → BothTurns before meanwhile t e
both_turns scripts before meanwhile after t e order caller publish =
    let xs : List (ℕ × What) = turns_of e.caller before in
    let ys : List (ℕ × What) = turns_of e.caller meanwhile in
    let zs : List (ℕ × What) = turns_of e.caller after in
    let all : List (ℕ × What) = turns_of e.caller (before ++ t ∷ (meanwhile ++ e ∷ after)) in
    let last : turns_of e.caller (e ∷ after) ≡ (e.line, Publish) ∷ zs =
    turns_first e.caller e after refl ∙ ap (λ (w : What). (e.line, w) ∷ zs) publish in
    let cut : all ≡ xs ++ (t.line, t.what) ∷ (ys ++ (e.line, Publish) ∷ zs) =
    turns_append e.caller before (t ∷ (meanwhile ++ e ∷ after))
    ∙ ap (λ (ts : List (ℕ × What)). xs ++ ts) (turns_first e.caller t (meanwhile ++ e ∷ after) caller)
    ∙ ap (λ (ts : List (ℕ × What)). xs ++ (t.line, t.what) ∷ ts) (turns_append e.caller meanwhile (e ∷ after))
    ∙ ap (λ (ts : List (ℕ × What)). xs ++ (t.line, t.what) ∷ (ys ++ ts)) last in
    let more : GoesOn all = goes_on (script_of scripts e.caller) all (order e.caller) in
    let longer : all ++ more.rest ≡ xs ++ (t.line, t.what) ∷ (ys ++ (e.line, Publish) ∷ (zs ++ more.rest)) =
    ap (λ (ts : List (ℕ × What)). ts ++ more.rest) cut ∙ append_assoc xs ((t.line, t.what) ∷ (ys ++ (e.line, Publish) ∷ zs)) more.rest
    ∙ ap (λ (ts : List (ℕ × What)). xs ++ (t.line, t.what) ∷ ts) (append_assoc ys ((e.line, Publish) ∷ zs) more.rest) in
    record {
      rest = zs ++ more.rest;
      end = more.end;
      answers = subst (λ (ts : List (ℕ × What)). AreTurnsOf 1 ts more.end) longer more.answers;
    }

-- an entry before the Publish of its line is the Take, and the caller has none between the two
pub apart : (before meanwhile : List EventEntry) (t e : EventEntry) → BothTurns before meanwhile t e → t.line ≡ e.line
    → (t.what ≡ Take) × (entries_of e.caller meanwhile ≡ [])
apart before meanwhile t e both line =
    let xs : List (ℕ × What) = turns_of e.caller before in
    let ys : List (ℕ × What) = turns_of e.caller meanwhile in
    let near : (t.what ≡ Take) × (ys ≡ []) =
    together 1 both.end t.line t.what xs ys both.rest
    (subst (λ (l : ℕ). AreTurnsOf 1 (xs ++ (t.line, t.what) ∷ (ys ++ (l, Publish) ∷ both.rest)) both.end) (sym line) both.answers) in
    (near.0, no_entries (entries_of e.caller meanwhile) near.1)

-- a Take of which the caller's next entry is a Publish is of its line
pub linked : (before meanwhile : List EventEntry) (t e : EventEntry) → BothTurns before meanwhile t e → t.what ≡ Take → turns_of e.caller meanwhile ≡ []
    → t.line ≡ e.line
linked before meanwhile t e both take none =
    let xs : List (ℕ × What) = turns_of e.caller before in
    let Are : What → List (ℕ × What) → Type 0 = λ w ys. AreTurnsOf 1 (xs ++ (t.line, w) ∷ (ys ++ (e.line, Publish) ∷ both.rest)) both.end in
    follows 1 both.end t.line e.line xs both.rest (subst (λ (ys : List (ℕ × What)). Are Take ys) none
    (subst (λ (w : What). Are w (turns_of e.caller meanwhile)) take both.answers))

-- so it is the caller's last entry before that
pub last_taken : (caller : ℕ) (before meanwhile : List EventEntry) (t : EventEntry) → t.caller ≡ caller → entries_of caller meanwhile ≡ []
    → last_or None (entries_of caller (before ++ t ∷ meanwhile)) ≡ Some t
last_taken caller before meanwhile t is none =
    let cut : entries_of caller (before ++ t ∷ meanwhile) ≡ entries_of caller before ++ t ∷ [] =
    filter-append (λ x. x.caller == caller) before (t ∷ meanwhile)
    ∙ ap (λ (es : List EventEntry). entries_of caller before ++ es) (entries_first caller t meanwhile is)
    ∙ ap (λ (es : List EventEntry). entries_of caller before ++ t ∷ es) none in
    ap (last_or None) cut ∙ last_more None (entries_of caller before) t

pub same_some : (a b : EventEntry) → Some a ≡ Some b → a ≡ b
same_some a b h = cc

-- entries that are cut at one of the caller's, after which it has none
pub record CutAt (caller : ℕ) (es : List EventEntry) (t : EventEntry) : Type 0 where
  pub before : List EventEntry
  pub meanwhile : List EventEntry
  pub is : es ≡ before ++ t ∷ meanwhile
  pub mine : t.caller ≡ caller
  pub none : entries_of caller meanwhile ≡ []

cut_behind : (caller : ℕ) (x : EventEntry) (es : List EventEntry) (t : EventEntry) → CutAt caller es t → CutAt caller (x ∷ es) t
cut_behind caller x es t c = record {
  before = x ∷ c.before;
  meanwhile = c.meanwhile;
  is = ap (λ (ys : List EventEntry). x ∷ ys) c.is;
  mine = c.mine;
  none = c.none;
}

-- the last entry of the caller is one of these, or the one before them
abbrev LastIn : ℕ → Option EventEntry → List EventEntry → EventEntry → Type 0
LastIn caller o es t = CutAt caller es t ⊎ ((o ≡ Some t) × (entries_of caller es ≡ []))

cut_first : (caller : ℕ) (o : Option EventEntry) (x : EventEntry) (es : List EventEntry) (t : EventEntry) → x.caller ≡ caller → LastIn caller (Some x) es t
    → LastIn caller o (x ∷ es) t
cut_first caller o x es t is (inl c) = inl (cut_behind caller x es t c)
cut_first caller o x es t is (inr last) =
    let same : x ≡ t = same_some x t last.0 in
    inl record {
      before = [];
      meanwhile = es;
      is = ap (λ (y : EventEntry). y ∷ es) same;
      mine = subst (λ (y : EventEntry). y.caller ≡ caller) same is;
      none = last.1;
    }

passed_first : (b : Bool) (e : EventEntry) (es : List EventEntry) → b ≡ false → cond b (e ∷ es) es ≡ es
passed_first true e es h = cc
passed_first false e es h = refl

cut_other : (caller : ℕ) (o : Option EventEntry) (x : EventEntry) (es : List EventEntry) (t : EventEntry) → (x.caller == caller) ≡ false
    → LastIn caller o es t → LastIn caller o (x ∷ es) t
cut_other caller o x es t is (inl c) = inl (cut_behind caller x es t c)
cut_other caller o x es t is (inr last) = inr (last.0, passed_first (x.caller == caller) x (entries_of caller es) is ∙ last.1)

last_by : (caller : ℕ) (o : Option EventEntry) (x : EventEntry) (es : List EventEntry) (t : EventEntry) (b : Bool) → (x.caller == caller) ≡ b
    → ((p : Option EventEntry) → last_or p (entries_of caller es) ≡ Some t → LastIn caller p es t) → last_or o (entries_of caller (x ∷ es)) ≡ Some t
    → LastIn caller o (x ∷ es) t
last_by caller o x es t true is later h =
    let first : entries_of caller (x ∷ es) ≡ x ∷ entries_of caller es = kept_first (x.caller == caller) x (entries_of caller es) is in
    cut_first caller o x es t (eqb-true x.caller caller is) (later (Some x) (sym (ap (last_or o) first) ∙ h))
last_by caller o x es t false is later h =
    let first : entries_of caller (x ∷ es) ≡ entries_of caller es = passed_first (x.caller == caller) x (entries_of caller es) is in
    cut_other caller o x es t is (later o (sym (ap (last_or o) first) ∙ h))

last_in : (caller : ℕ) (o : Option EventEntry) (es : List EventEntry) (t : EventEntry) → last_or o (entries_of caller es) ≡ Some t → LastIn caller o es t
last_in caller o [] t h = inr (h, refl)
last_in caller o (x ∷ es) t h = last_by caller o x es t (x.caller == caller) refl (λ p. last_in caller p es t) h

pub cut_last : (caller : ℕ) (es : List EventEntry) (t : EventEntry) → last_or None (entries_of caller es) ≡ Some t → CutAt caller es t
cut_last caller es t h = elim (last_in caller None es t h) [
  | inl c ↦ c
  | inr last ↦ let no : None ≡ Some t = last.0 in absurd (cc)
]
