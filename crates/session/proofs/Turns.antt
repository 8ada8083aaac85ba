-- The entries of the only caller.
use Rattle.std.proofs.Common.{◌≡◌, ℕ, zero, suc, ◌+◌, ◌≤◌, List, [], ◌∷◌, ◌++◌, length, map, Bool, true, false, cond, ◌==◌, inl, inr, refl, sym, ◌∙◌}
use Rattle.std.proofs.Common.{ap, subst, arith}
use Rattle.std.specs.List.{AllByRecursion}
use Rattle.std.proofs.lemmas.Bool.{eq-eqb, ne_eqb}
use Rattle.plan_io.specs.declared.lines.ScriptLine.{ScriptLine}
use Rattle.desk_events.specs.declared.entry.EventEntry.{EventEntry}
use Rattle.desk_events.specs.declared.entry.What.{What}
use Rattle.desk_events.specs.declared.entry.What.TheVariants.{Line, Take, Publish}
use Rattle.desk_core.specs.History.{AreTurnsOf, AnswersPrefix, IsInterleaving, IsWhole, entries_of, turns_of}

-- the entries are caller 0's
abbrev IsMine : EventEntry → Type 0
IsMine e = e.caller ≡ 0

abbrev pub AreMine : List EventEntry → Type 0
AreMine es = AllByRecursion IsMine es

pub mine_more : (xs ys : List EventEntry) → AreMine xs → AreMine ys → AreMine (xs ++ ys)
mine_more [] ys h g = g
mine_more (x ∷ xs) ys h g = (h.0, mine_more xs ys h.1 g)

keep : (b : Bool) (e : EventEntry) (es fs : List EventEntry) → b ≡ true → es ≡ fs → cond b (e ∷ es) es ≡ e ∷ fs
keep true e es fs h g = ap (λ (xs : List EventEntry). e ∷ xs) g
keep false e es fs h g = cc

-- all entries are those of caller 0
pub entries_mine : (es : List EventEntry) → AreMine es → entries_of 0 es ≡ es
entries_mine [] h = refl
entries_mine (e ∷ es) h = keep (e.caller == 0) e (entries_of 0 es) es (ap (λ (c : ℕ). c == 0) h.0) (entries_mine es h.1)

-- the turns of all entries
abbrev pub turns : List EventEntry → List (ℕ × What)
turns es = map (λ e. (e.line, e.what)) es

pub turns_mine : (es : List EventEntry) → AreMine es → turns_of 0 es ≡ turns es
turns_mine es h = ap turns (entries_mine es h)

-- ---- all entries are those of the one caller

pub answers_rise : (n m : ℕ) (ts : List (ℕ × What)) → AreTurnsOf n ts m → n ≤ m
answers_rise n m [] h = omega (arith, h)
answers_rise n m ((k, Line) ∷ ts) h = omega (arith, answers_rise (n + 1) m ts h.1)
answers_rise n m ((k, Take) ∷ []) h = absurd h
answers_rise n m ((k, Take) ∷ (l, Publish) ∷ ts) h = omega (arith, answers_rise (n + 1) m ts h.2)
answers_rise n m ((k, Take) ∷ (l, Line) ∷ ts) h = absurd h
answers_rise n m ((k, Take) ∷ (l, Take) ∷ ts) h = absurd h
answers_rise n m ((k, Publish) ∷ ts) h = absurd h

pub none_at : (n : ℕ) (ts : List (ℕ × What)) → AreTurnsOf n ts n → ts ≡ []
none_at n [] h = refl
none_at n ((k, Line) ∷ ts) h = let rise : n + 1 ≤ n = answers_rise (n + 1) n ts h.1 in absurd (omega (arith, rise))
none_at n ((k, Take) ∷ []) h = absurd h
none_at n ((k, Take) ∷ (l, Publish) ∷ ts) h = let rise : n + 1 ≤ n = answers_rise (n + 1) n ts h.2 in absurd (omega (arith, rise))
none_at n ((k, Take) ∷ (l, Line) ∷ ts) h = absurd h
none_at n ((k, Take) ∷ (l, Take) ∷ ts) h = absurd h
none_at n ((k, Publish) ∷ ts) h = absurd h

pub no_turns : (es : List EventEntry) → turns es ≡ [] → es ≡ []
no_turns [] h = refl
no_turns (e ∷ es) h = cc

-- no entry is another caller's
abbrev pub NoOthers : List EventEntry → Type 0
NoOthers es = (c : ℕ) → entries_of (suc c) es ≡ []

kept_first : (b : Bool) (e : EventEntry) (es : List EventEntry) → b ≡ true → cond b (e ∷ es) es ≡ e ∷ es
kept_first true e es h = refl
kept_first false e es h = cc

passed_first : (b : Bool) (e : EventEntry) (es : List EventEntry) → b ≡ false → cond b (e ∷ es) es ≡ es
passed_first true e es h = cc
passed_first false e es h = refl

caller_none : (n : ℕ) (e : EventEntry) (es : List EventEntry) → e.caller ≡ n → NoOthers (e ∷ es) → e.caller ≡ 0
caller_none zero e es is none = is
caller_none (suc c) e es is none =
    let there : e ∷ entries_of (suc c) es ≡ [] = sym (kept_first (e.caller == suc c) e (entries_of (suc c) es) (eq-eqb e.caller (suc c) is)) ∙ none c in
    absurd (cc)

pub mine_of : (es : List EventEntry) → NoOthers es → AreMine es
mine_of [] none = tt
mine_of (e ∷ es) none =
    let first : e.caller ≡ 0 = caller_none e.caller e es refl none in (
      first,
      mine_of es (λ c. sym (passed_first (e.caller == suc c) e (entries_of (suc c) es)
          (ne_eqb e.caller (suc c) (λ same. absurd (omega (arith, first, same))))) ∙ none c),
    )

pub whole_mine : (lines : List ScriptLine) (es : List EventEntry) → IsWhole (lines ∷ []) es → AreMine es
whole_mine lines es whole = mine_of es (λ c. no_turns (entries_of (suc c) es) (none_at 1 (turns_of (suc c) es) (whole (suc c))))

pub whole_answers : (lines : List ScriptLine) (es : List EventEntry) → IsWhole (lines ∷ []) es → AreMine es → AreTurnsOf 1 (turns es) (length lines + 1)
whole_answers lines es whole mine = subst (λ (ts : List (ℕ × What)). AreTurnsOf 1 ts (length lines + 1)) (turns_mine es mine) (whole 0)

-- so they are in a legal history
pub legal_mine : (lines : List ScriptLine) (es : List EventEntry) → IsInterleaving (lines ∷ []) es → AreMine es
legal_mine lines es order = mine_of es (λ c. no_turns (entries_of (suc c) es) (none (turns_of (suc c) es) (order (suc c))))
  where
    none : (ts : List (ℕ × What)) → AnswersPrefix [] ts → ts ≡ []
    none ts (done, inl (most, answers)) = none_at 1 ts (subst (λ (n : ℕ). AreTurnsOf 1 ts n) (omega (arith, most)) answers)
    none ts (done, inr (before, below, is, rest)) = absurd (omega (arith, below))
