-- The entries of each caller, and one entry more.
use Rattle.std.proofs.Common.{◌≡◌, ◌≢◌, ℕ, ◌+◌, List, [], ◌∷◌, ◌++◌, map, Bool, true, false, cond, ◌==◌, refl, sym, ◌∙◌, ap, subst, arith}
use Rattle.std.proofs.Common.{Option, Some, append-nil, count_by}
use Rattle.std.specs.List.{last_or}
use Rattle.std.proofs.lemmas.Bool.{ne_eqb, eq-eqb}
use Rattle.std.proofs.lemmas.List.{map-append}
use Rattle.std.proofs.lemmas.List.Elements.{filter-append}
use Rattle.std.proofs.lemmas.List.Sums.{sum_by-append}
use Rattle.desk_events.specs.declared.entry.EventEntry.{EventEntry}
use Rattle.desk_events.specs.declared.entry.What.{What}
use Rattle.desk_events.specs.declared.entry.What.TheVariants.{Line, Take, Publish}
use Rattle.desk_core.specs.History.{entries_of, turns_of, AreTurnsOf}
use Rattle.desk_book.specs.Seen.{ends_line, done_of}

-- the entry alone, where it is the caller's
alone_mine : (b : Bool) (e : EventEntry) → b ≡ true → cond b (e ∷ []) [] ≡ e ∷ []
alone_mine true e h = refl
alone_mine false e h = cc

alone_other : (b : Bool) (e : EventEntry) → b ≡ false → cond b (e ∷ []) [] ≡ []
alone_other true e h = cc
alone_other false e h = refl

-- the caller's own entry comes last, and that of another isn't among its entries
pub entries_mine : (caller : ℕ) (h : List EventEntry) (e : EventEntry) → e.caller ≡ caller → entries_of caller (h ++ e ∷ []) ≡ entries_of caller h ++ e ∷ []
entries_mine caller h e is =
    filter-append (λ x. x.caller == caller) h (e ∷ [])
    ∙ ap (λ (es : List EventEntry). entries_of caller h ++ es) (alone_mine (e.caller == caller) e (eq-eqb e.caller caller is))

pub entries_other : (caller : ℕ) (h : List EventEntry) (e : EventEntry) → e.caller ≢ caller → entries_of caller (h ++ e ∷ []) ≡ entries_of caller h
entries_other caller h e is =
    filter-append (λ x. x.caller == caller) h (e ∷ [])
    ∙ ap (λ (es : List EventEntry). entries_of caller h ++ es) (alone_other (e.caller == caller) e (ne_eqb e.caller caller is))
    ∙ append-nil (entries_of caller h)

-- the turns of entries
abbrev turns : List EventEntry → List (ℕ × What)
turns es = map (λ e. (e.line, e.what)) es

pub turns_mine : (caller : ℕ) (h : List EventEntry) (e : EventEntry) → e.caller ≡ caller
    → turns_of caller (h ++ e ∷ []) ≡ turns_of caller h ++ (e.line, e.what) ∷ []
turns_mine caller h e is = ap turns (entries_mine caller h e is) ∙ map-append (λ x. (x.line, x.what)) (entries_of caller h) (e ∷ [])

pub turns_other : (caller : ℕ) (h : List EventEntry) (e : EventEntry) → e.caller ≢ caller → turns_of caller (h ++ e ∷ []) ≡ turns_of caller h
turns_other caller h e is = ap turns (entries_other caller h e is)

-- how many of the entries end their lines
abbrev ends : List EventEntry → ℕ
ends es = count_by (λ e. ends_line e.what) es

one_end : (b : Bool) (n : ℕ) → b ≡ true → n + (0 + cond b 1 0) ≡ n + 1
one_end true n h = omega arith
one_end false n h = cc

no_end : (b : Bool) (n : ℕ) → b ≡ false → n + (0 + cond b 1 0) ≡ n
no_end true n h = cc
no_end false n h = omega arith

pub done_more : (caller : ℕ) (h : List EventEntry) (e : EventEntry) → e.caller ≡ caller → ends_line e.what ≡ true
    → done_of caller (h ++ e ∷ []) ≡ done_of caller h + 1
done_more caller h e is last =
    ap ends (entries_mine caller h e is) ∙ sum_by-append (λ x. cond (ends_line x.what) 1 0) (entries_of caller h) (e ∷ [])
    ∙ one_end (ends_line e.what) (done_of caller h) last

pub done_same : (caller : ℕ) (h : List EventEntry) (e : EventEntry) → e.caller ≡ caller → ends_line e.what ≡ false
    → done_of caller (h ++ e ∷ []) ≡ done_of caller h
done_same caller h e is more =
    ap ends (entries_mine caller h e is) ∙ sum_by-append (λ x. cond (ends_line x.what) 1 0) (entries_of caller h) (e ∷ [])
    ∙ no_end (ends_line e.what) (done_of caller h) more

pub done_other : (caller : ℕ) (h : List EventEntry) (e : EventEntry) → e.caller ≢ caller → done_of caller (h ++ e ∷ []) ≡ done_of caller h
done_other caller h e is = ap ends (entries_other caller h e is)

-- the lines from n up to the one before m, and then those from m up to the one before k
pub answers_more : (n m k : ℕ) (xs ys : List (ℕ × What)) → AreTurnsOf n xs m → AreTurnsOf m ys k → AreTurnsOf n (xs ++ ys) k
answers_more n m k [] ys h g = subst (λ (i : ℕ). AreTurnsOf i ys k) (sym h) g
answers_more n m k ((l, Line) ∷ xs) ys h g = (h.0, answers_more (n + 1) m k xs ys h.1 g)
answers_more n m k ((l, Take) ∷ []) ys h g = absurd h
answers_more n m k ((l, Take) ∷ (j, Publish) ∷ xs) ys h g = (h.0, h.1, answers_more (n + 1) m k xs ys h.2 g)
answers_more n m k ((l, Take) ∷ (j, Line) ∷ xs) ys h g = absurd h
answers_more n m k ((l, Take) ∷ (j, Take) ∷ xs) ys h g = absurd h
answers_more n m k ((l, Publish) ∷ xs) ys h g = absurd h

-- the last entry of a list
pub last_more : (o : Option EventEntry) (xs : List EventEntry) (x : EventEntry) → last_or o (xs ++ x ∷ []) ≡ Some x
last_more o [] x = refl
last_more o (y ∷ xs) x = last_more (Some y) xs x
