-- Lists of entries with their lines.
use Rattle.std.proofs.Common.{◌≡◌, ◌≢◌, ℕ, ◌+◌, List, [], ◌∷◌, ◌++◌, length, Bool, true, false, cond, ◌==◌, refl, sym, ◌∙◌, ap, append-nil}
use Rattle.std.proofs.Common.{append_assoc, count_by}
use Rattle.std.proofs.lemmas.Bool.{ne_eqb, eq-eqb}
use Rattle.std.proofs.lemmas.List.{map-append, length-map}
use Rattle.std.proofs.lemmas.List.Elements.{filter-append}
use Rattle.std.proofs.lemmas.List.Sums.{sum_by-cons, sum_by_push}
use Rattle.plan_io.specs.declared.lines.ScriptLine.{ScriptLine}
use Rattle.desk_events.specs.declared.entry.EventEntry.{EventEntry}
use Rattle.desk_core.specs.History.{entries_of}
use Rattle.desk_book.specs.Seen.{ends_line, done_of}
use Rattle.desk_passes.specs.declared.seen.SeenEntry.{SeenEntry}
use Rattle.desk_passes.specs.Seen.{with_line_of, lined, of_caller, lines_done, BeginsWith}

-- ---- prefixes

pub begins_same : (log : List SeenEntry) → BeginsWith log log
begins_same log = ([], sym (append-nil log))

pub begins_none : (log : List SeenEntry) → BeginsWith log []
begins_none log = (log, refl)

pub begins_more : (log seen more : List SeenEntry) → BeginsWith log seen → BeginsWith (log ++ more) seen
begins_more log seen more b = (b.0 ++ more, ap (λ (l : List SeenEntry). l ++ more) b.1 ∙ append_assoc seen b.0 more)

-- ---- one entry more

alone_mine : (b : Bool) (x : SeenEntry) → b ≡ true → cond b (x ∷ []) [] ≡ x ∷ []
alone_mine true x h = refl
alone_mine false x h = cc

alone_other : (b : Bool) (x : SeenEntry) → b ≡ false → cond b (x ∷ []) [] ≡ []
alone_other true x h = cc
alone_other false x h = refl

pub own_mine : (caller : ℕ) (log : List SeenEntry) (x : SeenEntry) → x.entry.caller ≡ caller → of_caller caller (log ++ x ∷ []) ≡ of_caller caller log ++ x ∷ []
own_mine caller log x is =
    filter-append (λ y. y.entry.caller == caller) log (x ∷ [])
    ∙ ap (λ (xs : List SeenEntry). of_caller caller log ++ xs) (alone_mine (x.entry.caller == caller) x (eq-eqb x.entry.caller caller is))

pub own_other : (caller : ℕ) (log : List SeenEntry) (x : SeenEntry) → x.entry.caller ≢ caller → of_caller caller (log ++ x ∷ []) ≡ of_caller caller log
own_other caller log x is =
    filter-append (λ y. y.entry.caller == caller) log (x ∷ [])
    ∙ ap (λ (xs : List SeenEntry). of_caller caller log ++ xs) (alone_other (x.entry.caller == caller) x (ne_eqb x.entry.caller caller is))
    ∙ append-nil (of_caller caller log)

pub lined_more : (scripts : List (List ScriptLine)) (history : List EventEntry) (e : EventEntry)
    → lined scripts (history ++ e ∷ []) ≡ lined scripts history ++ with_line_of scripts e ∷ []
lined_more scripts history e = map-append (with_line_of scripts) history (e ∷ [])

pub length_lined : (scripts : List (List ScriptLine)) (history : List EventEntry) → length (lined scripts history) ≡ length history
length_lined scripts history = length-map history (with_line_of scripts)

-- ---- how many lines are done

pub done_one_more : (log : List SeenEntry) (x : SeenEntry) → lines_done (log ++ x ∷ []) ≡ lines_done log + cond (ends_line x.entry.what) 1 0
done_one_more log x = sum_by_push (λ y. cond (ends_line y.entry.what) 1 0) log x

abbrev ends : List EventEntry → ℕ
ends es = count_by (λ e. ends_line e.what) es

done_each : (b : Bool) (x : SeenEntry) (xs : List SeenEntry) (es : List EventEntry) → lines_done xs ≡ ends es
    → lines_done (cond b (x ∷ xs) xs) ≡ ends (cond b (x.entry ∷ es) es)
done_each true x xs es h =
    sum_by-cons (λ y. cond (ends_line y.entry.what) 1 0) x xs
    ∙ ap (λ (n : ℕ). cond (ends_line x.entry.what) 1 0 + n) h
    ∙ sym (sum_by-cons (λ e. cond (ends_line e.what) 1 0) x.entry es)
done_each false x xs es h = h

pub done_lined : (scripts : List (List ScriptLine)) (caller : ℕ) (history : List EventEntry)
    → lines_done (of_caller caller (lined scripts history)) ≡ done_of caller history
done_lined scripts caller [] = refl
done_lined scripts caller (e ∷ es) =
    done_each (e.caller == caller) (with_line_of scripts e) (of_caller caller (lined scripts es)) (entries_of caller es) (done_lined scripts caller es)
