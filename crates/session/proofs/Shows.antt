-- What the entries of a history show are groups, since each state that it leaves is one.
use Rattle.std.proofs.Common.{◌≡◌, ℕ, zero, suc, ◌≤◌, List, [], ◌∷◌, ◌++◌, fold, take, refl, sym, subst, arith, append_assoc}
use Rattle.std.specs.List.{AllByRecursion}
use Rattle.plan_io.specs.declared.lines.ScriptLine.{ScriptLine}
use Rattle.desk_events.specs.declared.entry.EventEntry.{EventEntry}
use Rattle.desk_events.specs.declared.entry.What.{What}
use Rattle.desk_events.specs.declared.entry.What.TheVariants.{Line, Take, Publish}
use Rattle.desk_events.specs.Laws.{ShowsGroup, IsWritableEntry, IsTelling}
use Rattle.desk_core.specs.Desk.{StateSeen}
use Rattle.desk_core.specs.History.{read_at, after_entry, replay, IsReply, IsEntry, EachAfter}
use Rattle.desk_core.specs.Kept.{IsState}
use Rattle.desk_core.proofs.KeptState.{start_is_state}
use Rattle.desk_book.specs.Kept.{IsBook}
use Rattle.desk_book.specs.Seen.{BookSeen}
use Rattle.desk_book.proofs.Histories.{replay_more}
use Rattle.desk_book.proofs.States.{what_goes, versions_rise, entry_state}
use Rattle.session.proofs.Telling.{line_shows, publication_shows}

-- ---- each entry

what_shows : (scripts : List (List ScriptLine)) (before : List EventEntry) (e : EventEntry) (what : What) → IsState (replay scripts before)
    → IsReply scripts before e what → ShowsGroup e.reply
what_shows scripts before e Line state h = line_shows (replay scripts before) (read_at scripts e) e.reply state h.1
what_shows scripts before e Take state h = subst ShowsGroup (sym h.1) tt
what_shows scripts before e Publish state h = publication_shows (replay scripts before) h.0 e.reply h.2

abbrev ShowsAGroup : EventEntry → Type 0
ShowsAGroup e = ShowsGroup e.reply

shows_after : (scripts : List (List ScriptLine)) (before es : List EventEntry) → IsState (replay scripts before) → EachAfter (IsEntry scripts) (before ++ es)
    → (fold (after_entry scripts) (replay scripts before) es).version ≤ 524288 → AllByRecursion ShowsAGroup es
shows_after scripts before [] state each most = tt
shows_after scripts before (e ∷ es) state each most =
    let s : StateSeen = replay scripts before in
    let entry : IsEntry scripts before e = each before es e refl in
    let whole : (before ++ e ∷ []) ++ es ≡ before ++ e ∷ es = append_assoc before (e ∷ []) es in
    let more : replay scripts (before ++ e ∷ []) ≡ after_entry scripts s e = replay_more scripts before e in
    let low : (after_entry scripts s e).version ≤ 524288 = omega (arith, most, versions_rise scripts (after_entry scripts s e) es) in
    let after : IsState (after_entry scripts s e) = entry_state scripts before e state entry.reply low (what_goes s (read_at scripts e) e.what e.reply) in (
      what_shows scripts before e e.what state entry.reply,
      shows_after scripts (before ++ e ∷ []) es (subst IsState (sym more) after)
          (subst (λ (h : List EventEntry). EachAfter (IsEntry scripts) h) (sym whole) each)
          (subst (λ (t : StateSeen). (fold (after_entry scripts) t es).version ≤ 524288) (sym more) most),
    )

-- each entry of a book
book_shows : (b : BookSeen) → IsBook b → IsState b.state → AllByRecursion ShowsAGroup b.history
book_shows b k state =
    let most : (replay b.scripts b.history).version ≤ 524288 = subst (λ (s : StateSeen). s.version ≤ 524288) (sym k.left) state.version in
    shows_after b.scripts [] b.history start_is_state k.legal.each most

-- ---- an entry that is written, too

shown_first : (n : ℕ) (es : List EventEntry) → AllByRecursion ShowsAGroup es → AllByRecursion ShowsAGroup (take n es)
shown_first zero es h = tt
shown_first (suc n) [] h = tt
shown_first (suc n) (e ∷ es) h = (h.0, shown_first n es h.1)

telling_both : (es : List EventEntry) → AllByRecursion ShowsAGroup es → AllByRecursion IsWritableEntry es → AllByRecursion IsTelling es
telling_both [] h g = tt
telling_both (e ∷ es) h g = (record { writable = g.0; group = h.0 }, telling_both es h.1 g.1)

pub book_tells : (b : BookSeen) → IsBook b → IsState b.state → AllByRecursion IsWritableEntry b.history → AllByRecursion IsTelling b.history
book_tells b k state writable = telling_both b.history (book_shows b k state) writable

pub prefix_tells : (b : BookSeen) (n : ℕ) → IsBook b → IsState b.state → AllByRecursion IsWritableEntry (take n b.history)
    → AllByRecursion IsTelling (take n b.history)
prefix_tells b n k state writable = telling_both (take n b.history) (shown_first n b.history (book_shows b k state)) writable
