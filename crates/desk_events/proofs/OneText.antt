-- A text fixes what its entries tell.
use Rattle.std.proofs.Common.{◌≡◌, ℕ, List, [], ◌∷◌, ◌++◌, map, refl, sym, ap₂, ◌∙◌, append_assoc}
use Rattle.std.proofs.lemmas.List.{append_cancel_right}
use Rattle.plan_json.specs.Adds.{text_of}
use Rattle.plan_json.proofs.TextsBack.{texts_are_distinct}
use Rattle.plan_json.proofs.OneLine.{lines_are_distinct}
use Rattle.desk_events.specs.declared.entry.EventEntry.{EventEntry}
use Rattle.desk_events.specs.declared.reply.Reply.{Reply}
use Rattle.desk_events.specs.Entry.{data_of_entry, text_of_history}
use Rattle.desk_events.specs.Laws.{OneEntry, OneHistory, told}
use Rattle.desk_events.proofs.EntriesBack.{same_entry}

pub one_entry : OneEntry
one_entry d e p q same =
    same_entry d e p.group q.group (texts_are_distinct (data_of_entry d) (data_of_entry e) p.writable.exact q.writable.exact
    (append_cancel_right _ _ (10 ∷ []) same))

not_empty : (xs ys : List ℕ) → [] ≡ (xs ++ 10 ∷ []) ++ ys → ⊥
not_empty [] ys h = cc
not_empty (x ∷ xs) ys h = cc

pub one_history : OneHistory
one_history [] [] p q same = refl
one_history [] (e ∷ es) p q same = absurd (not_empty (text_of (data_of_entry e)) (text_of_history es) same)
one_history (d ∷ ds) [] p q same = absurd (not_empty (text_of (data_of_entry d)) (text_of_history ds) (sym same))
one_history (d ∷ ds) (e ∷ es) p q same =
    let first = text_of (data_of_entry d) in
    let other = text_of (data_of_entry e) in
    let lines : first ++ 10 ∷ text_of_history ds ≡ other ++ 10 ∷ text_of_history es = sym (append_assoc first (10 ∷ []) (text_of_history ds)) ∙ same
    ∙ append_assoc other (10 ∷ []) (text_of_history es) in
    let split = lines_are_distinct (data_of_entry d) (data_of_entry e) (text_of_history ds) (text_of_history es) p.0.writable.exact q.0.writable.exact lines in
    ap₂ (λ (x : ℕ × ℕ × ℕ × Reply) (xs : List (ℕ × ℕ × ℕ × Reply)). x ∷ xs) (same_entry d e p.0.group q.0.group split.0) (one_history ds es p.1 q.1 split.1)
