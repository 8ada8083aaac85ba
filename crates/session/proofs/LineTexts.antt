-- What one line adds to the replies.
use Rattle.std.proofs.Common.{◌≡◌, ℕ, List, [], ◌∷◌, ◌++◌, refl, sym, ◌∙◌, ap, subst, append-nil, append_assoc, inl, inr, Result, Ok, Err, OnOk, OnErr}
use Rattle.std.specs.Result.{IsErrAnd}
use Rattle.std.specs.declared.alloc.AllocError.{AllocError}
use Rattle.desk_events.specs.declared.command.Command.{Command}
use Rattle.desk_events.specs.declared.entry.EventEntry.{EventEntry}
use Rattle.desk_events.specs.declared.fault.CommandFault.{CommandFault}
use Rattle.desk_events.specs.declared.reply.Reply.{Reply}
use Rattle.desk_events.specs.declared.reply.Reply.TheVariants.{Taken}
use Rattle.desk_events.specs.declared.entry.What.TheVariants.{Line, Take, Publish}
use Rattle.desk_events.specs.Entry.{text_of_entry, text_of_history}
use Rattle.desk_events.specs.Laws.{IsWritableEntry, IsTelling}
use Rattle.desk_core.specs.Desk.{StateSeen}
use Rattle.desk_core.specs.History.{IsPlanning, after_publish}
use Rattle.desk_core.specs.Kept.{IsState}
use Rattle.desk_book.specs.Doing.{IsStepDone}
use Rattle.session.specs.Line.{IsPlanReply, step_entry, take_entry, publish_entry, AddsLine, AddsPublish}
use Rattle.session.proofs.Telling.{line_shows, publication_shows}

-- the text of one entry, and of two
one_text : (e : EventEntry) → text_of_history (e ∷ []) ≡ text_of_entry e
one_text e = append-nil (text_of_entry e)

pub adds_one : (old new : List ℕ) (e : EventEntry) → new ≡ old ++ text_of_entry e → new ≡ old ++ text_of_history (e ∷ [])
adds_one old new e h = h ∙ ap (λ (text : List ℕ). old ++ text) (sym (one_text e))

adds_two : (old between new : List ℕ) (d e : EventEntry) → between ≡ old ++ text_of_entry d → new ≡ between ++ text_of_entry e
    → new ≡ old ++ text_of_history (d ∷ e ∷ [])
adds_two old between new d e h g =
    g ∙ ap (λ (text : List ℕ). text ++ text_of_entry e) h ∙ append_assoc old (text_of_entry d) (text_of_entry e)
    ∙ ap (λ (text : List ℕ). old ++ (text_of_entry d ++ text)) (sym (one_text e))

adds_none : (old new : List ℕ) → new ≡ old → new ≡ old ++ text_of_history []
adds_none old new h = h ∙ sym (append-nil old)

-- ---- a step

abbrev pub entry_with : ℕ → ℕ → Reply → EventEntry
entry_with n v r = record { caller = 0; line = n; what = Line; version = v; reply = r }

-- the entry of a step is added
pub step_added : (s t : StateSeen) (n v : ℕ) (r : Reply) (read : Result Command CommandFault) (old new : List ℕ) (result : Result (Unit {0}) AllocError)
    → v ≡ s.version → IsState s → IsStepDone s read r t → OnOk result (new ≡ old ++ text_of_entry (entry_with n v r)) → OnErr result (new ≡ old)
    → OnOk result (IsWritableEntry (entry_with n v r))
    → AddsLine s t n read old new result
step_added s t n v r read old new (Ok done) version state d h g writable =
    let telling : IsTelling (step_entry s n r) =
    record { writable = subst (λ (w : ℕ). IsWritableEntry (entry_with n w r)) version writable; group = line_shows s read r state d.replied } in (
      step_entry s n r ∷ [],
      inl (r, d, refl),
      adds_one old new (step_entry s n r) (h ∙ ap (λ (w : ℕ). old ++ text_of_entry (entry_with n w r)) version),
      (telling, tt),
    )
step_added s t n v r read old new (Err error) version state d h g writable = ([], inl refl, adds_none old new g, tt)

-- nothing of the line is added, where memory is wanting
pub nothing_added : (s t : StateSeen) (n : ℕ) (read : Result Command CommandFault) (old new : List ℕ) (error : AllocError)
    (result : Result (Unit {0}) AllocError)
    → IsErrAnd result (λ e. e ≡ error) → new ≡ old
    → AddsLine s t n read old new result
nothing_added s t n read old new error (Ok done) is h = absurd is
nothing_added s t n read old new error (Err found) is h = ([], inl refl, adds_none old new h, tt)

-- ---- a plan

abbrev pub taken_with : ℕ → ℕ → EventEntry
taken_with n v = record { caller = 0; line = n; what = Take; version = v; reply = Taken }

-- the Take is added, and then the Publish
pub plan_added : (s t : StateSeen) (n v : ℕ) (read : Result Command CommandFault) (old between new : List ℕ) (result : Result (Unit {0}) AllocError)
    → v ≡ s.version → IsPlanning s read → between ≡ old ++ text_of_entry (taken_with n v) → IsWritableEntry (taken_with n v)
    → AddsPublish s t n between new result
    → AddsLine s t n read old new result
plan_added s t n v read old between new (Ok done) version asks h writable g =
    let telling : IsTelling (take_entry s n) = record { writable = subst (λ (w : ℕ). IsWritableEntry (taken_with n w)) version writable; group = tt } in
    let first : between ≡ old ++ text_of_entry (take_entry s n) = h ∙ ap (λ (w : ℕ). old ++ text_of_entry (taken_with n w)) version in (
      take_entry s n ∷ publish_entry s n g.0 ∷ [],
      inr (asks, (g.0, g.1, refl, g.2)),
      adds_two old between new (take_entry s n) (publish_entry s n g.0) first g.3,
      (telling, (g.4, tt)),
    )
plan_added s t n v read old between new (Err error) version asks h writable g =
    let telling : IsTelling (take_entry s n) = record { writable = subst (λ (w : ℕ). IsWritableEntry (taken_with n w)) version writable; group = tt } in
    let first : between ≡ old ++ text_of_entry (take_entry s n) = h ∙ ap (λ (w : ℕ). old ++ text_of_entry (taken_with n w)) version in
    (take_entry s n ∷ [], inr (inl (asks, refl)), adds_one old new (take_entry s n) (g ∙ first), (telling, tt))

abbrev pub published_with : ℕ → ℕ → Reply → EventEntry
published_with n v r = record { caller = 0; line = n; what = Publish; version = v; reply = r }

-- the Publish is added
pub publish_added : (s t : StateSeen) (n v : ℕ) (r : Reply) (old new : List ℕ) (result : Result (Unit {0}) AllocError)
    → v ≡ s.version → IsPlanReply s r → t ≡ after_publish s r → OnOk result (new ≡ old ++ text_of_entry (published_with n v r)) → OnErr result (new ≡ old)
    → OnOk result (IsWritableEntry (published_with n v r)) → AddsPublish s t n old new result
publish_added s t n v r old new (Ok done) version d left h g writable =
    let telling : IsTelling (publish_entry s n r) =
    record { writable = subst (λ (w : ℕ). IsWritableEntry (published_with n w r)) version writable; group = publication_shows s s.version r d.publication } in
    (r, d, left, h ∙ ap (λ (w : ℕ). old ++ text_of_entry (published_with n w r)) version, telling)
publish_added s t n v r old new (Err error) version d left h g writable = g
