-- What the plans of a session of one caller come to.
use Rattle.std.proofs.Common.{◌≡◌, ℕ, ◌<◌, ◌⊎◌, List, [], ◌∷◌, ◌++◌, refl, sym, ◌∙◌, ap, subst, inl, inr, arith, None}
use Rattle.std.specs.List.{last_or}
use Rattle.plan_io.specs.declared.lines.ScriptLine.{ScriptLine}
use Rattle.desk_events.specs.declared.entry.EventEntry.{EventEntry}
use Rattle.desk_events.specs.declared.entry.What.{What}
use Rattle.desk_events.specs.declared.entry.What.TheVariants.{Publish}
use Rattle.desk_events.specs.declared.refusal.Refusal.TheVariants.{Stale, TooManyStarts}
use Rattle.desk_events.specs.declared.reply.Reply.{Reply}
use Rattle.desk_events.specs.declared.reply.Reply.TheVariants.{Published, Refused}
use Rattle.desk_core.specs.Desk.{StateSeen}
use Rattle.desk_core.specs.History.{IsPublication, IsReply, IsEntry, EachAfter, HasTaken, read_at, replay, after_what}
use Rattle.desk_book.proofs.Histories.{each_front, replay_more}
use Rattle.desk_book.proofs.Texts.{ends_with}
use Rattle.session.specs.Laws.{TellsManyStarts, PublishesClaim, PlansArePublished}
use Rattle.session.proofs.Turns.{AreMine, entries_mine, legal_mine}

-- a publication over the state of its Take isn't stale
pub told_or_published : (s : StateSeen) (r : Reply) → IsPublication s s.version r → TellsManyStarts s r ⊎ PublishesClaim s r
told_or_published s (Refused (Stale asked newer)) h = let later : s.version < s.version = h.0 in absurd (omega (arith, later))
told_or_published s (Refused (TooManyStarts count)) h = inl (count, refl, h.1)
told_or_published s (Published claim) h = inr (claim, refl, (h.1.0, h.1.1, h.1.2))
told_or_published s r h = absurd h

front_mine : (xs ys : List EventEntry) → AreMine (xs ++ ys) → AreMine xs
front_mine [] ys h = tt
front_mine (x ∷ xs) ys h = (h.0, front_mine xs ys h.1)

caller_mine : (xs : List EventEntry) (e : EventEntry) (ys : List EventEntry) → AreMine (xs ++ e ∷ ys) → e.caller ≡ 0
caller_mine [] e ys h = h.0
caller_mine (x ∷ xs) e ys h = caller_mine xs e ys h.1

-- the Take that a Publish is of is the entry before it, so it has the version of the state
same_version : (lines : List ScriptLine) (before : List EventEntry) (v : ℕ) → EachAfter (IsEntry (lines ∷ [])) before → AreMine before
    → HasTaken before 0 v → v ≡ (replay (lines ∷ []) before).version
same_version lines before v each mine (t, last, take, version) =
    let scripts : List (List ScriptLine) = lines ∷ [] in
    let found = ends_with before t (sym (ap (last_or None) (entries_mine before mine)) ∙ last) in
    let front : List EventEntry = found.0 in
    let e : IsEntry scripts front t = each front [] t found.1 in
    let state : replay scripts before ≡ replay scripts front =
    ap (replay scripts) found.1 ∙ replay_more scripts front t ∙ ap (λ (w : What). after_what (replay scripts front) (read_at scripts t) w t.reply) take in
    sym version ∙ e.version ∙ sym (ap (λ (s : StateSeen). s.version) state)

pub plans_are_published : PlansArePublished
plans_are_published lines history before after e legal is publish =
    let scripts : List (List ScriptLine) = lines ∷ [] in
    let s : StateSeen = replay scripts before in
    let mine : AreMine (before ++ e ∷ after) = subst AreMine is (legal_mine lines history legal.order) in
    let ep : IsEntry scripts before e = legal.each before after e is in
    let told : IsReply scripts before e Publish = subst (λ (w : What). IsReply scripts before e w) publish ep.reply in
    let taken : HasTaken before 0 told.0 = subst (λ (c : ℕ). HasTaken before c told.0) (caller_mine before e after mine) told.1 in
    let each : EachAfter (IsEntry scripts) before = each_front (IsEntry scripts) before (e ∷ after) (subst (EachAfter (IsEntry scripts)) is legal.each) in
    told_or_published s e.reply (subst (λ (v : ℕ). IsPublication s v e.reply)
    (same_version lines before told.0 each (front_mine before (e ∷ after) mine) taken) told.2)
