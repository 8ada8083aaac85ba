-- Whole, sound histories of one script, of which the last line alone may ask for a plan, are alike.
use Rattle.std.proofs.Common.{◌≡◌, ℕ, ◌+◌, ◌-◌, ◌≤◌, ◌⊎◌, Bool, true, false, List, [], ◌∷◌, ◌++◌, length, slice_index_or, refl, sym, ◌∙◌, ap, subst}
use Rattle.std.proofs.Common.{inl, inr, arith, Some, None, Result, Ok, nat_lt, append_assoc}
use Rattle.std.specs.List.{last_or}
use Rattle.std.proofs.lemmas.Bool.Decides.{nat_tests}
use Rattle.plan_base.specs.declared.claim.Claim.{Claim}
use Rattle.plan_base.specs.declared.parts.Parts.{Parts}
use Rattle.plan_base.specs.Planned.{IsPlanned}
use Rattle.plan_base.specs.Solved.{HasFewStarts}
use Rattle.plan_base.specs.Starts.{IsStartCount}
use Rattle.plan_base.proofs.StartCounts.{one_start_count}
use Rattle.plan_io.specs.declared.lines.ScriptLine.{ScriptLine}
use Rattle.plan_io.specs.declared.lines.ScriptLine.TheVariants.{TooLong}
use Rattle.desk_events.specs.declared.command.Command.{Command}
use Rattle.desk_events.specs.declared.command.Command.TheVariants as command
use Rattle.desk_events.specs.declared.fault.CommandFault.{CommandFault}
use Rattle.desk_events.specs.declared.entry.EventEntry.{EventEntry}
use Rattle.desk_events.specs.declared.entry.What.{What}
use Rattle.desk_events.specs.declared.entry.What.TheVariants.{Line, Take, Publish}
use Rattle.desk_events.specs.declared.refusal.Refusal.TheVariants.{TooManyStarts}
use Rattle.desk_events.specs.declared.reply.Reply.{Reply}
use Rattle.desk_events.specs.declared.reply.Reply.TheVariants.{Published, Refused}
use Rattle.desk_events.specs.Line.{command_of_line}
use Rattle.desk_core.specs.Desk.{DeskSeen, StateSeen}
use Rattle.desk_core.specs.DeskSnapshot.{snapshot_of}
use Rattle.desk_core.specs.Step.{IsSnapshotOf}
use Rattle.desk_core.specs.History.{IsPublication, read_at, replay, AreTurnsOf, IsReply, IsEntry, IsLineReply, IsWhole, entries_of, after_what}
use Rattle.desk_book.specs.Claims.{IsPlannedOver}
use Rattle.desk_book.proofs.Histories.{replay_more}
use Rattle.desk_book.proofs.OneReply.{one_reply}
use Rattle.desk_book.proofs.Turns.{last_more}
use Rattle.session.specs.Laws.{TellsManyStarts, PublishesClaim, PlansLast}
use Rattle.session.specs.Session.{IsSound}
use Rattle.session.proofs.Alike.{AreAlike, AllAlike}
use Rattle.lanes.proofs.OnePlanned.{one_bound, one_value}
use Rattle.session.proofs.PlansPublished.{told_or_published}
use Rattle.session.proofs.Turns.{AreMine, mine_more, entries_mine, turns, answers_rise, none_at, no_turns, whole_mine, whole_answers}

-- ---- one state has one snapshot and one plan, but for ties

one_snapshot : (s : StateSeen) (a b : Parts) → IsSnapshotOf s a → IsSnapshotOf s b → a ≡ b
one_snapshot s a b h g =
    let both : Some h.0 ≡ Some g.0 = sym h.1 ∙ g.1 in
    let same : h.0 ≡ g.0 = cc in
    h.2 ∙ ap (snapshot_of s.version) same ∙ sym g.2

planned_at : (s : StateSeen) (parts : Parts) (claim : Claim) (d : DeskSeen) → s.desk ≡ Some d → IsPlannedOver s parts claim
    → IsPlanned parts d.opening.settings claim
planned_at s parts claim d opened p =
    let both : Some p.0 ≡ Some d = sym p.1 ∙ opened in
    let same : p.0 ≡ d = cc in
    subst (λ (e : DeskSeen). IsPlanned parts e.opening.settings claim) same p.2

-- what is known of the Publish of a plan over a state
record PlanSaid (s : StateSeen) (r : Reply) : Type 0 where
  said : IsPublication s s.version r
  planned : (claim : Claim) → r ≡ Published claim → (parts : Parts) × IsSnapshotOf s parts × IsPlannedOver s parts claim

both_alike : (s : StateSeen) (r q : Reply) → PlanSaid s r → PlanSaid s q → TellsManyStarts s r ⊎ PublishesClaim s r
    → TellsManyStarts s q ⊎ PublishesClaim s q → AreAlike r q
both_alike s r q p t (inl h) (inl g) =
    let same : h.0 ≡ g.0 = one_start_count h.2.0 h.0 g.0 h.2.2
    (subst (λ (parts : Parts). IsStartCount parts g.0) (one_snapshot s g.2.0 h.2.0 g.2.1 h.2.1) g.2.2) in
    inl (h.1 ∙ ap (λ (count : ℕ). Refused (TooManyStarts count)) same ∙ sym g.1)
both_alike s r q p t (inl h) (inr g) =
    let few = subst (λ (parts : Parts). HasFewStarts parts) (one_snapshot s g.2.0 h.2.0 g.2.1 h.2.1) g.2.2 in
    let same : h.0 ≡ few.0 = one_start_count h.2.0 h.0 few.0 h.2.2 few.1 in
    absurd (omega (arith, same, h.2.3, few.2))
both_alike s r q p t (inr h) (inl g) =
    let few = subst (λ (parts : Parts). HasFewStarts parts) (one_snapshot s h.2.0 g.2.0 h.2.1 g.2.1) h.2.2 in
    let same : g.0 ≡ few.0 = one_start_count g.2.0 g.0 few.0 g.2.2 few.1 in
    absurd (omega (arith, same, g.2.3, few.2))
both_alike s r q p t (inr h) (inr g) =
    let a = p.planned h.0 h.1 in
    let b = t.planned g.0 g.1 in
    let d = a.2.0 in
    let first : IsPlanned a.0 d.opening.settings h.0 = a.2.2 in
    let second : IsPlanned a.0 d.opening.settings g.0 =
    subst (λ (parts : Parts). IsPlanned parts d.opening.settings g.0) (one_snapshot s b.0 a.0 b.1 a.1) (planned_at s b.0 g.0 d a.2.1 b.2) in
    inr (
      h.0,
      g.0,
      h.1,
      g.1,
      one_bound a.0 d.opening.settings d.opening.settings h.0 g.0 (record { lanes = refl; rounds = refl }) first second,
      one_value a.0 d.opening.settings d.opening.settings h.0 g.0 (record { lanes = refl; rounds = refl }) first second,
    )

one_plan : (s : StateSeen) (r q : Reply) → PlanSaid s r → PlanSaid s q → AreAlike r q
one_plan s r q p t = both_alike s r q p t (told_or_published s r p.said) (told_or_published s q t.said)

-- ---- entry by entry

-- what a line says, counted from 1
abbrev said_at : List ScriptLine → ℕ → Result Command CommandFault
said_at lines n = command_of_line (slice_index_or lines (n - 1) TooLong)

-- the entries from line n on, after others
record Rest (lines : List ScriptLine) (before h : List EventEntry) (n : ℕ) : Type 0 where
  counted : 1 ≤ n
  sound : IsSound (lines ∷ []) (before ++ h)
  mine : AreMine h
  answers : AreTurnsOf n (turns h) (length lines + 1)

read_of : (lines : List ScriptLine) (x : EventEntry) (n : ℕ) → x.caller ≡ 0 → x.line ≡ n → read_at (lines ∷ []) x ≡ said_at lines n
read_of lines x n caller line =
    let script : List (List ScriptLine) → ℕ → ℕ → Result Command CommandFault =
    λ scripts c l. command_of_line (slice_index_or (slice_index_or scripts c []) (l - 1) TooLong) in
    ap (λ (c : ℕ). script (lines ∷ []) c x.line) caller ∙ ap (λ (l : ℕ). script (lines ∷ []) 0 l) line

entry_of : (lines : List ScriptLine) (before h : List EventEntry) (x : EventEntry) → IsSound (lines ∷ []) (before ++ x ∷ h) → IsEntry (lines ∷ []) before x
entry_of lines before h x sound = sound.legal.each before h x refl

same_entry : (x y : EventEntry) → x.caller ≡ y.caller → x.line ≡ y.line → x.what ≡ y.what → x.version ≡ y.version → x.reply ≡ y.reply → x ≡ y
same_entry x y caller line what version reply =
    let make : ℕ → ℕ → What → ℕ → Reply → EventEntry = λ c l w v r. record { caller = c; line = l; what = w; version = v; reply = r } in
    ap (λ c. make c x.line x.what x.version x.reply) caller ∙ ap (λ l. make y.caller l x.what x.version x.reply) line
    ∙ ap (λ w. make y.caller y.line w x.version x.reply) what ∙ ap (λ v. make y.caller y.line y.what v x.reply) version
    ∙ ap (λ r. make y.caller y.line y.what y.version r) reply

-- the rest after an entry that is a whole line
rest_after : (lines : List ScriptLine) (before h : List EventEntry) (x : EventEntry) (n : ℕ) → Rest lines before (x ∷ h) n
    → AreTurnsOf (n + 1) (turns h) (length lines + 1) → Rest lines (before ++ x ∷ []) h (n + 1)
rest_after lines before h x n r answers = record {
  counted = omega arith;
  sound = subst (λ (es : List EventEntry). IsSound (lines ∷ []) es) (sym (append_assoc before (x ∷ []) h)) r.sound;
  mine = r.mine.1;
  answers = answers;
}

-- how the answers go on after one entry, by what it is
abbrev GoesOn : ℕ → ℕ → What → List (ℕ × What) → ℕ → Type 0
GoesOn n l w ts m = AreTurnsOf n ((l, w) ∷ ts) m

-- the Publish after a Take, and what comes later
record Took (n l : ℕ) (h : List EventEntry) (m : ℕ) : Type 0 where
  line : l ≡ n
  entry : EventEntry
  rest : List EventEntry
  is : h ≡ entry ∷ rest
  what : entry.what ≡ Publish
  answers : AreTurnsOf (n + 1) (turns rest) m

took_by : (n l m : ℕ) (p : EventEntry) (w : What) (h : List EventEntry) → p.what ≡ w → AreTurnsOf n ((l, Take) ∷ (p.line, w) ∷ turns h) m → Took n l (p ∷ h) m
took_by n l m p Line h is a = absurd a
took_by n l m p Take h is a = absurd a
took_by n l m p Publish h is a = record { line = a.0; entry = p; rest = h; is = refl; what = is; answers = a.2 }

took : (n l m : ℕ) (h : List EventEntry) → AreTurnsOf n ((l, Take) ∷ turns h) m → Took n l h m
took n l m [] a = absurd a
took n l m (p ∷ h) a = took_by n l m p p.what h refl a

same_some : (a b : EventEntry) → Some a ≡ Some b → a ≡ b
same_some a b h = cc

-- what the Publish after a Take says
publish_said : (lines : List ScriptLine) (before : List EventEntry) (x p : EventEntry) → IsSound (lines ∷ []) (before ++ x ∷ p ∷ []) → AreMine before
    → AreMine (x ∷ p ∷ []) → x.what ≡ Take → p.what ≡ Publish
    → PlanSaid (replay (lines ∷ []) before) p.reply
publish_said lines before x p sound mine both take publish =
    let scripts : List (List ScriptLine) = lines ∷ [] in
    let front : List EventEntry = before ++ x ∷ [] in
    let s : StateSeen = replay scripts before in
    let cut : before ++ x ∷ p ∷ [] ≡ front ++ p ∷ [] = sym (append_assoc before (x ∷ []) (p ∷ [])) in
    let state : replay scripts front ≡ s = replay_more scripts before x ∙ ap (λ (w : What). after_what s (read_at scripts x) w x.reply) take in
    let ex : IsEntry scripts before x = entry_of lines before (p ∷ []) x sound in
    let ep : IsEntry scripts front p = sound.legal.each front [] p cut in
    let told : IsReply scripts front p Publish = subst (λ (w : What). IsReply scripts front p w) publish ep.reply in
    let mine_front : AreMine front = mine_more before (x ∷ []) mine (both.0, tt) in
    let last : last_or None (entries_of p.caller front) ≡ Some x =
    ap (λ (c : ℕ). last_or None (entries_of c front)) both.1.0 ∙ ap (last_or None) (entries_mine front mine_front) ∙ last_more None before x in
    let taken : told.1.0 ≡ x = same_some told.1.0 x (sym told.1.1 ∙ last) in
    let version : told.0 ≡ s.version = sym told.1.3 ∙ ap (λ (e : EventEntry). e.version) taken ∙ ex.version in
    record {
      said = subst (λ (v : ℕ). IsPublication s v p.reply) version (subst (λ (t : StateSeen). IsPublication t told.0 p.reply) state told.2);
      planned = λ claim is.
          let known = (sound.bounded front [] p cut).published claim is in (
            known.0,
            subst (λ (t : StateSeen). IsSnapshotOf t known.0) state known.1.snapshot,
            subst (λ (t : StateSeen). IsPlannedOver t known.0 claim) state (known.2.planned publish),
          );
    }

-- the alike rest of two histories, where the entries after this one are alike
abbrev LaterAlike : List ScriptLine → List EventEntry → EventEntry → List EventEntry → ℕ → Type 0
LaterAlike lines before x h n = (k : List EventEntry) → Rest lines (before ++ x ∷ []) h (n + 1) → Rest lines (before ++ x ∷ []) k (n + 1) → AllAlike h k

-- a Take stands for the last line alone
take_last : (lines : List ScriptLine) (before h : List EventEntry) (x : EventEntry) (n : ℕ) → PlansLast lines → Rest lines before (x ∷ h) n
    → x.what ≡ Take → x.line ≡ n → n ≤ length lines → n ≡ length lines
take_last lines before h x n plans r take line most =
    let e : IsEntry (lines ∷ []) before x = entry_of lines before h x r.sound in
    let asks : IsReply (lines ∷ []) before x Take = subst (λ (w : What). IsReply (lines ∷ []) before x w) take e.reply in
    let plan : said_at lines n ≡ Ok command.Plan = sym (read_of lines x n r.mine.0 line) ∙ asks.0.0 in
    by_size (nat_lt n (length lines)) refl plan
  where
    by_size : (b : Bool) → nat_lt n (length lines) ≡ b → said_at lines n ≡ Ok command.Plan → n ≡ length lines
    by_size true is plan = absurd (plans (n - 1) (grind (arith, nat_tests, is, r.counted)) plan)
    by_size false is plan = grind (arith, nat_tests, is, most)

-- nothing comes after the Publish of the last line
only_publish : (n l m : ℕ) (h : List EventEntry) (t : Took n l h m) → m ≡ n + 1 → h ≡ t.entry ∷ []
only_publish n l m h t last =
    let none : t.rest ≡ [] = no_turns t.rest (none_at (n + 1) (turns t.rest) (subst (λ (k : ℕ). AreTurnsOf (n + 1) (turns t.rest) k) last t.answers)) in
    t.is ∙ ap (λ (es : List EventEntry). t.entry ∷ es) none

plans_alike : (lines : List ScriptLine) (before h k : List EventEntry) (x y : EventEntry) (n : ℕ) → PlansLast lines → AreMine before
    → Rest lines before (x ∷ h) n → Rest lines before (y ∷ k) n
    → x.what ≡ Take → y.what ≡ Take → GoesOn n x.line Take (turns h) (length lines + 1) → GoesOn n y.line Take (turns k) (length lines + 1)
    → AllAlike (x ∷ h) (y ∷ k)
plans_alike lines before h k x y n plans mine r q is is' g g' =
    let scripts : List (List ScriptLine) = lines ∷ [] in
    let a = took n x.line (length lines + 1) h g in
    let b = took n y.line (length lines + 1) k g' in
    let rise : n + 1 ≤ length lines + 1 = answers_rise (n + 1) (length lines + 1) (turns a.rest) a.answers in
    let last : n ≡ length lines = take_last lines before h x n plans r is a.line (omega (arith, rise)) in
    let end : length lines + 1 ≡ n + 1 = omega (arith, last) in
    let eh : h ≡ a.entry ∷ [] = only_publish n x.line (length lines + 1) h a end in
    let ek : k ≡ b.entry ∷ [] = only_publish n y.line (length lines + 1) k b end in
    let sx : IsSound (lines ∷ []) (before ++ x ∷ a.entry ∷ []) = subst (λ (es : List EventEntry). IsSound (lines ∷ []) (before ++ x ∷ es)) eh r.sound in
    let sy : IsSound (lines ∷ []) (before ++ y ∷ b.entry ∷ []) = subst (λ (es : List EventEntry). IsSound (lines ∷ []) (before ++ y ∷ es)) ek q.sound in
    let mx : AreMine (x ∷ a.entry ∷ []) = subst (λ (es : List EventEntry). AreMine (x ∷ es)) eh r.mine in
    let my : AreMine (y ∷ b.entry ∷ []) = subst (λ (es : List EventEntry). AreMine (y ∷ es)) ek q.mine in
    let rx : IsReply scripts before x Take = subst (λ (w : What). IsReply scripts before x w) is (entry_of lines before h x r.sound).reply in
    let ry : IsReply scripts before y Take = subst (λ (w : What). IsReply scripts before y w) is' (entry_of lines before k y q.sound).reply in
    let takes : x.reply ≡ y.reply = rx.1 ∙ sym ry.1 in
    let plan : AreAlike a.entry.reply b.entry.reply =
    one_plan (replay scripts before) a.entry.reply b.entry.reply (publish_said lines before x a.entry sx mine mx is a.what)
    (publish_said lines before y b.entry sy mine my is' b.what) in
    subst (λ (es : List EventEntry). AllAlike (x ∷ es) (y ∷ k)) (sym eh)
    (subst (λ (es : List EventEntry). AllAlike (x ∷ a.entry ∷ []) (y ∷ es)) (sym ek) (inl takes, (plan, tt)))

alike_by : (lines : List ScriptLine) (before h k : List EventEntry) (x y : EventEntry) (n : ℕ) (a b : What) → PlansLast lines → AreMine before
    → LaterAlike lines before x h n
    → Rest lines before (x ∷ h) n → Rest lines before (y ∷ k) n → x.what ≡ a → y.what ≡ b → GoesOn n x.line a (turns h) (length lines + 1)
    → GoesOn n y.line b (turns k) (length lines + 1)
    → AllAlike (x ∷ h) (y ∷ k)
alike_by lines before h k x y n Line Line plans mine later r q is is' g g' =
    let scripts : List (List ScriptLine) = lines ∷ [] in
    let ex = entry_of lines before h x r.sound in
    let ey = entry_of lines before k y q.sound in
    let rx : IsReply scripts before x Line = subst (λ (w : What). IsReply scripts before x w) is ex.reply in
    let ry : IsReply scripts before y Line = subst (λ (w : What). IsReply scripts before y w) is' ey.reply in
    let read : read_at scripts y ≡ read_at scripts x = read_of lines y n q.mine.0 g'.0 ∙ sym (read_of lines x n r.mine.0 g.0) in
    let reply : x.reply ≡ y.reply = one_reply (replay scripts before) (read_at scripts x) x.reply y.reply rx.1
    (subst (λ c. IsLineReply (replay scripts before) c y.reply) read ry.1) in
    let same : y ≡ x = sym (same_entry x y (r.mine.0 ∙ sym q.mine.0) (g.0 ∙ sym g'.0) (is ∙ sym is') (ex.version ∙ sym ey.version) reply) in (
      inl reply,
      later k (rest_after lines before h x n r g.1)
          (subst (λ (e : EventEntry). Rest lines (before ++ e ∷ []) k (n + 1)) same (rest_after lines before k y n q g'.1)),
    )
alike_by lines before h k x y n Line Take plans mine later r q is is' g g' =
    let scripts : List (List ScriptLine) = lines ∷ [] in
    let rx : IsReply scripts before x Line = subst (λ (w : What). IsReply scripts before x w) is (entry_of lines before h x r.sound).reply in
    let ry : IsReply scripts before y Take = subst (λ (w : What). IsReply scripts before y w) is' (entry_of lines before k y q.sound).reply in
    let line : y.line ≡ n = (took n y.line (length lines + 1) k g').line in
    let read : read_at scripts y ≡ read_at scripts x = read_of lines y n q.mine.0 line ∙ sym (read_of lines x n r.mine.0 g.0) in
    absurd (rx.0 (sym read ∙ ry.0.0, ry.0.1))
alike_by lines before h k x y n Line Publish plans mine later r q is is' g g' = absurd g'
alike_by lines before h k x y n Take Line plans mine later r q is is' g g' =
    let scripts : List (List ScriptLine) = lines ∷ [] in
    let rx : IsReply scripts before x Take = subst (λ (w : What). IsReply scripts before x w) is (entry_of lines before h x r.sound).reply in
    let ry : IsReply scripts before y Line = subst (λ (w : What). IsReply scripts before y w) is' (entry_of lines before k y q.sound).reply in
    let line : x.line ≡ n = (took n x.line (length lines + 1) h g).line in
    let read : read_at scripts y ≡ read_at scripts x = read_of lines y n q.mine.0 g'.0 ∙ sym (read_of lines x n r.mine.0 line) in
    absurd (ry.0 (read ∙ rx.0.0, rx.0.1))
alike_by lines before h k x y n Take Take plans mine later r q is is' g g' = plans_alike lines before h k x y n plans mine r q is is' g g'
alike_by lines before h k x y n Take Publish plans mine later r q is is' g g' = absurd g'
alike_by lines before h k x y n Publish b plans mine later r q is is' g g' = absurd g

answers_more : (n l m : ℕ) (w : What) (ts : List (ℕ × What)) → AreTurnsOf n ((l, w) ∷ ts) m → n + 1 ≤ m
answers_more n l m Line ts h = answers_rise (n + 1) m ts h.1
answers_more n l m Take [] h = absurd h
answers_more n l m Take ((k, Publish) ∷ ts) h = answers_rise (n + 1) m ts h.2
answers_more n l m Take ((k, Line) ∷ ts) h = absurd h
answers_more n l m Take ((k, Take) ∷ ts) h = absurd h
answers_more n l m Publish ts h = absurd h

same_from : (lines : List ScriptLine) (before h k : List EventEntry) (n : ℕ) → PlansLast lines → AreMine before → Rest lines before h n
    → Rest lines before k n → AllAlike h k
same_from lines before [] [] n plans mine r q = tt
same_from lines before [] (y ∷ k) n plans mine r q =
    let over : n ≡ length lines + 1 = r.answers in
    let more : n + 1 ≤ length lines + 1 = answers_more n y.line (length lines + 1) y.what (turns k) q.answers in
    absurd (omega (arith, over, more))
same_from lines before (x ∷ h) [] n plans mine r q =
    let over : n ≡ length lines + 1 = q.answers in
    let more : n + 1 ≤ length lines + 1 = answers_more n x.line (length lines + 1) x.what (turns h) r.answers in
    absurd (omega (arith, over, more))
same_from lines before (x ∷ h) (y ∷ k) n plans mine r q =
    let longer : AreMine (before ++ x ∷ []) = mine_more before (x ∷ []) mine (r.mine.0, tt) in
    alike_by lines before h k x y n x.what y.what plans mine (λ ks s t. same_from lines (before ++ x ∷ []) h ks (n + 1) plans longer s t) r q
    refl refl r.answers q.answers

pub one_history : (lines : List ScriptLine) (h k : List EventEntry) → PlansLast lines → IsSound (lines ∷ []) h → IsWhole (lines ∷ []) h
    → IsSound (lines ∷ []) k → IsWhole (lines ∷ []) k → AllAlike h k
one_history lines h k plans sound whole sound' whole' =
    let mine = whole_mine lines h whole in
    let mine' = whole_mine lines k whole' in
    same_from lines [] h k 1 plans tt
    (record { counted = omega arith; sound = sound; mine = mine; answers = whole_answers lines h whole mine })
    (record { counted = omega arith; sound = sound'; mine = mine'; answers = whole_answers lines k whole' mine' })
