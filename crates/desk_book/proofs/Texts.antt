-- The text of a legal history tells it: its lines tell callers, lines and claims, and the rest follows from the state.
use Rattle.std.proofs.Common.{◌≡◌, ℕ, ◌+◌, List, [], ◌∷◌, ◌++◌, map, Bool, true, false, cond, ◌==◌, refl, sym, ◌∙◌, ap, subst, inl, inr, Some, None}
use Rattle.std.proofs.Common.{◌≢◌, append_assoc, length, length-append, codes, arith}
use Rattle.std.specs.List.{AllByRecursion, last_or}
use Rattle.std.proofs.lemmas.Bool.{eq-eqb}
use Rattle.std.proofs.lemmas.List.{map-append}
use Rattle.std.proofs.lemmas.List.Elements.{filter-append}
use Rattle.serde_json.specs.Find.{get}
use Rattle.serde_json.specs.Written.{compact_text}
use Rattle.plan_base.specs.declared.claim.Claim.{Claim}
use Rattle.plan_io.specs.declared.lines.ScriptLine.{ScriptLine}
use Rattle.plan_json.specs.Adds.{text_of}
use Rattle.plan_json.specs.Exact.{IsExact}
use Rattle.plan_json.specs.Values.{Named, has, whole, with_named, in_byte_order}
use Rattle.plan_json.proofs.Cuts.{one_line, same_at_name}
use Rattle.plan_json.proofs.NamedMembers.{is_there, is_past, exact_at, one_number}
use Rattle.plan_doc.specs.Written.{claim_data}
use Rattle.plan_doc.proofs.ClaimTexts.{one_claim}
use Rattle.desk_events.specs.declared.entry.EventEntry.{EventEntry}
use Rattle.desk_events.specs.declared.entry.What.{What}
use Rattle.desk_events.specs.declared.entry.What.TheVariants.{Line, Take, Publish}
use Rattle.desk_events.specs.declared.reply.Reply.{Reply}
use Rattle.desk_events.specs.declared.reply.Reply.TheVariants.{Published, Refused}
use Rattle.desk_events.specs.declared.refusal.Refusal.TheVariants.{TooManyStarts}
use Rattle.desk_events.specs.Entry.{data_with, data_of_reply, data_of_entry, text_of_history}
use Rattle.desk_events.specs.Laws.{IsWritableEntry}
use Rattle.desk_events.specs.Replied.{members_of_reply}
use Rattle.desk_core.specs.History.{IsPlanning, script_of, entries_of, turns_of, read_at, replay, AreTurnsOf, AnswersPrefix, HasTaken, IsReply}
use Rattle.desk_core.specs.History.{IsLineReply, IsPublication}
use Rattle.desk_core.specs.Desk.{StateSeen}
use Rattle.desk_core.specs.History.{IsEntry, IsLegal}
use Rattle.desk_book.specs.Laws.{TextTellsHistory}
use Rattle.desk_book.proofs.OneReply.{one_reply}
use Rattle.desk_book.proofs.StalePlans.{Replied, replied, one_count, not_both}
use Rattle.desk_book.proofs.Turns.{answers_more}

-- ---- after a Take comes its Publish

-- the first of the turns is a Publish
abbrev StartsPublish : List (ℕ × What) → Type 0
StartsPublish [] = ⊥
StartsPublish ((k, Line) ∷ turns) = ⊥
StartsPublish ((k, Take) ∷ turns) = ⊥
StartsPublish ((k, Publish) ∷ turns) = Unit {0}

take_then : (n m l : ℕ) (xs ys : List (ℕ × What)) → AreTurnsOf n (xs ++ (l, Take) ∷ ys) m → StartsPublish ys
take_then n m l [] [] h = absurd h
take_then n m l [] ((k, Line) ∷ ys) h = absurd h
take_then n m l [] ((k, Take) ∷ ys) h = absurd h
take_then n m l [] ((k, Publish) ∷ ys) h = tt
take_then n m l ((k, Line) ∷ xs) ys h = take_then (n + 1) m l xs ys h.1
take_then n m l ((k, Take) ∷ []) ys h = absurd h
take_then n m l ((k, Take) ∷ (j, Line) ∷ xs) ys h = absurd h
take_then n m l ((k, Take) ∷ (j, Take) ∷ xs) ys h = absurd h
take_then n m l ((k, Take) ∷ (j, Publish) ∷ xs) ys h = take_then (n + 1) m l xs ys h.2
take_then n m l ((k, Publish) ∷ xs) ys h = absurd h

starts_publish : (k : ℕ) (w : What) (turns : List (ℕ × What)) → StartsPublish ((k, w) ∷ turns) → w ≡ Publish
starts_publish k Line turns h = absurd h
starts_publish k Take turns h = absurd h
starts_publish k Publish turns h = refl

-- of a prefix of a script, whose last Publish may be missing
prefix_then : (script : List ScriptLine) (l k : ℕ) (w : What) (xs ys : List (ℕ × What)) → AnswersPrefix script (xs ++ (l, Take) ∷ (k, w) ∷ ys) → w ≡ Publish
prefix_then script l k w xs ys (done, inl p) = starts_publish k w ys (take_then 1 (done + 1) l xs ((k, w) ∷ ys) p.1)
prefix_then script l k w xs ys (done, inr p) =
    let before : List (ℕ × What) = p.0 in
    let last : List (ℕ × What) = (done + 1, Publish) ∷ [] in
    let whole : AreTurnsOf 1 (before ++ (done + 1, Take) ∷ last) (done + 1 + 1) =
    answers_more 1 (done + 1) (done + 1 + 1) before ((done + 1, Take) ∷ last) p.3 (refl, refl, refl) in
    let same : before ++ (done + 1, Take) ∷ last ≡ xs ++ (l, Take) ∷ (k, w) ∷ (ys ++ last) =
    sym (append_assoc before ((done + 1, Take) ∷ []) last) ∙ ap (λ (ts : List (ℕ × What)). ts ++ last) (sym p.2)
    ∙ append_assoc xs ((l, Take) ∷ (k, w) ∷ ys) last in
    starts_publish k w (ys ++ last)
    (take_then 1 (done + 1 + 1) l xs ((k, w) ∷ (ys ++ last)) (subst (λ (ts : List (ℕ × What)). AreTurnsOf 1 ts (done + 1 + 1)) same whole))

-- a list that has a last entry ends with it
last_by : (x : EventEntry) (xs : List EventEntry) (t : EventEntry) → last_or (Some x) xs ≡ Some t → (front : List EventEntry) × (x ∷ xs ≡ front ++ t ∷ [])
last_by x [] t h = let same : x ≡ t = cc in ([], ap (λ (e : EventEntry). e ∷ []) same)
last_by x (y ∷ xs) t h = let rest = last_by y xs t h in (x ∷ rest.0, ap (λ (es : List EventEntry). x ∷ es) rest.1)

pub ends_with : (xs : List EventEntry) (t : EventEntry) → last_or None xs ≡ Some t → (front : List EventEntry) × (xs ≡ front ++ t ∷ [])
ends_with [] t h = cc
ends_with (x ∷ xs) t h = last_by x xs t h

kept_first : (b : Bool) (e : EventEntry) (es : List EventEntry) → b ≡ true → cond b (e ∷ es) es ≡ e ∷ es
kept_first true e es h = refl
kept_first false e es h = cc

abbrev turns : List EventEntry → List (ℕ × What)
turns es = map (λ e. (e.line, e.what)) es

take_at : (l : ℕ) (w : What) (xs ys : List (ℕ × What)) → w ≡ Take → xs ++ (l, w) ∷ ys ≡ xs ++ (l, Take) ∷ ys
take_at l w xs ys h = ap (λ (x : What). xs ++ (l, x) ∷ ys) h

-- the entry of a caller after its Take is a Publish
after_take : (scripts : List (List ScriptLine)) (before rest : List EventEntry) (x : EventEntry) (v : ℕ) → IsLegal scripts (before ++ x ∷ rest)
    → HasTaken before x.caller v → x.what ≡ Publish
after_take scripts before rest x v legal taken =
    let caller : ℕ = x.caller in
    let t : EventEntry = taken.0 in
    let front = ends_with (entries_of caller before) t taken.1 in
    let later : List EventEntry = entries_of caller rest in
    let mine : entries_of caller (before ++ x ∷ rest) ≡ (front.0 ++ t ∷ []) ++ x ∷ later =
    filter-append (λ e. e.caller == caller) before (x ∷ rest) ∙ ap (λ (es : List EventEntry). es ++ entries_of caller (x ∷ rest)) front.1
    ∙ ap (λ (es : List EventEntry). (front.0 ++ t ∷ []) ++ es) (kept_first (x.caller == caller) x later (eq-eqb x.caller caller refl)) in
    let whole : turns_of caller (before ++ x ∷ rest) ≡ turns front.0 ++ (t.line, Take) ∷ (x.line, x.what) ∷ turns later =
    ap turns (mine ∙ append_assoc front.0 (t ∷ []) (x ∷ later)) ∙ map-append (λ e. (e.line, e.what)) front.0 (t ∷ x ∷ later)
    ∙ take_at t.line t.what (turns front.0) ((x.line, x.what) ∷ turns later) taken.2 in
    prefix_then (script_of scripts caller) t.line x.line x.what (turns front.0) (turns later)
    (subst (λ (ts : List (ℕ × What)). AnswersPrefix (script_of scripts caller) ts) whole (legal.order caller))

-- ---- which part of its line an entry is

-- of a line that asks for a plan the desk is asked the same
same_plan : (scripts : List (List ScriptLine)) (before : List EventEntry) (x y : EventEntry) → x.caller ≡ y.caller → x.line ≡ y.line
    → IsPlanning (replay scripts before) (read_at scripts x)
    → IsPlanning (replay scripts before) (read_at scripts y)
same_plan scripts before x y caller line h =
    let read : read_at scripts x ≡ read_at scripts y = cc in
    subst (λ r. IsPlanning (replay scripts before) r) read h

by_parts : (scripts : List (List ScriptLine)) (before h k : List EventEntry) (x y : EventEntry) (a b : What) → IsLegal scripts (before ++ x ∷ h)
    → IsLegal scripts (before ++ y ∷ k)
    → x.caller ≡ y.caller → x.line ≡ y.line → x.what ≡ a → y.what ≡ b → IsReply scripts before x a → IsReply scripts before y b → a ≡ b
by_parts scripts before h k x y Line Line l m caller line is is' r s = refl
by_parts scripts before h k x y Line Take l m caller line is is' r s = absurd (r.0 (same_plan scripts before y x (sym caller) (sym line) s.0))
by_parts scripts before h k x y Line Publish l m caller line is is' r s =
    let publish : x.what ≡ Publish = after_take scripts before h x s.0 l (subst (λ (c : ℕ). HasTaken before c s.0) (sym caller) s.1) in sym is ∙ publish
by_parts scripts before h k x y Take Line l m caller line is is' r s = absurd (s.0 (same_plan scripts before x y caller line r.0))
by_parts scripts before h k x y Take Take l m caller line is is' r s = refl
by_parts scripts before h k x y Take Publish l m caller line is is' r s =
    let publish : x.what ≡ Publish = after_take scripts before h x s.0 l (subst (λ (c : ℕ). HasTaken before c s.0) (sym caller) s.1) in sym is ∙ publish
by_parts scripts before h k x y Publish Line l m caller line is is' r s =
    let publish : y.what ≡ Publish = after_take scripts before k y r.0 m (subst (λ (c : ℕ). HasTaken before c r.0) caller r.1) in sym publish ∙ is'
by_parts scripts before h k x y Publish Take l m caller line is is' r s =
    let publish : y.what ≡ Publish = after_take scripts before k y r.0 m (subst (λ (c : ℕ). HasTaken before c r.0) caller r.1) in sym publish ∙ is'
by_parts scripts before h k x y Publish Publish l m caller line is is' r s = refl

one_what : (scripts : List (List ScriptLine)) (before h k : List EventEntry) (x y : EventEntry) → IsLegal scripts (before ++ x ∷ h)
    → IsLegal scripts (before ++ y ∷ k) → x.caller ≡ y.caller
    → x.line ≡ y.line → x.what ≡ y.what
one_what scripts before h k x y l m caller line =
    let ex : IsEntry scripts before x = l.each before h x refl in
    let ey : IsEntry scripts before y = m.each before k y refl in
    by_parts scripts before h k x y x.what y.what l m caller line refl refl ex.reply ey.reply

-- ---- what an entry replies

-- what is there by the names of all entries
caller_at : (e : EventEntry) → get (codes "caller") (data_of_entry e) ≡ Some (whole e.caller)
unfolding data_with
caller_at e =
    is_there (codes "caller") (whole e.caller)
    (in_byte_order (has (codes "line") (whole e.line) ∷ has (codes "version") (whole e.version) ∷ members_of_reply e.reply))

line_at : (e : EventEntry) → get (codes "line") (data_of_entry e) ≡ Some (whole e.line)
unfolding data_with
line_at e =
    let others : List Named = in_byte_order (has (codes "version") (whole e.version) ∷ members_of_reply e.reply) in
    is_past (codes "line") (codes "caller") (whole e.caller) (with_named (has (codes "line") (whole e.line)) others) refl
    ∙ is_there (codes "line") (whole e.line) others

published_at : (e : EventEntry) (claim : Claim) → get (codes "claim") (data_of_reply e (Published claim)) ≡ Some (claim_data claim)
unfolding data_with
published_at e claim = refl

claim_at : (e : EventEntry) (claim : Claim) → e.reply ≡ Published claim → get (codes "claim") (data_of_entry e) ≡ Some (claim_data claim)
claim_at e claim is = ap (λ (r : Reply). get (codes "claim") (data_of_reply e r)) is ∙ published_at e claim

-- entries of one text that publish claims publish the same, where nothing of one entry is lost
same_published : (x y : EventEntry) → IsExact (data_of_entry x) → compact_text (data_of_entry x) ≡ compact_text (data_of_entry y) → (c d : Claim)
    → x.reply ≡ Published c → y.reply ≡ Published d → c ≡ d
same_published x y exact same c d is other =
    one_claim c d (exact_at (codes "claim") (data_of_entry x) (claim_data c) exact (claim_at x c is))
    (same_at_name (codes "claim") (data_of_entry x) (data_of_entry y) (claim_data c) (claim_data d) same (claim_at x c is) (claim_at y d other))

-- over one state and one Take there is one reply to a plan, but for the claim
one_replied : (s : StateSeen) (v : ℕ) (r q : Reply) → Replied s v r → Replied s v q → ((c d : Claim) → r ≡ Published c → q ≡ Published d → c ≡ d) → r ≡ q
one_replied s v r q (inl (later, is)) (inl (late, other)) same = is ∙ sym other
one_replied s v r q (inl (later, is)) (inr (now, found)) same = absurd (omega (arith, later, now))
one_replied s v r q (inr (now, found)) (inl (late, other)) same = absurd (omega (arith, late, now))
one_replied s v r q (inr (now, inl (m, is, starts))) (inr (too, inl (n, other, more))) same =
    is ∙ ap (λ (k : ℕ). Refused (TooManyStarts k)) (one_count s m n starts more) ∙ sym other
one_replied s v r q (inr (now, inl (m, is, starts))) (inr (too, inr claimed)) same = absurd (not_both s m q starts claimed)
one_replied s v r q (inr (now, inr claimed)) (inr (too, inl (n, other, more))) same = absurd (not_both s n r more claimed)
one_replied s v r q (inr (now, inr claimed)) (inr (too, inr found)) same =
    claimed.1 ∙ ap (λ (c : Claim). Published c) (same claimed.0 found.0 claimed.1 found.1) ∙ sym found.1

one_taken : (before : List EventEntry) (b c v w : ℕ) → b ≡ c → HasTaken before b v → HasTaken before c w → v ≡ w
one_taken before b c v w same (t, last, take, version) (u, end, taken, newer) =
    let both : Some t ≡ Some u = sym last ∙ ap (λ (n : ℕ). last_or None (entries_of n before)) same ∙ end in
    let one : t ≡ u = cc in
    sym version ∙ ap (λ (e : EventEntry). e.version) one ∙ newer

reply_by : (scripts : List (List ScriptLine)) (before : List EventEntry) (x y : EventEntry) (w : What) → x.caller ≡ y.caller → x.line ≡ y.line
    → IsReply scripts before x w → IsReply scripts before y w → ((c d : Claim) → x.reply ≡ Published c → y.reply ≡ Published d → c ≡ d) → x.reply ≡ y.reply
reply_by scripts before x y Line caller line h g same =
    let read : read_at scripts y ≡ read_at scripts x = cc in
    one_reply (replay scripts before) (read_at scripts x) x.reply y.reply h.1 (subst (λ r. IsLineReply (replay scripts before) r y.reply) read g.1)
reply_by scripts before x y Take caller line h g same = h.1 ∙ sym g.1
reply_by scripts before x y Publish caller line h g same =
    let s : StateSeen = replay scripts before in
    let version : g.0 ≡ h.0 = one_taken before y.caller x.caller g.0 h.0 (sym caller) g.1 h.1 in
    one_replied s h.0 x.reply y.reply (replied s h.0 x.reply h.2)
    (replied s h.0 y.reply (subst (λ (v : ℕ). IsPublication s v y.reply) version g.2)) same

-- ---- entry by entry

one_entry : (scripts : List (List ScriptLine)) (before h k : List EventEntry) (x y : EventEntry) → IsLegal scripts (before ++ x ∷ h)
    → IsLegal scripts (before ++ y ∷ k) → IsWritableEntry x → compact_text (data_of_entry x) ≡ compact_text (data_of_entry y) → x ≡ y
one_entry scripts before h k x y l m writable same =
    let ex : IsEntry scripts before x = l.each before h x refl in
    let ey : IsEntry scripts before y = m.each before k y refl in
    let caller : x.caller ≡ y.caller =
    one_number (codes "caller") (data_of_entry x) (data_of_entry y) x.caller y.caller writable.exact same (caller_at x) (caller_at y) in
    let line : x.line ≡ y.line =
    one_number (codes "line") (data_of_entry x) (data_of_entry y) x.line y.line writable.exact same (line_at x) (line_at y) in
    let what : x.what ≡ y.what = one_what scripts before h k x y l m caller line in
    let version : x.version ≡ y.version = ex.version ∙ sym ey.version in
    let reply : x.reply ≡ y.reply =
    reply_by scripts before x y x.what caller line ex.reply (subst (λ (w : What). IsReply scripts before y w) (sym what) ey.reply)
    (same_published x y writable.exact same) in
    let make : ℕ → ℕ → What → ℕ → Reply → EventEntry = λ c l w v r. record { caller = c; line = l; what = w; version = v; reply = r } in
    ap (λ c. make c x.line x.what x.version x.reply) caller ∙ ap (λ l. make y.caller l x.what x.version x.reply) line
    ∙ ap (λ w. make y.caller y.line w x.version x.reply) what ∙ ap (λ v. make y.caller y.line y.what v x.reply) version
    ∙ ap (λ r. make y.caller y.line y.what y.version r) reply

-- the first line of a text, and the rest
first_line : (x y : EventEntry) (h k : List EventEntry) → text_of_history (x ∷ h) ≡ text_of_history (y ∷ k)
    → (compact_text (data_of_entry x) ≡ compact_text (data_of_entry y)) × (text_of_history h ≡ text_of_history k)
unfolding text_of
first_line x y h k same =
    one_line (data_of_entry x) (data_of_entry y) (text_of_history h) (text_of_history k)
    (sym (append_assoc (compact_text (data_of_entry x)) (10 ∷ []) (text_of_history h)) ∙ same
    ∙ append_assoc (compact_text (data_of_entry y)) (10 ∷ []) (text_of_history k))

some_text : (x : EventEntry) (h : List EventEntry) → text_of_history (x ∷ h) ≢ []
some_text x h none =
    let text : List ℕ = text_of (data_of_entry x) in
    let empty : length ((text ++ 10 ∷ []) ++ text_of_history h) ≡ 0 = ap (λ (xs : List ℕ). length xs) none in
    omega (arith, empty, length-append (text ++ 10 ∷ []) (text_of_history h), length-append text (10 ∷ []))

same_from : (scripts : List (List ScriptLine)) (before h k : List EventEntry) → IsLegal scripts (before ++ h) → IsLegal scripts (before ++ k)
    → AllByRecursion IsWritableEntry h → text_of_history h ≡ text_of_history k → h ≡ k
same_from scripts before [] [] l m writable same = refl
same_from scripts before [] (y ∷ k) l m writable same = absurd (some_text y k (sym same))
same_from scripts before (x ∷ h) [] l m writable same = absurd (some_text x h same)
same_from scripts before (x ∷ h) (y ∷ k) l m writable same =
    let lines = first_line x y h k same in
    let one : x ≡ y = one_entry scripts before h k x y l m writable.0 lines.0 in
    let front : List EventEntry = before ++ x ∷ [] in
    let rest : h ≡ k = same_from scripts front h k
    (subst (λ (es : List EventEntry). IsLegal scripts es) (sym (append_assoc before (x ∷ []) h)) l)
    (subst (λ (es : List EventEntry). IsLegal scripts es) (ap (λ (e : EventEntry). before ++ e ∷ k) (sym one) ∙ sym (append_assoc before (x ∷ []) k)) m)
    writable.1 lines.1 in
    ap (λ (e : EventEntry). e ∷ h) one ∙ ap (λ (es : List EventEntry). y ∷ es) rest

pub text_tells_history : TextTellsHistory
text_tells_history scripts history other legal lawful writable same = same_from scripts [] history other legal lawful writable same
