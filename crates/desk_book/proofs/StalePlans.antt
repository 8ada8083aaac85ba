-- A plan is stale exactly where a change was accepted between its Take and its Publish.
use Rattle.std.proofs.Common.{◌≡◌, ℕ, ◌+◌, ◌≤◌, ◌<◌, ◌⊎◌, List, [], ◌∷◌, ◌++◌, Bool, true, false, cond, ◌||◌, refl, sym, ◌∙◌, ap, subst}
use Rattle.std.proofs.Common.{arith, inl, inr, Some, append_assoc}
use Rattle.std.specs.List.{list_any}
use Rattle.std.proofs.lemmas.List.Folds.{Any-from_list_any, list_any-from_Any}
use Rattle.std.proofs.lemmas.List.Sums.{sum_by-append}
use Rattle.plan_base.specs.declared.parts.Parts.{Parts}
use Rattle.plan_base.specs.Solved.{HasFewStarts}
use Rattle.plan_base.specs.Starts.{IsStartCount}
use Rattle.plan_base.proofs.StartCounts.{one_start_count}
use Rattle.plan_io.specs.declared.lines.ScriptLine.{ScriptLine}
use Rattle.desk_events.specs.declared.entry.EventEntry.{EventEntry}
use Rattle.desk_events.specs.declared.entry.What.{What}
use Rattle.desk_events.specs.declared.entry.What.TheVariants.{Take, Publish}
use Rattle.desk_events.specs.declared.refusal.Refusal.TheVariants.{Stale, TooManyStarts}
use Rattle.desk_events.specs.declared.reply.Reply.{Reply}
use Rattle.desk_events.specs.declared.reply.Reply.TheVariants.{Published, Refused}
use Rattle.desk_core.specs.Desk.{StateSeen}
use Rattle.desk_core.specs.DeskSnapshot.{snapshot_of}
use Rattle.desk_core.specs.Step.{IsSnapshotOf}
use Rattle.desk_core.specs.History.{entries_of, replay, IsInterleaving, IsPublication, IsReply, IsEntry, IsLegal}
use Rattle.desk_book.specs.Laws.{is_change}
use Rattle.desk_book.specs.Plans.{HasChange, HasManyStarts, PublishesCertified, IsPublishReply, AreOfOneLine, HasEarlier, PlansAreStaleByChanges}
use Rattle.desk_book.proofs.OwnTakes.{turns, BothTurns, CutAt, same_some, both_turns, apart, linked, last_taken, cut_last}
use Rattle.desk_book.proofs.Versions.{change_of, changes_in, versions_count}

-- ---- changes are counted

one_or_more : (a b : Bool) (n : ℕ) → (a || b) ≡ true → (b ≡ true → 1 ≤ n) → 1 ≤ cond a 1 0 + n
one_or_more true b n h more = omega arith
one_or_more false b n h more = omega (arith, more h)

one_of : (a b : Bool) (n : ℕ) → 1 ≤ cond a 1 0 + n → (1 ≤ n → b ≡ true) → (a || b) ≡ true
one_of true b n h more = refl
one_of false b n h more = more (omega (arith, h))

abbrev any_change : List EventEntry → Bool
any_change es = list_any (λ (x : EventEntry). is_change x.reply) es

first_counts : (x : EventEntry) (es : List EventEntry) → changes_in (x ∷ es) ≡ change_of x.reply + changes_in es
first_counts x es =
    let one : changes_in (x ∷ []) ≡ change_of x.reply = omega arith in
    let both : changes_in ((x ∷ []) ++ es) ≡ changes_in (x ∷ []) + changes_in es =
    sum_by-append (λ (y : EventEntry). change_of y.reply) (x ∷ []) es in
    both ∙ ap (λ (n : ℕ). n + changes_in es) one

any_counts : (es : List EventEntry) → any_change es ≡ true → 1 ≤ changes_in es
any_counts [] h = cc
any_counts (x ∷ es) h =
    let more : 1 ≤ change_of x.reply + changes_in es = one_or_more (is_change x.reply) (any_change es) (changes_in es) h (any_counts es) in
    omega (arith, more, first_counts x es)

counts_any : (es : List EventEntry) → 1 ≤ changes_in es → any_change es ≡ true
counts_any [] h = absurd (omega (arith, h))
counts_any (x ∷ es) h =
    let more : 1 ≤ change_of x.reply + changes_in es = omega (arith, h, first_counts x es) in
    one_of (is_change x.reply) (any_change es) (changes_in es) more (counts_any es)

counted : (es : List EventEntry) → HasChange es → 1 ≤ changes_in es
counted es h = any_counts es (list_any-from_Any (λ (x : EventEntry). is_change x.reply) es h)

some_change : (es : List EventEntry) → 1 ≤ changes_in es → HasChange es
some_change es h = Any-from_list_any (λ (x : EventEntry). is_change x.reply) es (counts_any es h)

-- ---- what is replied

-- the three replies to a plan of a version
abbrev pub Replied : StateSeen → ℕ → Reply → Type 0
Replied s v r =
    ((v < s.version) × (r ≡ Refused (Stale v s.version)))
    ⊎ ((v ≡ s.version) × (((count : ℕ) × (r ≡ Refused (TooManyStarts count)) × HasManyStarts s count) ⊎ PublishesCertified s r))

pub replied : (s : StateSeen) (v : ℕ) (r : Reply) → IsPublication s v r → Replied s v r
replied s v (Refused (Stale asked newer)) h =
    inl (h.0, ap (λ (n : ℕ). Refused (Stale n newer)) h.1 ∙ ap (λ (n : ℕ). Refused (Stale v n)) h.2)
replied s v (Refused (TooManyStarts count)) h = inr (h.0, inl (count, refl, h.1))
replied s v (Published claim) h = inr (h.0, inr (claim, refl, h.1))
replied s v r h = absurd h

one_snapshot : (s : StateSeen) (a b : Parts) → IsSnapshotOf s a → IsSnapshotOf s b → a ≡ b
one_snapshot s a b h g =
    let both : Some h.0 ≡ Some g.0 = sym h.1 ∙ g.1 in
    let same : h.0 ≡ g.0 = cc in
    h.2 ∙ ap (snapshot_of s.version) same ∙ sym g.2

pub one_count : (s : StateSeen) (m n : ℕ) → HasManyStarts s m → HasManyStarts s n → m ≡ n
one_count s m n h g = one_start_count h.0 m n h.2 (subst (λ (parts : Parts). IsStartCount parts n) (one_snapshot s g.0 h.0 g.1 h.1) g.2)

pub not_both : (s : StateSeen) (n : ℕ) (r : Reply) → HasManyStarts s n → PublishesCertified s r → ⊥
not_both s n r h (claim, is, (parts, at, few, certified)) =
    let less = subst (λ (p : Parts). HasFewStarts p) (one_snapshot s parts h.0 at h.1) few in
    let same : n ≡ less.0 = one_start_count h.0 n less.0 h.2 less.1 in
    absurd (omega (arith, same, h.3, less.2))

-- the reply by whether a change was accepted meanwhile
divided : (s : StateSeen) (taken now : ℕ) (meanwhile : List EventEntry) (r : Reply) → s.version ≡ now → now ≡ taken + changes_in meanwhile
    → Replied s taken r → IsPublishReply s taken now meanwhile r
divided s taken now meanwhile r state count (inl (later, is)) =
    let change : HasChange meanwhile = some_change meanwhile (omega (arith, state, count, later)) in
    record {
      stale = λ asked newer. (
        λ h.
            let same : Refused (Stale taken s.version) ≡ Refused (Stale asked newer) = sym is ∙ h in
            let current : s.version ≡ newer = cc in (change, cc, sym current ∙ state),
        λ h. is ∙ ap (λ (n : ℕ). Refused (Stale n s.version)) (sym h.1) ∙ ap (λ (n : ℕ). Refused (Stale asked n)) (state ∙ sym h.2),
      );
      many = λ n. (λ h. absurd (cc), λ h. absurd (h.0 change));
      published = (λ h. absurd (cc), λ h. absurd (h.0 change));
    }
divided s taken now meanwhile r state count (inr (current, inl (found, is, starts))) =
    let none : ¬ HasChange meanwhile = λ h. absurd (omega (arith, state, count, current, counted meanwhile h)) in
    record {
      stale = λ asked newer. (λ h. absurd (cc), λ h. absurd (none h.0));
      many = λ n. (
        λ h. let same : found ≡ n = cc in (none, subst (HasManyStarts s) same starts),
        λ h. is ∙ ap (λ (k : ℕ). Refused (TooManyStarts k)) (one_count s found n starts h.1),
      );
      published = (λ h. absurd (not_both s found r starts h), λ h. absurd (h.1 found starts));
    }
divided s taken now meanwhile r state count (inr (current, inr claimed)) =
    let none : ¬ HasChange meanwhile = λ h. absurd (omega (arith, state, count, current, counted meanwhile h)) in
    let is : r ≡ Published claimed.0 = claimed.1 in
    record {
      stale = λ asked newer. (λ h. absurd (cc), λ h. absurd (none h.0));
      many = λ n. (λ h. absurd (cc), λ h. absurd (not_both s n r h.1 claimed));
      published = (λ h. (none, λ n starts. not_both s n r starts h), λ h. claimed);
    }

-- ---- a history

-- the entries up to a Publish, cut at an earlier entry of its caller
cut_order : (scripts : List (List ScriptLine)) (before meanwhile after : List EventEntry) (t e : EventEntry)
    → IsInterleaving scripts ((before ++ t ∷ meanwhile) ++ e ∷ after) → t.caller ≡ e.caller → e.what ≡ Publish → BothTurns before meanwhile t e
cut_order scripts before meanwhile after t e order caller publish =
    let whole : (before ++ t ∷ meanwhile) ++ e ∷ after ≡ before ++ t ∷ (meanwhile ++ e ∷ after) = append_assoc before (t ∷ meanwhile) (e ∷ after) in
    both_turns scripts before meanwhile after t e (subst (IsInterleaving scripts) whole order) caller publish

publish_told : (scripts : List (List ScriptLine)) (front : List EventEntry) (e : EventEntry) → IsEntry scripts front e → e.what ≡ Publish
    → IsReply scripts front e Publish
publish_told scripts front e entry publish = subst (λ (w : What). IsReply scripts front e w) publish entry.reply

has_earlier : (scripts : List (List ScriptLine)) (front after : List EventEntry) (e : EventEntry) → IsLegal scripts (front ++ e ∷ after) → e.what ≡ Publish
    → HasEarlier front e
has_earlier scripts front after e legal publish =
    let told : IsReply scripts front e Publish = publish_told scripts front e (legal.each front after e refl) publish in
    let t : EventEntry = told.1.0 in
    let cut : CutAt e.caller front t = cut_last e.caller front t told.1.1 in
    let order : IsInterleaving scripts ((cut.before ++ t ∷ cut.meanwhile) ++ e ∷ after) =
    subst (λ (es : List EventEntry). IsInterleaving scripts (es ++ e ∷ after)) cut.is legal.order in
    let both : BothTurns cut.before cut.meanwhile t e = cut_order scripts cut.before cut.meanwhile after t e order cut.mine publish in
    (cut.before, cut.meanwhile, t, cut.is, (cut.mine, linked cut.before cut.meanwhile t e both told.1.2 (ap turns cut.none)))

by_changes : (scripts : List (List ScriptLine)) (before meanwhile after : List EventEntry) (t e : EventEntry)
    → IsLegal scripts ((before ++ t ∷ meanwhile) ++ e ∷ after) → e.what ≡ Publish → AreOfOneLine t e
    → (t.what ≡ Take) × (entries_of e.caller meanwhile ≡ [])
    × IsPublishReply (replay scripts (before ++ t ∷ meanwhile)) t.version e.version meanwhile e.reply
by_changes scripts before meanwhile after t e legal publish (caller, line) =
    let front : List EventEntry = before ++ t ∷ meanwhile in
    let history : List EventEntry = front ++ e ∷ after in
    let whole : history ≡ before ++ t ∷ (meanwhile ++ e ∷ after) = append_assoc before (t ∷ meanwhile) (e ∷ after) in
    let both : BothTurns before meanwhile t e = cut_order scripts before meanwhile after t e legal.order caller publish in
    let mine : (t.what ≡ Take) × (entries_of e.caller meanwhile ≡ []) = apart before meanwhile t e both line in
    let et : IsEntry scripts before t = legal.each before (meanwhile ++ e ∷ after) t whole in
    let ee : IsEntry scripts front e = legal.each front after e refl in
    let take : IsReply scripts before t Take = subst (λ (w : What). IsReply scripts before t w) mine.0 et.reply in
    let told : IsReply scripts front e Publish = publish_told scripts front e ee publish in
    let own : told.1.0 ≡ t = same_some told.1.0 t (sym told.1.1 ∙ last_taken e.caller before meanwhile t caller mine.1) in
    let version : told.0 ≡ t.version = sym told.1.3 ∙ ap (λ (x : EventEntry). x.version) own in
    let said : IsPublication (replay scripts front) t.version e.reply =
    subst (λ (v : ℕ). IsPublication (replay scripts front) v e.reply) version told.2 in
    let none : change_of t.reply ≡ 0 = ap change_of take.1 in
    let more : changes_in front ≡ changes_in before + changes_in (t ∷ meanwhile) =
    sum_by-append (λ (y : EventEntry). change_of y.reply) before (t ∷ meanwhile) in
    let first : changes_in (t ∷ meanwhile) ≡ change_of t.reply + changes_in meanwhile = first_counts t meanwhile in
    let at : t.version ≡ changes_in before = versions_count scripts history before (meanwhile ++ e ∷ after) t legal whole in
    let now : e.version ≡ changes_in front = versions_count scripts history front after e legal refl in (
      mine.0,
      mine.1,
      divided (replay scripts front) t.version e.version meanwhile e.reply (sym ee.version) (omega (arith, none, more, first, at, now))
          (replied (replay scripts front) t.version e.reply said),
    )

pub plans_are_stale_by_changes : PlansAreStaleByChanges
plans_are_stale_by_changes scripts history front after e legal is publish =
    let here : IsLegal scripts (front ++ e ∷ after) = subst (IsLegal scripts) is legal in (
      has_earlier scripts front after e here publish,
      λ before meanwhile t cut line.
          subst (λ (es : List EventEntry). (t.what ≡ Take) × (entries_of e.caller meanwhile ≡ [])
          × IsPublishReply (replay scripts es) t.version e.version meanwhile e.reply) (sym cut)
          (by_changes scripts before meanwhile after t e (subst (λ (es : List EventEntry). IsLegal scripts (es ++ e ∷ after)) cut here) publish line),
    )
