-- A session that is made again leaves the state that there was.
use Rattle.std.proofs.Common.{◌≡◌, ℕ, ◌⊎◌, inl, inr, Bool, true, false, cond, ◌==◌, List, [], ◌∷◌, ◌++◌, refl, sym, ◌∙◌, ap, subst, append_assoc}
use Rattle.std.proofs.Common.{append-nil, Option, Some, None, IsSome, Result, Ok}
use Rattle.std.specs.List.{cons_option, filter_map}
use Rattle.std.proofs.lemmas.Bool.{eq-eqb}
use Rattle.std.proofs.lemmas.List.Elements.{filter_map-append}
use Rattle.plan_base.specs.declared.claim.Claim.{Claim}
use Rattle.plan_base.specs.declared.parts.Parts.{Parts}
use Rattle.plan_base.specs.declared.verdict.Verdict.TheVariants.{Yes}
use Rattle.plan_base.specs.Verdict.{IsCertified}
use Rattle.plan_io.specs.declared.lines.ScriptLine.{ScriptLine}
use Rattle.desk_events.specs.declared.command.Command.{Command}
use Rattle.desk_events.specs.declared.command.Command.TheVariants as command
use Rattle.desk_events.specs.declared.entry.EventEntry.{EventEntry}
use Rattle.desk_events.specs.declared.entry.What.{What}
use Rattle.desk_events.specs.declared.entry.What.TheVariants.{Line, Take, Publish}
use Rattle.desk_events.specs.declared.fault.CommandFault.{CommandFault}
use Rattle.desk_events.specs.declared.refusal.Refusal.{Refusal}
use Rattle.desk_events.specs.declared.refusal.Refusal.TheVariants.{Stale}
use Rattle.desk_events.specs.declared.reply.Reply.{Reply}
use Rattle.desk_events.specs.declared.reply.Reply.TheVariants as reply
use Rattle.desk_core.specs.Desk.{DeskSeen, StateSeen, decided, accepted}
use Rattle.desk_core.specs.DeskSnapshot.{snapshot_of}
use Rattle.desk_core.specs.Publishing.{with_publication, rejection}
use Rattle.desk_core.specs.Step.{step_by, IsAsked, IsSnapshotOf}
use Rattle.desk_core.specs.History.{left_by, with_published, read_at, replay, after_line, after_what, after_entry, after_publish, IsPlanning}
use Rattle.desk_core.specs.History.{IsLineReply, IsPublication, IsReply, IsEntry, EachAfter}
use Rattle.desk_book.specs.Again.{in_place, entry_again, said_in_place, IsSentAgain, HistoriesAreMadeAgain}
use Rattle.desk_book.proofs.Histories.{replay_more, each_more, each_none}

-- ---- one claim

-- a state has one snapshot
one_snapshot : (s : StateSeen) (d : DeskSeen) (parts : Parts) → s.desk ≡ Some d → IsSnapshotOf s parts → parts ≡ snapshot_of s.version d
one_snapshot s d parts opened h =
    let both : Some h.0 ≡ Some d = sym h.1 ∙ opened in
    let same : h.0 ≡ d = cc in
    h.2 ∙ ap (snapshot_of s.version) same

-- a claim for the current version, with the verdict Yes, is accepted
accepted_by : (b : Bool) (s : StateSeen) (d : DeskSeen) (stale : Refusal) (value bound : ℕ) (claim : Claim) → b ≡ true
    → decided s record { refusal = cond b (rejection (Yes value bound)) (Some stale); reply = reply.Published claim; desk = with_publication s.version claim d }
    ≡ accepted s (reply.Published claim) (with_publication s.version claim d)
accepted_by true s d stale value bound claim h = refl
accepted_by false s d stale value bound claim h = cc

stepped_by : (s : StateSeen) (o : Option DeskSeen) (d : DeskSeen) (claim : Claim) (value bound : ℕ) → o ≡ Some d
    → step_by (Yes value bound) s o (command.Publish s.version claim) ≡ Some (accepted s (reply.Published claim) (with_publication s.version claim d))
stepped_by s None d claim value bound opened = cc
stepped_by s (Some e) d claim value bound opened =
    let same : e ≡ d = cc in
    ap Some (accepted_by (s.version == s.version) s e (Stale s.version s.version) value bound claim (eq-eqb s.version s.version refl))
    ∙ ap (λ (x : DeskSeen). Some (accepted s (reply.Published claim) (with_publication s.version claim x))) same

-- over the state over which a plan published a claim, the claim that is sent for its version has that reply
claim_steps : (s : StateSeen) (v : ℕ) (claim : Claim) → IsPublication s v (reply.Published claim)
    → IsLineReply s (Ok (command.Publish v claim)) (reply.Published claim)
claim_steps s v claim h =
    let parts : Parts = h.1.0 in
    let d : DeskSeen = h.1.1.0 in
    let opened : s.desk ≡ Some d = h.1.1.1 in
    let asked : IsAsked s (command.Publish s.version claim) (Yes claim.value claim.bound) =
    λ now other of. (None, subst (λ (p : Parts). IsCertified p claim) (h.1.1.2 ∙ sym (one_snapshot s d other opened of)) h.1.3, refl) in
    subst (λ (n : ℕ). IsLineReply s (Ok (command.Publish n claim)) (reply.Published claim)) (sym h.0) (
      accepted s (reply.Published claim) (with_publication s.version claim d),
      (Yes claim.value claim.bound, asked, stepped_by s s.desk d claim claim.value claim.bound opened),
      refl,
    )

-- and leaves the state that the plan left
claim_leaves : (s : StateSeen) (v : ℕ) (claim : Claim) → IsPublication s v (reply.Published claim)
    → after_line s (Ok (command.Publish v claim)) (reply.Published claim) ≡ after_publish s (reply.Published claim)
claim_leaves s v claim h =
    let d : DeskSeen = h.1.1.0 in
    let opened : s.desk ≡ Some d = h.1.1.1 in
    ap (λ (n : ℕ). after_line s (Ok (command.Publish n claim)) (reply.Published claim)) h.0
    ∙ ap (left_by s) (stepped_by s s.desk d claim 0 0 opened)
    ∙ sym (ap (λ (o : Option DeskSeen). with_published s o claim) opened)

-- ---- one entry

-- the entry x is right for its line over the state s, and leaves the state t
record Goes (again : List (List ScriptLine)) (s t : StateSeen) (x : EventEntry) : Type 0 where
  pub version : x.version ≡ s.version
  pub differs : ¬ (IsPlanning s (read_at again x))
  pub replied : IsLineReply s (read_at again x) x.reply
  pub left : after_line s (read_at again x) x.reply ≡ t

-- what stands in an entry's place goes from s to t, and the states are one where nothing does
abbrev GoesAgain : List (List ScriptLine) → StateSeen → StateSeen → Option EventEntry → Type 0
GoesAgain again s t None = t ≡ s
GoesAgain again s t (Some x) = (x.what ≡ Line) × Goes again s t x

-- what is said again has its reply again
line_again : (again : List (List ScriptLine)) (s : StateSeen) (read : Result Command CommandFault) (e : EventEntry)
    → e.version ≡ s.version → ¬ (IsPlanning s read)
    → IsLineReply s read e.reply → read_at again e ≡ read → Goes again s (after_line s read e.reply) e
line_again again s read e version differs replied sent =
    record {
      version = version;
      differs = λ planning. differs (subst (IsPlanning s) sent planning);
      replied = subst (λ (r : Result Command CommandFault). IsLineReply s r e.reply) (sym sent) replied;
      left = ap (λ (r : Result Command CommandFault). after_line s r e.reply) sent;
    }

not_planning : (s : StateSeen) (v : ℕ) (claim : Claim) → ¬ (IsPlanning s (Ok (command.Publish v claim)))
not_planning s v claim h = let same : Ok (command.Publish v claim) ≡ Ok command.Plan = h.0 in cc

-- a Publish with this reply publishes a claim, or leaves the state, and nothing stands in its place
published_or : (r : Reply) → ((claim : Claim) × (r ≡ reply.Published claim))
    ⊎ (((s : StateSeen) → after_publish s r ≡ s) × ((e : EventEntry) → in_place e Publish r ≡ None))
published_or reply.Opened = inr (λ s. refl, λ e. refl)
published_or reply.Instrument = inr (λ s. refl, λ e. refl)
published_or (reply.Telescope telescope) = inr (λ s. refl, λ e. refl)
published_or reply.Night = inr (λ s. refl, λ e. refl)
published_or reply.Visibility = inr (λ s. refl, λ e. refl)
published_or reply.Closed = inr (λ s. refl, λ e. refl)
published_or reply.Reopened = inr (λ s. refl, λ e. refl)
published_or (reply.Granted balance) = inr (λ s. refl, λ e. refl)
published_or (reply.Submitted group ipp_charged requests) = inr (λ s. refl, λ e. refl)
published_or (reply.Amended group ipp_charged refunded replaces requests) = inr (λ s. refl, λ e. refl)
published_or (reply.Withdrawn refunded) = inr (λ s. refl, λ e. refl)
published_or (reply.Clocked expired failed refunded started) = inr (λ s. refl, λ e. refl)
published_or (reply.Completed canceled charged) = inr (λ s. refl, λ e. refl)
published_or (reply.Failed expired refunded) = inr (λ s. refl, λ e. refl)
published_or reply.Taken = inr (λ s. refl, λ e. refl)
published_or (reply.Published claim) = inl (claim, refl)
published_or (reply.Exported claim snapshot) = inr (λ s. refl, λ e. refl)
published_or (reply.Balances balances) = inr (λ s. refl, λ e. refl)
published_or (reply.Shown document group requests state) = inr (λ s. refl, λ e. refl)
published_or (reply.Refused refusal) = inr (λ s. refl, λ e. refl)

-- the claim of a plan goes again
claim_again : (again : List (List ScriptLine)) (s : StateSeen) (e : EventEntry) (v : ℕ) (claim : Claim) → e.version ≡ s.version
    → e.reply ≡ reply.Published claim
    → IsPublication s v (reply.Published claim) → read_at again e ≡ Ok (command.Publish e.version claim)
    → Goes again s (after_publish s (reply.Published claim)) record e { what = Line }
claim_again again s e v claim version told h sent =
    let now : v ≡ e.version = h.0 ∙ sym version in
    let said : read_at again e ≡ Ok (command.Publish v claim) = sent ∙ ap (λ (n : ℕ). Ok (command.Publish n claim)) (sym now) in
    record {
      version = version;
      differs = λ planning. not_planning s v claim (subst (IsPlanning s) said planning);
      replied = subst (λ (r : Reply). IsLineReply s (read_at again e) r) (sym told)
          (subst (λ (c : Result Command CommandFault). IsLineReply s c (reply.Published claim)) (sym said) (claim_steps s v claim h));
      left = ap (λ (c : Result Command CommandFault). after_line s c e.reply) said ∙ ap (after_line s (Ok (command.Publish v claim))) told
          ∙ claim_leaves s v claim h;
    }

-- what a Publish leaves is left by what stands in its place
publish_again : (again : List (List ScriptLine)) (s : StateSeen) (read : Result Command CommandFault) (e : EventEntry) (v : ℕ) (r : Reply)
    → e.version ≡ s.version → e.reply ≡ r
    → IsPublication s v r → (IsSome (in_place e Publish r) → read_at again e ≡ said_in_place read e.version Publish r)
    → ((claim : Claim) × (r ≡ reply.Published claim)) ⊎ (((s : StateSeen) → after_publish s r ≡ s) × ((e : EventEntry) → in_place e Publish r ≡ None))
    → GoesAgain again s (after_publish s r) (in_place e Publish r)
publish_again again s read e v r version told h sent (inl t) =
    let claim : Claim = t.0 in
    let published : e.reply ≡ reply.Published claim = told ∙ t.1 in
    let is : IsPublication s v (reply.Published claim) = subst (IsPublication s v) t.1 h in
    let said : read_at again e ≡ Ok (command.Publish e.version claim) =
    subst (λ (x : Reply). IsSome (in_place e Publish x) → read_at again e ≡ said_in_place read e.version Publish x) t.1 sent refl in
    subst (λ (x : Reply). GoesAgain again s (after_publish s x) (in_place e Publish x)) (sym t.1)
    (refl, claim_again again s e v claim version published is said)
publish_again again s read e v r version told h sent (inr t) = subst (GoesAgain again s (after_publish s r)) (sym (t.1 e)) (t.0 s)

-- what an entry of a legal history leaves is left by what stands in its place
goes_again : (scripts again : List (List ScriptLine)) (before : List EventEntry) (e : EventEntry) (what : What) → e.version ≡ (replay scripts before).version
    → IsReply scripts before e what → (IsSome (in_place e what e.reply) → read_at again e ≡ said_in_place (read_at scripts e) e.version what e.reply)
    → e.what ≡ what
    → GoesAgain again (replay scripts before) (after_what (replay scripts before) (read_at scripts e) what e.reply) (in_place e what e.reply)
goes_again scripts again before e Line version h sent is = (is, line_again again (replay scripts before) (read_at scripts e) e version h.0 h.1 (sent refl))
goes_again scripts again before e Take version h sent is = refl
goes_again scripts again before e Publish version h sent is =
    publish_again again (replay scripts before) (read_at scripts e) e h.0 e.reply version refl h.2 sent (published_or e.reply)

-- ---- a history

-- the history, made again
abbrev again_of : List EventEntry → List EventEntry
again_of history = filter_map entry_again history

-- its entries are right, and it leaves the state that there was
record IsMadeAgain (scripts again : List (List ScriptLine)) (history : List EventEntry) : Type 0 where
  pub each : EachAfter (IsEntry again) (again_of history)
  pub left : replay again (again_of history) ≡ replay scripts history

-- with one entry more, by what stands in its place
more_by : (scripts again : List (List ScriptLine)) (history : List EventEntry) (t : StateSeen) (o : Option EventEntry) → IsMadeAgain scripts again history
    → GoesAgain again (replay scripts history) t o → EachAfter (IsEntry again) (again_of history ++ cons_option o [])
    × (replay again (again_of history ++ cons_option o []) ≡ t)
more_by scripts again history t None made h = (
  subst (EachAfter (IsEntry again)) (sym (append-nil (again_of history))) made.each,
  ap (replay again) (append-nil (again_of history)) ∙ made.left ∙ sym h,
)
more_by scripts again history t (Some x) made h =
    let s : StateSeen = replay again (again_of history) in
    let goes : Goes again s t x = subst (λ (u : StateSeen). Goes again u t x) (sym made.left) h.1 in
    let right : IsReply again (again_of history) x Line = (goes.differs, goes.replied) in
    let entry : IsEntry again (again_of history) x = record {
      version = goes.version;
      reply = subst (IsReply again (again_of history) x) (sym h.0) right;
    } in (
      each_more (IsEntry again) (again_of history) x made.each entry,
      replay_more again (again_of history) x ∙ ap (λ (w : What). after_what s (read_at again x) w x.reply) h.0 ∙ goes.left,
    )

made_on : (scripts again : List (List ScriptLine)) (before rest : List EventEntry) → EachAfter (IsEntry scripts) (before ++ rest)
    → EachAfter (λ earlier e. IsSentAgain scripts again e) (before ++ rest)
    → IsMadeAgain scripts again before → IsMadeAgain scripts again (before ++ rest)
made_on scripts again before [] h sent made = subst (IsMadeAgain scripts again) (sym (append-nil before)) made
made_on scripts again before (e ∷ es) h sent made =
    let whole : (before ++ e ∷ []) ++ es ≡ before ++ e ∷ es = append_assoc before (e ∷ []) es in
    let entry : IsEntry scripts before e = h before es e refl in
    let both = more_by scripts again before (after_entry scripts (replay scripts before) e) (entry_again e) made
    (goes_again scripts again before e e.what entry.version entry.reply (sent before es e refl) refl) in
    let one : again_of (before ++ e ∷ []) ≡ again_of before ++ cons_option (entry_again e) [] = filter_map-append entry_again before (e ∷ []) in
    let here : IsMadeAgain scripts again (before ++ e ∷ []) = record {
      each = subst (EachAfter (IsEntry again)) (sym one) both.0;
      left = ap (replay again) one ∙ both.1 ∙ sym (replay_more scripts before e);
    } in
    subst (IsMadeAgain scripts again) whole
    (made_on scripts again (before ++ e ∷ []) es (subst (EachAfter (IsEntry scripts)) (sym whole) h)
    (subst (EachAfter (λ earlier x. IsSentAgain scripts again x)) (sym whole) sent) here)

pub made_again : HistoriesAreMadeAgain
made_again scripts again history legal sent =
    let none : IsMadeAgain scripts again [] = record { each = each_none (IsEntry again); left = refl } in
    let made : IsMadeAgain scripts again history = made_on scripts again [] history legal.each sent none in
    (made.each, made.left)
