-- What is known of a book after each call that adds an entry.
use Rattle.std.proofs.Common.{◌≡◌, ◌≢◌, ℕ, ◌+◌, ◌-◌, ◌≤◌, ◌<◌, ◌⊎◌, List, [], ◌∷◌, ◌++◌, length, sum, set, get_or, Bool, true, false, refl, sym, ◌∙◌, ap}
use Rattle.std.proofs.Common.{subst, arith, inl, inr, Some, None, Result, get_or-set_same, get_or-set_other}
use Rattle.std.specs.declared.option.Option.{Option}
use Rattle.std.specs.Option.{is_some}
use Rattle.std.specs.Prelude.{slice_set}
use Rattle.std.proofs.lemmas.List.{length-set}
use Rattle.plan_base.specs.declared.claim.Claim.{Claim}
use Rattle.plan_base.specs.declared.taken.Taken.{Taken as TakenParts}
use Rattle.plan_io.specs.declared.lines.ScriptLine.{ScriptLine}
use Rattle.desk_events.specs.declared.command.Command.{Command}
use Rattle.desk_events.specs.declared.entry.EventEntry.{EventEntry}
use Rattle.desk_events.specs.declared.entry.What.TheVariants.{Line, Take, Publish}
use Rattle.desk_events.specs.declared.fault.CommandFault.{CommandFault}
use Rattle.desk_events.specs.declared.reply.Reply.{Reply}
use Rattle.desk_events.specs.declared.reply.Reply.TheVariants.{Taken, Published}
use Rattle.desk_core.specs.Desk.{StateSeen}
use Rattle.desk_core.specs.History.{IsPlanning, script_of, turns_of, after_publish, IsPublication}
use Rattle.desk_book.specs.Claims.{IsDeskClaim}
use Rattle.desk_book.specs.Doing.{IsStepDone, IsTakenOf, SaysNext}
use Rattle.desk_book.specs.Kept.{IsPlace, GoOn, IsBehind, IsSound, AreCounted}
use Rattle.desk_book.specs.Seen.{BookSeen, take_of, ends_line, done_of, entry_of, with_entry, with_take}
use Rattle.desk_book.proofs.Counting.{sum_more}
use Rattle.desk_book.proofs.GoesOn.{GoesOn, line_goes, publish_goes}
use Rattle.desk_book.proofs.Keeping.{same_or_other, said, said_later, kept_step, kept_take, kept_publish}
use Rattle.desk_book.proofs.Places.{place_as, place_step, place_take, place_publish}
use Rattle.desk_book.proofs.Sound.{shut_place, open_place, next_below}
use Rattle.desk_book.proofs.Turns.{turns_mine, turns_other, done_more, done_same, done_other}

-- ---- an entry more

-- the places of all callers but one, which has an entry more
place_other : (b : BookSeen) (e : EventEntry) (takes : List (Option TakenParts)) (other : ℕ) → IsSound b → e.caller ≢ other
    → take_of takes other ≡ take_of b.takes other
    → IsPlace (script_of b.scripts other) (turns_of other (b.history ++ e ∷ [])) (done_of other (b.history ++ e ∷ [])) (is_some (take_of takes other))
place_other b e takes other s differs same =
    place_as (script_of b.scripts other) (turns_of other b.history) (turns_of other (b.history ++ e ∷ [])) (done_of other b.history)
    (done_of other (b.history ++ e ∷ []))
    (is_some (take_of b.takes other)) (is_some (take_of takes other))
    (sym (turns_other other b.history e differs)) (sym (done_other other b.history e differs)) (ap is_some (sym same)) (s.places other)

-- the place of the caller of the entry
abbrev IsNewPlace : BookSeen → EventEntry → List (Option TakenParts) → ℕ → Type 0
IsNewPlace b e takes caller = IsPlace (script_of b.scripts caller) (turns_of caller (b.history ++ e ∷ [])) (done_of caller (b.history ++ e ∷ []))
    (is_some (take_of takes caller))

place_mine : (b : BookSeen) (e : EventEntry) (takes : List (Option TakenParts)) (n : ℕ) (taken : Bool) → done_of e.caller (b.history ++ e ∷ []) ≡ n
    → is_some (take_of takes e.caller) ≡ taken
    → IsPlace (script_of b.scripts e.caller) (turns_of e.caller b.history ++ (e.line, e.what) ∷ []) n taken → IsNewPlace b e takes e.caller
place_mine b e takes n taken done is p =
    place_as (script_of b.scripts e.caller) (turns_of e.caller b.history ++ (e.line, e.what) ∷ []) (turns_of e.caller (b.history ++ e ∷ [])) n
    (done_of e.caller (b.history ++ e ∷ [])) taken
    (is_some (take_of takes e.caller))
    (sym (turns_mine e.caller b.history e refl)) (sym done) (sym is) p

place_by : (b : BookSeen) (e : EventEntry) (takes : List (Option TakenParts)) (other : ℕ) → IsSound b → IsNewPlace b e takes e.caller
    → (e.caller ≢ other → take_of takes other ≡ take_of b.takes other)
    → (e.caller ≡ other) ⊎ (e.caller ≢ other) → IsNewPlace b e takes other
place_by b e takes other s mine same (inl is) = subst (λ (k : ℕ). IsNewPlace b e takes k) is mine
place_by b e takes other s mine same (inr differs) = place_other b e takes other s differs (same differs)

places_more : (b : BookSeen) (e : EventEntry) (takes : List (Option TakenParts)) → IsSound b → IsNewPlace b e takes e.caller
    → ((other : ℕ) → e.caller ≢ other → take_of takes other ≡ take_of b.takes other)
    → (other : ℕ) → IsNewPlace b e takes other
places_more b e takes s mine same other = place_by b e takes other s mine (same other) (same_or_other e.caller other)

-- a Take that the state is behind stays so
behind_by : (s t : StateSeen) (k : TakenParts) → GoesOn s t → IsBehind s k → IsBehind t k
behind_by s t k (inl same) h = subst (λ (u : StateSeen). IsBehind u k) (sym same) h
behind_by s t k (inr more) (inl taken) = let version : k.snapshot.version ≡ s.version = ap (λ p. p.version) taken.2 in inr (omega arith)
behind_by s t k (inr more) (inr before) = inr (omega arith)

-- the counts after an entry
counts_by : (b : BookSeen) (done : List ℕ) (e : EventEntry) (other : ℕ) → AreCounted b done → e.caller < length done → ends_line e.what ≡ true
    → (e.caller ≡ other) ⊎ (e.caller ≢ other)
    → get_or (set done e.caller (get_or done e.caller 0 + 1)) other 0 ≡ done_of other (b.history ++ e ∷ [])
counts_by b done e other c low ends (inl same) =
    let here : get_or (set done e.caller (get_or done e.caller 0 + 1)) e.caller 0 ≡ get_or done e.caller 0 + 1 =
    get_or-set_same done e.caller (get_or done e.caller 0 + 1) 0 low in
    ap (λ (k : ℕ). get_or (set done e.caller (get_or done e.caller 0 + 1)) k 0) (sym same) ∙ here ∙ ap (λ (n : ℕ). n + 1) (c.each e.caller)
    ∙ sym (done_more e.caller b.history e refl ends) ∙ ap (λ (k : ℕ). done_of k (b.history ++ e ∷ [])) same
counts_by b done e other c low ends (inr differs) =
    get_or-set_other done e.caller other (get_or done e.caller 0 + 1) 0 (λ same. differs (sym same)) ∙ c.each other ∙ sym (done_other other b.history e differs)

counted_more : (b : BookSeen) (done : List ℕ) (e : EventEntry) (t : StateSeen) (takes : List (Option TakenParts)) → AreCounted b done
    → e.caller < length b.scripts → ends_line e.what ≡ true
    → GoesOn b.state t
    → AreCounted (record { scripts = b.scripts; history = b.history ++ e ∷ []; state = t; takes = takes }) (set done e.caller (get_or done e.caller 0 + 1))
counted_more b done e t takes c low ends goes =
    let same = c.as_many in
    let below : e.caller < length done = omega arith in
    record {
      as_many = length-set done e.caller (get_or done e.caller 0 + 1) ∙ c.as_many;
      each = λ other. counts_by b done e other c below ends (same_or_other e.caller other);
      changes =
          (let total : sum (set done e.caller (get_or done e.caller 0 + 1)) ≡ sum done + 1 = sum_more done e.caller below in
          let before = c.changes in
          let rise : t.version ≤ b.state.version + 1 = rises b.state t goes in
          omega arith);
    }
  where
    rises : (s u : StateSeen) → GoesOn s u → u.version ≤ s.version + 1
    rises s u (inl same) = let is : u.version ≡ s.version = ap (λ x. x.version) same in omega arith
    rises s u (inr more) = omega arith

-- a Take ends no line
take_counts_by : (b : BookSeen) (done : List ℕ) (e : EventEntry) (other : ℕ) → AreCounted b done → ends_line e.what ≡ false
    → (e.caller ≡ other) ⊎ (e.caller ≢ other)
    → get_or done other 0 ≡ done_of other (b.history ++ e ∷ [])
take_counts_by b done e other c more (inl same) = c.each other ∙ sym (done_same other b.history e same more)
take_counts_by b done e other c more (inr differs) = c.each other ∙ sym (done_other other b.history e differs)

-- ---- a step

said_next : (b : BookSeen) (caller : ℕ) (read : Result Command CommandFault) (longer : List (List ScriptLine)) → SaysNext b caller read → GoOn b.scripts longer
    → said (script_of longer caller) (done_of caller b.history + 1 - 1) ≡ read
said_next b caller read longer n more = said_later b.scripts longer caller (done_of caller b.history) n.0 more n.1 ∙ n.2

step_goes : (s t : StateSeen) (read : Result Command CommandFault) (reply : Reply) → IsStepDone s read reply t → GoesOn s t
step_goes s t read reply d = subst (λ (u : StateSeen). GoesOn s u) (sym d.left) (line_goes s read reply)

pub sound_step : (b : BookSeen) (caller : ℕ) (read : Result Command CommandFault) (reply : Reply) (t : StateSeen) → IsSound b
    → take_of b.takes caller ≡ None → SaysNext b caller read
    → IsStepDone b.state read reply t
    → IsSound (with_entry b (entry_of b caller Line reply) t)
sound_step b caller read reply t s shut next d =
    let n : ℕ = done_of caller b.history in
    let e : EventEntry = entry_of b caller Line reply in
    record {
      callers = s.callers;
      as_many = s.as_many;
      few = s.few;
      kept = λ longer more. kept_step longer b.history b.state t b.takes caller n read reply (s.kept longer more) shut
          (said_next b caller read longer next more) d;
      places = places_more b e b.takes s
          (place_mine b e b.takes (n + 1) false (done_more caller b.history e refl refl) (ap is_some shut)
          (place_step (script_of b.scripts caller) (turns_of caller b.history) n (shut_place b caller s shut) (next_below b caller read next)))
          (λ other differs. refl);
      behind = λ other k is. behind_by b.state t k (step_goes b.state t read reply d) (s.behind other k is);
    }

pub counted_step : (b : BookSeen) (done : List ℕ) (caller : ℕ) (read : Result Command CommandFault) (reply : Reply) (t : StateSeen)
    → AreCounted b done → caller < length b.scripts
    → IsStepDone b.state read reply t
    → AreCounted (with_entry b (entry_of b caller Line reply) t) (set done caller (get_or done caller 0 + 1))
counted_step b done caller read reply t c low d = counted_more b done (entry_of b caller Line reply) t b.takes c low refl (step_goes b.state t read reply d)

-- ---- a Take

behind_taken : (s : StateSeen) (takes : List (Option TakenParts)) (caller other : ℕ) (taken k : TakenParts) → caller < length takes → IsTakenOf s taken
    → ((c : ℕ) (t : TakenParts) → take_of takes c ≡ Some t → IsBehind s t) → take_of (slice_set takes caller (Some taken)) other ≡ Some k
    → (caller ≡ other) ⊎ (caller ≢ other) → IsBehind s k
behind_taken s takes caller other taken k low is behind at (inl same) =
    let here : take_of (slice_set takes caller (Some taken)) caller ≡ Some taken = get_or-set_same takes caller (Some taken) None low in
    let now : Some taken ≡ Some k = sym here ∙ ap (take_of (slice_set takes caller (Some taken))) same ∙ at in
    let one : taken ≡ k = cc in
    inl (subst (λ (t : TakenParts). IsTakenOf s t) one is)
behind_taken s takes caller other taken k low is behind at (inr differs) =
    behind other k (sym (get_or-set_other takes caller other (Some taken) None (λ same. differs (sym same))) ∙ at)

pub sound_take : (b : BookSeen) (caller : ℕ) (read : Result Command CommandFault) (taken : TakenParts) → IsSound b → caller < length b.scripts
    → take_of b.takes caller ≡ None → SaysNext b caller read
    → IsPlanning b.state read → IsTakenOf b.state taken → taken.caller ≡ caller
    → IsSound (with_take (with_entry b (entry_of b caller Take Taken) b.state) caller (Some taken))
sound_take b caller read taken s low shut next asks is named =
    let n : ℕ = done_of caller b.history in
    let e : EventEntry = entry_of b caller Take Taken in
    let takes : List (Option TakenParts) = slice_set b.takes caller (Some taken) in
    let same = s.as_many in
    let within : caller < length b.takes = omega arith in
    record {
      callers = s.callers;
      as_many = length-set b.takes caller (Some taken) ∙ s.as_many;
      few = s.few;
      kept = λ longer more. kept_take longer b.history b.state b.takes caller n read taken (s.kept longer more) within
          (said_next b caller read longer next more) asks is named;
      places = places_more b e takes s
          (place_mine b e takes n true (done_same caller b.history e refl refl) (ap is_some (get_or-set_same b.takes caller (Some taken) None within))
          (place_take (script_of b.scripts caller) (turns_of caller b.history) n (shut_place b caller s shut) (next_below b caller read next)))
          (λ other differs. get_or-set_other b.takes caller other (Some taken) None (λ here. differs (sym here)));
      behind = λ other k at. behind_taken b.state b.takes caller other taken k within is s.behind at (same_or_other caller other);
    }

pub counted_take : (b : BookSeen) (done : List ℕ) (caller : ℕ) (takes : List (Option TakenParts)) → AreCounted b done
    → AreCounted (record { scripts = b.scripts; history = b.history ++ entry_of b caller Take Taken ∷ []; state = b.state; takes = takes }) done
counted_take b done caller takes c = record {
  as_many = c.as_many;
  each = λ other. take_counts_by b done (entry_of b caller Take Taken) other c refl (same_or_other caller other);
  changes = c.changes;
}

-- ---- a Publish

behind_shut : (s t : StateSeen) (takes : List (Option TakenParts)) (caller other : ℕ) (k : TakenParts) → caller < length takes → GoesOn s t
    → ((c : ℕ) (u : TakenParts) → take_of takes c ≡ Some u → IsBehind s u) → take_of (slice_set takes caller None) other ≡ Some k
    → (caller ≡ other) ⊎ (caller ≢ other) → IsBehind t k
behind_shut s t takes caller other k low goes behind at (inl same) =
    let here : take_of (slice_set takes caller None) caller ≡ None = get_or-set_same takes caller None None low in
    let clash : None ≡ Some k = sym here ∙ ap (take_of (slice_set takes caller None)) same ∙ at in
    absurd (cc)
behind_shut s t takes caller other k low goes behind at (inr differs) =
    behind_by s t k goes (behind other k (sym (get_or-set_other takes caller other None None (λ same. differs (sym same))) ∙ at))

pub sound_publish : (b : BookSeen) (caller : ℕ) (taken : TakenParts) (reply : Reply) → IsSound b → caller < length b.scripts
    → take_of b.takes caller ≡ Some taken
    → IsPublication b.state taken.snapshot.version reply → ((claim : Claim) → reply ≡ Published claim → IsDeskClaim b.state claim)
    → IsSound (with_take (with_entry b (entry_of b caller Publish reply) (after_publish b.state reply)) caller None)
sound_publish b caller taken reply s low is publication known =
    let n : ℕ = done_of caller b.history in
    let e : EventEntry = entry_of b caller Publish reply in
    let takes : List (Option TakenParts) = slice_set b.takes caller None in
    let same = s.as_many in
    let within : caller < length b.takes = omega arith in
    record {
      callers = s.callers;
      as_many = length-set b.takes caller None ∙ s.as_many;
      few = s.few;
      kept = λ longer more. kept_publish longer b.history b.state b.takes caller n taken reply (s.kept longer more) within is publication known;
      places = places_more b e takes s
          (place_mine b e takes (n + 1) false (done_more caller b.history e refl refl) (ap is_some (get_or-set_same b.takes caller None None within))
          (place_publish (script_of b.scripts caller) (turns_of caller b.history) n (open_place b caller taken s is)))
          (λ other differs. get_or-set_other b.takes caller other None None (λ here. differs (sym here)));
      behind = λ other k at. behind_shut b.state (after_publish b.state reply) b.takes caller other k within (publish_goes b.state reply) s.behind at
          (same_or_other caller other);
    }

pub counted_publish : (b : BookSeen) (done : List ℕ) (caller : ℕ) (reply : Reply) (takes : List (Option TakenParts)) → AreCounted b done
    → caller < length b.scripts
    → AreCounted (record {
      scripts = b.scripts;
      history = b.history ++ entry_of b caller Publish reply ∷ [];
      state = after_publish b.state reply;
      takes = takes;
    })
    (set done caller (get_or done caller 0 + 1))
counted_publish b done caller reply takes c low = counted_more b done (entry_of b caller Publish reply) (after_publish b.state reply) takes c low refl
    (publish_goes b.state reply)
