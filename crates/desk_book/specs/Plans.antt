-- When a plan is refused as stale, when for its many starts, and when it is published.
use Rattle.std.specs.Prelude.{◌≡◌, ◌↔◌, ℕ, ◌<◌, true, List, [], ◌∷◌, ◌++◌, Any}
use Rattle.plan_base.specs.declared.claim.Claim.{Claim}
use Rattle.plan_base.specs.declared.parts.Parts.{Parts}
use Rattle.plan_base.specs.Limits.{most_starts}
use Rattle.plan_base.specs.Solved.{HasFewStarts}
use Rattle.plan_base.specs.Starts.{IsStartCount}
use Rattle.plan_base.specs.Verdict.{IsCertified}
use Rattle.plan_io.specs.declared.lines.ScriptLine.{ScriptLine}
use Rattle.desk_events.specs.declared.entry.EventEntry.{EventEntry}
use Rattle.desk_events.specs.declared.entry.What.TheVariants.{Take, Publish}
use Rattle.desk_events.specs.declared.refusal.Refusal.TheVariants.{Stale, TooManyStarts}
use Rattle.desk_events.specs.declared.reply.Reply.{Reply}
use Rattle.desk_events.specs.declared.reply.Reply.TheVariants.{Published, Refused}
use Rattle.desk_core.specs.Desk.{StateSeen}
use Rattle.desk_core.specs.Step.{IsSnapshotOf}
use Rattle.desk_core.specs.History.{entries_of, replay, IsLegal}
use Rattle.desk_book.specs.Laws.{is_change}

-- one of the entries is a change that was accepted
abbrev pub HasChange : List EventEntry → Type 0
HasChange entries = Any (λ x. is_change x.reply ≡ true) entries

-- the snapshot of the state has so many possible starts, more than a plan is sought for
abbrev pub HasManyStarts : StateSeen → ℕ → Type 0
HasManyStarts s count = (parts : Parts) × IsSnapshotOf s parts × IsStartCount parts count × (most_starts < count)

-- the reply publishes a claim that is certified for the snapshot of the state, which hasn't too many possible starts
abbrev pub PublishesCertified : StateSeen → Reply → Type 0
PublishesCertified s reply =
    (claim : Claim) × (reply ≡ Published claim) × ((parts : Parts) × IsSnapshotOf s parts × HasFewStarts parts × IsCertified parts claim)

-- what is replied over the state s to a plan that was taken at one version and comes to be published at another, with these
-- entries meanwhile: Stale, with both versions, exactly where one of them is a change that was accepted; else TooManyStarts, with
-- the count of possible starts, exactly where these are too many; else, and only then, a certified claim is published
pub record IsPublishReply (s : StateSeen) (taken now : ℕ) (meanwhile : List EventEntry) (reply : Reply) : Type 0 where
  pub stale : (asked newer : ℕ) → (reply ≡ Refused (Stale asked newer)) ↔ (HasChange meanwhile × (asked ≡ taken) × (newer ≡ now))
  pub many : (count : ℕ) → (reply ≡ Refused (TooManyStarts count)) ↔ (¬ HasChange meanwhile × HasManyStarts s count)
  pub published : PublishesCertified s reply ↔ (¬ HasChange meanwhile × ((count : ℕ) → ¬ HasManyStarts s count))

-- the entries are of one line of one caller
abbrev pub AreOfOneLine : EventEntry → EventEntry → Type 0
AreOfOneLine t e = (t.caller ≡ e.caller) × (t.line ≡ e.line)

-- there is such an entry before this one
abbrev pub HasEarlier : List EventEntry → EventEntry → Type 0
HasEarlier front e = (before meanwhile : List EventEntry) × (t : EventEntry) × (front ≡ before ++ t ∷ meanwhile) × AreOfOneLine t e

-- a Publish has an earlier entry of its line: that is a Take, its caller has none between the two, and the reply is by what was
-- accepted between them
abbrev pub PlansAreStaleByChanges : Type 0
PlansAreStaleByChanges =
    (scripts : List (List ScriptLine)) (history front after : List EventEntry) (e : EventEntry)
    → IsLegal scripts history → history ≡ front ++ e ∷ after → e.what ≡ Publish
    → HasEarlier front e
    × ((before meanwhile : List EventEntry) (t : EventEntry) → front ≡ before ++ t ∷ meanwhile → AreOfOneLine t e
    → (t.what ≡ Take) × (entries_of e.caller meanwhile ≡ []) × IsPublishReply (replay scripts front) t.version e.version meanwhile e.reply)
