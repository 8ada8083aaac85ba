-- What is known of the claims that a desk publishes.
use Rattle.std.specs.Prelude.{◌≡◌, ◌≤◌, pos, List, Some}
use Rattle.plan_base.specs.declared.parts.Parts.{Parts}
use Rattle.plan_base.specs.declared.claim.Claim.{Claim}
use Rattle.plan_base.specs.declared.claim.Placement.{Placement}
use Rattle.plan_base.specs.Starts.{value_of_plan}
use Rattle.plan_base.specs.Feasible.{IsFeasible}
use Rattle.plan_base.specs.Bound.{IsBound}
use Rattle.plan_base.specs.Verdict.{IsCertified}
use Rattle.plan_base.specs.Planned.{IsPlanned}
use Rattle.plan_base.specs.Solved.{HasFewStarts}
use Rattle.plan_io.specs.declared.lines.ScriptLine.{ScriptLine}
use Rattle.desk_events.specs.declared.entry.EventEntry.{EventEntry}
use Rattle.desk_events.specs.declared.entry.What.{What}
use Rattle.desk_events.specs.declared.entry.What.TheVariants.{Publish}
use Rattle.desk_events.specs.declared.reply.Reply.{Reply}
use Rattle.desk_events.specs.declared.reply.Reply.TheVariants.{Published, Exported}
use Rattle.desk_core.specs.Desk.{DeskSeen, StateSeen}
use Rattle.desk_core.specs.Publication.{IsCheckable}
use Rattle.desk_core.specs.Step.{IsSnapshotOf}
use Rattle.desk_core.specs.History.{replay, Publishes}

-- the claim is certified for the snapshot, its prices give its bound, and no feasible plan is worth more
pub record IsBoundedClaim (s : Parts) (claim : Claim) : Type 0 where
  pub certified : IsCertified s claim
  pub given : IsBound s claim.prices.0 claim.quota_prices.0 (pos claim.bound)
  pub greatest : (plan : List Placement) → IsFeasible s plan → value_of_plan s plan ≤ claim.bound

-- the claim is planned for the snapshot with the settings of the state's desk
abbrev pub IsPlannedOver : StateSeen → Parts → Claim → Type 0
IsPlannedOver s parts claim = (d : DeskSeen) × (s.desk ≡ Some d) × IsPlanned parts d.opening.settings claim

-- the claim that this much of a line publishes over the state is bounded; that of a plan is planned
pub record IsPublishedClaim (what : What) (s : StateSeen) (parts : Parts) (claim : Claim) : Type 0 where
  pub bounded : IsBoundedClaim parts claim
  pub planned : what ≡ Publish → IsPlannedOver s parts claim

-- a claim that the reply publishes over the state is bounded, for the snapshot of the state, and the document of one that it
-- exports is checked with Yes
pub record IsBoundedReply (s : StateSeen) (reply : Reply) : Type 0 where
  pub published : (claim : Claim) → reply ≡ Published claim → (parts : Parts) × IsSnapshotOf s parts × IsBoundedClaim parts claim
  pub exported : (claim : Claim) (parts : Parts) → reply ≡ Exported claim parts → IsCheckable parts claim

-- the claim that a plan publishes over this state
pub record IsDeskClaim (s : StateSeen) (claim : Claim) : Type 0 where
  pub parts : Parts
  pub snapshot : IsSnapshotOf s parts
  pub few : HasFewStarts parts
  pub bounded : IsBoundedClaim parts claim
  pub planned : IsPlannedOver s parts claim

-- The claim that an entry publishes after these entries, if it does, is bounded for the snapshot of the entry's version, and
-- planned where a `plan` line asked for it. The document of one that it exports is checked with Yes.
pub record IsClaimEntry (scripts : List (List ScriptLine)) (before : List EventEntry) (e : EventEntry) : Type 0 where
  pub published : (claim : Claim) → e.reply ≡ Published claim
      → (parts : Parts) × Publishes scripts before e parts claim × IsPublishedClaim e.what (replay scripts before) parts claim
  pub exported : (claim : Claim) (parts : Parts) → e.reply ≡ Exported claim parts → IsCheckable parts claim
