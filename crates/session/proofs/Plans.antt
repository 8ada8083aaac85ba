-- What is taken for a plan of the desk, and what its Publish replies.
use Rattle.std.proofs.Common.{◌≡◌, ℕ, IfSome, sym, ap, subst}
use Rattle.std.specs.declared.option.Option.{Option}
use Rattle.plan_base.specs.declared.claim.Claim.{Claim}
use Rattle.plan_base.specs.declared.parts.Parts.{Parts}
use Rattle.plan_base.specs.declared.taken.Taken.{Taken as TakenParts}
use Rattle.desk_events.specs.declared.reply.Reply.{Reply}
use Rattle.desk_events.specs.declared.reply.Reply.TheVariants.{Published}
use Rattle.desk_core.specs.Desk.{DeskSeen, StateSeen}
use Rattle.desk_core.specs.History.{IsPublication}
use Rattle.desk_core.specs.Kept.{IsOpenedWith, IsDesk, IsState}
use Rattle.desk_book.specs.Claims.{IsDeskClaim}
use Rattle.desk_book.specs.Doing.{IsTakenOf}
use Rattle.lanes.specs.Solving.{IsInRange}
use Rattle.session.specs.Line.{IsPlanReply}

-- the settings that a plan is sought with are in their ranges
pub settings_in_range : (s : StateSeen) (taken : TakenParts) → IsState s → IsTakenOf s taken → IsInRange taken.settings
settings_in_range s taken state of =
    let desk : IsDesk of.0 = subst (λ (o : Option DeskSeen). IfSome o IsDesk) of.1 state.desk in
    let ranges : IsOpenedWith of.0.opening = desk.opening in
    subst IsInRange (sym of.3) (record {
      some_lanes = ranges.lanes.low;
      few_lanes = ranges.lanes.high;
      some_rounds = ranges.rounds.low;
      few_rounds = ranges.rounds.high;
      some_workers = ranges.workers.low;
      few_workers = ranges.workers.high;
    })

-- nothing was accepted since what was taken, so it isn't stale
pub plan_replied : (s : StateSeen) (taken : TakenParts) (reply : Reply) → IsTakenOf s taken → IsPublication s taken.snapshot.version reply
    → ((claim : Claim) → reply ≡ Published claim → IsDeskClaim s claim) → IsPlanReply s reply
plan_replied s taken reply of publication claims = record {
  publication = subst (λ (v : ℕ). IsPublication s v reply) (ap (λ (p : Parts). p.version) of.2) publication;
  claims = claims;
}
