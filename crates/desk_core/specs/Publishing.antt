-- `publish`: a claim that was made elsewhere is published, if it is certified.
use Rattle.std.specs.Prelude.{◌≡◌, ◌≢◌, ℕ, ◌==◌, map, Option, Some, None, Result, Err, if◌then◌else◌, find}
use Rattle.std.specs.Option.{option_map_or}
use Rattle.plan_base.specs.declared.claim.Claim.{Claim}
use Rattle.plan_base.specs.declared.claim.Placement.{Placement}
use Rattle.plan_base.specs.declared.verdict.Verdict.{Verdict}
use Rattle.plan_base.specs.declared.verdict.Verdict.TheVariants.{Yes, No}
use Rattle.plan_base.specs.Verdict.{IsVerdict}
use Rattle.desk_runs.specs.declared.observation.Observation.{Observation}
use Rattle.desk_runs.specs.Numbers.{is_request, requests_of}
use Rattle.desk_events.specs.declared.fault.CommandFault.{CommandFault}
use Rattle.desk_events.specs.declared.fault.CommandFault.TheVariants.{NoMemory}
use Rattle.desk_events.specs.declared.refusal.Refusal.{Refusal}
use Rattle.desk_events.specs.declared.refusal.Refusal.TheVariants.{Stale, Rejected}
use Rattle.desk_events.specs.declared.reply.Reply.{Reply}
use Rattle.desk_events.specs.declared.reply.Reply.TheVariants as reply
use Rattle.desk_core.specs.Desk.{DeskSeen, Decision, Decides}
use Rattle.desk_core.specs.DeskSnapshot.{snapshot_of}

-- a placement with the seconds of its request
abbrev pub observed : DeskSeen → Placement → Observation
observed d p = record {
  request = p.request;
  telescope = p.telescope;
  slice = p.slice;
  seconds = option_map_or (λ q. q.seconds) (find (is_request p.request) (requests_of d.progress.groups)) 0;
}

-- the desk once a claim is published for its snapshot: its placements replace the kept ones
abbrev pub with_publication : ℕ → Claim → DeskSeen → DeskSeen
with_publication version claim d = record d {
  progress = record d.progress { kept = map (observed d) claim.placements };
  published = Some record { snapshot = snapshot_of version d; claim = claim };
}

-- why a claim with this verdict isn't published, if it isn't
abbrev pub rejection : Verdict → Option Refusal
rejection (Yes value bound) = None
rejection (No reason) = Some (Rejected reason)

-- `publish` for the version that is asked: stale where it isn't the current one, else rejected by the verdict on the claim; else
-- the claim is published
abbrev pub on_publish : Verdict → ℕ → DeskSeen → ℕ → Claim → Decision
on_publish verdict version d asked claim = record {
  refusal = if asked == version then rejection verdict else Some (Stale asked version);
  reply = reply.Published claim;
  desk = with_publication version claim d;
}

-- the verdict is that on the claim for the desk's snapshot, where the version that is asked is the current one
abbrev pub IsJudged : ℕ → DeskSeen → ℕ → Claim → Verdict → Type 0
IsJudged version d asked claim verdict = asked ≡ version → IsVerdict (snapshot_of version d) claim verdict

-- a call decides so by the verdict on the claim, which is made unless no memory was found
pub record DecidesByVerdict (version : ℕ) (before : DeskSeen) (asked : ℕ) (claim : Claim) (after : DeskSeen) (result : Result Reply CommandFault) : Type 0 where
  pub verdict : Verdict
  pub judged : result ≢ Err NoMemory → IsJudged version before asked claim verdict
  pub decides : Decides (on_publish verdict version before asked claim) before after result
