use Rattle.std.proofs.Common.{◌≡◌, ◌<◌}
use Rattle.plan_base.specs.declared.claim.Placement.{Placement}
use Rattle.rapid.specs.Displaced.{Qualifies}
use Rattle.rapid.specs.Held.{plan_of}
use Rattle.rapid.proofs.seeking.earliest_by.Given as goal

abbrev pub invariant-loop-slice : goal.invariant-loop-slice
invariant-loop-slice l = (q : Placement) → q.request.0 ≡ l.request.0 → q.slice.0 < l.slice → ¬ (Qualifies l.snapshot (plan_of l.held) q)
