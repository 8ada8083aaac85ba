use Rattle.std.proofs.Common.{◌∙◌, ap}
use Rattle.plan_base.specs.declared.parts.Parts.{Parts}
use Rattle.lanes.specs.Rounds.{LaneSeen}
use Rattle.lanes.proofs.Lanes.{seen_now}
use Rattle.lanes.proofs.lane.Lane.new.Goals as goal

pub returns : goal.returns
returns c =
    seen_now c.in_ok-steps.steps c.begin.new.self 0 0 c.in_ok-steps.ensures.lanes c.begin.ensures.same_snapshot c.begin.ensures.begun
    ∙ ap (λ (s : Parts). let it : LaneSeen = record { snapshot = s; lane = 0; made = 0 } in it) c.in_ok-steps.ensures.snapshot
