use Rattle.std.proofs.Common.{◌∙◌, ap}
use Rattle.lanes.specs.Rounds.{LaneSeen}
use Rattle.lanes.proofs.Lanes.{seen_now}
use Rattle.lanes.proofs.lane.Lane.begin.Goals as goal

pub returns : goal.returns
returns c =
    seen_now c.self.inside.steps c.begin.new.self c.args.lane 0 c.self.invariant c.begin.ensures.same_snapshot c.begin.ensures.begun
    ∙ ap (λ (x : LaneSeen). let it : LaneSeen = record { snapshot = x.snapshot; lane = c.args.lane; made = 0 } in it) c.self.view_is
