use Rattle.std.proofs.Common.{◌+◌, ◌<◌, List, length, take, arith}
use Rattle.std.proofs.lemmas.Grind.{common_steps}
use Rattle.lanes.specs.declared.worker.LaneFound.{LaneFound}
use Rattle.lanes.proofs.Among.{min_among, max_among}
use Rattle.lanes.proofs.worker.Worker.has_met.Goals as goal

pub loop-lane-preserved : goal.loop-lane-preserved
loop-lane-preserved g c =
    let items : List LaneFound = take (c.args.place + 1) c.as_slice.result.now in
    let lt : c.loop-lane.lane-index < length items = c.loop-lane-test.true in (
      min_among (λ (y : LaneFound). y.found.bound) items c.args.self.now.found.bound c.loop-lane.lane-index c.lane-item.result lt c.loop-lane.bound
          c.bound.result c.min-bound.result
          c.lane-item.is c.bound.ensures c.min-bound.ensures c.loop-lane.invariant.0,
      max_among (λ (y : LaneFound). y.found.value) items c.args.self.now.found.value c.loop-lane.lane-index c.lane-item.result lt c.loop-lane.value
          c.value.result c.max-value.result
          c.lane-item.is c.value.ensures c.max-value.ensures c.loop-lane.invariant.1,
    )

pub returns : goal.returns
returns g c = grind (arith, common_steps)
