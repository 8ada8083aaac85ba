use Rattle.std.proofs.Common.{◌+◌, drop}
use Rattle.groups.proofs.Shares.{adds_up_rest}
use Rattle.groups.proofs.Told.{in_tables, tables_less, taken_up}
use Rattle.groups.proofs.plan.release_all.Goals as goal

pub release-requires-clause-within : goal.release-requires-clause-within
release-requires-clause-within c =
    in_tables c.args.snapshot.now (drop c.loop-placement.placement-index c.args.placements.now) _ c.footprint_of-footprint.result
    c.loop-placement.tables c.recall_valid.ensures.orderly (c.requires.possible c.loop-placement.placement-index _ c.loop-placement-test.true)
    c.loop-placement.invariant c.footprint_of-footprint.ensures

pub release-requires-clause-taken_up : goal.release-requires-clause-taken_up
release-requires-clause-taken_up c =
    taken_up c.args.snapshot.now (drop (c.loop-placement.placement-index + 1) c.args.placements.now)
    (drop c.loop-placement.placement-index c.args.placements.now) _ c.footprint_of-footprint.result c.loop-placement.tables
    c.loop-placement.invariant c.footprint_of-footprint.ensures
    (adds_up_rest c.args.placements.now c.loop-placement.placement-index _ c.loop-placement-test.true)

pub loop-placement-preserved : goal.loop-placement-preserved
loop-placement-preserved c =
    tables_less c.args.snapshot.now (drop (c.loop-placement.placement-index + 1) c.args.placements.now)
    (drop c.loop-placement.placement-index c.args.placements.now) _ c.footprint_of-footprint.result c.release.new.self c.loop-placement.tables
    c.loop-placement.invariant c.footprint_of-footprint.ensures c.release.ensures
    (adds_up_rest c.args.placements.now c.loop-placement.placement-index _ c.loop-placement-test.true)
