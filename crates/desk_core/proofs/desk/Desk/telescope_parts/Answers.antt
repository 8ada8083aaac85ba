use Rattle.std.proofs.Common.{◌∙◌, arith}
use Rattle.desk_core.specs.Desk.{seen}
use Rattle.desk_core.specs.DeskSnapshot.{telescope_part}
use Rattle.desk_core.proofs.SnapshotSights.{places_more, places_all}
use Rattle.desk_core.proofs.desk.Desk.telescope_parts.Goals as goal

pub loop-telescope-preserved : goal.loop-telescope-preserved
loop-telescope-preserved c = record {
  made = c.in_ok-push.ensures.ok ∙ places_more (telescope_part (seen c.args.self.now)) c.args.self.now.network.registry.telescopes
      c.loop-telescope.telescope c.loop-telescope.parts
      c.in_ok-telescope_part.field-0 (omega (arith, c.loop-telescope-test.true, c.telescopes-telescope-end.ensures.count))
      c.loop-telescope.invariant.made c.in_ok-telescope_part.ensures.part;
  limits = λ _. c.in_ok-telescope_part.ensures.limits;
}

pub returns-clause-parts : goal.returns-clause-parts
returns-clause-parts c =
    places_all (telescope_part (seen c.args.self.now)) c.args.self.now.network.registry.telescopes c.loop-telescope.telescope c.loop-telescope.parts
    (omega (arith, c.loop-telescope-test.false, c.loop-telescope.auto.telescope-end, c.telescopes-telescope-end.ensures.count)) c.loop-telescope.invariant.made
