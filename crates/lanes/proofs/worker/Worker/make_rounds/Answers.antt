use Rattle.lanes.proofs.worker.Worker.make_rounds.Goals as goal

pub returns-then-make_round-clause-made : goal.returns-then-make_round-clause-made
returns-then-make_round-clause-made g c = c.make_round.ensures.stopped c.if-make_round.true c.args.self.now.settings.rounds
