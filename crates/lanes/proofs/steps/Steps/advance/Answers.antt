use Rattle.std.proofs.Common.{◌<◌, sym, subst}
use Rattle.std.specs.Prelude.{HoldsAt}
use Rattle.lanes.specs.declared.lane_prices.LanePrices.{LanePrices}
use Rattle.lanes.specs.Rounds.{Stepping, IsSolvedAt}
use Rattle.lanes.proofs.Lanes.{solved_now, others_solved}
use Rattle.lanes.proofs.steps.Steps.advance.Goals as goal

pub advance-requires-clause-made : goal.advance-requires-clause-made
advance-requires-clause-made g c =
    subst (λ (y : LanePrices). y.made < 256) (sym c.index_mut.ensures.value)
    (subst (λ (x : Stepping). HoldsAt (λ lane. lane.made < 256) x.lanes c.args.place) (sym c.self.view_is) c.requires.made c.index_mut.result.now)

pub advance-requires-clause-starts : goal.advance-requires-clause-starts
advance-requires-clause-starts g c =
    (solved_now c.args.self.now _ c.args.place c.index_mut.result.now c.index.result.now c.self.view_is c.index_mut.ensures.value c.index.ensures
    c.requires.solved).canonical

pub returns-clause-solved : goal.returns-clause-solved
returns-clause-solved g c = λ k other h a u.
    others_solved c.self.inside.snapshot.now c.self.inside.lanes.items c.self.inside.uses.items c.self.inside.bests.items c.args.place k
    c.advance.new.self a u other
    (subst (λ (x : Stepping). IsSolvedAt x k) (sym c.self.view_is) h a u)
