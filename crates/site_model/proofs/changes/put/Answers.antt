use Rattle.std.proofs.Common.{arith}
use Rattle.site_model.proofs.Closings.{none_put, next_within, next_put, all_put}
use Rattle.site_model.proofs.changes.put.Goals as goal

pub loop-change-init : goal.loop-change-init
loop-change-init c = (tt, tt, none_put _ _ _ c.into_iter-change-iterator.ensures.into_iter_gives.0 c.requires)

pub index_mut-requires : goal.index_mut-requires
index_mut-requires c = omega (arith, next_within _ _ _ _ _ _ c.in-Some.ensures.steps.0 c.loop-change.invariant.2, c.loop-change.closures.ok.0)

pub loop-change-preserved : goal.loop-change-preserved
loop-change-preserved c = (tt, tt, next_put _ _ _ _ _ _ c.in-Some.ensures.steps.0 c.loop-change.invariant.2)

pub returns : goal.returns
returns c = all_put _ _ _ _ (omega (arith, c.in-None.ensures.steps.0, c.loop-change.change-iterator.rest.ok.0)) c.loop-change.invariant.2
