use Rattle.std.proofs.Common.{◌∙◌, arith}
use Rattle.rapid.proofs.Writing.{lines_none, next_in_ranges, lines_more, stopped, lines_all}
use Rattle.rapid.proofs.run.insert_each.Goals as goal

pub loop-group-init : goal.loop-group-init
loop-group-init c = (tt, tt, lines_none _ _ _ _ (c.into_iter-group-iterator.ensures.into_iter_gives.0 ∙ c.into_vec-group-items.ensures) c.requires)

pub insert_one-requires : goal.insert_one-requires
insert_one-requires c = next_in_ranges _ _ _ _ _ _ c.in-Some.ensures.steps.0 _ _ c.loop-group.invariant.2

pub loop-group-preserved : goal.loop-group-preserved
loop-group-preserved c = (tt, tt, lines_more _ _ _ _ _ _ c.in-Some.ensures.steps.0 _ _ c.loop-group.invariant.2 _ _ c.in_default.ensures.ok)

pub returns-in-Err : goal.returns-in-Err
returns-in-Err c = record {
  ok = tt;
  fault = λ told. stopped _ _ _ _ _ _ c.in-Some.ensures.steps.0 _ _ c.loop-group.invariant.2 _ _ (c.in-Err.ensures.refused told) (c.in-Err.ensures.kept told);
}

pub returns : goal.returns
returns c = record {
  ok = lines_all _ _ _ _ _ _ (omega (arith, c.in-None.ensures.steps.0, c.loop-group.group-iterator.rest.ok.0)) c.loop-group.invariant.2;
  fault = tt;
}
