use Rattle.interval_set.specs.Steps.{BeginBy}
use Rattle.interval_set.proofs.Seconds.{nothing, at_place, next_is}
use Rattle.interval_set.proofs.Merges.{added_next}
use Rattle.interval_set.proofs.spans.Spans.with_later.Goals as goal

pub add-requires : goal.add-requires
add-requires c =
    next_is (λ s. BeginBy c.loop-span.self s.from.0) c.args.spans.now c.loop-span.span-index _
    (at_place _ _ nothing c.loop-span-test.true) c.loop-span.invariant.begin

pub loop-span-preserved : goal.loop-span-preserved
loop-span-preserved c =
    added_next _ _ _ _ _ _ c.requires.order (at_place _ _ nothing c.loop-span-test.true) c.loop-span.invariant c.in_ok-add.ensures
