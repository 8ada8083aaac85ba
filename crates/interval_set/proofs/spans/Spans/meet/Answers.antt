use Rattle.interval_set.proofs.Seconds.{nothing, at_place, le_if_true, ge_if_not_le}
use Rattle.interval_set.proofs.Merges.{meet_mine, meet_theirs, meet_can_add}
use Rattle.interval_set.proofs.spans.Spans.meet.Goals as goal

pub add-requires : goal.add-requires
add-requires c =
    meet_can_add _ _ _ _ _ _ _ _ (at_place _ _ nothing c.loop-i-test.true) (at_place _ _ nothing c.if-j-theirs.true) c.common.ensures c.loop-i.invariant

pub loop-i-preserved-then-le : goal.loop-i-preserved-then-le
loop-i-preserved-then-le c =
    meet_mine _ _ _ _ _ _ _ _ _ c.list-mine.ensures.sorted c.list-theirs.ensures.sorted
    (at_place _ _ nothing c.loop-i-test.true) (at_place _ _ nothing c.if-j-theirs.true)
    (le_if_true _ _ _ c.le.ensures c.if-le.true) c.common.ensures c.loop-i.invariant c.in_ok-add.ensures

pub loop-i-preserved : goal.loop-i-preserved
loop-i-preserved c =
    meet_theirs _ _ _ _ _ _ _ _ _ c.list-mine.ensures.sorted c.list-theirs.ensures.sorted
    (at_place _ _ nothing c.loop-i-test.true) (at_place _ _ nothing c.if-j-theirs.true)
    (ge_if_not_le _ _ _ c.le.ensures c.if-le.false) c.common.ensures c.loop-i.invariant c.in_ok-add.ensures
