use Rattle.std.proofs.lemmas.List.{take_rest}
use Rattle.std.proofs.lemmas.List.Sorted.{IsNonDecreasingBy-drop}
use Rattle.interval_set.specs.Steps.{BeginBy}
use Rattle.interval_set.proofs.Seconds.{nothing, at_place, next_is, rise, le_if_true, ge_if_not_le}
use Rattle.interval_set.proofs.Merges.{union_mine, union_theirs}
use Rattle.interval_set.proofs.spans.Spans.union.Goals as goal

pub add-requires : goal.add-requires
add-requires c =
    next_is (λ s. BeginBy c.loop-i.union s.from.0) c.list-mine.result.now c.loop-i.i _ (at_place _ _ nothing c.loop-i-test.true) c.loop-i.invariant.begin_mine

pub loop-i-preserved-then-le : goal.loop-i-preserved-then-le
loop-i-preserved-then-le c =
    union_mine _ _ _ _ _ _ _ _ (rise _ c.list-mine.ensures.sorted) (rise _ c.list-theirs.ensures.sorted)
    (at_place _ _ nothing c.loop-i-test.true) (at_place _ _ nothing c.if-j-theirs.true)
    (le_if_true _ _ _ c.le.ensures c.if-le.true) c.loop-i.invariant c.in_ok-add.ensures

pub add-requires-else-le : goal.add-requires-else-le
add-requires-else-le c =
    next_is (λ s. BeginBy c.loop-i.union s.from.0) c.list-theirs.result.now c.loop-i.j _
    (at_place _ _ nothing c.if-j-theirs.true) c.loop-i.invariant.begin_theirs

pub loop-i-preserved : goal.loop-i-preserved
loop-i-preserved c =
    union_theirs _ _ _ _ _ _ _ _ (rise _ c.list-mine.ensures.sorted) (rise _ c.list-theirs.ensures.sorted)
    (at_place _ _ nothing c.loop-i-test.true) (at_place _ _ nothing c.if-j-theirs.true)
    (ge_if_not_le _ _ _ c.le.ensures c.if-le.false) c.loop-i.invariant c.in_ok-add-2.ensures

pub with_later-requires-clause-order : goal.with_later-requires-clause-order
with_later-requires-clause-order c = rw take_rest (IsNonDecreasingBy-drop (λ s. s.from.0) c.loop-i.i _ (rise _ c.list-mine.ensures.sorted))

pub with_later-requires-else-i-mine-clause-order : goal.with_later-requires-else-i-mine-clause-order
with_later-requires-else-i-mine-clause-order c = rw take_rest (IsNonDecreasingBy-drop (λ s. s.from.0) c.loop-i.j _ (rise _ c.list-theirs.ensures.sorted))
