use Rattle.std.proofs.Common.{◌+◌, ◌<◌, get_or, subst, sym, ap, arith}
use Rattle.plan_base.specs.declared.number.Sec.{Sec}
use Rattle.interval_set.proofs.Seconds.{nothing, at_place, le_if_true, gt_if_not_le}
use Rattle.interval_set.proofs.Merges.{IsDifferenceSoFar, gap_can_add, gap_mine, gap_theirs, gap_ends, holes_later}
use Rattle.interval_set.proofs.spans.Spans.minus.Goals as goal

pub add-requires : goal.add-requires
add-requires c =
    let IsSoFar : Sec → Type 0 = λ s. IsDifferenceSoFar c.list-mine.result.now c.list-theirs.result.now c.loop-i.i c.loop-i.j s.0 c.loop-i.difference in
    gap_can_add _ _ _ _ _ _ _ _ (at_place _ _ nothing c.loop-i-test.true) c.common.ensures
    (subst IsSoFar (sym c.gap_before-gap.ensures.from) c.loop-i.invariant)

pub loop-i-preserved-then-le : goal.loop-i-preserved-then-le
loop-i-preserved-then-le c =
    let IsSoFar : Sec → Type 0 = λ s. IsDifferenceSoFar c.list-mine.result.now c.list-theirs.result.now c.loop-i.i c.loop-i.j s.0 c.loop-i.difference in
    let IsNext : Sec → Type 0 = λ s. IsDifferenceSoFar c.list-mine.result.now c.list-theirs.result.now (c.loop-i.i + 1) c.loop-i.j s.0 c.add.new.self in
    subst IsNext c.gap_before-gap.ensures.from (gap_mine _ _ _ _ _ _ _ _ _ c.list-mine.ensures.sorted (at_place _ _ nothing c.loop-i-test.true)
    (holes_later _ _ c.gap_before-gap.result c.list-theirs.ensures.sorted c.gap_before-gap.ensures.before) (le_if_true _ _ _ c.le.ensures c.if-le.true)
    c.common.ensures (subst IsSoFar (sym c.gap_before-gap.ensures.from) c.loop-i.invariant) c.in_ok-add.ensures)

pub loop-i-preserved : goal.loop-i-preserved
loop-i-preserved c =
    let IsSoFar : Sec → Type 0 = λ s. IsDifferenceSoFar c.list-mine.result.now c.list-theirs.result.now c.loop-i.i c.loop-i.j s.0 c.loop-i.difference in
    let short : c.gap_before-gap.result.to.0 < (get_or c.list-mine.result.now c.loop-i.i nothing).to.0 = gt_if_not_le _ _ _ c.le.ensures c.if-le.false in
    let place = gap_ends _ _ (get_or c.list-mine.result.now c.loop-i.i nothing) c.gap_before-gap.result c.gap_before-gap.ensures.last short in
    let ends = ap (λ (s : Sec). s.0) (c.gap_before-gap.ensures.before place nothing) in
    gap_theirs _ _ _ _ _ _ _ _ _ _ c.list-mine.ensures.sorted c.list-theirs.ensures.sorted (at_place _ _ nothing c.loop-i-test.true)
    (at_place _ _ nothing place)
    ends (omega (arith, short, ends)) c.common.ensures (subst IsSoFar (sym c.gap_before-gap.ensures.from) c.loop-i.invariant) c.in_ok-add.ensures
