use Rattle.std.proofs.Common.{◌≡◌, ℕ, ◌-◌, ◌<◌, ◌≤◌, true, length, ap, subst, arith}
use Rattle.std.specs.Prelude.{nat_lt}
use Rattle.std.proofs.lemmas.Bool.Decides.{nat_tests}
use Rattle.interval_set.specs.Spans.{IsSortedApart}
use Rattle.interval_set.proofs.Seconds.{IsAt, gt_if_not_le}
use Rattle.interval_set.proofs.Searches.{covers_exactly, covers_none}
use Rattle.interval_set.proofs.spans.Spans.covers.Goals as goal

-- a count that is 0 isn't above 0
some_is_not_none : (n : ℕ) → n ≤ 0 → nat_lt 0 n ≡ true → ⊥
some_is_not_none n none some = grind (arith, nat_tests)

pub returns-then-begun-gt0 : goal.returns-then-begun-gt0
returns-then-begun-gt0 c =
    let begun = c.count_begun-begun.ensures in
    let some : 0 < c.count_begun-begun.result = c.if-begun-gt0.true in
    let at : IsAt c.args.self.now (c.count_begun-begun.result - 1) c.index.result.now =
    rw (← c.self.view_is) (record { in_range = omega (arith, begun.within, some, ap length c.self.view_is); is = c.index.ensures }) in
    covers_exactly _ _ _ _ _ (subst IsSortedApart c.self.view_is c.self.invariant) begun
    (gt_if_not_le _ _ _ c.le.ensures c.if-le.false) some at c.le-then-begun-gt0.ensures

pub returns-else-begun-gt0 : goal.returns-else-begun-gt0
returns-else-begun-gt0 c =
    let refused = covers_none _ _ _ c.count_begun-begun.ensures (gt_if_not_le _ _ _ c.le.ensures c.if-le.false) c.if-begun-gt0.false in
    (λ is_true. absurd (some_is_not_none _ c.if-begun-gt0.false is_true), λ all. absurd (refused all))
