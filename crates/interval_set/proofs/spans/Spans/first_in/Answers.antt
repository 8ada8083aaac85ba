use Rattle.std.proofs.Common.{◌≡◌, max, length, ap, ◌∙◌, subst, arith}
use Rattle.std.proofs.lemmas.Bool.Decides.{nat_tests}
use Rattle.plan_base.specs.declared.number.Sec.{Sec}
use Rattle.interval_set.specs.Spans.{IsSortedApart}
use Rattle.interval_set.proofs.Seconds.{IsAt, lt_if_true, ge_if_not_lt}
use Rattle.interval_set.proofs.Searches.{none_before, first_exactly, first_none}
use Rattle.interval_set.proofs.spans.Spans.first_in.Goals as goal

pub returns-then-ended-len : goal.returns-then-ended-len
returns-then-ended-len c = λ x inside.
    none_before _ _ _ x (subst IsSortedApart c.self.view_is c.self.invariant) c.count_ended-ended.ensures inside
    (λ d lt. absurd (omega (arith, lt, c.if-ended-len.true, c.len.ensures, c.self.inside.items.ok.0, ap length c.self.view_is)))

pub returns-then-lt : goal.returns-then-lt
returns-then-lt c =
    let at : IsAt c.args.self.now c.count_ended-ended.result c.index.result.now =
    rw (← c.self.view_is) (record {
      in_range = omega (arith, c.if-ended-len.false, c.len.ensures, c.self.inside.items.ok.0);
      is = c.index.ensures;
    }) in
    let first : c.max-first.result.0 ≡ max c.index.result.now.from.0 c.args.span.from.0 = ap (λ (s : Sec). s.0) c.max-first.ensures
    ∙ grind (arith, nat_tests) in
    first_exactly _ _ _ _ _ (subst IsSortedApart c.self.view_is c.self.invariant) c.count_ended-ended.ensures at first
    (lt_if_true _ _ _ c.lt.ensures c.if-lt.true)

pub returns-else-lt : goal.returns-else-lt
returns-else-lt c =
    let at : IsAt c.args.self.now c.count_ended-ended.result c.index.result.now =
    rw (← c.self.view_is) (record {
      in_range = omega (arith, c.if-ended-len.false, c.len.ensures, c.self.inside.items.ok.0);
      is = c.index.ensures;
    }) in
    let first : c.max-first.result.0 ≡ max c.index.result.now.from.0 c.args.span.from.0 = ap (λ (s : Sec). s.0) c.max-first.ensures
    ∙ grind (arith, nat_tests) in
    first_none _ _ _ _ _ (subst IsSortedApart c.self.view_is c.self.invariant) c.count_ended-ended.ensures at first
    (ge_if_not_lt _ _ _ c.lt.ensures c.if-lt.false)
