use Rattle.std.proofs.Common.{◌≡◌, ◌-◌, ◌<◌, ◌≤◌, ◌∷◌, [], ◌++◌, max, length, refl, sym, ap, ◌∙◌, arith}
use Rattle.std.specs.Prelude.{All, List}
use Rattle.std.proofs.lemmas.Bool.Decides.{nat_tests}
use Rattle.plan_base.specs.declared.number.Sec.{Sec}
use Rattle.plan_base.specs.declared.span.Span.{Span}
use Rattle.interval_set.specs.Steps.{BeginBy, Adds}
use Rattle.interval_set.proofs.Seconds.{IsAt, at_is, le_if_true, gt_if_not_le, lt_if_not_ge}
use Rattle.interval_set.proofs.Additions.{all_ended, adds_pushed, adds_joined}
use Rattle.interval_set.proofs.spans.Spans.add.Goals as goal
use Rattle.interval_set.proofs.spans.Spans.add.Goals.{else-count-gt0-via-then-count-gt0+else-le, else-count-gt0-via-else-count-gt0}

-- the span touches the last, which is read for the test and again to be changed
pub returns-then-le : goal.returns-then-le
returns-then-le c =
    let spans : List Span = c.self.inside.items.items in
    let last : Span = c.index_mut-last.result.now in
    let count : c.len-count.result ≡ length spans = omega (arith, c.len-count.ensures, c.self.inside.items.ok.0) in
    let at : IsAt spans (c.len-count.result - 1) last = record { in_range = omega (arith, count); is = c.index_mut-last.ensures.value } in
    let read : last ≡ c.index.result.now = at_is spans (c.len-count.result - 1) last at c.index.result.now ∙ sym c.index.ensures in
    let touch : c.args.span.from.0 ≤ last.to.0 = let first : c.args.span.from.0 ≤ c.index.result.now.to.0 =
    le_if_true _ _ _ c.le.ensures c.if-le.true in omega (arith, ap (λ (s : Span). s.to.0) read, first) in
    let to : c.max-last.result.0 ≡ max last.to.0 c.args.span.to.0 = ap (λ (s : Sec). s.0) c.max-last.ensures ∙ grind (arith, nat_tests) in
    let begin : BeginBy spans c.args.span.from.0 = rw c.self.view_is c.requires in
    rw (← c.self.view_is) (adds_joined spans (c.len-count.result - 1) c.args.span last _ c.self.invariant at (omega (arith, count)) begin touch refl to)

-- the pushed span begins after all others have ended
pushed : (c : goal.In_ok-push) → Adds c.self.inside.items.items c.args.span (c.self.inside.items.items ++ c.args.span ∷ [])
pushed c =
    let spans : List Span = c.self.inside.items.items in
    let count : c.len-count.result ≡ length spans = omega (arith, c.len-count.ensures, c.self.inside.items.ok.0) in
    let ended : All (λ (s : Span). s.to.0 < c.args.span.from.0) spans = elim c.else-count-gt0.branch [
      | else-count-gt0-via-then-count-gt0+else-le w ↦
          all_ended spans (c.len-count.result - 1) _ w.index.result.now c.self.invariant
          (record { in_range = omega (arith, count, w.if-count-gt0.true); is = w.index.ensures })
          (omega (arith, count, w.if-count-gt0.true)) (gt_if_not_le _ _ _ w.le.ensures w.if-le.false)
      | else-count-gt0-via-else-count-gt0 w ↦ λ k d lt. absurd (omega (arith, count, w.if-count-gt0.false))
    ] in
    adds_pushed spans c.args.span c.self.invariant ended (rw c.self.view_is c.requires) (lt_if_not_ge _ _ _ c.ge.ensures c.if-ge.false)

pub invariant_of-self-2 : goal.invariant_of-self-2
invariant_of-self-2 c = rw c.in_ok-push.ensures.items (pushed c).sorted

pub returns : goal.returns
returns c = rw (c.in_ok-push.ensures.items, ← c.self.view_is) (pushed c)
