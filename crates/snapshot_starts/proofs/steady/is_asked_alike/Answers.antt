use Rattle.std.proofs.Common.{sym, ◌∙◌, arith}
use Rattle.std.proofs.lemmas.Bool.{false≢true}
use Rattle.std.proofs.lemmas.Slice.Eq.{slice_eq-Decides}
use Rattle.plan_base.proofs.Equality.{spans_decide, targets_decide, telescopes_decide}
use Rattle.snapshot_starts.proofs.Mending.{asked_alike}
use Rattle.snapshot_starts.proofs.steady.is_asked_alike.Goals as goal
use Rattle.snapshot_starts.proofs.steady.is_asked_alike.Goals.{then-eq, else-eq}

pub returns-then-eq-2 : goal.returns-then-eq-2
returns-then-eq-2 c =
    λ yes. elim c.if-eq.branch [
      | then-eq w ↦
          asked_alike c.args.was.now c.in-Some.place c.request_at-earlier.result.now c.args.request.now c.in-Some.ensures.0 c.in-Some.ensures.1
          c.request_at-earlier.ensures
          (omega (arith, c.if-earlier-request.false))
          ((slice_eq-Decides spans_decide _ _ _ c.eq.ensures).0 w.if-eq.true)
          ((slice_eq-Decides telescopes_decide _ _ _ w.eq-then-eq.ensures).0 (sym w.value-is ∙ c.if-eq-2.true))
          ((slice_eq-Decides targets_decide _ _ _ c.eq-then-eq-2.ensures).0 yes)
      | else-eq w ↦ absurd (false≢true (sym w.if-eq.false ∙ sym w.value-is ∙ c.if-eq-2.true))
    ]
