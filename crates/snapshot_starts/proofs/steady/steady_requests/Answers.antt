use Rattle.std.proofs.Common.{◌<◌, length, All, sym, ◌∙◌, ap, subst, arith}
use Rattle.std.proofs.lemmas.List.Elements.{All-push}
use Rattle.plan_base.specs.Requests.{listed}
use Rattle.snapshot_starts.specs.Mending.{IsSteadyRequest}
use Rattle.snapshot_starts.proofs.Mending.{steady_request}
use Rattle.snapshot_starts.proofs.steady.steady_requests.Goals as goal
use Rattle.snapshot_starts.proofs.steady.steady_requests.Goals.{then-is_asked_alike+in_ok-push, else-is_asked_alike}

pub loop-place-preserved : goal.loop-place-preserved
loop-place-preserved c =
    let was = c.args.was.now in
    let s = c.args.snapshot.now in
    let within : c.loop-place.place < length (listed s) = omega (arith, c.loop-place-test.true, c.request_count-place-end.ensures.value) in
    elim c.if-is_asked_alike.branch [
      | then-is_asked_alike+in_ok-push b ↦
          subst (All (λ r. IsSteadyRequest was s r.0)) (sym b.in_ok-push.ensures.items ∙ sym (ap (λ v. v.items) b.steady-is))
          (All-push (λ r. IsSteadyRequest was s r.0) c.loop-place.steady.items c.request_at-request.result.now.request c.loop-place.invariant
          (steady_request was s c.loop-place.place c.request_at-request.result.now c.requires.orderly c.requires.len within
          c.request_at-request.ensures (c.is_asked_alike.ensures b.if-is_asked_alike.true)))
      | else-is_asked_alike b ↦ subst (All (λ r. IsSteadyRequest was s r.0)) (sym (ap (λ v. v.items) b.steady-is)) c.loop-place.invariant
    ]
