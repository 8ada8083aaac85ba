use Rattle.std.proofs.Common.{◌≤◌, length, All, sym, ◌∙◌, ap, subst, arith}
use Rattle.std.proofs.lemmas.List.Elements.{All-push}
use Rattle.plan_base.specs.declared.fault.Counted.TheVariants.{Telescopes}
use Rattle.plan_base.specs.declared.number.TelescopeNo.{TelescopeNo}
use Rattle.snapshot_starts.specs.Mending.{IsSteadyTelescope}
use Rattle.snapshot_starts.proofs.steady.steady_telescopes.Goals as goal
use Rattle.snapshot_starts.proofs.steady.steady_telescopes.Goals.{then-branch+in_ok-push, else-branch}

pub overflow_cast-telescope : goal.overflow_cast-telescope
overflow_cast-telescope c =
    let few : length c.args.parts.now.telescopes ≤ 32 = c.requires.orderly.within Telescopes 0 0 (omega arith) in
    grind (arith, few, c.loop-number-test.true, c.len-number-end.ensures)

pub loop-number-preserved : goal.loop-number-preserved
loop-number-preserved c =
    let was = c.args.was.now in
    let s = c.args.parts.now in
    let telescope : TelescopeNo = record { 0 = c.loop-number.number } in
    elim c.if-branch.branch [
      | then-branch+in_ok-push b ↦
          subst (All (λ t. IsSteadyTelescope was s t.0)) (sym b.in_ok-push.ensures.items ∙ sym (ap (λ v. v.items) b.steady-is))
          (All-push (λ t. IsSteadyTelescope was s t.0) c.loop-number.steady.items telescope c.loop-number.invariant
          (c.in_ok-is_open_alike.ensures b.if-branch.true))
      | else-branch b ↦ subst (All (λ t. IsSteadyTelescope was s t.0)) (sym (ap (λ v. v.items) b.steady-is)) c.loop-number.invariant
    ]
