use Rattle.std.proofs.Common.{All, Contains, List, sym, ◌∙◌, ap, subst}
use Rattle.std.proofs.lemmas.List.Elements.{All-push}
use Rattle.plan_base.specs.declared.parts.Sky.{Sky}
use Rattle.snapshot_starts.specs.Mending.{IsSteadySky, sky_key}
use Rattle.snapshot_starts.proofs.Mending.{steady_sky}
use Rattle.snapshot_starts.proofs.steady.steady_skies.Goals as goal
use Rattle.snapshot_starts.proofs.steady.steady_skies.Goals.{then-branch+in_ok-push, else-branch}

pub loop-sky-preserved : goal.loop-sky-preserved
loop-sky-preserved c =
    let was = c.args.was.now in
    let s = c.args.parts.now in
    let sky : Sky = c.sky-item.result in
    let here : Contains s.skies sky =
    subst (λ (skies : List Sky). Contains skies sky) c.as_slice-sky-items.ensures (c.loop-sky.sky-index, c.loop-sky-test.true, sym c.sky-item.is) in
    elim c.if-branch.branch [
      | then-branch+in_ok-push b ↦
          subst (All (IsSteadySky was s)) (sym b.in_ok-push.ensures.items ∙ sym (ap (λ v. v.items) b.steady-is))
          (All-push (IsSteadySky was s) c.loop-sky.steady.items (sky_key sky.target sky.site) c.loop-sky.invariant
          (steady_sky was s sky c.args.times c.requires.orderly c.requires.times here (c.in_ok-is_seen_alike.ensures b.if-branch.true)))
      | else-branch b ↦ subst (All (IsSteadySky was s)) (sym (ap (λ v. v.items) b.steady-is)) c.loop-sky.invariant
    ]
