use Rattle.std.proofs.Common.{◌≡◌, ◌+◌, ◌<◌, ◌++◌, ◌∷◌, [], true, false, nat_eq, sym, ap, subst, ◌∙◌, arith}
use Rattle.plan_base.specs.Limits.{most_telescopes}
use Rattle.site_model.proofs.AtSites.{AtSoFar, one_more, none_more, at_site}
use Rattle.site_model.proofs.telescope.numbers_at.Goals.{then-eq+in_ok-push, else-eq}
use Rattle.site_model.proofs.telescope.numbers_at.Goals as goal

pub loop-place-preserved : goal.loop-place-preserved
loop-place-preserved c =
    let es = c.args.telescopes.now.entries in
    let few : c.loop-place.place < most_telescopes = omega (arith, c.loop-place-test.true, c.len-place-end.ensures.len, c.requires) in
    elim c.if-eq.branch [
      | then-eq+in_ok-push w ↦
          let same : nat_eq c.index.result.now.site.0 c.args.site.0 ≡ true = sym c.eq.ensures ∙ w.if-eq.true in
          let pushed : c.if-eq.numbers.items ≡ c.loop-place.numbers.items ++ record { 0 = c.loop-place.place } ∷ [] = ap (λ v. v.items) w.numbers-is
          ∙ w.in_ok-push.ensures.items in
          subst (AtSoFar es c.args.site (c.loop-place.place + 1)) (sym pushed)
          (one_more es c.args.site c.loop-place.place c.loop-place.numbers.items c.index.result.now c.loop-place.invariant
          few c.index.ensures same)
      | else-eq w ↦
          let other : nat_eq c.index.result.now.site.0 c.args.site.0 ≡ false = sym c.eq.ensures ∙ w.if-eq.false in
          let kept : c.if-eq.numbers.items ≡ c.loop-place.numbers.items = ap (λ v. v.items) w.numbers-is in
          subst (AtSoFar es c.args.site (c.loop-place.place + 1)) (sym kept)
          (none_more es c.args.site c.loop-place.place c.loop-place.numbers.items c.index.result.now c.loop-place.invariant c.index.ensures other)
    ]

pub returns-clause-numbers : goal.returns-clause-numbers
returns-clause-numbers c = at_site c.args.telescopes.now.entries c.args.site c.loop-place.place c.loop-place.numbers.items c.loop-place.invariant
    (omega (arith, c.loop-place-test.false, c.len-place-end.ensures.len))
