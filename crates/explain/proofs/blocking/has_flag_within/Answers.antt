use Rattle.std.proofs.Common.{◌≤◌, sym, ◌∙◌, subst}
use Rattle.std.proofs.lemmas.Bool.{false≢true}
use Rattle.explain.proofs.Blocks.{none_more, none_first, none_past}
use Rattle.explain.proofs.blocking.has_flag_within.Goals as goal

pub loop-place-init : goal.loop-place-init
loop-place-init c = none_first c.args.flags.now c.args.from

pub loop-place-preserved : goal.loop-place-preserved
loop-place-preserved c = none_more c.args.flags.now c.args.from c.loop-place.place c.loop-place.invariant
    (λ is_set. false≢true (sym c.if-flags-place.false ∙ is_set))

pub returns : goal.returns
returns c = (
  λ yes. absurd (false≢true yes),
  λ has. absurd (none_past c.args.flags.now c.args.from c.args.to c.loop-place.place
      (subst (λ n. n ≤ c.loop-place.place) c.min-place-end.ensures c.loop-place-test.false) c.loop-place.invariant has),
)
