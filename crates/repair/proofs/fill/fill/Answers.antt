use Rattle.std.proofs.Common.{◌∙◌, subst}
use Rattle.plan_base.specs.declared.parts.Parts.{Parts}
use Rattle.plan_base.specs.Fill.{IsPass}
use Rattle.repair.proofs.Visiting.{filled_more, filled_still}
use Rattle.repair.proofs.fill.fill.Goals as goal

pub loop-preserved : goal.loop-preserved
loop-preserved c = record {
  same = c.pass.ensures.same ∙ c.loop.invariant.same;
  fills = λ after filled. c.loop.invariant.fills after
      (filled_more c.args.draft.now.snapshot c.loop.draft.placed c.pass.new.draft.placed after
      (subst (λ (p : Parts). IsPass p c.loop.draft.placed c.pass.new.draft.placed) c.loop.invariant.same c.pass.ensures.pass)
      (rw c.loop-test.true at c.pass.ensures.added) filled);
}

pub returns-clause-filled : goal.returns-clause-filled
returns-clause-filled c = c.loop.invariant.fills c.pass.new.draft.placed
    (filled_still c.args.draft.now.snapshot c.loop.draft.placed c.pass.new.draft.placed
    (subst (λ (p : Parts). IsPass p c.loop.draft.placed c.pass.new.draft.placed) c.loop.invariant.same c.pass.ensures.pass)
    (rw c.loop-test.false at c.pass.ensures.added))
