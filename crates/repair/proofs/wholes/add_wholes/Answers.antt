use Rattle.std.proofs.Common.{sym, ◌∙◌, subst, arith}
use Rattle.plan_base.specs.declared.parts.Parts.{Parts}
use Rattle.plan_base.specs.Feasible.{IsFeasible}
use Rattle.repair.specs.Firsts.{AreFirsts}
use Rattle.repair.specs.Repairs.{AddsWhole}
use Rattle.repair.proofs.Adding.{wholes_more, wholes_all}
use Rattle.repair.proofs.wholes.add_wholes.Goals as goal

pub loop-group-preserved : goal.loop-group-preserved
loop-group-preserved c =
    let s = c.args.draft.now.snapshot in
    let count = c.requires.trials.groups.count in
    record {
      same = c.add_whole.ensures.same ∙ c.loop-group.invariant.same;
      feasible = subst (λ (p : Parts). IsFeasible p c.add_whole.new.draft.placed) c.loop-group.invariant.same c.add_whole.ensures.feasible;
      adds = λ starts are. wholes_more s starts c.args.draft.now.placed c.loop-group.draft.placed c.add_whole.new.draft.placed c.loop-group.group (omega arith)
          (subst (λ (p : Parts). AddsWhole p starts c.loop-group.draft.placed c.loop-group.group c.add_whole.new.draft.placed) c.loop-group.invariant.same
          (c.add_whole.ensures.adds starts (subst (λ (p : Parts). AreFirsts p starts c.args.firsts.now) (sym c.loop-group.invariant.same) are)))
          (c.loop-group.invariant.adds starts are);
    }

pub returns-clause-adds : goal.returns-clause-adds
returns-clause-adds c = λ starts are. let count = c.requires.trials.groups.count in
    wholes_all c.args.draft.now.snapshot starts c.args.draft.now.placed c.loop-group.draft.placed c.loop-group.group (omega arith)
    (c.loop-group.invariant.adds starts are)
