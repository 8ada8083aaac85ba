use Rattle.std.proofs.Common.{sym, subst}
use Rattle.plan_base.specs.declared.parts.Parts.{Parts}
use Rattle.plan_base.specs.Feasible.{IsDisjoint}
use Rattle.plan_tests.proofs.repair_tests.repairs.assert_run.Goals as goal

pub run-value-requires-clause-disjoint : goal.run-value-requires-clause-disjoint
run-value-requires-clause-disjoint g c = subst (λ (p : Parts). IsDisjoint p c.as_slice-chosen.result.now) (sym c.requires)
    (c.are_apart.ensures c.if-not-are_apart.false)
