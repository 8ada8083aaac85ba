use Rattle.std.proofs.Common.{inl, inr, sym, subst}
use Rattle.plan_base.specs.Tables.{row}
use Rattle.openings.proofs.Numbers.{below_or_at}
use Rattle.rapid.specs.Tables.{IsEnoughAt}
use Rattle.rapid.proofs.raising.raises.Goals as goal

pub loop-index-preserved : goal.loop-index-preserved
loop-index-preserved c = λ i l. elim (below_or_at i c.loop-index.index l) [
  | inl below ↦ c.loop-index.invariant i below
  | inr at ↦ subst (IsEnoughAt c.args.openings.now.offer c.args.snapshot.now.first.0
      (row c.args.openings.now.rows.items c.args.telescope.0) c.args.table.now) (sym at) (c.raises_at.ensures c.if-raises_at.false)
]
