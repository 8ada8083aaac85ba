use Rattle.std.proofs.Common.{ℕ, ◌<◌}
use Rattle.plan_base.specs.Tables.{row}
use Rattle.rapid.specs.Tables.{IsEnoughAt}
use Rattle.rapid.proofs.raising.raises.Given as goal

abbrev pub invariant-loop-index : goal.invariant-loop-index
invariant-loop-index l = (i : ℕ) → i < l.index → IsEnoughAt l.openings.offer l.snapshot.first.0 (row l.openings.rows.items l.telescope.0) l.table i
