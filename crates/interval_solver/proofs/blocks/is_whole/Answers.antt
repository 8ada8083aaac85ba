use Rattle.std.proofs.Common.{List, Contains, subst, arith}
use Rattle.interval_solver.specs.declared.start.Start.{Start}
use Rattle.interval_solver.specs.Blocks.{later}
use Rattle.interval_solver.proofs.Covering.{whole_in}
use Rattle.interval_solver.proofs.blocks.is_whole.Goals as goal

pub returns : goal.returns
returns c = λ h.
    whole_in c.args.rows.now c.args.block c.args.start (omega arith) c.requires.start
    (subst (λ (xs : List Start). Contains xs (later 1 c.args.start)) c.row.ensures (c.has_later.ensures c.if-not-has_later.false))
    (subst (λ (xs : List Start). Contains xs (later 2 c.args.start)) c.row-2.ensures (c.has_later-2.ensures c.if-not-has_later-2.false))
    (subst (λ (xs : List Start). Contains xs (later 3 c.args.start)) c.row-3.ensures (c.has_later-3.ensures h))
