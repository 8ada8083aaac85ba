use Rattle.rapid.specs.Tables.{AreTablesTo}
use Rattle.rapid.proofs.tables.tables_of.Given as goal

abbrev pub invariant-loop-telescope : goal.invariant-loop-telescope
invariant-loop-telescope l = AreTablesTo l.snapshot l.prices.0 l.telescope l.tables.items
