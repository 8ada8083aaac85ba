use Rattle.rapid.specs.Tables.{AreTablesTo}
use Rattle.rapid.proofs.tables.mended_tables.Given as goal

abbrev pub invariant-loop-telescope : goal.invariant-loop-telescope
invariant-loop-telescope l = AreTablesTo l.extension.snapshot.now l.prices.0 l.telescope l.tables.items
