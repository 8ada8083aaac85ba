-- What a clause reads of the adapters over std.
use Rattle.std.specs.Prelude.{ℕ}
use Rattle.plan_io.specs.declared.adapters.StdSource.{StdSource}
use Rattle.plan_io.specs.declared.adapters.StdSink.{StdSink}
use Rattle.plan_io.specs.declared.source.ReadAnswer.{ReadAnswer}
use Rattle.plan_io.specs.declared.source.ReadAnswer.TheVariants as read
use Rattle.plan_io.specs.declared.sink.WriteAnswer.{WriteAnswer}
use Rattle.plan_io.specs.declared.sink.WriteAnswer.TheVariants as write
use Rattle.plan_io.specs.Calls.{next_count}

-- the reader of a source
abbrev pub reader_of : {I : Type 0} → StdSource I → I
reader_of source = source.reader

-- how often it gave an error
abbrev pub read_errors : {I : Type 0} → StdSource I → ℕ
read_errors source = source.faults

-- the writer of a sink
abbrev pub writer_of : {O : Type 0} → StdSink O → O
writer_of sink = sink.writer

-- how often it gave an error, or took nothing of some bytes
abbrev pub write_errors : {O : Type 0} → StdSink O → ℕ
write_errors sink = sink.faults

-- the count after a read: one more exactly where it failed, so that a call that was interrupted counts for nothing
abbrev pub errors_after_read : ℕ → ReadAnswer → ℕ
errors_after_read before (read.Got n) = before
errors_after_read before read.Failed = next_count before

-- the count after a write: one more exactly where it failed
abbrev pub errors_after_write : ℕ → WriteAnswer → ℕ
errors_after_write before (write.Took n) = before
errors_after_write before write.Failed = next_count before
