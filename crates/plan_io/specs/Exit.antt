-- How a program's run ends, as its exit status.
use Rattle.std.specs.Prelude.{ℕ}
use Rattle.plan_io.specs.declared.status.Status.{Status}
use Rattle.plan_io.specs.declared.status.Status.TheVariants.{Done, Words, ReadFault, WriteFault, NoMemory, InputOver, NoDocument, No, NoCaller}

-- the number of a status, which is the exit status
abbrev pub status_number : Status → ℕ
status_number Done = 0
status_number Words = 1
status_number ReadFault = 2
status_number WriteFault = 3
status_number NoMemory = 4
status_number InputOver = 5
status_number NoDocument = 6
status_number No = 7
status_number NoCaller = 8
