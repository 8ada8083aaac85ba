-- A fault of reading or of the parts that were read, as the document's.
use Rattle.std.specs.Prelude.{Result, Ok, Err}
use Rattle.plan_base.specs.declared.fault.SnapshotFault.{SnapshotFault}
use Rattle.plan_base.specs.declared.fault.SnapshotFault.TheVariants as parts
use Rattle.plan_json.specs.declared.fault.JsonFault.{JsonFault}
use Rattle.plan_json.specs.declared.fault.JsonFault.TheVariants as json
use Rattle.plan_doc.specs.declared.fault.DocFault.{DocFault}
use Rattle.plan_doc.specs.declared.fault.DocFault.TheVariants.{Json, Snapshot, NoMemory}

-- want of memory stays what it is
abbrev pub fault_of_json : JsonFault → DocFault
fault_of_json json.NoMemory = NoMemory
fault_of_json fault = Json fault

-- the fault of the parts that were read, as the document's; want of memory stays what it is
abbrev pub fault_of_snapshot : SnapshotFault → DocFault
fault_of_snapshot parts.NoMemory = NoMemory
fault_of_snapshot fault = Snapshot fault

-- what was read, its fault being the document's
abbrev pub in_document : {T : Type 0} → Result T JsonFault → Result T DocFault
in_document (Ok x) = Ok x
in_document (Err e) = Err (fault_of_json e)
