-- A fault of a snapshot's parts as the group's.
use Rattle.plan_base.specs.declared.fault.SnapshotFault.{SnapshotFault}
use Rattle.plan_base.specs.declared.fault.SnapshotFault.TheVariants as parts
use Rattle.rapid.specs.declared.fault.RapidFault.{RapidFault}
use Rattle.rapid.specs.declared.fault.RapidFault.TheVariants.{Snapshot, NoMemory}

-- want of memory stays what it is
abbrev pub fault_of_snapshot : SnapshotFault → RapidFault
fault_of_snapshot parts.NoMemory = NoMemory
fault_of_snapshot fault = Snapshot fault
